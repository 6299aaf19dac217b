-- The restarts so far had these results. The next one continues the list, or ends it if it did not begin.
use Rattle.std.proofs.Common.{rules, ◌≡◌, ◌+◌, ◌≤◌, List, [], ◌∷◌, ◌++◌, length, refl, sym, ap, subst, ◌∙◌, append_assoc, append-nil, length-append, arith}
use Rattle.std.specs.Prelude.{Result, is_ok, if◌then◌else◌}
use Rattle.std.specs.Vec.{vec_capacity}
use Rattle.std.proofs.lemmas.List.{nil_from_length}
use Rattle.std.specs.Vec.Iter.{into_iter_items}
use Rattle.checkpoint.specs.declared.faults.StoreFault.{StoreFault}
use Rattle.recover.specs.declared.replies.Run.{Run}
use Rattle.recover.specs.declared.rounds.RoundsFault.TheVariants as rounds
use Rattle.recover.specs.declared.restarts.Restart.{Restart}
use Rattle.recover.specs.Restarts.{AreRestarts, CutsRestarts, EndsRestarts}
use Rattle.recover.proofs.RestartLemmas.{are_joined, cuts_restarts, no_opening, restarts_more, unbegun_of}
use Rattle.recover.proofs.RoundLemmas.{passed_up}
use Rattle.recover.proofs.restarts.run_restarts.Goals as goal

pub returns-in_default-clause-refused : goal.returns-in_default-clause-refused
returns-in_default-clause-refused c = record { runs = []; mid = c.args.device; done = refl; unbegun = refl; last = no_opening c.args.device c.args.device rounds.OutOfMemory _ refl }

pub returns-in_err-run-clause-refused : goal.returns-in_err-run-clause-refused
returns-in_err-run-clause-refused c =
    let at = c.loop-restart in
    let all = at.invariant.0 ∙ c.into_iter-restart-iterator.ensures.into_iter_gives.0 in
    let refused = c.in_err-run.field-0.0 in
    let more = into_iter_items at.restart-iterator in
    let unbegun = c.in_err-run.ensures.refused in
    passed_up c.from_residual.result refused c.from_residual.ensures.1 (λ e. CutsRestarts c.args.device c.args.restarts.items e.0 e.1)
    (cuts_restarts c.args.restarts.items at.yielded more at.runs.items c.args.device at.left refused.1 refused.0 all at.invariant.1
    (unbegun_of at.left refused.1 refused.0 unbegun) (λ cause is. no_opening at.left refused.1 refused.0 (more ≡ []) unbegun cause is))

pub loop-restart-preserved : goal.loop-restart-preserved
loop-restart-preserved c =
    let at = c.loop-restart in
    let restart = c.in-Some.restart in
    let run = c.in_ok-run.run' in
    let steps : into_iter_items at.restart-iterator ≡ restart ∷ into_iter_items c.next.new.self = c.in-Some.ensures.steps.0 in
    let now : c.push.new.self.items ≡ at.runs.items ++ run ∷ [] = c.push.ensures.items ∙ ap (λ r. if is_ok r then at.runs.items ++ run ∷ [] else at.runs.items) c.unwrap.ensures in
    let room : vec_capacity at.runs ≤ vec_capacity c.push.new.self = search rules in
    let longer : length c.push.new.self.items ≡ length at.runs.items + 1 = ap length now ∙ length-append at.runs.items (run ∷ []) in (
      append_assoc at.yielded (restart ∷ []) _ ∙ rw (← steps) at.invariant.0,
      subst (λ (runs : List (Result Run StoreFault)). AreRestarts c.args.device (at.yielded ++ restart ∷ []) runs c.in_ok-run.next) (sym now)
          (restarts_more at.yielded at.runs.items c.args.device at.left c.in_ok-run.next restart run at.invariant.1 c.in_ok-run.ensures.restart),
      let was = at.invariant.2 in
          let gone = c.in-Some.ensures.steps.1 in
          let short = ap length steps in
          omega arith,
      let fits = at.invariant.3 in
          let short = ap length steps in
          omega (arith, fits, short, longer, room),
    )

pub returns-in_err-session-clause-refused : goal.returns-in_err-session-clause-refused
returns-in_err-session-clause-refused c =
    let at = c.loop-restart in
    let all = at.invariant.0 ∙ c.into_iter-restart-iterator.ensures.into_iter_gives.0 in
    let refused = c.in_err-session.field-0.0 in
    let none = c.in-None.ensures.steps in
    let empty : into_iter_items at.restart-iterator ≡ [] = nil_from_length _ (sym at.invariant.2 ∙ none.0) in
    passed_up c.from_residual-in_err-session.result refused c.from_residual-in_err-session.ensures.1 (λ e. CutsRestarts c.args.device c.args.restarts.items e.0 e.1)
    (cuts_restarts c.args.restarts.items at.yielded (into_iter_items at.restart-iterator) at.runs.items c.args.device at.left refused.1 refused.0 all at.invariant.1
    c.in_err-session.ensures.refused (λ cause is. empty))

ends : (c : goal.In_ok-session) → EndsRestarts c.args.device c.args.restarts.items c.loop-restart.runs.items c.in_ok-session.session
ends c =
    let at = c.loop-restart in
    let none = c.in-None.ensures.steps in
    let empty : into_iter_items at.restart-iterator ≡ [] = nil_from_length _ (sym at.invariant.2 ∙ none.0) in
    let all = sym (append-nil at.yielded) ∙ rw empty at at.invariant.0 ∙ c.into_iter-restart-iterator.ensures.into_iter_gives.0 in record {
      left = at.left;
      done = subst (λ (restarts : List Restart). AreRestarts c.args.device restarts at.runs.items at.left) all at.invariant.1;
      opened = c.in_ok-session.ensures.opened;
    }

pub returns-clause-restarts : goal.returns-clause-restarts
returns-clause-restarts c = ends c

pub returns-clause-joined : goal.returns-clause-joined
returns-clause-joined c =
    are_joined c.commands_keep_invariants.ensures.many c.plans_never_cost_more.ensures c.passes_decides_the_verdict.ensures c.restarts_compose.ensures c.args.device
    c.args.restarts.items c.loop-restart.runs.items c.in_ok-session.session (ends c)
