-- The rounds so far had these results. The next one continues the list, or ends it if it did not begin.
use Rattle.std.proofs.Common.{rules, ◌≡◌, ◌+◌, ◌≤◌, List, [], ◌∷◌, ◌++◌, length, refl, sym, ap, subst, ◌∙◌, append_assoc, append-nil, length-append, arith}
use Rattle.std.specs.Prelude.{is_ok, if◌then◌else◌}
use Rattle.std.specs.Vec.{vec_capacity}
use Rattle.std.proofs.lemmas.List.{nil_from_length}
use Rattle.std.specs.Vec.Iter.{into_iter_items}
use Rattle.recover.specs.declared.replies.Run.{Run}
use Rattle.recover.specs.declared.rounds.Round.{Round}
use Rattle.recover.specs.Rounds.{AreRounds, CutsRounds, EndsRounds}
use Rattle.recover.proofs.FoldLemmas.{is_fold}
use Rattle.recover.proofs.RoundLemmas.{rounds_more, cuts_rounds, passed_up}
use Rattle.recover.proofs.rounds.run_rounds.Goals as goal

pub returns-in_default-clause-refused : goal.returns-in_default-clause-refused
returns-in_default-clause-refused c = record { runs = []; mid = c.args.device; done = refl; unbegun = refl }

pub returns-in_err-run-clause-refused : goal.returns-in_err-run-clause-refused
returns-in_err-run-clause-refused c =
    let at = c.loop-round in
    let all = at.invariant.0 ∙ c.into_iter-round-iterator.ensures.into_iter_gives.0 in
    let refused = c.in_err-run.field-0.0 in
    passed_up c.from_residual.result refused c.from_residual.ensures.1 (λ e. CutsRounds c.args.device c.args.rounds.items e.0 e.1)
    (cuts_rounds c.args.rounds.items at.yielded (into_iter_items at.round-iterator) at.runs.items c.args.device at.left refused.1 refused.0 all at.invariant.1 c.in_err-run.ensures.refused)

pub loop-round-preserved : goal.loop-round-preserved
loop-round-preserved c =
    let at = c.loop-round in
    let round = c.in-Some.round in
    let run = c.in_ok-run.run' in
    let steps : into_iter_items at.round-iterator ≡ round ∷ into_iter_items c.next.new.self = c.in-Some.ensures.steps.0 in
    let now : c.push.new.self.items ≡ at.runs.items ++ run ∷ [] = c.push.ensures.items ∙ ap (λ r. if is_ok r then at.runs.items ++ run ∷ [] else at.runs.items) c.unwrap.ensures in
    let room : vec_capacity at.runs ≤ vec_capacity c.push.new.self = search rules in
    let longer : length c.push.new.self.items ≡ length at.runs.items + 1 = ap length now ∙ length-append at.runs.items (run ∷ []) in (
      append_assoc at.yielded (round ∷ []) _ ∙ rw (← steps) at.invariant.0,
      subst (λ (runs : List Run). AreRounds c.args.device (at.yielded ++ round ∷ []) runs c.in_ok-run.next) (sym now)
          (rounds_more at.yielded at.runs.items c.args.device at.left c.in_ok-run.next round run at.invariant.1 c.in_ok-run.ensures.round),
      let was = at.invariant.2 in
          let gone = c.in-Some.ensures.steps.1 in
          let short = ap length steps in
          omega arith,
      let fits = at.invariant.3 in
          let short = ap length steps in
          omega (arith, fits, short, longer, room),
    )

pub returns-in_err-session-clause-refused : goal.returns-in_err-session-clause-refused
returns-in_err-session-clause-refused c =
    let at = c.loop-round in
    let all = at.invariant.0 ∙ c.into_iter-round-iterator.ensures.into_iter_gives.0 in
    let refused = c.in_err-session.field-0.0 in
    passed_up c.from_residual-in_err-session.result refused c.from_residual-in_err-session.ensures.1 (λ e. CutsRounds c.args.device c.args.rounds.items e.0 e.1)
    (cuts_rounds c.args.rounds.items at.yielded (into_iter_items at.round-iterator) at.runs.items c.args.device at.left refused.1 refused.0 all at.invariant.1 c.in_err-session.ensures.refused)

ends : (c : goal.In_ok-session) → EndsRounds c.args.device c.args.rounds.items c.loop-round.runs.items c.in_ok-session.session
ends c =
    let at = c.loop-round in
    let none = c.in-None.ensures.steps in
    let empty : into_iter_items at.round-iterator ≡ [] = nil_from_length _ (sym at.invariant.2 ∙ none.0) in
    let all = sym (append-nil at.yielded) ∙ rw empty at at.invariant.0 ∙ c.into_iter-round-iterator.ensures.into_iter_gives.0 in record {
      left = at.left;
      done = subst (λ (rounds : List Round). AreRounds c.args.device rounds at.runs.items at.left) all at.invariant.1;
      opened = c.in_ok-session.ensures.opened;
    }

pub returns-clause-rounds : goal.returns-clause-rounds
returns-clause-rounds c = ends c

pub returns-clause-fold : goal.returns-clause-fold
returns-clause-fold c =
    is_fold c.commands_keep_invariants.ensures.many c.plans_never_cost_more.ensures c.searches_add_up.ensures.many c.annealings_add_up.ensures.many
    c.passes_decides_the_verdict.ensures c.args.device c.args.rounds.items c.loop-round.runs.items c.in_ok-session.session (ends c)
