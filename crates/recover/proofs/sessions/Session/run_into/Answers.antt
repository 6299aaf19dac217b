-- A run and one more command are a longer run. The guarantee of a run holds at each moment.
use Rattle.std.proofs.Common.{rules, ◌≡◌, ◌+◌, ◌≤◌, List, [], ◌∷◌, ◌++◌, length, sym, ap, subst, ◌∙◌, append_assoc, append-nil, length-append, arith}
use Rattle.std.specs.Prelude.{is_ok, if◌then◌else◌}
use Rattle.std.specs.Vec.{vec_capacity}
use Rattle.std.proofs.lemmas.List.{nil_from_length}
use Rattle.std.specs.Vec.Iter.{into_iter_items}
use Rattle.command_types.specs.declared.commands.Command.{Command}
use Rattle.recover.specs.declared.replies.Reply.{Reply}
use Rattle.recover.specs.Applying.{IsRun}
use Rattle.recover.proofs.RunLemmas.{run_more, honest_back, run_leaves}
use Rattle.recover.proofs.sessions.Session.run_into.Goals as goal

pub loop-command-preserved : goal.loop-command-preserved
loop-command-preserved g c =
    let d = g.D.Sectors in
    let at = c.loop-command in
    let command = c.in-Some.command in
    let steps : into_iter_items at.command-iterator ≡ command ∷ into_iter_items c.next.new.self = c.in-Some.ensures.steps.0 in
    let now : c.push.new.self.items ≡ at.replies.items ++ c.apply.result ∷ [] = c.push.ensures.items
    ∙ ap (λ r. if is_ok r then at.replies.items ++ c.apply.result ∷ [] else at.replies.items) c.unwrap.ensures in
    let room : vec_capacity at.replies ≤ vec_capacity c.push.new.self = search rules in
    let longer : length c.push.new.self.items ≡ length at.replies.items + 1 = ap length now ∙ length-append at.replies.items (c.apply.result ∷ []) in (
      append_assoc at.yielded (command ∷ []) _ ∙ rw (← steps) at.invariant.0,
      subst (λ (replies : List Reply). IsRun d.len d.calls d.faults d.honest d.clock d.possible_since d.possible c.args.self.now (at.yielded ++ command ∷ []) replies c.apply.new.self) (sym now)
          (run_more d.len d.calls d.faults d.honest d.clock d.possible_since d.possible at.yielded at.replies.items c.args.self.now at.self c.apply.new.self
          command c.apply.result at.invariant.1 c.apply.ensures),
      let was = at.invariant.2 in
          let gone = c.in-Some.ensures.steps.1 in
          let short = ap length steps in
          omega arith,
      let fits = at.invariant.3 in
          let short = ap length steps in
          omega (arith, fits, short, longer, room),
    )

pub returns-clause-moments : goal.returns-clause-moments
returns-clause-moments g c whole honest =
    let d = g.D.Sectors in
    let at = c.loop-command in
    let none = c.in-None.ensures.steps in
    let empty : into_iter_items at.command-iterator ≡ [] = nil_from_length _ (sym at.invariant.2 ∙ none.0) in
    let all = sym (append-nil at.yielded) ∙ rw empty at at.invariant.0 ∙ c.into_iter-command-iterator.ensures.into_iter_gives.0 in
    let run = subst (λ (commands : List Command). IsRun d.len d.calls d.faults d.honest d.clock d.possible_since d.possible c.args.self.now commands at.replies.items at.self) all at.invariant.1 in
    let before = honest_back d.len d.calls d.faults d.honest d.clock d.possible_since d.possible c.args.commands.items at.replies.items c.args.self.now at.self run honest in
    run_leaves d.len d.calls d.faults d.honest d.clock d.possible_since d.possible g.met.D.Sectors.only_now c.args.commands.items at.replies.items c.args.self.now at.self run whole
    (c.images_recover_to_the_state.ensures whole before) honest
