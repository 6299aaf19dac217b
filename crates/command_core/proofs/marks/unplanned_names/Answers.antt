-- The requests without a mark are those that no route contains
use Rattle.std.proofs.Common.{rules, subst, ◌∙◌}
use Rattle.std.proofs.lemmas.Result.{IfOk-weaker}
use Rattle.plan_types.specs.Instance.{IsInstance}
use Rattle.command_core.proofs.MarkLemmas.{AreMarks, unplanned_unmarked}
use Rattle.command_core.proofs.marks.unplanned_names.Goals as goal

pub returns : goal.returns
returns c =
    let p = c.args.problem.now in
    let valid : IsInstance p = subst (λ q. IsInstance q) c.problem.view_is c.problem.invariant.valid in
    let planned : AreMarks c.args.routes.now p.next_number c.deref.result.now = search rules in
    IfOk-weaker c.unmarked_names.result _ _ (λ names h. h
    ∙ unplanned_unmarked c.numbers_are_below_next_number.ensures.requests p valid c.args.routes.now c.deref.result.now planned) c.unmarked_names.ensures
