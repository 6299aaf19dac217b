-- The request at an index is reported exactly if it is not planned. Its numbers are below `next_number`, so
-- their first positions are in the table.
use Rattle.std.proofs.Common.{◌≡◌, Some, None, cond, sym, ap, subst, ◌∙◌, slice_get}
use Rattle.plan_types.specs.Instance.{Instance, IsInstance}
use Rattle.plan_audit.proofs.PairLemmas.{unserved_is}
use Rattle.plan_audit.proofs.scan.Scan.unserved_at.Goals as goal
use Rattle.plan_audit.proofs.scan.Scan.unserved_at.Goals.{After-is_planned}

valid : (c : After-is_planned) → IsInstance c.args.self.now.problem.now
valid c = subst (λ (p : Instance). IsInstance p) c.problem.view_is c.problem.invariant.valid

here : (c : After-is_planned) → slice_get c.args.self.now.problem.now.requests c.args.index ≡ Some (c.in_ok-name.name.now, c.in_ok-name.request.now)
here c =
    subst (λ (p : Instance). slice_get p.requests c.args.index ≡ Some (c.in_ok-name.name.now, c.in_ok-name.request.now)) c.problem.view_is
    (sym c.in_ok-name.ensures.entry)

pub returns-then-is_planned : goal.returns-then-is_planned
returns-then-is_planned c =
    let d = (goal.at.returns-then-is_planned c).After-is_planned in
    ap (λ b. cond b None (Some c.in_ok-name.name.now)) (sym c.if-is_planned.true)
    ∙ unserved_is c.numbers_are_below_next_number.ensures.requests c.args.self.now.problem.now c.args.self.now.routes.now c.args.index c.in_ok-name.name.now
    c.in_ok-name.request.now c.is_planned.result
    (valid d) (here d) c.is_planned.ensures

pub returns-else-is_planned : goal.returns-else-is_planned
returns-else-is_planned c =
    let d = (goal.at.returns-else-is_planned c).After-is_planned in
    ap (λ b. cond b None (Some c.in_ok-name.name.now)) (sym c.if-is_planned.false)
    ∙ unserved_is c.numbers_are_below_next_number.ensures.requests c.args.self.now.problem.now c.args.self.now.routes.now c.args.index c.in_ok-name.name.now
    c.in_ok-name.request.now c.is_planned.result
    (valid d) (here d) c.is_planned.ensures
