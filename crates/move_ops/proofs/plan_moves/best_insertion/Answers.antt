-- The draft has the routes of the plan, so its best insertion of the request is the plan's best insertion of
-- the request with this name.
use Rattle.std.proofs.Common.{rules, ◌∙◌, ℕ, List, ap}
use Rattle.plan_types.specs.Request.{request_name}
use Rattle.move_ops.specs.Insertion.{best_insertion}
use Rattle.move_ops.proofs.PlacementLemmas.{named_request, named_so}
use Rattle.move_ops.proofs.plan_moves.best_insertion.Goals as goal

pub best-requires-clause-request : goal.best-requires-clause-request
best-requires-clause-request c =
    named_request c.args.problem.now c.in_ok-draft.ensures.is.valid c.args.name c.in-Some.request.now (search rules)

pub returns : goal.returns
returns c =
    let p = c.args.problem.now in
    let pins = c.args.pins.now.routes in
    let r = c.in-Some.request.now in
    c.tuple_of.ensures
    ∙ (c.best.ensures.best
    ∙ (ap (λ (l : List (List ℕ)). best_insertion p pins l (request_name r)) c.in_ok-draft.ensures.draft
    ∙ ap (best_insertion p pins c.args.plan.now.routes) (named_so p c.in_ok-draft.ensures.is.valid c.args.name r (search rules))))
