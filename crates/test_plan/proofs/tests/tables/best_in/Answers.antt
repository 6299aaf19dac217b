-- A request that is found by its name can be inserted.
use Rattle.std.proofs.Common.{◌≡◌, ◌∙◌, Some, sym, ap, subst}
use Rattle.plan_types.specs.Instance.{IsInstance}
use Rattle.slack_tables.specs.Insertion.{request_named}
use Rattle.slack_tables.proofs.InsertLemmas.{request-valid}
use Rattle.test_plan.proofs.tests.tables.best_in.Goals as goal

pub best_places-requires-clause-request : goal.best_places-requires-clause-request
best_places-requires-clause-request c =
    let valid : IsInstance c.args.problem.now = subst (λ q. IsInstance q) c.problem.view_is c.problem.invariant.valid in
    let found : request_named c.args.problem.now c.args.name ≡ Some c.in_ok-request.request.now = ap (λ q. request_named q c.args.name) (sym c.problem.view_is) ∙ sym c.in_ok-request.ensures.value in
    request-valid c.args.problem.now c.args.name _ valid found
