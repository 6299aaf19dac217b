-- A current request of a valid problem keeps the rules of requests.
use Rattle.std.proofs.Common.{◌≡◌, ◌∙◌, Some, sym, ap, subst}
use Rattle.std.specs.Option.{option_copied}
use Rattle.plan_types.specs.Instance.{IsInstance}
use Rattle.slack_tables.specs.Insertion.{request_named}
use Rattle.slack_tables.proofs.InsertLemmas.{request-valid}
use Rattle.slack_tables.proofs.table.current_request.Goals as goal

pub returns-clause-request : goal.returns-clause-request
returns-clause-request c =
    let valid : IsInstance c.args.problem.now = subst (λ q. IsInstance q) c.problem.view_is c.problem.invariant.valid in
    let found : request_named c.args.problem.now c.args.name ≡ Some c.unwrap.result.now =
    ap (λ q. request_named q c.args.name) (sym c.problem.view_is)
    ∙ (sym c.get.ensures.value ∙ ap (λ o. option_copied o) c.unwrap.ensures) in
    request-valid c.args.problem.now c.args.name _ valid found
