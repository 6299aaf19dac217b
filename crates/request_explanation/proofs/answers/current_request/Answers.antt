-- A request that is found by its name may be tried alone, and in routes that have none of its stops.
use Rattle.std.proofs.Common.{rules, ◌≡◌, subst}
use Rattle.std.specs.Option.{option_copied}
use Rattle.plan_types.specs.Instance.{IsInstance}
use Rattle.move_ops.specs.Insertion.{request_named}
use Rattle.request_explanation.proofs.MayTake.{looked_up}
use Rattle.request_explanation.proofs.answers.current_request.Goals as goal

pub returns-clause-tried : goal.returns-clause-tried
returns-clause-tried c =
    let p = c.args.problem.now in
    let valid = subst (λ q. IsInstance q) c.problem.view_is c.problem.invariant.valid in
    let named : option_copied c.get.result ≡ request_named p c.args.name = search rules in
    looked_up c.requests_are_found_by_stop.ensures p valid c.args.name c.get.result named
