-- A request that a valid problem has under a name has this name.
use Rattle.std.proofs.Common.{rules, ◌≡◌, Some, nat_eq, subst}
use Rattle.std.specs.Map.{lookup}
use Rattle.plan_types.specs.Instance.{IsInstance}
use Rattle.move_ops.proofs.ChoiceLemmas.{name_of}
use Rattle.move_ops.proofs.tables.current_request.Goals as goal

pub returns-clause-name : goal.returns-clause-name
returns-clause-name c =
    let p = c.args.problem.now in
    let valid : IsInstance p = subst (λ q. IsInstance q) c.problem.view_is c.problem.invariant.valid in
    let named : lookup (nat_eq c.args.name) p.requests ≡ Some c.unwrap.result.now = search rules in
    name_of p.requests c.args.name c.unwrap.result.now (valid.named) named
