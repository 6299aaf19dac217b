-- The remaining stops have their partners in the route exactly when all have. So the first without its partner
-- decides, and at the end all have them.
use Rattle.std.proofs.Common.{◌≡◌, true, drop}
use Rattle.std.specs.List.{list_all}
use Rattle.std.specs.Option.{option_map_or}
use Rattle.plan_types.specs.Instance.{partner_at}
use Rattle.plan_audit.specs.Passes.{has, has_whole_pairs}
use Rattle.move_ops.proofs.pairing.has_whole_pairs.Given as goal

abbrev pub invariant-loop-stop : goal.invariant-loop-stop
invariant-loop-stop l =
    list_all (λ n. option_map_or (has l.route) (partner_at l.problem n) true) (drop l.stop-index l.route)
    ≡ has_whole_pairs l.problem l.route
