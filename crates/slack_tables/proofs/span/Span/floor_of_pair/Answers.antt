-- The least of what a consecutive pair adds between two stops and at either end is a lower bound on all three.
use Rattle.std.proofs.Common.{w64, rules, subst, sym, arith}
use Rattle.std.proofs.lemmas.Int.{ints, clamps, to_z-of_z}
use Rattle.slack_tables.specs.Span.{IsFloorOfPair}
use Rattle.slack_tables.proofs.span.Span.floor_of_pair.Goals as goal

pub returns : goal.returns
returns c =
    subst (λ x. IsFloorOfPair c.args.self.now c.args.pickup.now c.args.delivery.now c.args.between_stops x) (sym (to_z-of_z w64 c.min.result (search rules)))
    (record { inside = omega (arith, ints, clamps); first = omega (arith, ints, clamps); last = omega (arith, ints, clamps) })
