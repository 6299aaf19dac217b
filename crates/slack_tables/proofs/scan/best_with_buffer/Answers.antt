-- The bound is the value of its 64 bits, so the best from the first place on is the best below the bound.
use Rattle.std.proofs.Common.{◌-◌, w64, subst}
use mir.Val.{SFits}
use Rattle.std.proofs.lemmas.Int.{to_z-of_z}
use Rattle.slack_tables.specs.Best.{IsFirstOf}
use Rattle.slack_tables.specs.Scan.{AddsPair}
use Rattle.slack_tables.proofs.scan.best_with_buffer.Goals as goal

pub returns : goal.returns
returns c = λ d.
    (let below : SFits w64 c.args.below = record { sfits = c.ranges.below.sfits } in
    subst (λ x. IsFirstOf
    (AddsPair c.args.trip.now.limits c.args.places.now c.args.trip.now.pickup c.args.trip.now.delivery
    (c.args.first - 1) x d) c.best_from.result)
    (to_z-of_z w64 c.args.below below) (c.best_from.ensures d))
