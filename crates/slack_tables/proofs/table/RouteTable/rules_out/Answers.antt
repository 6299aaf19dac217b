-- The bound is the value of its 64 bits, so a request that the lower bounds rule out fits nowhere for less than
-- the bound.
use Rattle.std.proofs.Common.{w64, subst}
use mir.Val.{SFits}
use Rattle.std.proofs.lemmas.Int.{to_z-of_z}
use Rattle.slack_tables.specs.FitsNowhere.{FitsNowhere}
use Rattle.slack_tables.proofs.table.RouteTable.rules_out.Goals as goal

pub returns : goal.returns
returns c = λ out.
    (let below : SFits w64 c.args.below = record { sfits = c.ranges.below.sfits } in
    subst (FitsNowhere c.args.self.now c.args.request.now) (to_z-of_z w64 c.args.below below) (c.rules_out_with.ensures out))
