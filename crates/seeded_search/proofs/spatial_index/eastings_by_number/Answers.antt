-- One more number: its easting is appended.
use Rattle.std.proofs.Common.{◌+◌, sym, subst}
use Rattle.seeded_search.specs.SpatialIndex.{AreEastingsBelow}
use Rattle.seeded_search.proofs.SpatialIndexLemmas.{one_below}
use Rattle.seeded_search.proofs.spatial_index.eastings_by_number.Goals as goal

pub loop-number-preserved : goal.loop-number-preserved
loop-number-preserved c =
    subst (AreEastingsBelow c.args.problem.now (c.loop-number.number + 1)) (sym c.in_ok-note.ensures)
    (one_below c.args.problem.now c.loop-number.number c.loop-number.eastings.items c.loop-number.invariant)
