-- The eastings so far are those of the stops with lower numbers.
use Rattle.seeded_search.specs.SpatialIndex.{AreEastingsBelow}
use Rattle.seeded_search.proofs.spatial_index.eastings_by_number.Given as goal

abbrev pub invariant-loop-number : goal.invariant-loop-number
invariant-loop-number l = AreEastingsBelow l.problem l.number l.eastings.items
