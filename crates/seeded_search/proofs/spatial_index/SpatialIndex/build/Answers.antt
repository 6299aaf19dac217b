-- If no list is made yet, all lists are valid.
use Rattle.std.proofs.Common.{rules}
use Rattle.seeded_search.proofs.SpatialIndexLemmas.{none_made}
use Rattle.seeded_search.proofs.spatial_index.SpatialIndex.build.Goals as goal

pub returns : goal.returns
returns c = record {
  nearest_stops = none_made c.args.problem.now c.in_ok-nearest_stops.nearest_stops.items (search rules);
  eastings = λ some. c.in_ok-eastings.ensures;
}
