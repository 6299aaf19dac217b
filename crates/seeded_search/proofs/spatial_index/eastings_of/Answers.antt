-- Sorting by easting keeps the stops.
use Rattle.std.proofs.Common.{rules}
use Rattle.std.proofs.lemmas.List.Sorted.{IsNonDecreasingBy-from_sort_by_key}
use Rattle.seeded_search.specs.SpatialIndex.{AreEastingsBelow}
use Rattle.seeded_search.specs.declared.spatial_index.Easting.{Easting}
use Rattle.seeded_search.proofs.SpatialIndexLemmas.{each_moved, have_moved}
use Rattle.seeded_search.proofs.spatial_index.eastings_of.Goals as goal

pub returns : goal.returns
returns c =
    let p = c.args.problem.now in
    let made : AreEastingsBelow c.args.problem.now c.args.problem.now.next_number c.in_ok-eastings.eastings.items = search rules in
    let moved = c.sort_unstable_by_key.ensures.permutation in
    record {
      each = each_moved p _ _ moved made.each;
      all = λ n known. have_moved p _ _ moved n (made.all n (c.numbers_are_below_next_number.ensures.stops p n c.eastings_by_number.ensures.valid known) known);
      ascending = IsNonDecreasingBy-from_sort_by_key (λ (e : Easting). e.east) _ c.sort_unstable_by_key.ensures.sorted (λ a r q k. search rules);
    }
