-- All lists so far are empty.
use Rattle.std.proofs.Common.{◌≡◌, [], All}
use Rattle.seeded_search.proofs.spatial_index.empty_lists.Given as goal

abbrev pub invariant-loop-number : goal.invariant-loop-number
invariant-loop-number l = All (λ stops. stops.items ≡ []) l.nearest_stops.items
