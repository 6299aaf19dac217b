-- A plan for a part of the fleet, made from a plan for the whole fleet, and a plan for the whole fleet made
-- from it again. Vehicles count from 1. A list of marks says for each vehicle whether the part has it.
use Rattle.std.specs.Prelude.{ℕ, ◌-◌, nat_lt, not, ◌==◌, ◌&&◌, ◌||◌, Bool, true, false, List, [], ◌∷◌, length, take, map, filter, count_by, slice_index_or}
use Rattle.std.specs.List.{range_with_len}
use Rattle.plan_types.specs.Instance.{Instance}
use Rattle.route_sched.specs.Cost.{used_count}
use Rattle.plan_audit.specs.Passes.{has}
use Rattle.move_ops.specs.Insertion.{route_of}
use Rattle.anneal_search.specs.Sorting.{sorted}

-- the problem with a fleet of this size
abbrev pub with_fleet : Instance → ℕ → Instance
with_fleet p n = record p { fleet = n }

-- the number of marked vehicles
abbrev pub marked : List Bool → ℕ
marked kept = count_by (λ k. k) kept

-- the routes or the pins of the marked vehicles, in order
abbrev pub picked : List Bool → List (List ℕ) → List (List ℕ)
picked [] lists = []
picked (true ∷ kept) [] = [] ∷ picked kept []
picked (true ∷ kept) (l ∷ lists) = l ∷ picked kept lists
picked (false ∷ kept) [] = picked kept []
picked (false ∷ kept) (l ∷ lists) = picked kept lists

-- the lists, each at the number of its marked vehicle; the lists of the other vehicles are empty
abbrev pub put_back : List Bool → List (List ℕ) → List (List ℕ)
put_back [] lists = []
put_back (true ∷ kept) [] = [] ∷ put_back kept []
put_back (true ∷ kept) (l ∷ lists) = l ∷ put_back kept lists
put_back (false ∷ kept) lists = [] ∷ put_back kept lists

-- the list at an index, or an empty one
abbrev pub list_at : List (List ℕ) → ℕ → List ℕ
list_at lists k = slice_index_or lists k []

-- the vehicle has a stop in these lists
abbrev pub has_any_stop : List (List ℕ) → ℕ → Bool
has_any_stop lists v = not (length (route_of lists v) == 0)

-- the route of the first vehicle has more stops
abbrev pub is_longer : List (List ℕ) → ℕ → ℕ → Bool
is_longer routes v w = nat_lt (length (route_of routes w)) (length (route_of routes v))

module _ (pins routes : List (List ℕ)) where
  -- the used vehicles without a pin, those with the most stops first, and the lower number first among equal
  -- ones
  abbrev pub free_vehicles : List ℕ
  free_vehicles = sorted (is_longer routes) (filter (λ v. has_any_stop routes v && not (has_any_stop pins v)) (range_with_len 1 (length routes)))

  -- n of the used vehicles: those with a pin, and then those with the most stops
  abbrev pub is_kept : ℕ → ℕ → Bool
  is_kept n v = has_any_stop pins v || has (take (n - used_count pins) free_vehicles) v

  abbrev pub kept : ℕ → List Bool
  kept n = map (is_kept n) (range_with_len 1 (length routes))
