-- Requests that are left out, among some names, and a bound for how often each was left out
use Rattle.std.specs.Prelude.{◌≡◌, ℕ, ◌≤◌, not, Bool, false, List, filter, slice_index_or}
use Rattle.std.specs.Option.{option_map_or}
use Rattle.plan_types.specs.Instance.{Instance}
use Rattle.route_sched.specs.Cost.{is_planned}
use Rattle.move_ops.specs.Insertion.{request_named}
use Rattle.seeded_search.specs.Steps.{unplanned_names}

-- The request with this name has no stop in the plan
abbrev pub is_left_out : Instance → List (List ℕ) → ℕ → Bool
is_left_out p routes name = option_map_or (λ r. not (is_planned routes r)) (request_named p name) false

-- The names in the list whose requests have no stop in the plan
abbrev pub left_out : Instance → List (List ℕ) → List ℕ → List ℕ
left_out p routes names = filter (is_left_out p routes) names

-- The list has the names of all requests that the plan leaves out
abbrev pub HoldLeftOut : Instance → List (List ℕ) → List ℕ → Type 0
HoldLeftOut p routes names = left_out p routes names ≡ unplanned_names p routes

-- No request was left out more than `most` times
abbrev pub AreAtMost : ℕ → List ℕ → Type 0
AreAtMost most absences = (n : ℕ) → slice_index_or absences n 0 ≤ most
