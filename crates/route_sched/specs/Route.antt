-- Routes and plans as lists of stop numbers, and the places of a route.
use Rattle.std.specs.Prelude.{ℕ, ◌==◌, nat_eq, List, ◌∷◌, All, IsSome, unwrap_or, slice_index, if◌then◌else◌}
use Rattle.std.specs.List.{IsDistinct, concat}
use Rattle.plan_types.specs.Instance.{Instance, stop_at}
use Rattle.plan_types.specs.declared.requests.Stop.{Stop}

-- a stop with this number belongs to a current request
abbrev pub IsKnownStop : Instance → ℕ → Type 0
IsKnownStop p n = IsSome (stop_at p n)

-- stops of current requests, each once
pub record AreDistinctStops (p : Instance) (numbers : List ℕ) : Type 0 where
  pub live : All (IsKnownStop p) numbers
  pub distinct : IsDistinct nat_eq numbers

-- no route has an unknown stop, and no stop occurs twice, in one route or in two
abbrev pub IsPlan : Instance → List (List ℕ) → Type 0
IsPlan p routes = AreDistinctStops p (concat routes)

-- the stop with this number, or the depot for 0
abbrev pub stop_numbered : Instance → ℕ → Stop
stop_numbered p n = if n == 0 then p.depot else unwrap_or (stop_at p n) p.depot

-- the stop at a place of a route: the depot is at place 0 and again after the last stop
unfoldable pub place : Instance → List ℕ → ℕ → Stop
place p route k = stop_numbered p (slice_index (0 ∷ route) k)
