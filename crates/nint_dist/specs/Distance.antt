-- The distance of two stops (TSPLIB95, EUC_2D).
use Rattle.std.specs.Prelude.{ℕ, ◌+◌, ◌*◌, ◌≤◌, ◌-ℤ◌, unsigned_abs}
use Rattle.plan_types.specs.Limits.{IsCoordinate}
use Rattle.plan_types.specs.declared.requests.Stop.{Stop}
use Rattle.nint_dist.specs.NearestRoot.{IsNearestRoot, nearest_root}

-- the coordinates of the stop keep their limits
abbrev pub HasValidCoordinates : Stop → Type 0
HasValidCoordinates s = IsCoordinate s.x × IsCoordinate s.y

-- the sum of the squared coordinate differences
abbrev pub squared_distance : Stop → Stop → ℕ
squared_distance a b =
    let dx = unsigned_abs (a.x -ℤ b.x) in let dy = unsigned_abs (a.y -ℤ b.y) in dx * dx + dy * dy

-- the square root of the sum of the squared coordinate differences, rounded to the nearest whole number
unfoldable pub distance : Stop → Stop → ℕ
distance a b = nearest_root (squared_distance a b)

abbrev pub DistancesAreNearestRoots : Type 0
DistancesAreNearestRoots = (a b : Stop) → IsNearestRoot (squared_distance a b) (distance a b)

-- a detour through a third stop is shorter than the direct leg by at most 1
abbrev pub DetoursSaveAtMostOne : Type 0
DetoursSaveAtMostOne = (a b c : Stop) → distance a b ≤ distance a c + distance c b + 1
