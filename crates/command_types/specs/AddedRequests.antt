-- The requests that commands add, and the limits of their fields as computable tests
use Rattle.std.specs.Prelude.{ℕ, ◌+◌, ℤ, pos, neg_ℤ, nat_le, int_le, ◌&&◌, Bool}
use Rattle.plan_types.specs.declared.limits.TheConstants.{MAX_COORDINATE, MAX_DEMAND, MAX_SERVICE, MAX_TIME}
use Rattle.plan_types.specs.declared.requests.Stop.{Stop}
use Rattle.plan_types.specs.declared.requests.Request.{Request}
use Rattle.plan_types.specs.declared.requests.Request.TheVariants.{Single, Pair}
use Rattle.command_types.specs.declared.commands.Spot.{Spot}

-- A coordinate, in -1,000,000..1,000,000
abbrev pub is_coordinate : ℤ → Bool
is_coordinate x = int_le (neg_ℤ MAX_COORDINATE) x && int_le x MAX_COORDINATE

-- A spot within the limits, whose window does not end before it begins
abbrev pub is_spot : Spot → Bool
is_spot s = is_coordinate s.x && (is_coordinate s.y && (nat_le s.earliest s.latest && (nat_le s.latest MAX_TIME && nat_le s.service MAX_SERVICE)))

-- The demand of a pickup or a single, in 0..1,000,000
abbrev pub is_demand : ℕ → Bool
is_demand q = int_le (pos q) MAX_DEMAND

-- The stop with this number and demand at a spot
abbrev pub stop_at_spot : Spot → ℕ → ℤ → Stop
stop_at_spot s n q = record { number = n; x = s.x; y = s.y; demand = q; earliest = s.earliest; latest = s.latest; service = s.service }

-- A request of one stop, with number n
abbrev pub single_at : ℕ → ℕ → Spot → Request
single_at n q s = Single (stop_at_spot s n (pos q))

-- A pair: the pickup has number n, the delivery the next one
abbrev pub pair_at : ℕ → ℕ → Spot → Spot → Request
pair_at n q a b = Pair (stop_at_spot a n (pos q)) (stop_at_spot b (n + 1) (neg_ℤ (pos q)))
