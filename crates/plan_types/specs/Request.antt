-- Requests: their names, their stops and their limits.
use Rattle.std.specs.Prelude.{◌≡◌, ◌≢◌, ℕ, ◌+◌, max, ◌==◌, neg_ℤ, List, [], ◌∷◌, Option, Some, None, if◌then◌else◌}
use Rattle.plan_types.specs.Limits.{IsStop, IsDemand}
use Rattle.plan_types.specs.declared.requests.Stop.{Stop}
use Rattle.plan_types.specs.declared.requests.Request.{Request}
use Rattle.plan_types.specs.declared.requests.Request.TheVariants.{Single, Pair}

-- the number of the single stop or of the pickup
abbrev pub request_name : Request → ℕ
request_name (Single s) = s.number
request_name (Pair p d) = p.number

-- the stops of a request, the pickup first
abbrev pub stops_of : Request → List Stop
stops_of (Single s) = s ∷ []
stops_of (Pair p d) = p ∷ d ∷ []

-- a valid request: its stops keep their limits, the two stops of a pair have different numbers, and the
-- delivery's demand is the negative of the pickup's
abbrev pub IsRequest : Request → Type 0
IsRequest (Single s) = IsStop s × IsDemand s.demand
IsRequest (Pair p d) = IsStop p × IsStop d × (p.number ≢ d.number) × IsDemand p.demand × (d.demand ≡ neg_ℤ p.demand)

-- the stop of the request that has this number
abbrev pub stop_in : ℕ → Request → Option Stop
stop_in n (Single s) = if s.number == n then Some s else None
stop_in n (Pair p d) = if p.number == n then Some p else if d.number == n then Some d else None

-- the number of the other stop, if one stop of the pair has this number
abbrev pub partner_in : ℕ → Request → Option ℕ
partner_in n (Single s) = None
partner_in n (Pair p d) = if p.number == n then Some d.number else if d.number == n then Some p.number else None

-- the number of the pickup, if the delivery has this number
abbrev pub pickup_in : ℕ → Request → Option ℕ
pickup_in n (Single s) = None
pickup_in n (Pair p d) = if p.number == n then None else if d.number == n then Some p.number else None

-- the number after the greatest number of the request
abbrev pub number_after : Request → ℕ
number_after (Single s) = s.number + 1
number_after (Pair p d) = max p.number d.number + 1
