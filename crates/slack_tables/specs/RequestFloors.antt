-- The distances of a request that are the same for every route.
use Rattle.std.specs.Prelude.{◌≡◌, ◌≤◌, ◌^◌}
use Rattle.plan_types.specs.declared.requests.Request.{Request}
use Rattle.plan_types.specs.declared.requests.Request.TheVariants.{Single, Pair}
use Rattle.plan_types.specs.declared.requests.Stop.{Stop}
use Rattle.nint_dist.specs.Distance.{distance}
use Rattle.slack_tables.specs.declared.request.RequestDistances.{RequestDistances}

-- small enough that sums do not overflow
pub record AreSmallDistances (w : RequestDistances) : Type 0 where
  pub to_depot : w.to_depot ≤ 2 ^ 33
  pub delivery_to_depot : w.delivery_to_depot ≤ 2 ^ 33
  pub between_stops : w.between_stops ≤ 2 ^ 33

-- a lower bound on the distance from the depot to a single
abbrev pub AreFloorsOfSingle : Stop → Stop → RequestDistances → Type 0
AreFloorsOfSingle depot s w = w.to_depot ≤ distance depot s

-- lower bounds on the distances from the depot to both stops of a pair, and between them
pub record AreFloorsOfPair (depot p q : Stop) (w : RequestDistances) : Type 0 where
  pub to_depot : w.to_depot ≤ distance depot p
  pub delivery_to_depot : w.delivery_to_depot ≤ distance depot q
  pub between_stops : w.between_stops ≤ distance p q

abbrev pub AreBelow : Stop → Request → RequestDistances → Type 0
AreBelow depot (Single s) w = AreFloorsOfSingle depot s w
AreBelow depot (Pair p q) w = AreFloorsOfPair depot p q w

-- lower bounds on the distances of the request
pub record AreFloors (depot : Stop) (r : Request) (w : RequestDistances) : Type 0 where
  pub small : AreSmallDistances w
  pub below : AreBelow depot r w

-- the exact distance from pickup to delivery
abbrev pub IsBetweenStops : Request → RequestDistances → Type 0
IsBetweenStops (Single s) w = Unit {0}
IsBetweenStops (Pair p q) w = (w.between_stops ≡ distance p q) × (w.between_stops ≤ 2 ^ 32)

pub record AreDistances (depot : Stop) (r : Request) (w : RequestDistances) : Type 0 where
  pub floors : AreFloors depot r w
  pub between_stops : IsBetweenStops r w
