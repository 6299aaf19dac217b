-- The value of a list of routes after the mutable borrow of one of them has ended.
use Rattle.std.specs.Prelude.{ℕ, List, slice_set}
use Rattle.std.specs.Borrow.{Lends, MutBor, Fml}
use Rattle.plan_types.specs.contracts.plans.Route.{the_row as route_row}
use Rattle.plan_types.specs.contracts.plans.Routes.{the_row as routes_row}

-- the list with the route at this index replaced by the final value of the borrow
abbrev pub LendsRoute : MutBor (List (List ℕ)) → ℕ → MutBor (List ℕ) → Fml
LendsRoute s i r = Lends routes_row route_row s r (slice_set s.now i)
