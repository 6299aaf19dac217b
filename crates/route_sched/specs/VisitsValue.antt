-- The value of a `Visits` iterator in contracts: the problem, the route and how far the vehicle has come.
use Rattle.std.specs.Prelude.{ℕ, List}
use Rattle.plan_types.specs.Instance.{Instance}

pub record VisitsValue : Type 0 where
  pub problem : Instance
  pub route : List ℕ
  pub place : ℕ
