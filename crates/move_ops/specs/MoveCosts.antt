-- The cost of a move before the plan is checked.
use Rattle.std.specs.Prelude.{◌≡◌, ℕ, List, Option, Some}
use Rattle.plan_types.specs.Instance.{Instance}
use Rattle.plan_types.specs.declared.plans.Cost.{Cost}
use Rattle.route_sched.specs.Cost.{cost_of}

-- if the move makes a plan, this is its cost
abbrev pub IsCostIfMade : Instance → Option (List (List ℕ)) → Cost → Type 0
IsCostIfMade p answer cost = (new : List (List ℕ)) → answer ≡ Some new → cost ≡ cost_of p new
