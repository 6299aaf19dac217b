-- The promise of the search about its plan, and the problems that it is for.
use Rattle.std.specs.Prelude.{◌≡◌, ℕ, ◌⊎◌, Bool, true, false, List, [], IsTrue, length, nat_le}
use Rattle.plan_types.specs.Instance.{Instance}
use Rattle.plan_types.specs.Cost.{cost_at_most}
use Rattle.plan_types.specs.declared.requests.Kind.{Kind}
use Rattle.plan_types.specs.declared.requests.Kind.TheVariants.{LiLim, Vrp}
use Rattle.route_sched.specs.Cost.{cost_of}
use Rattle.plan_audit.specs.Passes.{passes}
use Rattle.hybrid_search.specs.declared.problems.TheConstants.{MOST_REQUESTS}

-- whether the search is for problems of this kind with that many requests
abbrev pub is_accepted_by : Kind → ℕ → Bool
is_accepted_by Vrp requests = nat_le requests MOST_REQUESTS
is_accepted_by LiLim requests = false

-- whether the search is for this problem
abbrev pub is_accepted : Instance → Bool
is_accepted p = is_accepted_by p.kind (length p.requests)

-- both plans pass the auditor without pins, and the one that was found costs at most as much as the built one
pub record IsImprovement (p : Instance) (built found : List (List ℕ)) : Type 0 where
  pub passing : passes p [] found ≡ true
  pub built_passing : passes p [] built ≡ true
  pub cost : IsTrue (cost_at_most (cost_of p found) (cost_of p built))

-- the plan is the built one, or an improvement of it
abbrev pub IsBred : Instance → List (List ℕ) → List (List ℕ) → Type 0
IsBred p built routes = (routes ≡ built) ⊎ IsImprovement p built routes
