-- Laws of the steps of a search, for every problem, pins, deviation and seed: first for a search of any kind.
use Rattle.std.specs.Prelude.{◌≡◌, ℕ, ◌+◌, ◌≤◌, IsTrue, List, Some, true}
use Rattle.plan_types.specs.Cost.{cost_at_most}
use Rattle.plan_types.specs.Instance.{Instance, IsInstance}
use Rattle.route_sched.specs.Cost.{cost_of}
use Rattle.plan_audit.specs.Passes.{passes}
use Rattle.seeded_search.specs.Steps.{relocated, SearchPlans, steps}

-- a search of some kind: what it makes of both plans, given the problem, the pins, the deviation, the seed, the
-- number of the first step and the number of steps
abbrev pub Search : Type 0
Search = Instance → List (List ℕ) → ℕ → ℕ → ℕ → ℕ → SearchPlans → SearchPlans

-- law: a steps followed by b steps are a + b steps
abbrev pub AddUp : Search → Type 0
AddUp steps = (p : Instance) (pins : List (List ℕ)) (deviation seed n a b : ℕ) (s : SearchPlans)
    → steps p pins deviation seed n (a + b) s ≡ steps p pins deviation seed (n + a) b (steps p pins deviation seed n a s)

-- both plans pass
pub record BothPass (p : Instance) (pins : List (List ℕ)) (s : SearchPlans) : Type 0 where
  pub incumbent : passes p pins s.incumbent ≡ true
  pub working : passes p pins s.working ≡ true

-- law: plans that pass lead to plans that pass
abbrev pub KeepPassing : Search → Type 0
KeepPassing steps = (p : Instance) (pins : List (List ℕ)) (deviation seed n count : ℕ) (s : SearchPlans)
    → BothPass p pins s → BothPass p pins (steps p pins deviation seed n count s)

-- law: the incumbent never costs more
abbrev pub NeverCostMore : Search → Type 0
NeverCostMore steps = (p : Instance) (pins : List (List ℕ)) (deviation seed n count : ℕ) (s : SearchPlans)
    → IsTrue (cost_at_most (cost_of p (steps p pins deviation seed n count s).incumbent) (cost_of p s.incumbent))

-- the laws of a search, for `steps`
abbrev pub StepsAddUp : Type 0
StepsAddUp = AddUp steps

abbrev pub StepsKeepPassing : Type 0
StepsKeepPassing = KeepPassing steps

abbrev pub IncumbentsNeverCostMore : Type 0
IncumbentsNeverCostMore = NeverCostMore steps

-- law: a request that is relocated from a plan that passes is inserted again, and the plan costs no more
abbrev pub RelocatedNeverCostMore : Type 0
RelocatedNeverCostMore = (p : Instance) (pins routes new : List (List ℕ)) (word : ℕ)
    → IsInstance p → passes p pins routes ≡ true → relocated p pins routes word ≡ Some new → IsTrue (cost_at_most (cost_of p new) (cost_of p routes))

-- the working plan leaves as many requests unplanned and uses as many vehicles as the incumbent, and its
-- distance is at most the deviation greater
abbrev pub IsWorkingNear : Instance → ℕ → SearchPlans → Type 0
IsWorkingNear p deviation s =
    let work = cost_of p s.working in
    let best = cost_of p s.incumbent in
    (work.unplanned ≡ best.unplanned) × (work.vehicles ≡ best.vehicles) × (work.distance ≤ best.distance + deviation)

-- law: a working plan that is near the incumbent stays near it. (The bytes of a state may begin with any other
-- working plan that passes.)
abbrev pub WorkingStaysNear : Type 0
WorkingStaysNear = (p : Instance) (pins : List (List ℕ)) (deviation seed n count : ℕ) (s : SearchPlans)
    → IsWorkingNear p deviation s → IsWorkingNear p deviation (steps p pins deviation seed n count s)
