-- Costs, compared by unplanned requests, then vehicles, then distance.
use Rattle.std.specs.Prelude.{◌≡◌, ◌<◌, Bool, not, ◌&&◌, ◌||◌, nat_lt, ◌==◌, ◌⊎◌, ◌↔◌, IsTrue}
use Rattle.plan_types.specs.declared.plans.Cost.{Cost}

-- a costs less than b: it has fewer unplanned requests, or equally many and fewer vehicles, or equally many of
-- both and a shorter distance
abbrev pub cost_below : Cost → Cost → Bool
cost_below a b =
    nat_lt a.unplanned b.unplanned ||
    (a.unplanned == b.unplanned && (nat_lt a.vehicles b.vehicles || (a.vehicles == b.vehicles && nat_lt a.distance b.distance)))

-- a costs at most as much as b
abbrev pub cost_at_most : Cost → Cost → Bool
cost_at_most a b = not (cost_below b a)

-- `cost_below` as a proposition
abbrev pub IsCostBelow : Cost → Cost → Type 0
IsCostBelow a b =
    (a.unplanned < b.unplanned) ⊎ ((a.unplanned ≡ b.unplanned) × ((a.vehicles < b.vehicles) ⊎ ((a.vehicles ≡ b.vehicles) × (a.distance < b.distance))))

-- `cost_below` and `cost_at_most` compute what `IsCostBelow` states
abbrev pub CostBelowIsCorrect : Type 0
CostBelowIsCorrect = (a b : Cost) → IsTrue (cost_below a b) ↔ IsCostBelow a b

abbrev pub CostAtMostIsCorrect : Type 0
CostAtMostIsCorrect = (a b : Cost) → IsTrue (cost_at_most a b) ↔ (IsCostBelow a b ⊎ (a ≡ b))

-- of two costs, one is at most the other
abbrev pub CostsAreTotal : Type 0
CostsAreTotal = (a b : Cost) → IsTrue (cost_at_most a b) ⊎ IsTrue (cost_at_most b a)

abbrev pub CostsAreTransitive : Type 0
CostsAreTransitive = (a b c : Cost) → IsTrue (cost_at_most a b) → IsTrue (cost_at_most b c) → IsTrue (cost_at_most a c)

abbrev pub CostsAreAntisymmetric : Type 0
CostsAreAntisymmetric = (a b : Cost) → IsTrue (cost_at_most a b) → IsTrue (cost_at_most b a) → a ≡ b

-- mixed transitivity: a < b and b ≤ c, or a ≤ b and b < c, imply a < c
abbrev pub BelowThenAtMost : Type 0
BelowThenAtMost = (a b c : Cost) → IsTrue (cost_below a b) → IsTrue (cost_at_most b c) → IsTrue (cost_below a c)

abbrev pub AtMostThenBelow : Type 0
AtMostThenBelow = (a b c : Cost) → IsTrue (cost_at_most a b) → IsTrue (cost_below b c) → IsTrue (cost_below a c)

abbrev pub BelowIsAtMost : Type 0
BelowIsAtMost = (a b : Cost) → IsTrue (cost_below a b) → IsTrue (cost_at_most a b)
