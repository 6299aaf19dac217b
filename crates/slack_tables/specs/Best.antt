-- The cheapest insertion of a request into a route.
use Rattle.std.specs.Prelude.{◌≡◌, ℕ, ◌<◌, ◌≤◌, ℤ, ◌≤ℤ◌, ◌<ℤ◌, List, length, Option, Some, MatchOption}
use Rattle.plan_types.specs.Instance.{Instance}
use Rattle.plan_types.specs.declared.requests.Request.{Request}
use Rattle.slack_tables.specs.Insertion.{inserted, ArePlaces, IsAdded}
use Rattle.slack_tables.specs.declared.scan.PricedInsertion.{PricedInsertion}

-- a comes before b or is b, in order of distance, then of the pickup's place, then of the delivery's place
pub record ComesFirst (a b : PricedInsertion) : Type 0 where
  pub distance : a.distance ≤ℤ b.distance
  pub pickup : a.distance ≡ b.distance → a.pickup ≤ b.pickup
  pub delivery : a.distance ≡ b.distance → a.pickup ≡ b.pickup → a.delivery ≤ b.delivery

-- the first insertion with this property, or `None` if there is none
abbrev pub IsFirstOf : (PricedInsertion → Type 0) → Option PricedInsertion → Type 0
IsFirstOf Is answer = MatchOption answer ((a : PricedInsertion) → Is a → ⊥) (λ first. Is first × ((a : PricedInsertion) → Is a → ComesFirst first a))

-- the request fits into the route after its first `kept` stops, at these places, and adds this distance, which
-- is less than `below`
pub record Adds (p : Instance) (route : List ℕ) (r : Request) (kept : ℕ) (below : ℤ) (a : PricedInsertion) : Type 0 where
  pub places : ArePlaces r (length route) a.pickup a.delivery
  pub following : kept < a.pickup
  pub added : IsAdded p route (inserted r a.pickup a.delivery route) (Some a.distance)
  pub cheaper : a.distance <ℤ below

-- the first insertion that `Adds` describes, or `None` if there is none
abbrev pub IsBestAddition : Instance → List ℕ → Request → ℕ → ℤ → Option PricedInsertion → Type 0
IsBestAddition p route r kept below answer = IsFirstOf (Adds p route r kept below) answer

-- law: a request has only one best insertion into a route
abbrev pub BestPlacesAreUnique : Type 0
BestPlacesAreUnique =
    (p : Instance) (route : List ℕ) (r : Request) (kept : ℕ) (below : ℤ) (a b : Option PricedInsertion) → IsBestAddition p route r kept below a
    → IsBestAddition p route r kept below b → a ≡ b
