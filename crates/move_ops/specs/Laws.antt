-- The laws of best insertions, for every problem and plan.
use Rattle.std.specs.Prelude.{◌≡◌, ◌↔◌, ℕ, true, List, [], ◌∷◌, Some, IsSome, IsTrue}
use Rattle.std.specs.List.{Contains}
use Rattle.std.specs.Option.{MatchOption}
use Rattle.plan_types.specs.Cost.{cost_at_most}
use Rattle.plan_types.specs.Instance.{Instance, IsInstance}
use Rattle.plan_types.specs.declared.requests.Request.{Request}
use Rattle.route_sched.specs.Cost.{cost_of}
use Rattle.plan_audit.specs.Passes.{passes}
use Rattle.plan_audit.specs.Rules.{IsOverloaded, IsLate, IsLateReturn}
use Rattle.slack_tables.specs.Insertion.{KeepsLimits}
use Rattle.move_ops.specs.Drafts.{placed}
use Rattle.move_ops.specs.Moves.{removed}
use Rattle.move_ops.specs.Insertion.{Insertion, request_named, insertions, insertions_of, is_no_worse, best_insertion, inserted_at}

-- an insertion that is no worse than any other, by cost, vehicle, pickup and delivery
pub record IsBest (p : Instance) (pins routes : List (List ℕ)) (r : Request) (x : Insertion) : Type 0 where
  pub among : Contains (insertions_of p pins routes r) x
  pub least : (y : Insertion) → Contains (insertions_of p pins routes r) y → is_no_worse p routes r x y ≡ true

-- law: the best insertion is no worse than any other, and there is none exactly when the request has no
-- insertion
abbrev pub BestInsertionsAreLeast : Type 0
BestInsertionsAreLeast = (p : Instance) (pins routes : List (List ℕ)) (name : ℕ) (r : Request) → request_named p name ≡ Some r
    → MatchOption (best_insertion p pins routes name) (insertions p pins routes name ≡ []) (IsBest p pins routes r)

-- law: no two insertions are the best
abbrev pub BestInsertionsAreUnique : Type 0
BestInsertionsAreUnique =
    (p : Instance) (pins routes : List (List ℕ)) (r : Request) (x y : Insertion) → IsBest p pins routes r x → IsBest p pins routes r y
    → x ≡ y

-- law: the list of the insertions has exactly the places at which the request can be inserted
abbrev pub InsertionsAreFeasible : Type 0
InsertionsAreFeasible =
    (p : Instance) (pins routes : List (List ℕ)) (name : ℕ) (x : Insertion)
    → Contains (insertions p pins routes name) x ↔ IsSome (inserted_at p pins routes name x)

-- law: a request removed from a plan that passes can be inserted where it was, which restores the old plan
abbrev pub RequestsKeepTheirPlaces : Type 0
RequestsKeepTheirPlaces = (p : Instance) (pins routes left : List (List ℕ)) (name : ℕ)
    → IsInstance p → passes p pins routes ≡ true → removed p pins routes (name ∷ []) ≡ Some left → (x : Insertion) × (inserted_at p pins left name x ≡ Some routes)

-- the request has a best insertion, and the plan with the request inserted there costs no more than `routes`
pub record IsRelocated (p : Instance) (pins left : List (List ℕ)) (name : ℕ) (routes : List (List ℕ)) : Type 0 where
  pub best : Insertion
  pub found : best_insertion p pins left name ≡ Some best
  pub put : inserted_at p pins left name best ≡ Some (placed p pins left name)
  pub cost : IsTrue (cost_at_most (cost_of p (placed p pins left name)) (cost_of p routes))

-- law: a removed request always has a best insertion, and it costs no more than the old place
abbrev pub RelocationsNeverCostMore : Type 0
RelocationsNeverCostMore = (p : Instance) (pins routes left : List (List ℕ)) (name : ℕ)
    → IsInstance p → passes p pins routes ≡ true → removed p pins routes (name ∷ []) ≡ Some left → IsRelocated p pins left name routes

-- law: a plan that passes with its pins passes without pins
abbrev pub PlansPassWithoutPins : Type 0
PlansPassWithoutPins = (p : Instance) (pins routes : List (List ℕ)) → passes p pins routes ≡ true → passes p [] routes ≡ true

-- law: a route keeps the limits of load and time exactly when, as the only route, it breaks none of the
-- auditor's rules on them
abbrev pub LimitsAreRules : Type 0
LimitsAreRules = (p : Instance) (route : List ℕ) → IsInstance p
    → KeepsLimits p route
    ↔ ((r i n : ℕ)
    → (IsOverloaded p (route ∷ []) r i n → ⊥) × (IsLate p (route ∷ []) r i n → ⊥) × (IsLateReturn p (route ∷ []) r i n → ⊥))
