-- A plan that is changed in place: the base, and a draft made from it, which is discarded or becomes the base.
use Rattle.std.specs.Prelude.{◌≡◌, ℕ, ◌-◌, ◌<◌, Bool, true, false, List, [], ◌∷◌, length, slice_set, slice_index_or, Option, MatchOption, unwrap_or}
use Rattle.std.specs.Option.{option_and_then}
use Rattle.plan_types.specs.Instance.{Instance, IsInstance}
use Rattle.plan_types.specs.declared.plans.Cost.{Cost}
use Rattle.route_sched.specs.Cost.{has_stop, cost_of}
use Rattle.plan_audit.specs.Passes.{passes}
use Rattle.slack_tables.specs.Course.{Course}
use Rattle.move_ops.specs.Insertion.{best_insertion, inserted_at, route_of}
use Rattle.move_ops.specs.Tables.{plan_of, AreTablesIn}

-- the draft's tables; the log of the tours that vehicles had before each change since the base, the newest last;
-- marks at the pinned stops; and the costs of both plans
pub record DraftState : Type 0 where
  pub tours : List Course
  pub log : List (ℕ × Course)
  pub pinned : List Bool
  pub cost : Cost
  pub base_cost : Cost

-- the tables before all changes in the log
abbrev pub undone : List Course → List (ℕ × Course) → List Course
undone tours [] = tours
undone tours (e ∷ newer) = slice_set (undone tours newer) (e.0 - 1) e.1

abbrev pub draft_of : DraftState → List (List ℕ)
draft_of d = plan_of d.tours

abbrev pub base_of : DraftState → List (List ℕ)
base_of d = plan_of (undone d.tours d.log)

-- no vehicle after the first `used_len` has a stop
abbrev pub AreIdleAfter : ℕ → List (List ℕ) → Type 0
AreIdleAfter used_len routes = (v : ℕ) → used_len < v → length (route_of routes v) ≡ 0

-- the base and the draft pass, and the tables, marks and costs are those of the problem, the pins and the two
-- plans
pub record IsDraftOf (p : Instance) (pins : List (List ℕ)) (d : DraftState) : Type 0 where
  pub valid : IsInstance p
  pub base : passes p pins (base_of d) ≡ true
  pub draft : passes p pins (draft_of d) ≡ true
  pub base_tables : AreTablesIn p (undone d.tours d.log)
  pub tables : AreTablesIn p d.tours
  pub pinned : (n : ℕ) → n < length d.pinned → slice_index_or d.pinned n false ≡ has_stop pins n
  pub cost : d.cost ≡ cost_of p (draft_of d)
  pub base_cost : d.base_cost ≡ cost_of p (base_of d)

-- the new draft is the plan of the move; without such a plan the draft is unchanged
abbrev pub IsMade : Option (List (List ℕ)) → Bool → DraftState → DraftState → Type 0
IsMade answer made old new = MatchOption answer ((made ≡ false) × (draft_of new ≡ draft_of old)) (λ routes. (made ≡ true) × (draft_of new ≡ routes))

-- the plan with the request at its best insertion, or the plan itself if it has none
abbrev pub placed : Instance → List (List ℕ) → List (List ℕ) → ℕ → List (List ℕ)
placed p pins routes name = unwrap_or (option_and_then (inserted_at p pins routes name) (best_insertion p pins routes name)) routes
