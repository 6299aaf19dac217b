-- The log of a draft: the tours that the changed vehicles had in the base.
use Rattle.std.specs.Prelude.{◌≡◌, ℕ, ◌-◌, Bool, false, List, [], ◌∷◌, Some, nat_eq, slice_get, slice_set}
use Rattle.std.specs.List.{list_any}
use Rattle.plan_types.specs.Instance.{Instance}
use Rattle.slack_tables.specs.Course.{Course, course_of, course_route}
use Rattle.move_ops.specs.Drafts.{DraftState, undone}

-- the log has a tour of the vehicle
abbrev pub is_logged : List (ℕ × Course) → ℕ → Bool
is_logged log v = list_any (λ e. nat_eq e.0 v) log

-- no vehicle is in the log twice
abbrev pub AreOnce : List (ℕ × Course) → Type 0
AreOnce [] = Unit {0}
AreOnce (e ∷ rest) = (is_logged rest e.0 ≡ false) × AreOnce rest

-- the entry with index k belongs to the vehicle
abbrev pub IsEntry : List (ℕ × Course) → ℕ → ℕ → Type 0
IsEntry log v k = (c : Course) × (slice_get log k ≡ Some (v, c))

-- the vehicle has this route now; the other tours, the base, its cost and the pinned stops are unchanged
pub record HasRoute (p : Instance) (old new : DraftState) (vehicle : ℕ) (route : List ℕ) : Type 0 where
  pub tours : new.tours ≡ slice_set old.tours (vehicle - 1) (course_of p route)
  pub stops : course_route (course_of p route) ≡ route
  pub base : undone new.tours new.log ≡ undone old.tours old.log
  pub pinned : new.pinned ≡ old.pinned
  pub base_cost : new.base_cost ≡ old.base_cost
