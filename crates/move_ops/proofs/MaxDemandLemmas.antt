-- The greatest demand of a single in each vehicle, from change to change.
use Rattle.std.proofs.Common.{◌≡◌, ◌++◌, ◌∷◌, ℕ, ℤ, zero, suc, List, [], Some, length, set, slice_get, sym, subst, ◌∙◌}
use Rattle.slack_tables.specs.Course.{Course}
use Rattle.slack_tables.specs.FitsNowhere.{IsMaxDemand}
use Rattle.move_ops.specs.MaxDemands.{AreMaxDemands}
use Rattle.move_ops.proofs.OccurrenceLemmas.{none_some, some_same}

-- a greatest demand for a course is one for an equal course
same_room : (a c : Course) (x y : ℤ) → IsMaxDemand a x → Some a ≡ Some c → Some x ≡ Some y → IsMaxDemand c y
same_room a c x y is here there = subst (λ d. IsMaxDemand d y) (some_same a c here) (subst (IsMaxDemand a) (some_same x y there) is)

tail_rooms : (a : Course) (b : ℤ) (courses : List Course) (max_demands : List ℤ) → AreMaxDemands (a ∷ courses) (b ∷ max_demands) → AreMaxDemands courses max_demands
tail_rooms a b courses max_demands are = record { each = λ k. are.each (suc k) }

-- the greatest demands with one more vehicle
pub push_room : (courses : List Course) (max_demands : List ℤ) (d : Course) (x : ℤ) → AreMaxDemands courses max_demands
    → slice_get courses (length max_demands) ≡ Some d → IsMaxDemand d x → AreMaxDemands courses (max_demands ++ x ∷ [])
push_room courses max_demands d x are at is = record { each = each courses max_demands are at }
  where
    each : (courses : List Course) (max_demands : List ℤ) → AreMaxDemands courses max_demands → slice_get courses (length max_demands) ≡ Some d
        → (k : ℕ) (c : Course) (y : ℤ) → slice_get courses k ≡ Some c → slice_get (max_demands ++ x ∷ []) k ≡ Some y → IsMaxDemand c y
    each [] max_demands are at k c y here there = absurd (none_some c here)
    each (a ∷ courses) [] are at zero c y here there = same_room d c x y is (sym at ∙ here) there
    each (a ∷ courses) [] are at (suc k) c y here there = absurd (none_some y there)
    each (a ∷ courses) (b ∷ max_demands) are at zero c y here there = are.each zero c y here there
    each (a ∷ courses) (b ∷ max_demands) are at (suc k) c y here there = each courses max_demands (tail_rooms a b courses max_demands are) at k c y here there

-- the greatest demands after a vehicle gets another tour
pub set_rooms : (courses : List Course) (max_demands : List ℤ) (i : ℕ) (tour : Course) (x : ℤ) → AreMaxDemands courses max_demands → IsMaxDemand tour x
    → AreMaxDemands (set courses i tour) (set max_demands i x)
set_rooms courses max_demands i tour x are is = record { each = each courses max_demands i are }
  where
    each : (courses : List Course) (max_demands : List ℤ) (i : ℕ) → AreMaxDemands courses max_demands → (k : ℕ) (c : Course) (y : ℤ)
        → slice_get (set courses i tour) k ≡ Some c → slice_get (set max_demands i x) k ≡ Some y → IsMaxDemand c y
    each [] max_demands i are k c y here there = absurd (none_some c here)
    each (a ∷ courses) [] i are k c y here there = absurd (none_some y there)
    each (a ∷ courses) (b ∷ max_demands) zero are zero c y here there = same_room tour c x y is here there
    each (a ∷ courses) (b ∷ max_demands) zero are (suc k) c y here there = are.each (suc k) c y here there
    each (a ∷ courses) (b ∷ max_demands) (suc i) are zero c y here there = are.each zero c y here there
    each (a ∷ courses) (b ∷ max_demands) (suc i) are (suc k) c y here there = each courses max_demands i (tail_rooms a b courses max_demands are) k c y here there
