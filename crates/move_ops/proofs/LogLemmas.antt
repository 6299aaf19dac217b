-- The log of a draft, in which no vehicle occurs twice.
use Rattle.std.proofs.Common.{◌≡◌, ℕ, ℤ, zero, suc, ◌+◌, ◌-◌, ◌<◌, ◌≤◌, ◌||◌, true, false, eqb, List, [], ◌∷◌}
use Rattle.std.proofs.Common.{◌++◌, length, map, set, Option, None, Some, slice_get, refl, sym, ap, subst, ◌∙◌, inl, inr, arith}
use Rattle.std.specs.Prelude.{MatchOption, vec_capacity}
use Rattle.std.specs.List.{list_any, remove, AllByRecursion, IsDistinct}
use Rattle.std.specs.Option.{is_none, is_some}
use Rattle.std.proofs.lemmas.Bool.{or_cases, or_left, or_right, or_parts, or_from, eq-eqb, eqb-true, ne_eqb}
use Rattle.std.proofs.lemmas.Bool.Decides.{eqb_tells}
use Rattle.std.proofs.lemmas.List.{length-map, length-set, set-set, set_comm}
use Rattle.std.proofs.lemmas.Map.Steps.{length-le_from_distinct_below}
use Rattle.plan_audit.specs.Passes.{has}
use Rattle.slack_tables.specs.Course.{Course, course_route}
use Rattle.move_ops.specs.declared.draft.Draft.TheInside.{Inside}
use Rattle.move_ops.specs.Drafts.{undone}
use Rattle.move_ops.specs.DraftInvariant.{AreVehicleHints, IsDraftInvariant}
use Rattle.move_ops.specs.UndoLog.{is_logged, AreOnce, IsEntry}
use Rattle.move_ops.specs.Tables.{plan_of}
use Rattle.move_ops.specs.FreshTables.{AreWithin}
use Rattle.move_ops.specs.MaxDemands.{AreMaxDemands, IsMaxDemandSet}
use Rattle.move_ops.proofs.DraftLemmas.{base_first, base_later, used_len_with, hints_with}
use Rattle.move_ops.proofs.MaxDemandLemmas.{set_rooms}
use Rattle.move_ops.proofs.OccurrenceLemmas.{none_some, some_same}

-- ---- a vehicle in the log
set_over : (tours : List Course) (log : List (ℕ × Course)) (k : ℕ) (c x : Course) → set (undone (set tours k c) log) k x ≡ set (undone tours log) k x
set_over tours [] k c x = set-set tours k c x
set_over tours (e ∷ log) k c x = elim (eqb_tells (e.0 - 1) k) [
  | inl t ↦ (
      let same : set (undone (set tours k c) (e ∷ log)) k x ≡ set (undone (set tours k c) log) k x =
      ap (λ j. set (set (undone (set tours k c) log) j e.1) k x) (t.1) ∙ set-set (undone (set tours k c) log) k e.1 x in
      let there : set (undone tours (e ∷ log)) k x ≡ set (undone tours log) k x =
      ap (λ j. set (set (undone tours log) j e.1) k x) (t.1) ∙ set-set (undone tours log) k e.1 x in
      same ∙ (set_over tours log k c x ∙ sym there))
  | inr t ↦
      set_comm (undone (set tours k c) log) (e.0 - 1) k e.1 x (t.1)
      ∙ (ap (λ l. set l (e.0 - 1) e.1) (set_over tours log k c x) ∙ sym (set_comm (undone tours log) (e.0 - 1) k e.1 x (t.1)))
]

-- another tour for a vehicle in the log changes nothing in the base
pub undone_same : (tours : List Course) (log : List (ℕ × Course)) (v : ℕ) (c : Course) → is_logged log v ≡ true
    → undone (set tours (v - 1) c) log ≡ undone tours log
undone_same tours [] v c had = absurd (let h : false ≡ true = had in cc)
undone_same tours (e ∷ log) v c had = elim (or_cases (eqb e.0 v) (is_logged log v) had) [
  | inl here ↦ (
      let is : e.0 ≡ v = eqb-true e.0 v here in
      subst (λ (u : ℕ). set (undone (set tours (u - 1) c) log) (e.0 - 1) e.1 ≡ set (undone tours log) (e.0 - 1) e.1) is (set_over tours log (e.0 - 1) c e.1))
  | inr later ↦ ap (λ l. set l (e.0 - 1) e.1) (undone_same tours log v c later)
]

-- another tour for a vehicle that is not in the log changes the base, too
set_below : (tours : List Course) (log : List (ℕ × Course)) (n v : ℕ) (c : Course) → 1 ≤ v → AreWithin n log → is_logged log v ≡ false
    → undone (set tours (v - 1) c) log ≡ set (undone tours log) (v - 1) c
set_below tours [] n v c from all none = refl
set_below tours (e ∷ log) n v c from all none =
    let parts = or_parts (eqb e.0 v) (is_logged log v) none in
    let apart : e.0 ≡ v → ⊥ = λ same. (let k : true ≡ false = sym (eq-eqb e.0 v same) ∙ parts.0 in cc) in
    ap (λ l. set l (e.0 - 1) e.1) (set_below tours log n v c from all.1 parts.1)
    ∙ sym (set_comm (undone tours log) (e.0 - 1) (v - 1) e.1 c (λ same. apart (omega arith)))

-- ---- one entry less
pub undone_without : (tours : List Course) (log : List (ℕ × Course)) (n k : ℕ) (e : ℕ × Course) → slice_get log k ≡ Some e
    → AreWithin n log → AreOnce log → undone (set tours (e.0 - 1) e.1) (remove log k) ≡ undone tours log
undone_without tours [] n k e at all once = absurd (none_some e at)
undone_without tours (x ∷ log) n zero e at all once =
    let is : x ≡ e = some_same x e at in
    subst (λ (y : ℕ × Course). undone (set tours (y.0 - 1) y.1) log ≡ set (undone tours log) (x.0 - 1) x.1) is
    (set_below tours log n x.0 x.1 all.0.0 all.1 once.0)
undone_without tours (x ∷ log) n (suc k) e at all once = ap (λ l. set l (x.0 - 1) x.1) (undone_without tours log n k e at all.1 once.1)

pub within_without : (n : ℕ) (log : List (ℕ × Course)) (k : ℕ) (e : ℕ × Course) → slice_get log k ≡ Some e → AreWithin n log
    → AreWithin n (remove log k) × ((1 ≤ e.0) × (e.0 ≤ n))
within_without n [] k e at all = absurd (none_some e at)
within_without n (x ∷ log) zero e at all = (all.1, subst (λ (y : ℕ × Course). (1 ≤ y.0) × (y.0 ≤ n)) (some_same x e at) all.0)
within_without n (x ∷ log) (suc k) e at all = let rest = within_without n log k e at all.1 in ((all.0, rest.0), rest.1)

logged_without : (log : List (ℕ × Course)) (k v : ℕ) → is_logged log v ≡ false → is_logged (remove log k) v ≡ false
logged_without [] zero v none = none
logged_without [] (suc k) v none = none
logged_without (x ∷ log) zero v none = (or_parts (eqb x.0 v) (is_logged log v) none).1
logged_without (x ∷ log) (suc k) v none =
    let parts = or_parts (eqb x.0 v) (is_logged log v) none in
    or_from (eqb x.0 v) (is_logged (remove log k) v) parts.0 (logged_without log k v parts.1)

pub once_without : (log : List (ℕ × Course)) (k : ℕ) → AreOnce log → AreOnce (remove log k)
once_without [] zero once = tt
once_without [] (suc k) once = tt
once_without (x ∷ log) zero once = once.1
once_without (x ∷ log) (suc k) once = (logged_without log k x.0 once.0, once_without log k once.1)

-- ---- the newest entry
logged_more : (log : List (ℕ × Course)) (v : ℕ) (c : Course) (u : ℕ) → is_logged log u ≡ false → (v ≡ u → ⊥) → is_logged (log ++ (v, c) ∷ []) u ≡ false
logged_more [] v c u none apart = or_from (eqb v u) false (ne_eqb v u apart) refl
logged_more (x ∷ log) v c u none apart =
    let parts = or_parts (eqb x.0 u) (is_logged log u) none in
    or_from (eqb x.0 u) (is_logged (log ++ (v, c) ∷ []) u) parts.0 (logged_more log v c u parts.1 apart)

pub once_more : (log : List (ℕ × Course)) (v : ℕ) (c : Course) → is_logged log v ≡ false → AreOnce log → AreOnce (log ++ (v, c) ∷ [])
once_more [] v c none once = (refl, tt)
once_more (x ∷ log) v c none once =
    let parts = or_parts (eqb x.0 v) (is_logged log v) none in
    let apart : v ≡ x.0 → ⊥ = λ same. (let k : true ≡ false = sym (eq-eqb x.0 v (sym same)) ∙ parts.0 in cc) in
    (logged_more log v c x.0 once.0 apart, once_more log v c parts.1 once.1)

-- ---- a vehicle's tour in the base
has_at : (log : List (ℕ × Course)) (k : ℕ) (e : ℕ × Course) → slice_get log k ≡ Some e → is_logged log e.0 ≡ true
has_at [] k e at = absurd (none_some e at)
has_at (x ∷ log) zero e at =
    subst (λ (y : ℕ × Course). is_logged (x ∷ log) y.0 ≡ true) (some_same x e at)
    (or_left (eqb x.0 x.0) (is_logged log x.0) (eq-eqb x.0 x.0 refl))
has_at (x ∷ log) (suc k) e at = or_right (eqb x.0 e.0) (is_logged log e.0) (has_at log k e at)

pub base_at : (tours : List Course) (log : List (ℕ × Course)) (n k : ℕ) (e : ℕ × Course) → slice_get log k ≡ Some e → AreWithin n log
    → AreOnce log → e.0 ≤ length tours → slice_get (undone tours log) (e.0 - 1) ≡ Some e.1
base_at tours [] n k e at all once within = absurd (none_some e at)
base_at tours (x ∷ log) n zero e at all once within =
    let is : x ≡ e = some_same x e at in
    let low = (subst (λ (y : ℕ × Course). 1 ≤ y.0) is all.0.0) in
    subst (λ (y : ℕ × Course). slice_get (undone tours (x ∷ log)) (e.0 - 1) ≡ Some y.1) is
    (base_first tours x log e.0 low within (ap (λ (y : ℕ × Course). y.0) is))
base_at tours (x ∷ log) n (suc k) e at all once within =
    let low = (within_without n log k e at all.1).1.0 in
    let apart : x.0 ≡ e.0 → ⊥ =
    λ same. absurd (let h : false ≡ true = sym (once.0) ∙ subst (λ v. is_logged log v ≡ true) (sym same) (has_at log k e at) in cc) in
    base_later tours x log e.0 low all.0.0 apart ∙ base_at tours log n k e at all.1 once.1 within

-- ---- whether an entry was found
pub not_logged : (o : Option ℕ) (log : List (ℕ × Course)) (v : ℕ) → MatchOption o (is_logged log v ≡ false) (λ k. IsEntry log v k)
    → is_none o ≡ true → is_logged log v ≡ false
not_logged None log v reported none = reported
not_logged (Some k) log v reported none = absurd (let h : false ≡ true = none in cc)

pub logged : (o : Option ℕ) (log : List (ℕ × Course)) (v : ℕ) → MatchOption o (is_logged log v ≡ false) (λ k. IsEntry log v k)
    → is_some o ≡ true → is_logged log v ≡ true
logged None log v reported some = absurd (let h : false ≡ true = some in cc)
logged (Some k) log v reported some = has_at log k (v, reported.0) reported.1

-- ---- room for a vehicle that is not in the log: 0, this vehicle and the vehicles of the log are distinct
-- numbers that are at most the fleet
apart_from : (log : List (ℕ × Course)) (v : ℕ) → is_logged log v ≡ false → AllByRecursion (λ u. eqb v u ≡ false) (map (λ e. e.0) log)
apart_from [] v none = tt
apart_from (e ∷ log) v none =
    let parts = or_parts (eqb e.0 v) (is_logged log v) none in
    (ne_eqb v e.0 (λ same. let k : true ≡ false = sym (eq-eqb e.0 v (sym same)) ∙ parts.0 in cc), apart_from log v parts.1)

distinct_once : (log : List (ℕ × Course)) → AreOnce log → IsDistinct eqb (map (λ e. e.0) log)
unfolding IsDistinct
distinct_once [] once = tt
distinct_once (e ∷ log) once = (apart_from log e.0 once.0, distinct_once log once.1)

apart_zero : (n : ℕ) (log : List (ℕ × Course)) → AreWithin n log → AllByRecursion (λ u. eqb 0 u ≡ false) (map (λ e. e.0) log)
apart_zero n [] all = tt
apart_zero n (e ∷ log) all =
    (ne_eqb 0 e.0 (λ h. omega arith), apart_zero n log all.1)

below_all : (n : ℕ) (log : List (ℕ × Course)) → AreWithin n log → (q : ℕ) → list_any (eqb q) (map (λ e. e.0) log) ≡ true → q < n + 1
below_all n [] all q some = absurd (let h : false ≡ true = some in cc)
below_all n (e ∷ log) all q some = elim (or_cases (eqb q e.0) (list_any (eqb q) (map (λ e. e.0) log)) some) [
  | inl here ↦ (let high = all.0.1 in let h = eqb-true q e.0 here in omega arith)
  | inr later ↦ below_all n log all.1 q later
]

pub room_left : (n : ℕ) (log : List (ℕ × Course)) (v : ℕ) → 1 ≤ v → v ≤ n → AreWithin n log → AreOnce log → is_logged log v ≡ false → length log + 1 ≤ n
unfolding IsDistinct
room_left n log v low high all once none =
    let vehicles = map (λ (e : ℕ × Course). e.0) log in
    let zero_v : eqb 0 v ≡ false = ne_eqb 0 v (λ h. omega arith) in
    let most = length-le_from_distinct_below (0 ∷ v ∷ vehicles) (n + 1) ((zero_v, apart_zero n log all), (apart_from log v none, distinct_once log once))
    (λ q some. elim (or_cases (eqb q 0) (eqb q v || list_any (eqb q) vehicles) some) [
      | inl here ↦ (let h = eqb-true q 0 here in omega arith)
      | inr later ↦ elim (or_cases (eqb q v) (list_any (eqb q) vehicles) later) [
        | inl here ↦ (let h = eqb-true q v here in omega arith)
        | inr among ↦ below_all n log all q among
      ]
    ]) in
    let long = length-map log (λ (e : ℕ × Course). e.0) in
    omega arith

-- ---- the invariant of a draft after a vehicle gets another tour
pub kept_with : (old new : Inside) (v : ℕ) (tour : Course) (vehicle_hints : List ℕ) → IsDraftInvariant old
    → new.tours.items ≡ set old.tours.items (v - 1) tour → new.vehicle_hints.items ≡ vehicle_hints
    → ((n : ℕ) → slice_get vehicle_hints n ≡ Some 0 → has (course_route tour) n ≡ false) → ((n : ℕ) → slice_get vehicle_hints n ≡ Some 0 → slice_get old.vehicle_hints.items n ≡ Some 0)
    → 1 ≤ v → v ≤ length old.tours.items → old.used_len ≤ new.used_len → v ≤ new.used_len → ((k : ℕ) → old.used_len ≤ k → v ≤ k → new.used_len ≤ k)
    → AreWithin (length old.tours.items) new.log.items → AreOnce new.log.items → vec_capacity new.log ≡ vec_capacity old.log
    → IsMaxDemandSet v tour old.max_demands.items new.max_demands.items → IsDraftInvariant new
kept_with old new v tour vehicle_hints kept is_tours is_hints out others from within low high least logs once room set_max_demand =
    let long = ap length is_tours ∙ length-set old.tours.items (v - 1) tour in
    record {
      vehicle_hints = subst (λ (l : List ℕ). AreVehicleHints l (plan_of new.tours.items)) (sym is_hints)
          (subst (λ (l : List Course). AreVehicleHints vehicle_hints (plan_of l)) (sym is_tours)
          (hints_with old.vehicle_hints.items vehicle_hints old.tours.items (v - 1) tour kept.vehicle_hints out others));
      within = subst (λ (k : ℕ). AreWithin k new.log.items) (sym long) logs;
      once = once;
      room = (let had = kept.room in omega arith);
      used_len = (let most = least (length old.tours.items) kept.used_len within in omega arith);
      idle = used_len_with old.tours.items new.tours.items v tour old.used_len new.used_len is_tours from kept.idle low high;
      max_demands = subst (λ (l : List ℤ). AreMaxDemands new.tours.items l) (sym set_max_demand.2)
          (subst (λ (l : List Course). AreMaxDemands l (set old.max_demands.items (v - 1) set_max_demand.0)) (sym is_tours)
          (set_rooms old.tours.items old.max_demands.items (v - 1) tour set_max_demand.0 kept.max_demands set_max_demand.1));
    }
