-- A draft and the data that it keeps.
use Rattle.std.proofs.Common.{◌≡◌, add-one, ℕ, zero, suc, ◌+◌, ◌-◌, ◌<◌, ◌≤◌, ◌||◌, not, Bool, true, false, List, [], ◌∷◌, ◌++◌}
use Rattle.std.proofs.Common.{length, drop, map, set, get_or, Option, Some, slice_get, refl, sym, ap, subst, ◌∙◌, inl, inr, arith, nat_eq, ◌⊎◌, filter}
use Rattle.std.specs.Prelude.{unwrap_or}
use Rattle.std.specs.List.{concat}
use Rattle.std.proofs.lemmas.Bool.{cases_Bool, cases_lt, or_left, or_right, or_parts, or_from}
use Rattle.std.proofs.lemmas.Bool.Decides.{eqb_tells}
use Rattle.std.proofs.lemmas.List.{drop_more, length-set, map-set}
use Rattle.std.proofs.lemmas.List.Folds.{list_any-append}
use Rattle.route_sched.specs.Cost.{has_stop}
use Rattle.plan_audit.specs.Passes.{has}
use Rattle.slack_tables.specs.Course.{Course, course_of, course_route}
use Rattle.move_ops.specs.Insertion.{route_of}
use Rattle.move_ops.specs.Moves.{is_of_named, without_named}
use Rattle.move_ops.specs.Tables.{plan_of, tables_of}
use Rattle.plan_types.specs.Instance.{Instance}
use Rattle.route_sched.specs.Cost.{cost_of}
use Rattle.plan_audit.specs.Passes.{passes}
use Rattle.move_ops.specs.Tables.{AreTablesIn}
use Rattle.move_ops.specs.Drafts.{DraftState, undone, draft_of, AreIdleAfter, IsDraftOf}
use Rattle.move_ops.specs.DraftInvariant.{AreVehicleHints}
use Rattle.move_ops.specs.FreshTables.{AreWithin}
use Rattle.move_ops.proofs.QueryLemmas.{course_at, route_at}
use Rattle.move_ops.proofs.OccurrenceLemmas.{some_same}
use Rattle.move_ops.proofs.ReplacementLemmas.{get_set, get_set_other, item_set_other}
use Rattle.std.proofs.lemmas.Option.{slice_get_past, slice_get_within}

-- ---- vehicle hints
-- a stop whose hint is 0 had this hint before, and is not the stop that gets a hint now
pub hint_set : (n x v : ℕ) → 1 ≤ v → (vehicle_hints : List ℕ) → x < length vehicle_hints → slice_get (set vehicle_hints x v) n ≡ Some 0
    → (nat_eq n x ≡ false) × (slice_get vehicle_hints n ≡ Some 0)
hint_set n x v some vehicle_hints within at = elim (eqb_tells n x) [
  | inl t ↦ absurd (let e : v ≡ 0 = some_same v 0 (sym (get_set vehicle_hints x v within) ∙ (ap (λ k. slice_get (set vehicle_hints x v) k) (sym t.1) ∙ at)) in omega arith)
  | inr t ↦ (t.0, sym (get_set_other vehicle_hints x n v t.1) ∙ at)
]

pub hint_outside : (n x : ℕ) → (vehicle_hints : List ℕ) → length vehicle_hints ≤ x → slice_get vehicle_hints n ≡ Some 0 → nat_eq n x ≡ false
hint_outside n x vehicle_hints out at = elim (eqb_tells n x) [
  | inl t ↦ absurd (let h = slice_get_within vehicle_hints n 0 at in let e = t.1 in omega arith)
  | inr t ↦ t.0
]

-- a number is in a list from index k on exactly if it is at index k or after it
pub has_more : (xs : List ℕ) (k n : ℕ) → k < length xs → has (drop k xs) n ≡ nat_eq n (get_or xs k 0) || has (drop (k + 1) xs) n
has_more xs k n below = ap (λ ys. has ys n) (drop_more xs k 0 below)

-- ---- routes of which one changes
append_false : (n : ℕ) (xs ys : List ℕ) → has (xs ++ ys) n ≡ false → (has xs n ≡ false) × (has ys n ≡ false)
append_false n xs ys none = or_parts (has xs n) (has ys n) (sym (list_any-append (nat_eq n) xs ys) ∙ none)

-- a number that neither the routes nor the new route has is in no route after the change
pub none_with : (n : ℕ) (routes : List (List ℕ)) (k : ℕ) (new : List ℕ) → has_stop routes n ≡ false → has new n ≡ false → has_stop (set routes k new) n ≡ false
none_with n [] k new none out = none
none_with n (r ∷ routes) zero new none out =
    let h = append_false n r (concat routes) none in
    list_any-append (nat_eq n) new (concat routes) ∙ or_from (has new n) (has_stop routes n) out h.1
none_with n (r ∷ routes) (suc k) new none out =
    let h = append_false n r (concat routes) none in
    list_any-append (nat_eq n) r (concat (set routes k new)) ∙ or_from (has r n) (has_stop (set routes k new) n) h.0 (none_with n routes k new h.1 out)

-- the plan of the tables with another table for a vehicle
pub plan_with : (tables : List Course) (k : ℕ) (c : Course) → plan_of (set tables k c) ≡ set (plan_of tables) k (course_route c)
plan_with tables k c = map-set course_route tables k c

pub hints_with : (old new : List ℕ) (tables : List Course) (k : ℕ) (c : Course) → AreVehicleHints old (plan_of tables)
    → ((n : ℕ) → slice_get new n ≡ Some 0 → has (course_route c) n ≡ false)
    → ((n : ℕ) → slice_get new n ≡ Some 0 → slice_get old n ≡ Some 0) → AreVehicleHints new (plan_of (set tables k c))
hints_with old new tables k c are out kept n at =
    ap (λ (l : List (List ℕ)). has_stop l n) (plan_with tables k c) ∙ none_with n (plan_of tables) k (course_route c) (are n (kept n at)) (out n at)

-- ---- vehicles after the used part
idle_with : (routes : List (List ℕ)) (v : ℕ) (route : List ℕ) (old new : ℕ) → 1 ≤ v → AreIdleAfter old routes → old ≤ new → v ≤ new
    → AreIdleAfter new (set routes (v - 1) route)
idle_with routes v route old new from idle more within u above =
    ap (λ (o : Option (List ℕ)). length (unwrap_or o [])) (item_set_other routes v u route from (λ same. absurd (omega arith))) ∙ idle u (omega arith)

pub used_len_with : (tours set_tours : List Course) (v : ℕ) (tour : Course) (old new : ℕ) → set_tours ≡ set tours (v - 1) tour → 1 ≤ v
    → AreIdleAfter old (plan_of tours) → old ≤ new → v ≤ new → AreIdleAfter new (plan_of set_tours)
used_len_with tours set_tours v tour old new is from idle more within =
    subst (AreIdleAfter new) (sym (ap plan_of is ∙ plan_with tours (v - 1) tour)) (idle_with (plan_of tours) v (course_route tour) old new from idle more within)

-- after the last vehicle there is none
pub idle_after_all : (routes : List (List ℕ)) (k : ℕ) → length routes ≤ k → AreIdleAfter k routes
idle_after_all routes k all zero above = refl
idle_after_all routes k all (suc u) above = ap (λ (o : Option (List ℕ)). length (unwrap_or o [])) (slice_get_past routes u (omega arith))

-- the used part may be one vehicle shorter if its last vehicle has no stops
pub idle_before : (routes : List (List ℕ)) (k : ℕ) → AreIdleAfter (k + 1) routes → length (route_of routes (k + 1)) ≡ 0 → AreIdleAfter k routes
idle_before routes k idle none u above = elim (cases_lt (k + 1) u) [
  | inl more ↦ idle u more
  | inr less ↦ (let same : u ≡ k + 1 = omega arith in ap (λ v. length (route_of routes v)) same ∙ none)
]

-- ---- the log
undone_more : (tours : List Course) (log : List (ℕ × Course)) (v : ℕ) (c : Course) → undone tours (log ++ (v, c) ∷ []) ≡ undone (set tours (v - 1) c) log
undone_more tours [] v c = refl
undone_more tours (e ∷ log) v c = ap (λ (l : List Course). set l (e.0 - 1) e.1) (undone_more tours log v c)

set_back : (tours : List Course) (k : ℕ) (c d : Course) → slice_get tours k ≡ Some d → set (set tours k c) k d ≡ tours
set_back [] k c d at = refl
set_back (t ∷ tours) zero c d at = ap (λ (x : Course). x ∷ tours) (sym (some_same t d at))
set_back (t ∷ tours) (suc k) c d at = ap (λ l. t ∷ l) (set_back tours k c d at)

pub undone_with : (tours new : List Course) (log more : List (ℕ × Course)) (v : ℕ) (c d : Course) → slice_get tours (v - 1) ≡ Some d
    → new ≡ set tours (v - 1) c → more ≡ log ++ (v, d) ∷ [] → undone new more ≡ undone tours log
undone_with tours new log more v c d at is_new is_more =
    ap (λ l. undone l more) is_new
    ∙ (ap (λ l. undone (set tours (v - 1) c) l) is_more
    ∙ (undone_more (set tours (v - 1) c) log v d ∙ ap (λ l. undone l log) (set_back tours (v - 1) c d at)))

pub within_more : (n : ℕ) (log : List (ℕ × Course)) (v : ℕ) (c : Course) → 1 ≤ v → v ≤ n → AreWithin n log → AreWithin n (log ++ (v, c) ∷ [])
within_more n [] v c low high all = ((low, high), tt)
within_more n (e ∷ log) v c low high all = (all.0, within_more n log v c low high all.1)

-- ---- a vehicle's route
pub vehicle_route : (tours : List Course) (v : ℕ) (c : Course) → (v ≡ 0 → ⊥) → v - 1 < length tours → c ≡ get_or tours (v - 1) c
    → course_route c ≡ route_of (plan_of tours) v
vehicle_route tours zero c some below at = absurd (some refl)
vehicle_route tours (suc k) c some below at =
    let e : suc k - 1 ≡ k = omega arith in sym (route_at tours k c (rw e at at) (omega arith)) ∙ ap (route_of (plan_of tours)) (add-one k)

-- ---- the log gets shorter
pub undone_none : (tours : List Course) (log : List (ℕ × Course)) → length log ≡ 0 → undone tours log ≡ tours
undone_none tours [] none = refl
undone_none tours (e ∷ log) none = absurd (omega arith)

module _ (old new : DraftState) (none : length new.log ≡ 0) (pinned : new.pinned ≡ old.pinned) where
  new_undone : undone new.tours new.log ≡ new.tours
  new_undone = undone_none new.tours new.log none

  module _ (back : undone new.tours new.log ≡ undone old.tours old.log) where
    pub dropped_tours : new.tours ≡ undone old.tours old.log
    dropped_tours = sym new_undone ∙ back

    pub dropped : (p : Instance) (pins : List (List ℕ)) → new.cost ≡ old.base_cost → new.base_cost ≡ old.base_cost → IsDraftOf p pins old → IsDraftOf p pins new
    dropped p pins cost base_cost is = record {
      valid = is.valid;
      base = subst (λ (t : List Course). passes p pins (plan_of t) ≡ true) (sym back) (is.base);
      draft = subst (λ (t : List Course). passes p pins (plan_of t) ≡ true) (sym dropped_tours) (is.base);
      base_tables = subst (AreTablesIn p) (sym back) (is.base_tables);
      tables = subst (AreTablesIn p) (sym dropped_tours) (is.base_tables);
      pinned = subst (λ (m : List Bool). (n : ℕ) → n < length m → get_or m n false ≡ has_stop pins n) (sym pinned) (is.pinned);
      cost = cost ∙ (is.base_cost ∙ ap (λ (t : List Course). cost_of p (plan_of t)) (sym dropped_tours));
      base_cost = base_cost ∙ (is.base_cost ∙ ap (λ (t : List Course). cost_of p (plan_of t)) (sym back));
    }

-- ---- a vehicle's tour in the base
length_undone : (tours : List Course) (log : List (ℕ × Course)) → length (undone tours log) ≡ length tours
length_undone tours [] = refl
length_undone tours (e ∷ log) = length-set (undone tours log) (e.0 - 1) e.1 ∙ length_undone tours log

-- the oldest log entry of a vehicle has its tour in the base
pub base_first : (tours : List Course) (e : ℕ × Course) (log : List (ℕ × Course)) (v : ℕ) → 1 ≤ v → v ≤ length tours → e.0 ≡ v
    → slice_get (undone tours (e ∷ log)) (v - 1) ≡ Some e.1
base_first tours e log v from within same =
    ap (λ k. slice_get (set (undone tours log) (k - 1) e.1) (v - 1)) same
    ∙ get_set (undone tours log) (v - 1) e.1 (omega (arith, length_undone tours log))

pub base_later : (tours : List Course) (e : ℕ × Course) (log : List (ℕ × Course)) (v : ℕ) → 1 ≤ v → 1 ≤ e.0 → (e.0 ≡ v → ⊥)
    → slice_get (undone tours (e ∷ log)) (v - 1) ≡ slice_get (undone tours log) (v - 1)
base_later tours e log v from above other = get_set_other (undone tours log) (e.0 - 1) (v - 1) e.1 (λ same. other (omega arith))

got : (tours : List Course) (k : ℕ) (b d : Course) → slice_get tours k ≡ Some b → b ≡ get_or tours k d
got [] k b d at = absurd (cc)
got (t ∷ tours) zero b d at = some_same b t (sym at)
got (t ∷ tours) (suc k) b d at = got tours k b d at

-- the vehicle's tour in the base is the table of its route
pub base_course : (p : Instance) (tours : List Course) (k : ℕ) (b : Course) → slice_get tours k ≡ Some b → AreTablesIn p tours → course_of p (course_route b) ≡ b
base_course p tours k b at tables = course_at tours k b (got tours k b b at) (slice_get_within tours k b at) p tables

-- ---- the draft becomes another plan
module _ (p : Instance) (pins : List (List ℕ)) (old new : DraftState) (is : IsDraftOf p pins old)
    (back : undone new.tours new.log ≡ undone old.tours old.log) (pinned : new.pinned ≡ old.pinned)
    (base_cost : new.base_cost ≡ old.base_cost) where
  pub changed : passes p pins (draft_of new) ≡ true → AreTablesIn p new.tours → new.cost ≡ cost_of p (draft_of new) → IsDraftOf p pins new
  changed good tables cost = record {
    valid = is.valid;
    base = subst (λ (t : List Course). passes p pins (plan_of t) ≡ true) (sym back) (is.base);
    draft = good;
    base_tables = subst (AreTablesIn p) (sym back) (is.base_tables);
    tables = tables;
    pinned = subst (λ (m : List Bool). (n : ℕ) → n < length m → get_or m n false ≡ has_stop pins n) (sym pinned) (is.pinned);
    cost = cost;
    base_cost = base_cost ∙ (is.base_cost ∙ ap (λ (t : List Course). cost_of p (plan_of t)) (sym back));
  }

-- ---- the stops of tours
pub has_in_vehicle : (routes : List (List ℕ)) (v n : ℕ) → has (route_of routes v) n ≡ true → has_stop routes n ≡ true
has_in_vehicle routes zero n had = absurd (let h : false ≡ true = had in cc)
has_in_vehicle [] (suc k) n had = absurd (let h : false ≡ true = had in cc)
has_in_vehicle (r ∷ routes) (suc zero) n had = list_any-append (nat_eq n) r (concat routes) ∙ or_left (has r n) (has_stop routes n) had
has_in_vehicle (r ∷ routes) (suc (suc k)) n had =
    list_any-append (nat_eq n) r (concat routes) ∙ or_right (has r n) (has_stop routes n) (has_in_vehicle routes (suc k) n had)

-- ---- the tables with another table for a vehicle
pub tables_with : (p : Instance) (tours : List Course) (k : ℕ) (tour : Course) → AreTablesIn p tours
    → course_of p (course_route tour) ≡ tour → AreTablesIn p (set tours k tour)
tables_with p tours k tour are is =
    ap (tables_of p) (plan_with tours k tour)
    ∙ (map-set (course_of p) (plan_of tours) k (course_route tour)
    ∙ (ap (λ l. set l k (course_of p (course_route tour))) are ∙ ap (λ t. set tours k t) is))

-- ---- stops that are in no route any more
pub hint_cleared : (n x : ℕ) (vehicle_hints : List ℕ) → x < length vehicle_hints → slice_get (set vehicle_hints x 0) n ≡ Some 0 → (n ≡ x) ⊎ (slice_get vehicle_hints n ≡ Some 0)
hint_cleared n x vehicle_hints within at = elim (eqb_tells n x) [
  | inl t ↦ inl t.1
  | inr t ↦ inr (sym (get_set_other vehicle_hints x n 0 t.1) ∙ at)
]

gone_in : (keep : ℕ → Bool) (n : ℕ) → keep n ≡ false → (xs : List ℕ) → has (filter keep xs) n ≡ false
gone_in keep n out [] = refl
gone_in keep n out (x ∷ xs) = elim (eqb_tells n x) [
  | inl t ↦ (let left : keep x ≡ false = ap keep (sym t.1) ∙ out in rw left (gone_in keep n out xs))
  | inr t ↦ elim (cases_Bool (keep x)) [
    | inl kept ↦ rw (kept, t.0) (gone_in keep n out xs)
    | inr left ↦ rw left (gone_in keep n out xs)
  ]
]

gone : (keep : ℕ → Bool) (n : ℕ) → keep n ≡ false → (routes : List (List ℕ)) → has_stop (map (filter keep) routes) n ≡ false
gone keep n out [] = refl
gone keep n out (r ∷ routes) =
    list_any-append (nat_eq n) (filter keep r) (concat (map (filter keep) routes))
    ∙ or_from (has (filter keep r) n) (has_stop (map (filter keep) routes) n) (gone_in keep n out r) (gone keep n out routes)

pub named_gone : (p : Instance) (names : List ℕ) (routes given : List (List ℕ)) → given ≡ without_named p names routes → (n : ℕ)
    → is_of_named p names n ≡ true → has_stop given n ≡ false
named_gone p names routes given are n named = ap (λ (l : List (List ℕ)). has_stop l n) are ∙ gone (λ m. not (is_of_named p names m)) n (rw named refl) routes
