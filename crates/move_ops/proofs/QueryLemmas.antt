-- The search for a best insertion over tables: each vehicle has the table of its route.
use Rattle.std.proofs.Common.{◌≡◌, ◌⊎◌, ℕ, zero, suc, ◌+◌, ◌-◌, ◌<◌, ◌≤◌, true, List, [], ◌∷◌}
use Rattle.std.proofs.Common.{length, map, get_or, slice_get, Option, Some, add-one, sym, ap, subst, ◌∙◌, inl, inr, arith}
use Rattle.std.specs.Prelude.{unwrap_or}
use Rattle.std.specs.Option.{option_map}
use Rattle.std.proofs.Math.ListN.{get_or-map, length-map}
use Rattle.std.proofs.lemmas.List.{get_or_default}
use Rattle.std.proofs.lemmas.List.Elements.{All-get_or}
use Rattle.std.proofs.lemmas.Bool.{cases_lt}
use Rattle.std.proofs.lemmas.Option.{slice_get-get_or, slice_get_within}
use Rattle.plan_types.specs.Instance.{Instance, IsInstance}
use Rattle.plan_types.specs.Request.{request_name, IsRequest}
use Rattle.plan_types.specs.declared.requests.Request.{Request}
use Rattle.route_sched.specs.Route.{AreDistinctStops}
use Rattle.plan_audit.specs.Alone.{IsFeasibleAlone}
use Rattle.plan_audit.specs.Locality.{PassingIsLocal, PlansAreDisjointRoutes, FeasibleAloneDecidesFeasibility}
use Rattle.plan_audit.specs.Passes.{passes}
use Rattle.plan_audit.specs.Rules.{HasStopAt}
use Rattle.slack_tables.specs.Course.{Course, course_of, course_route, IsCourseIn}
use Rattle.slack_tables.specs.Insertion.{KeepsLimits}
use Rattle.slack_tables.specs.RequestFloors.{AreDistances}
use Rattle.slack_tables.specs.declared.request.RequestDistances.{RequestDistances}
use Rattle.slack_tables.proofs.InsertLemmas.{request-valid}
use Rattle.move_ops.specs.Insertion.{route_of}
use Rattle.move_ops.specs.Laws.{PlansPassWithoutPins}
use Rattle.move_ops.specs.FreshTables.{AreWithin}
use Rattle.move_ops.specs.Tables.{plan_of, AreTablesIn}
use Rattle.move_ops.specs.InsertionSearch.{candidate_place, InsertionLaws, IsQuery, IsBestAmongThese, IsBestWithin, IsEntryOf}
use Rattle.move_ops.specs.InsertionSearch.{IsScannable, IsScanned, IsEntryWithStops, IsEntryOrUpTo, HasIdle, IsBetter, IsScanLen}
use Rattle.move_ops.specs.declared.tables.Candidate.{Candidate}
use Rattle.move_ops.specs.declared.tables.Limit.{Limit}
use Rattle.move_ops.proofs.FitLemmas.{route_limits}
use Rattle.move_ops.proofs.ReplacementLemmas.{parts}
use Rattle.move_ops.proofs.OccurrenceLemmas.{none_some, some_same}
use Rattle.move_ops.proofs.ChoiceLemmas.{pin_within, bettered, skipped, these_same, answer_is}

-- the table at an index is that of the vehicle's route
module _ (courses : List Course) (k : ℕ) (c : Course) (is : c ≡ get_or courses k c) (in_range : k < length courses) where
  pub course_at : (p : Instance) → AreTablesIn p courses → IsCourseIn p c
  course_at p tables =
      let here : get_or (map (course_of p) (map course_route courses)) k (course_of p (course_route c))
      ≡ course_of p (get_or (map course_route courses) k (course_route c)) =
      get_or-map (course_of p) (map course_route courses) k (course_route c) in
      let there : get_or (map course_route courses) k (course_route c) ≡ course_route (get_or courses k c) = get_or-map course_route courses k c in
      let back : course_route (get_or courses k c) ≡ course_route c = ap course_route (sym is) in
      let within : k < length (map (course_of p) (map course_route courses)) = (let e = ap length tables in omega arith) in
      sym (ap (course_of p) (there ∙ back))
      ∙ (sym here ∙ (get_or_default (map (course_of p) (map course_route courses)) k (course_of p (course_route c)) c within
      ∙ (ap (λ (l : List Course). get_or l k c) tables ∙ sym is)))

  pub route_at : route_of (plan_of courses) (k + 1) ≡ course_route c
  route_at =
      let some : slice_get (map course_route courses) k ≡ Some (get_or (map course_route courses) k (course_route c)) =
      slice_get-get_or (map course_route courses) k (course_route c) (let e = length-map courses course_route in omega arith) in
      let there : get_or (map course_route courses) k (course_route c) ≡ course_route (get_or courses k c) = get_or-map course_route courses k c in
      subst (λ i. route_of (plan_of courses) i ≡ course_route c) (sym (add-one k))
      (ap (λ (o : Option (List ℕ)). unwrap_or o []) some ∙ (there ∙ ap course_route (sym is)))

  pub stops_long : length (course_route c) ≡ length c.stops
  stops_long = length-map c.stops (λ s. s.number)

no_entry : (k : ℕ) (e : ℕ × Course) → slice_get [] k ≡ Some e → ⊥
no_entry zero e at = none_some e at
no_entry (suc k) e at = none_some e at

-- each entry has a vehicle of the fleet
pub within_at : (n : ℕ) (entries : List (ℕ × Course)) (j : ℕ) (e : ℕ × Course) → AreWithin n entries → slice_get entries j ≡ Some e → (1 ≤ e.0) × (e.0 ≤ n)
within_at n [] k e all at = absurd (no_entry k e at)
within_at n (x ∷ xs) zero e all at = subst (λ (f : ℕ × Course). (1 ≤ f.0) × (f.0 ≤ n)) (some_same x e at) all.0
within_at n (x ∷ xs) (suc k) e all at = within_at n xs k e all.1 at

-- the entry at an index, and its vehicle
pub entry_at : (n : ℕ) (entries : List (ℕ × Course)) (j : ℕ) (d : ℕ × Course) (v : ℕ) → AreWithin n entries → j < length entries → v ≡ (get_or entries j d).0
    → (slice_get entries j ≡ Some (get_or entries j d)) × ((get_or entries j d).0 ≡ v - 1 + 1) × (v ≡ v - 1 + 1) × (v - 1 < n)
entry_at n entries j d v all below is =
    let at = slice_get-get_or entries j d below in
    let w = within_at n entries j (get_or entries j d) all at in
    (at, omega arith, omega arith, omega arith)

pub idle_more : (routes : List (List ℕ)) (k : ℕ) → HasIdle routes k → HasIdle routes (k + 1)
idle_more routes k idle = (idle.0, idle.1, (let h = idle.2 in omega arith), idle.3, idle.4)

module _ (laws : InsertionLaws) {p : Instance} {pins : List (List ℕ)} {courses : List Course} {r : Request} (query : IsQuery p pins courses r) where
  pub request_valid : IsRequest r
  request_valid = request-valid p (request_name r) r query.valid (query.named)

  module _ (entries : List (ℕ × Course)) where
    abbrev Scanned : ℕ → ℕ → Type 0
    Scanned k v = IsEntryOrUpTo (plan_of courses) entries k v

    -- with one more vehicle searched, a searched vehicle is still a searched one
    one_on : (k v : ℕ) → Scanned k v → Scanned (k + 1) v
    one_on k v seen = elim seen [ inl up ↦ inl (up.0, (let h = up.1 in omega arith)) | inr named ↦ inr named ]

    one_off : (k u : ℕ) → Scanned (k + 1) u → (u ≡ k + 1) ⊎ Scanned k u
    one_off k u seen = elim seen [
      | inl up ↦ elim (cases_lt k u) [ inl more ↦ inl (let h = up.1 in omega arith) | inr less ↦ inr (inl (up.0, less)) ]
      | inr named ↦ inr (inr named)
    ]

    -- before the first vehicle is searched, only the vehicles of the entries have been searched
    pub from_named : (l : Limit) (best : Option Candidate)
        → IsBestAmongThese p pins (plan_of courses) r l (IsEntryWithStops (plan_of courses) entries (length entries)) best
        → IsBestAmongThese p pins (plan_of courses) r l (Scanned 0) best
    from_named l best first =
        these_same p pins (plan_of courses) r l (IsEntryWithStops (plan_of courses) entries (length entries)) (Scanned 0) (λ u named. inr named)
        (λ u seen. elim seen [ inl none ↦ absurd (let low = none.0 in let high = none.1 in omega arith) | inr named ↦ named ]) best first

    pub answered : (l : Limit) (answer : Option Candidate) → IsBestAmongThese p pins (plan_of courses) r l (Scanned (length courses)) answer
        → IsBestWithin p pins (plan_of courses) r l (option_map candidate_place answer)
    answered l answer up =
        answer_is laws query l (Scanned (length courses)) (λ v from high. inl (from, (let e = length-map courses course_route in omega arith))) answer up

    -- each vehicle that is not searched has no stops, like one that was searched
    rest_skipped : (l : Limit) (left k : ℕ) → k + left ≡ length (plan_of courses)
        → ((v : ℕ) → k < v → v ≤ length (plan_of courses) → HasIdle (plan_of courses) k × (length (route_of (plan_of courses) v) ≡ 0))
        → (best : Option Candidate) → IsBestAmongThese p pins (plan_of courses) r l (Scanned k) best
        → IsBestAmongThese p pins (plan_of courses) r l (Scanned (length courses)) best
    rest_skipped l zero k all idle best old =
        let e = length-map courses course_route in
        subst (λ n. IsBestAmongThese p pins (plan_of courses) r l (Scanned n) best) (omega arith) old
    rest_skipped l (suc left) k all idle best old =
        let here = idle (k + 1) (omega arith) (omega arith) in
        rest_skipped l left (k + 1) (omega arith) (λ v above within. let h = idle v (omega arith) within in (idle_more (plan_of courses) k h.0, h.1)) best
        (skipped laws query l (Scanned k) (Scanned (k + 1)) (k + 1) (omega arith) (omega arith) (one_on k) (one_off k)
        (inl (omega arith, omega arith)) here.1 k (omega arith) (λ u from le. inl (from, le)) here.0 best old)

    pub beyond : (l : Limit) (end : ℕ) → end ≤ length courses → IsScanLen (plan_of courses) end → (best : Option Candidate)
        → IsBestAmongThese p pins (plan_of courses) r l (Scanned end) best
        → IsBestAmongThese p pins (plan_of courses) r l (Scanned (length courses)) best
    beyond l end within reach best old =
        let e = length-map courses course_route in
        rest_skipped l (length (plan_of courses) - end) end (omega arith) reach best old

  module _ (k : ℕ) (c : Course) (is : c ≡ get_or courses k c) (in_range : k < length courses) where
    pin_fits : length (route_of pins (k + 1)) ≤ length c.stops
    pin_fits =
        let f = pin_within laws.local p pins (plan_of courses) query.good (k + 1) in
        let g = ap length (route_at courses k c is in_range) in
        let h = stops_long courses k c is in_range in
        omega arith

    -- the requirements for a search at the vehicle of the table
    pub lookable : (ways : RequestDistances) → AreDistances p.depot r ways → IsScannable p pins r ways (k + 1) c
    lookable ways are = record {
      problem = query.valid;
      course = course_at courses k c is in_range p query.tables;
      request = query.named;
      valid = request_valid;
      ways = are;
      pin = pin_fits;
    }

    high : k + 1 ≤ length (plan_of courses)
    high = let e = length-map courses course_route in omega arith

    empty_at : length c.stops ≡ 0 → length (route_of (plan_of courses) (k + 1)) ≡ 0
    empty_at none = let g = ap length (route_at courses k c is in_range) in let h = stops_long courses k c is in_range in omega arith

    pub idle_here : length c.stops ≡ 0 → HasIdle (plan_of courses) (k + 1)
    idle_here none = (k + 1, omega arith, omega arith, high, empty_at none)

    few_stops : length c.stops ≤ 40001 → length (route_of (plan_of courses) (k + 1)) ≤ 40001
    few_stops few = let g = ap length (route_at courses k c is in_range) in let h = stops_long courses k c is in_range in omega arith

    -- a statement about the table, as one about the plan
    by_plan : (l : Limit) (best result : Option Candidate) → IsBetter p (course_route c) r (length (route_of pins (k + 1))) (k + 1) l best result
        → IsBetter p (route_of (plan_of courses) (k + 1)) r (length (route_of pins (k + 1))) (k + 1) l best result
    by_plan l best result better =
        subst (λ (route : List ℕ). IsBetter p route r (length (route_of pins (k + 1))) (k + 1) l best result)
        (sym (route_at courses k c is in_range)) better

    module _ (entries : List (ℕ × Course)) where
      named_on : (n u : ℕ) → IsEntryWithStops (plan_of courses) entries n u → IsEntryWithStops (plan_of courses) entries (n + 1) u
      named_on n u was =
          record {
            place = was.place;
            entry = was.entry;
            below = (let h = was.below in omega arith);
            at = was.at;
            same = was.same;
            some = was.some;
          }

      named_off : (n : ℕ) (e : ℕ × Course) → slice_get entries n ≡ Some e → e.0 ≡ k + 1 → (u : ℕ)
          → IsEntryWithStops (plan_of courses) entries (n + 1) u → (u ≡ k + 1) ⊎ IsEntryWithStops (plan_of courses) entries n u
      named_off n e at same u was = elim (cases_lt was.place n) [
        | inl less ↦ inr (record { place = was.place; entry = was.entry; below = less; at = was.at; same = was.same; some = was.some })
        | inr more ↦ inl (
            let last : was.place ≡ n = (let h = was.below in omega arith) in
            let one : was.entry ≡ e = some_same was.entry e (sym was.at ∙ (ap (slice_get entries) last ∙ at)) in
            sym was.same ∙ (ap (λ (x : ℕ × Course). x.0) one ∙ same))
      ]

      -- the case of an entry whose vehicle has stops
      pub named_more : (l : Limit) (n : ℕ) (e : ℕ × Course) → slice_get entries n ≡ Some e → e.0 ≡ k + 1 → 1 ≤ length c.stops
          → length c.stops ≤ 40001 → (best result : Option Candidate)
          → IsBestAmongThese p pins (plan_of courses) r l (IsEntryWithStops (plan_of courses) entries n) best
          → IsScanned p (course_route c) r (length (route_of pins (k + 1))) [] (k + 1) l best result
          → IsBestAmongThese p pins (plan_of courses) r l (IsEntryWithStops (plan_of courses) entries (n + 1)) result
      named_more l n e at same some few best result old looked =
          let g = ap length (route_at courses k c is in_range) in
          let h = stops_long courses k c is in_range in
          bettered laws query l (IsEntryWithStops (plan_of courses) entries n) (IsEntryWithStops (plan_of courses) entries (n + 1)) (k + 1)
          (omega arith) high (named_on n) (named_off n e at same)
          (record { place = n; entry = e; below = omega arith; at = at; same = same; some = omega arith }) (few_stops few) best result old
          (by_plan l best result (elim looked [ inl better ↦ better | inr known ↦ absurd (no_entry known.1.0 known.1.1 known.1.2) ]))

      -- the case of an entry whose vehicle has no stops
      pub named_idle : (l : Limit) (n : ℕ) (e : ℕ × Course) → slice_get entries n ≡ Some e → e.0 ≡ k + 1 → length c.stops ≡ 0 → (best : Option Candidate)
          → IsBestAmongThese p pins (plan_of courses) r l (IsEntryWithStops (plan_of courses) entries n) best
          → IsBestAmongThese p pins (plan_of courses) r l (IsEntryWithStops (plan_of courses) entries (n + 1)) best
      named_idle l n e at same none best old =
          these_same p pins (plan_of courses) r l (IsEntryWithStops (plan_of courses) entries n) (IsEntryWithStops (plan_of courses) entries (n + 1)) (named_on n) back best old
        where
          back : (u : ℕ) → IsEntryWithStops (plan_of courses) entries (n + 1) u → IsEntryWithStops (plan_of courses) entries n u
          back u was = elim (named_off n e at same u was) [
            | inl here ↦ absurd (let some = was.some in let f = ap (λ w. length (route_of (plan_of courses) w)) here in let g = empty_at none in omega arith)
            | inr before ↦ before
          ]

      pub one_more : (l : Limit) → length c.stops ≤ 40001 → (best result : Option Candidate) → IsBestAmongThese p pins (plan_of courses) r l (Scanned entries k) best
          → IsScanned p (course_route c) r (length (route_of pins (k + 1))) entries (k + 1) l best result
          → IsBestAmongThese p pins (plan_of courses) r l (Scanned entries (k + 1)) result
      one_more l few best result old looked = elim looked [
        | inl better ↦ bettered laws query l (Scanned entries k) (Scanned entries (k + 1)) (k + 1) (omega arith) high (one_on entries k)
            (one_off entries k) (inl (omega arith, omega arith)) (few_stops few) best result old (by_plan l best result better)
        | inr known ↦ subst (IsBestAmongThese p pins (plan_of courses) r l (Scanned entries (k + 1))) (sym known.2)
            (these_same p pins (plan_of courses) r l (Scanned entries k) (Scanned entries (k + 1)) (one_on entries k)
            (λ u seen. elim (one_off entries k u seen) [
              | inl here ↦ subst (Scanned entries k) (sym here)
                  (inr (there known.0 known.1))
              | inr before ↦ before
            ]) best old)
      ]
        where
          there : 1 ≤ length (course_route c) → IsEntryOf entries (k + 1) → IsEntryWithStops (plan_of courses) entries (length entries) (k + 1)
          there long entry =
              record {
                place = entry.0;
                entry = entry.1;
                below = slice_get_within entries entry.0 entry.1 entry.2;
                at = entry.2;
                same = entry.3;
                some = (let g = ap length (route_at courses k c is in_range) in omega arith);
              }

      pub one_skipped : (l : Limit) → length c.stops ≡ 0 → HasIdle (plan_of courses) k → (best : Option Candidate)
          → IsBestAmongThese p pins (plan_of courses) r l (Scanned entries k) best
          → IsBestAmongThese p pins (plan_of courses) r l (Scanned entries (k + 1)) best
      one_skipped l none idle best old =
          skipped laws query l (Scanned entries k) (Scanned entries (k + 1)) (k + 1) (omega arith) high (one_on entries k)
          (one_off entries k) (inl (omega arith, omega arith)) (empty_at none) k (omega arith)
          (λ u from le. inl (from, le)) idle best old

-- a table can be built of each route of a plan that passes
module _ (local : PassingIsLocal) (plans : PlansAreDisjointRoutes) (says : FeasibleAloneDecidesFeasibility) (p : Instance) (pins routes : List (List ℕ))
    (good : passes p pins routes ≡ true) (k : ℕ) (route : List ℕ) (is : route ≡ get_or routes k route) (in_range : k < length routes) where
  pub route_once : AreDistinctStops p route
  route_once =
      subst (AreDistinctStops p) (sym is)
      (All-get_or (AreDistinctStops p) routes k route in_range ((plans p routes).0 ((parts local p pins routes good).plan)).0)

  pub route_keeps : IsInstance p → KeepsLimits p route
  route_keeps valid =
      route_limits p valid route
      ((says p route).1
      (subst (IsFeasibleAlone p) (sym is)
      (All-get_or (IsFeasibleAlone p) routes k route in_range ((parts local p pins routes good).feasible))))

no_pins : (r i n : ℕ) → HasStopAt [] r i n → ⊥
no_pins zero i n s = none_some s.0 s.1
no_pins (suc k) i n s = none_some s.0 s.1

pub without_pins : PassingIsLocal → PlansPassWithoutPins
without_pins local p pins routes good =
    let is = parts local p pins routes good in
    (local p [] routes).1 (record { plan = is.plan; fleet = is.fleet; feasible = is.feasible; pinned = λ r i n s. absurd (no_pins r i n s) })
