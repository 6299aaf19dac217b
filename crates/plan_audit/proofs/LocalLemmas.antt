-- The verdict on a plan, route by route.
use Rattle.std.proofs.Common.{
  ◌≡◌,
  ℕ,
  zero,
  suc,
  ◌<◌,
  ◌≤◌,
  ◌⊎◌,
  Bool,
  true,
  false,
  not,
  ◌&&◌,
  List,
  [],
  ◌∷◌,
  ◌++◌,
  All,
  length,
  Some,
  is_some,
  slice_get,
  refl,
  sym,
  ap,
  subst,
  ◌∙◌,
  inl,
  inr,
  arith,
  eqb,
  nat_eq,
}
use Rattle.std.specs.List.{AllByRecursion, IsDistinct, list_all, concat, starts_with}
use Rattle.std.proofs.lemmas.Bool.{and_parts, and_from, not-true, not_from_false, eqb-true, eq-eqb, eqb-false}
use Rattle.std.proofs.lemmas.List.Elements.{All-from_recursion, recursion_from_All, All-weaker}
use Rattle.std.proofs.lemmas.List.Sums.{AllPass-from_list_all, list_all-from_AllPass}
use Rattle.std.proofs.lemmas.Option.{same_Some}
use Rattle.plan_types.specs.Instance.{Instance, stop_at}
use Rattle.route_sched.specs.Route.{IsKnownStop, AreDistinctStops, IsPlan}
use Rattle.plan_audit.specs.Rules.{item_at, HasStopAt, IsUnknown, IsRepeated}
use Rattle.plan_audit.specs.Verdict.{planned, KeepsRules}
use Rattle.plan_audit.specs.Alone.{IsFeasibleAlone}
use Rattle.plan_audit.specs.Laws.{KeepsPins}
use Rattle.plan_audit.specs.Passes.{has, are_distinct, are_distinct_stops, begin_with_pins, feasible_alone, passes}
use Rattle.plan_audit.specs.Locality.{VerdictsAreUnique, PassesDecidesTheVerdict, IsPassing, PassingIsLocal, ShareNoStop, PlansAreDisjointRoutes, PinsAreDistinctStops, RoutesMayBeReplaced}
use Rattle.plan_audit.specs.declared.rules.Rule.TheVariants.{UnknownStop, VisitedTwice, MissingStop, SplitPair, EarlyDelivery, Load, Late, LateReturn, Fleet, Pin}
use Rattle.plan_audit.specs.declared.rules.Verdict.TheVariants.{Pass, Broken}
use Rattle.plan_audit.proofs.AloneLemmas.{item_holds, distinct_places}
use Rattle.plan_audit.proofs.FirstLemmas.{none_some}
use Rattle.plan_audit.proofs.LawProofs.{no_pin_off, routes_are_feasible}
use Rattle.plan_audit.proofs.PinLemmas.{pins_kept}
use Rattle.plan_audit.proofs.PlanLemmas.{all_by_get, StandOnce, distinct_route, is_plan, live_routes}
use Rattle.plan_audit.proofs.RuleLemmas.{standing}
use Rattle.plan_audit.proofs.PositionLemmas.{Sits}
use Rattle.plan_audit.proofs.SoundLemmas.{somewhere_or_not}
use Rattle.plan_audit.proofs.StepLemmas.{plan_from, planned_step}
use Rattle.plan_audit.proofs.TestLemmas.{has_at, place_of_had, feasible_alone_decides_feasibility}

-- a property of all items of a joined list holds for both parts
all_parts : {X : Type 0} (P : X → Type 0) (xs ys : List X) → AllByRecursion P (xs ++ ys) → AllByRecursion P xs × AllByRecursion P ys
all_parts P [] ys all = (tt, all)
all_parts P (x ∷ xs) ys all = let rest = all_parts P xs ys all.1 in ((all.0, rest.0), rest.1)

all_seats : (P : ℕ → Type 0) (routes : List (List ℕ)) → AllByRecursion P (concat routes) → (r i n : ℕ) → Sits routes r i n → P n
all_seats P [] all r i n sits = absurd (none_some sits.0 sits.1)
all_seats P (route ∷ rest) all zero i n sits =
    item_holds P route i n (all_parts P route (concat rest) all).0 (subst (λ (l : List ℕ). slice_get l i ≡ Some n) (sym (same_Some route sits.0 sits.1)) sits.2)
all_seats P (route ∷ rest) all (suc r) i n sits = all_seats P rest (all_parts P route (concat rest) all).1 r i n sits

-- two parts of a list of distinct numbers share no number
distinct_parts : (xs ys : List ℕ) → IsDistinct nat_eq (xs ++ ys)
    → IsDistinct nat_eq xs × IsDistinct nat_eq ys × AllByRecursion (λ x. AllByRecursion (λ y. nat_eq x y ≡ false) ys) xs
unfolding IsDistinct
distinct_parts [] ys once = (tt, once, tt)
distinct_parts (x ∷ xs) ys once =
    let here = all_parts (λ y. nat_eq x y ≡ false) xs ys once.0 in
    let rest = distinct_parts xs ys once.1 in
    ((here.0, rest.0), rest.1, (here.1, rest.2))

-- a number of the first route is in no later one
not_in_both : (route : List ℕ) (rest : List (List ℕ)) → AllByRecursion (λ x. AllByRecursion (λ y. nat_eq x y ≡ false) (concat rest)) route → (j r i n : ℕ)
    → slice_get route j ≡ Some n → Sits rest r i n → ⊥
not_in_both route rest apart j r i n at sits =
    eqb-false n n
    (all_seats (λ y. nat_eq n y ≡ false) rest (item_holds (λ x. AllByRecursion (λ y. nat_eq x y ≡ false) (concat rest)) route j n apart at) r i n sits) refl

in_first : (route : List ℕ) (rest : List (List ℕ)) (i n : ℕ) → Sits (route ∷ rest) zero i n → slice_get route i ≡ Some n
in_first route rest i n sits = subst (λ (l : List ℕ). slice_get l i ≡ Some n) (sym (same_Some route sits.0 sits.1)) sits.2

-- distinct stops have one position each
pub stand_once_from : (routes : List (List ℕ)) → IsDistinct nat_eq (concat routes) → StandOnce routes
unfolding StandOnce
stand_once_from [] once q j r i n a b = absurd (none_some a.0 a.1)
stand_once_from (route ∷ rest) once zero j zero i n a b =
    (refl, distinct_places route j i n (distinct_parts route (concat rest) once).0 (in_first route rest j n a) (in_first route rest i n b))
stand_once_from (route ∷ rest) once zero j (suc r) i n a b =
    absurd (not_in_both route rest (distinct_parts route (concat rest) once).2 j r i n (in_first route rest j n a) b)
stand_once_from (route ∷ rest) once (suc q) j zero i n a b =
    absurd (not_in_both route rest (distinct_parts route (concat rest) once).2 i q j n (in_first route rest i n b) a)
stand_once_from (route ∷ rest) once (suc q) j (suc r) i n a b =
    let e = stand_once_from rest (distinct_parts route (concat rest) once).1 q j r i n a b in (ap suc e.0, e.1)

-- the tests of distinct stops and of current stops
none_had : (n : ℕ) (ns : List ℕ) → has ns n ≡ false → AllByRecursion (λ m. nat_eq n m ≡ false) ns
none_had n ns none = all_by_get (λ m. nat_eq n m ≡ false) ns (λ k m at. by k m at (nat_eq n m) refl)
  where
    by : (k m : ℕ) → slice_get ns k ≡ Some m → (b : Bool) → nat_eq n m ≡ b → b ≡ false
    by k m at false e = refl
    by k m at true e = absurd (let h : true ≡ false = sym (has_at ns k n (at ∙ ap Some (sym (eqb-true n m e)))) ∙ none in cc)

had_none : (n : ℕ) (ns : List ℕ) → AllByRecursion (λ m. nat_eq n m ≡ false) ns → has ns n ≡ false
had_none n ns none = by (has ns n) refl
  where
    by : (b : Bool) → has ns n ≡ b → b ≡ false
    by false e = refl
    by true e = (let t = place_of_had ns n e in absurd (eqb-false n n (item_holds (λ m. nat_eq n m ≡ false) ns t.0 n none t.1) refl))

distinct_tested : (ns : List ℕ) → are_distinct ns ≡ true → IsDistinct nat_eq ns
unfolding IsDistinct
distinct_tested [] test = tt
distinct_tested (n ∷ ns) test =
    let both = and_parts (not (has ns n)) (are_distinct ns) test in (none_had n ns (not-true (has ns n) both.0), distinct_tested ns both.1)

tested_distinct : (ns : List ℕ) → IsDistinct nat_eq ns → are_distinct ns ≡ true
unfolding IsDistinct
tested_distinct [] once = refl
tested_distinct (n ∷ ns) once = and_from (not (has ns n)) (are_distinct ns) (not_from_false (has ns n) (had_none n ns once.0)) (tested_distinct ns once.1)

module _ (p : Instance) where
  live_tested : (ns : List ℕ) → are_distinct_stops p ns ≡ true → AreDistinctStops p ns
  live_tested ns test =
      let both = and_parts (list_all (λ n. is_some (stop_at p n)) ns) (are_distinct ns) test in
      record { live = AllPass-from_list_all (λ n. is_some (stop_at p n)) ns both.0; distinct = distinct_tested ns both.1 }

  tested_live : (ns : List ℕ) → AreDistinctStops p ns → are_distinct_stops p ns ≡ true
  tested_live ns once =
      and_from (list_all (λ n. is_some (stop_at p n)) ns) (are_distinct ns) (list_all-from_AllPass (λ n. is_some (stop_at p n)) ns (once.live))
      (tested_distinct ns (once.distinct))

-- the test of a pin, place by place
starts_at : (ns pin : List ℕ) → starts_with nat_eq ns pin ≡ true → (i n : ℕ) → slice_get pin i ≡ Some n → slice_get ns i ≡ Some n
starts_at ns [] test i n at = absurd (none_some n at)
starts_at [] (m ∷ pin) test i n at = absurd (let h : false ≡ true = test in cc)
starts_at (x ∷ ns) (m ∷ pin) test zero n at = let both = and_parts (nat_eq m x) (starts_with nat_eq ns pin) test in ap Some (sym (eqb-true m x both.0)) ∙ at
starts_at (x ∷ ns) (m ∷ pin) test (suc i) n at = starts_at ns pin (and_parts (nat_eq m x) (starts_with nat_eq ns pin) test).1 i n at

starts_from : (ns pin : List ℕ) → ((i n : ℕ) → slice_get pin i ≡ Some n → slice_get ns i ≡ Some n) → starts_with nat_eq ns pin ≡ true
starts_from ns [] each = refl
starts_from [] (m ∷ pin) each = absurd (none_some m (each zero m refl))
starts_from (x ∷ ns) (m ∷ pin) each =
    and_from (nat_eq m x) (starts_with nat_eq ns pin) (eq-eqb m x (same_Some m x (sym (each zero m refl)))) (starts_from ns pin (λ i n at. each (suc i) n at))

-- the test of the pins, by places counted from 0
pins_tested : (routes pins : List (List ℕ)) → begin_with_pins routes pins ≡ true → (r i n : ℕ) → Sits pins r i n → Sits routes r i n
pins_tested routes [] test r i n sits = absurd (none_some sits.0 sits.1)
pins_tested [] (pin ∷ pins) test zero i n sits =
    absurd (empty pin (and_parts (eqb (length pin) 0) (begin_with_pins [] pins) test).0 (in_first pin pins i n sits))
  where
    empty : (pin : List ℕ) → eqb (length pin) 0 ≡ true → slice_get pin i ≡ Some n → ⊥
    empty [] none at = none_some n at
    empty (m ∷ ms) none at = let none' = eqb-true (length (m ∷ ms)) 0 none in omega arith
pins_tested [] (pin ∷ pins) test (suc r) i n sits =
    absurd (none_some _ (pins_tested [] pins (and_parts (eqb (length pin) 0) (begin_with_pins [] pins) test).1 r i n sits).1)
pins_tested (route ∷ routes) (pin ∷ pins) test zero i n sits =
    (route, refl, starts_at route pin (and_parts (starts_with nat_eq route pin) (begin_with_pins routes pins) test).0 i n (in_first pin pins i n sits))
pins_tested (route ∷ routes) (pin ∷ pins) test (suc r) i n sits =
    pins_tested routes pins (and_parts (starts_with nat_eq route pin) (begin_with_pins routes pins) test).1 r i n sits

tested_pins : (routes pins : List (List ℕ)) → ((r i n : ℕ) → Sits pins r i n → Sits routes r i n) → begin_with_pins routes pins ≡ true
tested_pins routes [] kept = refl
tested_pins [] (pin ∷ pins) kept =
    and_from (eqb (length pin) 0) (begin_with_pins [] pins) (by pin kept)
    (tested_pins [] pins (λ r i n sits. (let t = kept (suc r) i n sits in absurd (none_some t.0 t.1))))
  where
    by : (pin : List ℕ) → ((r i n : ℕ) → Sits (pin ∷ pins) r i n → Sits [] r i n) → eqb (length pin) 0 ≡ true
    by [] kept = refl
    by (m ∷ ms) kept = (let t = kept zero zero m ((m ∷ ms), refl, refl) in absurd (none_some t.0 t.1))
tested_pins (route ∷ routes) (pin ∷ pins) kept =
    and_from (starts_with nat_eq route pin) (begin_with_pins routes pins)
    (starts_from route pin (λ i n at. in_first route routes i n (kept zero i n (pin, refl, at))))
    (tested_pins routes pins (λ r i n sits. kept (suc r) i n sits))

-- the test of the pins, by places counted from 1
keeps_seats : (routes pins : List (List ℕ)) → KeepsPins routes pins → (r i n : ℕ) → Sits pins r i n → Sits routes r i n
keeps_seats routes pins kept r i n sits = kept (suc r) (suc i) n sits

seats_keep : (routes pins : List (List ℕ)) → ((r i n : ℕ) → Sits pins r i n → Sits routes r i n) → KeepsPins routes pins
seats_keep routes pins kept zero i n t = absurd (none_some t.0 t.1)
seats_keep routes pins kept (suc r) zero n t = absurd (none_some n t.2)
seats_keep routes pins kept (suc r) (suc i) n t = kept r i n t

module _ (p : Instance) (routes : List (List ℕ)) where
  pub live_seat : IsPlan p routes → (r i n : ℕ) → Sits routes r i n → IsKnownStop p n
  live_seat plan r i n sits = all_seats (IsKnownStop p) routes (recursion_from_All (IsKnownStop p) (concat routes) (plan.live)) r i n sits

  pub once_seat : IsPlan p routes → StandOnce routes
  once_seat plan = stand_once_from routes (plan.distinct)

  -- rules 1 and 2 hold
  none_unknown : ((r i n : ℕ) → Sits routes r i n → IsKnownStop p n) → (r i n : ℕ) → IsUnknown p routes r i n → ⊥
  none_unknown live r i n b =
      let s = standing routes r i n b.0 in
      let l = live s.0 s.1 n s.4 in
      let h : false ≡ true = ap is_some (sym b.1) ∙ l in cc

  none_repeated : StandOnce routes → (r i n : ℕ) → IsRepeated p routes r i n → ⊥
  unfolding StandOnce
  none_repeated once r i n b =
      let s = standing routes r i n b.0 in
      let t = standing routes b.1.0 b.1.1 n b.1.3 in
      let e = once t.0 t.1 s.0 s.1 n t.4 s.4 in
      let a = s.2 in
      let c = s.3 in
      let d = t.2 in
      let f = t.3 in
      let g = e.0 in
      let h = e.1 in
      elim (b.1.2) [
        | inl lt ↦ omega arith
        | inr both ↦ (let lt = both.1 in omega arith)
      ]

  stands_once : StandOnce routes → (q j r i n : ℕ) → HasStopAt routes q j n → HasStopAt routes r i n → (q ≡ r) × (j ≡ i)
  unfolding StandOnce
  stands_once once q j r i n a b =
      let s = standing routes q j n a in
      let t = standing routes r i n b in
      let e = once s.0 s.1 t.0 t.1 n s.4 t.4 in
      (s.2 ∙ ap suc e.0 ∙ sym t.2, s.3 ∙ ap suc e.1 ∙ sym t.3)

  -- if all stops are current and distinct and each route is feasible alone, rules 1 to 8 hold for the plan
  module _ (pins : List (List ℕ)) (once : StandOnce routes) (live : (r i n : ℕ) → Sits routes r i n → IsKnownStop p n)
      (feasible : (r : ℕ) (route : List ℕ) → item_at routes r ≡ Some route → IsFeasibleAlone p route) where
    anywhere : (route : List ℕ) (r : ℕ) → item_at routes r ≡ Some route → (q j n : ℕ) → HasStopAt (route ∷ []) q j n → HasStopAt routes r j n
    anywhere route r at zero j n t = absurd (none_some t.0 t.1)
    anywhere route r at (suc zero) j n t = (route, at, subst (λ (l : List ℕ). item_at l j ≡ Some n) (sym (same_Some route t.0 t.1)) t.2)
    anywhere route r at (suc (suc q)) j n t = absurd (none_some t.0 t.1)

    here : (r : ℕ) (route other : List ℕ) → item_at routes r ≡ Some route → item_at routes r ≡ Some other → other ≡ route
    here r route other at on = same_Some other route (sym on ∙ at)

    pub kept_rules : KeepsRules 1 8 p (planned routes pins)
    kept_rules UnknownStop r i n from to b = none_unknown live r i n b
    kept_rules VisitedTwice r i n from to b = none_repeated once r i n b
    kept_rules MissingStop r i n from to b =
        feasible r b.1.0 b.1.1 MissingStop 1 i n (omega arith) (omega arith)
        (b.0, (b.1.0, refl, b.1.2), b.2, λ t. b.3 (r, t.1, anywhere b.1.0 r b.1.1 t.0 t.1 n t.2))
    kept_rules SplitPair r i n from to b =
        let route = b.0.0 in
        let m = b.1.0 in
        let other = b.1.2 in
        elim (somewhere_or_not (b.0.0 ∷ []) b.1.0) [
          | inl t ↦ other.2 (stands_once once other.0 other.1 r t.1 b.1.0 other.3 (anywhere b.0.0 r b.0.1 t.0 t.1 b.1.0 t.2)).0
          | inr none ↦ feasible r b.0.0 b.0.1 MissingStop 1 i b.1.0 (omega arith) (omega arith) (n, (b.0.0, refl, b.0.2), b.1.1, none)
        ]
    kept_rules EarlyDelivery r i n from to b =
        let later = b.1.2 in
        feasible r b.0.0 b.0.1 EarlyDelivery 1 i n (omega arith) (omega arith) (
          (b.0.0, refl, b.0.2),
          (
            b.1.0,
            b.1.1,
            (later.0, later.1, (b.0.0, refl, subst (λ (l : List ℕ). item_at l later.0 ≡ Some b.1.0) (here r b.0.0 later.2.0 b.0.1 later.2.1) later.2.2)),
          ),
        )
    kept_rules Load r i n from to b = feasible r b.0 b.1 Load 1 i n (omega arith) (omega arith) (b.0, refl, b.2, b.3)
    kept_rules Late r i n from to b = feasible r b.1.0 b.1.1 Late 1 i n (omega arith) (omega arith) (b.0, (b.1.0, refl, b.1.2, b.1.3))
    kept_rules LateReturn r i n from to b = feasible r b.1.0 b.1.1 LateReturn 1 i n (omega arith) (omega arith) (b.0, (b.1.0, refl, b.1.2, b.1.3, b.1.4, b.1.5))
    kept_rules _ r i n from to b = omega arith

-- a property of all items holds for the item at an index
pub all_items : {X : Type 0} (P : X → Type 0) (xs : List X) → All P xs → (r : ℕ) (x : X) → item_at xs r ≡ Some x → P x
all_items P xs all zero x at = absurd (none_some x at)
all_items {X = X} P xs all (suc r) x at = by xs (recursion_from_All P xs all) r at
  where
    by : (xs : List X) → AllByRecursion P xs → (k : ℕ) → slice_get xs k ≡ Some x → P x
    by [] all k at = absurd (none_some x at)
    by (y ∷ xs) all zero at = subst P (same_Some y x at) all.0
    by (y ∷ xs) all (suc k) at = by xs all.1 k at

pub items_all : {X : Type 0} (P : X → Type 0) (xs : List X) → ((r : ℕ) (x : X) → item_at xs r ≡ Some x → P x) → All P xs
items_all P xs each = All-from_recursion P xs (all_by_get P xs (λ k x at. each (suc k) x at))

module _ (p : Instance) (pins routes : List (List ℕ)) where
  -- all rules hold exactly if the plan passes route by route
  rules_from : IsPassing p pins routes → KeepsRules 1 11 p (planned routes pins)
  rules_from passing =
      planned_step p routes pins
      (kept_rules p routes pins (once_seat p routes (passing.plan)) (live_seat p routes (passing.plan))
      (λ r route at. all_items (IsFeasibleAlone p) routes (passing.feasible) r route at))
      (passing.fleet) (no_pin_off routes pins (passing.pinned))

  fewer : KeepsRules 1 11 p (planned routes pins) → (low high : ℕ) → 1 ≤ low → high ≤ 11 → KeepsRules low high p (planned routes pins)
  fewer kept low high above below m r i n from to b = kept m r i n (omega arith) (omega arith) b

  passing_from : KeepsRules 1 11 p (planned routes pins) → IsPassing p pins routes
  passing_from kept = record {
    plan = plan_from p (planned routes pins) (fewer kept 1 8 (omega arith) (omega arith));
    fleet = in_number (eqb (length routes) p.fleet) refl;
    feasible = items_all (IsFeasibleAlone p) routes
        (λ r route at. routes_are_feasible p (planned routes pins) (fewer kept 3 8 (omega arith) (omega arith)) r route at);
    pinned = pins_kept routes pins (λ r i n b. kept Pin r i n (omega arith) (omega arith) b);
  }
    where
      in_number : (b : Bool) → eqb (length routes) p.fleet ≡ b → length routes ≡ p.fleet
      in_number true e = eqb-true (length routes) p.fleet e
      in_number false e =
          absurd (kept Fleet 0 0 0 (omega arith) (omega arith)
          (inr ((refl, refl), refl, λ same. (let h : true ≡ false = sym (eq-eqb (length routes) p.fleet same) ∙ e in cc))))

  -- a plan that passes the test meets the conditions of `IsPassing`, and conversely
  tested_passing : passes p pins routes ≡ true → IsPassing p pins routes
  unfolding passes
  tested_passing test =
      let one =
      and_parts (are_distinct_stops p (concat routes))
      (eqb (length routes) p.fleet && (list_all (feasible_alone p) routes && begin_with_pins routes pins)) test in
      let two = and_parts (eqb (length routes) p.fleet) (list_all (feasible_alone p) routes && begin_with_pins routes pins) one.1 in
      let three = and_parts (list_all (feasible_alone p) routes) (begin_with_pins routes pins) two.1 in
      record {
        plan = live_tested p (concat routes) one.0;
        fleet = eqb-true (length routes) p.fleet two.0;
        feasible = All-weaker (λ route. feasible_alone p route ≡ true) (IsFeasibleAlone p) (λ route t. (feasible_alone_decides_feasibility p route).0 t) routes
            (AllPass-from_list_all (feasible_alone p) routes three.0);
        pinned = seats_keep routes pins (pins_tested routes pins three.1);
      }

  passing_tested : IsPassing p pins routes → passes p pins routes ≡ true
  unfolding passes
  passing_tested passing =
      and_from (are_distinct_stops p (concat routes)) (eqb (length routes) p.fleet && (list_all (feasible_alone p) routes && begin_with_pins routes pins))
      (tested_live p (concat routes) (passing.plan))
      (and_from (eqb (length routes) p.fleet) (list_all (feasible_alone p) routes && begin_with_pins routes pins)
      (eq-eqb (length routes) p.fleet (passing.fleet))
      (and_from (list_all (feasible_alone p) routes) (begin_with_pins routes pins)
      (list_all-from_AllPass (feasible_alone p) routes
      (All-weaker (IsFeasibleAlone p) (λ route. feasible_alone p route ≡ true) (λ route t. (feasible_alone_decides_feasibility p route).1 t) routes (passing.feasible)))
      (tested_pins routes pins (keeps_seats routes pins (passing.pinned)))))

pub passing_is_local : PassingIsLocal
passing_is_local p pins routes = (tested_passing p pins routes, passing_tested p pins routes)

pub passes_decides_the_verdict : PassesDecidesTheVerdict
passes_decides_the_verdict p pins routes = (
  λ test. (rules_from p pins routes (tested_passing p pins routes test), refl),
  λ is. passing_tested p pins routes (passing_from p pins routes is.0),
)

pub plans_are_disjoint_routes : PlansAreDisjointRoutes
unfolding StandOnce
plans_are_disjoint_routes p routes =
    (λ plan. (each plan, λ q j r i n a b. (stands_once p routes (once_seat p routes plan) q j r i n a b).0), λ both. joined both.0 both.1)
  where
    each : IsPlan p routes → All (AreDistinctStops p) routes
    each plan = live_routes p routes (none_unknown p routes (live_seat p routes plan)) (none_repeated p routes (once_seat p routes plan))

    once : All (AreDistinctStops p) routes → ShareNoStop routes → StandOnce routes
    once all one q j r i n a b =
        let same = one (suc q) (suc j) (suc r) (suc i) n a b in
        let e : q ≡ r = omega arith in
        let live = all_items (AreDistinctStops p) routes all (suc r) b.0 b.1 in
        let route : a.0 ≡ b.0 = same_Some a.0 b.0 (sym a.1 ∙ ap (slice_get routes) e ∙ b.1) in
        (e, distinct_places b.0 j i n (live.distinct) (subst (λ (l : List ℕ). slice_get l j ≡ Some n) route a.2) b.2)

    lives : All (AreDistinctStops p) routes → (r i n : ℕ) → Sits routes r i n → IsKnownStop p n
    lives all r i n sits =
        let live = all_items (AreDistinctStops p) routes all (suc r) sits.0 sits.1 in
        item_holds (IsKnownStop p) sits.0 i n (recursion_from_All (IsKnownStop p) sits.0 (live.live)) sits.2

    joined : All (AreDistinctStops p) routes → ShareNoStop routes → IsPlan p routes
    joined all one = is_plan p routes (none_unknown p routes (lives all)) (none_repeated p routes (once all one))

pub pins_are_distinct_stops : PinsAreDistinctStops
pins_are_distinct_stops p pins routes test =
    items_all (AreDistinctStops p) pins (λ r pin at. record {
      live = All-from_recursion (IsKnownStop p) pin (all_by_get (IsKnownStop p) pin (λ i n on. lives r pin at i n on));
      distinct = distinct_route pin (λ j i n a b. once r pin at j i n a b);
    })
  where
    passing : IsPassing p pins routes
    passing = tested_passing p pins routes test

    sits : (r : ℕ) (pin : List ℕ) → item_at pins r ≡ Some pin → (i n : ℕ) → slice_get pin i ≡ Some n → HasStopAt routes r (suc i) n
    sits r pin at i n on = let kept : KeepsPins routes pins = passing.pinned in kept r (suc i) n (pin, at, on)

    lives : (r : ℕ) (pin : List ℕ) → item_at pins r ≡ Some pin → (i n : ℕ) → slice_get pin i ≡ Some n → IsKnownStop p n
    lives r pin at i n on = let s = standing routes r (suc i) n (sits r pin at i n on) in live_seat p routes (passing.plan) s.0 s.1 n s.4

    once : (r : ℕ) (pin : List ℕ) → item_at pins r ≡ Some pin → (j i n : ℕ) → slice_get pin j ≡ Some n → slice_get pin i ≡ Some n → j ≡ i
    once r pin at j i n a b =
        let e = (stands_once p routes (once_seat p routes (passing.plan)) r (suc j) r (suc i) n (sits r pin at j n a) (sits r pin at i n b)).1 in omega arith

-- lists of the same length have the same indices
item_of_same : {X Y : Type 0} (xs : List X) (ys : List Y) → length xs ≡ length ys → (k : ℕ) (x : X) → slice_get xs k ≡ Some x
    → (y : Y) × (slice_get ys k ≡ Some y)
item_of_same [] ys same k x at = absurd (none_some x at)
item_of_same (z ∷ xs) [] same k x at = absurd (omega arith)
item_of_same (z ∷ xs) (y ∷ ys) same zero x at = (y, refl)
item_of_same (z ∷ xs) (y ∷ ys) same (suc k) x at = item_of_same xs ys (omega arith) k x at

pub routes_may_be_replaced : RoutesMayBeReplaced
routes_may_be_replaced p pins routes others test same apart change = passing_tested p pins others (record {
  plan = (plans_are_disjoint_routes p others).1 (items_all (AreDistinctStops p) others live, apart);
  fleet = same ∙ passing.fleet;
  feasible = items_all (IsFeasibleAlone p) others feasible;
  pinned = seats_keep others pins pinned;
})
  where
    passing : IsPassing p pins routes
    passing = tested_passing p pins routes test

    live : (r : ℕ) (route : List ℕ) → item_at others r ≡ Some route → AreDistinctStops p route
    live r route at = elim (change r route at) [
      | inl old ↦ all_items (AreDistinctStops p) routes ((plans_are_disjoint_routes p routes).0 (passing.plan)).0 r route old
      | inr may ↦ may.stops
    ]

    feasible : (r : ℕ) (route : List ℕ) → item_at others r ≡ Some route → IsFeasibleAlone p route
    feasible r route at = elim (change r route at) [
      | inl old ↦ all_items (IsFeasibleAlone p) routes (passing.feasible) r route old
      | inr may ↦ (feasible_alone_decides_feasibility p route).0 (may.feasible)
    ]

    pinned : (r i n : ℕ) → Sits pins r i n → Sits others r i n
    pinned r i n sits =
        let kept : KeepsPins routes pins = passing.pinned in
        let old = kept (suc r) (suc i) n sits in
        let new = item_of_same routes others (sym same) r old.0 old.1 in
        elim (change (suc r) new.0 new.1) [
          | inl at ↦ (new.0, new.1, subst (λ (l : List ℕ). slice_get l i ≡ Some n) (same_Some old.0 new.0 (sym old.1 ∙ at)) old.2)
          | inr may ↦ (new.0, new.1, starts_at new.0 sits.0 (may.pinned sits.0 sits.1) i n sits.2)
        ]

pub verdicts_are_unique : VerdictsAreUnique
verdicts_are_unique p s (Pass c) (Pass d) a b = ap Pass (a.1 ∙ sym b.1)
verdicts_are_unique p s (Pass c) (Broken rule r i n) a b = (let least = b.2 in absurd (a.0 b.0 r i n (least.from) (least.to) (least.broken)))
verdicts_are_unique p s (Broken rule r i n) (Pass c) a b = (let least = a.2 in absurd (b.0 a.0 r i n (least.from) (least.to) (least.broken)))
verdicts_are_unique p s (Broken rule r i n) (Broken other q j m) a b =
    let one = a.2 in
    let two = b.2 in
    let ahead = one.least b.0 q j m (two.from) (two.to) (two.broken) in
    let following = two.least a.0 r i n (one.from) (one.to) (one.broken) in
    let number = a.1 in
    let number' = b.1 in
    elim ahead [
      | inl lt ↦ elim following [
        | inl gt ↦ absurd (omega arith)
        | inr gt ↦ (let e = gt.0 in absurd (omega arith))
      ]
      | inr le ↦ elim following [
        | inl gt ↦ (let e = le.0 in absurd (omega arith))
        | inr ge ↦ (
            let e = le.0 in
            let rule_same : rule ≡ other = omega arith in
            let place = both r i n q j m le.1 ge.1 in
            let a' = place.0 in
            let b' = place.1 in
            let c' = place.2 in
            cc)
      ]
    ]
  where
    both : (r i n q j m : ℕ) → (r < q) ⊎ ((r ≡ q) × ((i < j) ⊎ ((i ≡ j) × (n ≤ m)))) → (q < r) ⊎ ((q ≡ r) × ((j < i) ⊎ ((j ≡ i) × (m ≤ n))))
        → (r ≡ q) × (i ≡ j) × (n ≡ m)
    both r i n q j m (inl a) (inl b) = absurd (omega arith)
    both r i n q j m (inl a) (inr b) = (let e = b.0 in absurd (omega arith))
    both r i n q j m (inr a) (inl b) = (let e = a.0 in absurd (omega arith))
    both r i n q j m (inr (e, inl a)) (inr (f, inl b)) = absurd (omega arith)
    both r i n q j m (inr (e, inl a)) (inr (f, inr b)) = (let g = b.0 in absurd (omega arith))
    both r i n q j m (inr (e, inr a)) (inr (f, inl b)) = (let g = a.0 in absurd (omega arith))
    both r i n q j m (inr (e, inr a)) (inr (f, inr b)) = (let le = a.1 in let ge = b.1 in (e, a.0, omega arith))
