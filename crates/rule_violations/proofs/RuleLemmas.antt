-- The lists of the rules on places, 1, 2 and 4 to 7, hold all their violations.
use Rattle.std.proofs.Common.{
  ◌≡◌,
  ◌≢◌,
  ℕ,
  suc,
  ◌+◌,
  ◌-◌,
  ◌-ℤ◌,
  ◌<◌,
  ◌≤◌,
  ◌⊎◌,
  Bool,
  true,
  false,
  not,
  ◌&&◌,
  ◌||◌,
  nat_lt,
  int_lt,
  pos,
  ◌<ℤ◌,
  List,
  [],
  Option,
  Some,
  None,
  unwrap_or,
  unsigned_abs,
  slice_get,
  refl,
  sym,
  ap,
  subst,
  ◌∙◌,
  inl,
  inr,
  arith,
  eqb,
  add-one,
  T,
}
use Rattle.std.specs.Option.{is_none, option_map_or}
use Rattle.std.proofs.lemmas.Bool.{and_parts, lt-ltb, ltb-true, or_cases}
use Rattle.std.proofs.lemmas.Bool.Decides.{eqb_tells}
use Rattle.std.proofs.lemmas.Option.{same_Some}
use Rattle.plan_types.specs.Instance.{Instance, partner_at, pickup_at, stop_at}
use Rattle.plan_types.specs.declared.requests.Kind.{Kind}
use Rattle.plan_types.specs.declared.requests.Kind.TheVariants.{LiLim, Vrp}
use Rattle.plan_types.specs.declared.requests.Stop.{Stop}
use Rattle.route_sched.specs.Route.{place}
use Rattle.route_sched.specs.Schedule.{load, start}
use Rattle.plan_audit.specs.Rules.{IsEarlier, IsRepeated, HasStopAt}
use Rattle.plan_audit.specs.declared.rules.Rule.TheVariants.{UnknownStop, VisitedTwice, SplitPair, EarlyDelivery, Load, Late}
use Rattle.plan_audit.proofs.RuleLemmas.{standing}
use Rattle.plan_audit.proofs.PositionLemmas.{Sits}
use Rattle.plan_audit.proofs.TimeLemmas.{true_from}
use Rattle.rule_violations.specs.Violations.{is_early_delivery, is_repeated, is_split, position_at, stop_violations, visit_violations}
use Rattle.rule_violations.specs.Laws.{AreAll, IsViolation, HasNoRepeatedStop}
use Rattle.rule_violations.specs.Limits.{is_late, is_overload, is_late_for_kind}
use Rattle.rule_violations.specs.Positions.{first_position}
use Rattle.rule_violations.specs.declared.positions.PrintedPosition.{PrintedPosition}
use Rattle.rule_violations.proofs.PlaceLemmas.{rule_places}
use Rattle.rule_violations.proofs.PositionLemmas.{IsFirstPosition, first_found, first_none}

pub not_so : {X : Type 0} → false ≡ true → X
not_so h = absurd (cc)

-- different numbers fail the test of equality
apart : (a b : ℕ) → a ≢ b → not (eqb a b) ≡ true
apart a b ne = elim (eqb_tells a b) [
  | inl t ↦ absurd (ne t.1)
  | inr t ↦ ap not t.0
]

are_apart : (a b : ℕ) → not (eqb a b) ≡ true → a ≢ b
are_apart a b h same = elim (eqb_tells a b) [
  | inl t ↦ not_so (sym (ap not t.0) ∙ h)
  | inr t ↦ t.1 same
]

are_same : (a b : ℕ) → eqb a b ≡ true → a ≡ b
are_same a b h = elim (eqb_tells a b) [
  | inl t ↦ t.1
  | inr t ↦ not_so (sym t.0 ∙ h)
]

same_test : (a b : ℕ) → a ≡ b → eqb a b ≡ true
same_test a b e = elim (eqb_tells a b) [
  | inl t ↦ t.0
  | inr t ↦ absurd (t.1 e)
]

either : (a b : Bool) → (a ≡ true) ⊎ (b ≡ true) → (a || b) ≡ true
either true b h = refl
either false b (inl h) = not_so h
either false b (inr h) = h

pub both : (a b : Bool) → a ≡ true → b ≡ true → (a && b) ≡ true
both true b h k = k
both false b h k = h

module _ (p : Instance) (routes : List (List ℕ)) where
  pub unknown_all : AreAll (IsViolation p routes UnknownStop) (stop_violations p routes UnknownStop)
  unknown_all =
      rule_places p routes UnknownStop (λ r route i n. is_none (stop_at p n)) (λ r route i n. 0)
      (λ r i n t h cost. (t, by (stop_at p n) h)) (λ r i n t b. ap is_none (b 0).1) (λ r i n b. (b 0).0) (λ r i n t. refl)
    where
      by : (o : Option Stop) → is_none o ≡ true → o ≡ None
      by None h = refl
      by (Some s) h = not_so h

  -- rule 2: the first position of a stop differs from this position exactly if it is earlier
  pub twice_all : AreAll (IsViolation p routes VisitedTwice) (stop_violations p routes VisitedTwice)
  twice_all =
      rule_places p routes VisitedTwice (λ r route i n. is_repeated (position_at r i) (first_position routes n)) (λ r route i n. 0)
      (λ r i n t h cost. to r i n t (first_position routes n) refl h) (λ r i n t b. from r i n (first_position routes n) refl (b 0)) (λ r i n b. (b 0).0)
      (λ r i n t. refl)
    where
      to : (r i n : ℕ) → Sits routes r i n → (o : Option PrintedPosition) → first_position routes n ≡ o → is_repeated (position_at r i) o ≡ true
          → IsRepeated p routes (suc r) (suc i) n
      to r i n t None e h = not_so h
      to r i n t (Some s) e h =
          let f = first_found routes n s e in
          let d = f.at_route in let j = f.at_place in (
            t,
            (
              suc d,
              suc j,
              earlier d j (f.route_is) (f.place_is) (f.least r i t) (or_cases (not (eqb s.route (r + 1))) (not (eqb s.place (i + 1))) h),
              f.at_index,
            ),
          )
        where
          earlier : (d j : ℕ) → s.route ≡ 1 + d → s.place ≡ 1 + j → (d < r) ⊎ ((d ≡ r) × (j ≤ i))
              → (not (eqb s.route (r + 1)) ≡ true) ⊎ (not (eqb s.place (i + 1)) ≡ true) → IsEarlier (suc d) (suc j) (suc r) (suc i)
          earlier d j x y (inl lt) other = inl (omega arith)
          earlier d j x y (inr le) (inl other) = let same = le.0 in absurd (are_apart s.route (r + 1) other (omega arith))
          earlier d j x y (inr le) (inr other) =
              let same = le.0 in let most = le.1 in
              let ne : j ≢ i = λ e. are_apart s.place (i + 1) other (omega arith) in
              inr (ap suc same, before j i most ne)
            where
              before : (j i : ℕ) → j ≤ i → j ≢ i → suc j < suc i
              before j i le ne = elim (eqb_tells j i) [
                | inl t ↦ absurd (ne t.1)
                | inr t ↦ (let ne' = t.1 in omega arith)
              ]

      from : (r i n : ℕ) (o : Option PrintedPosition) → first_position routes n ≡ o → IsRepeated p routes (suc r) (suc i) n → is_repeated (position_at r i) o ≡ true
      from r i n None e b = let st = standing routes b.1.0 b.1.1 n b.1.3 in absurd (first_none routes n e st.0 st.1 st.4)
      from r i n (Some s) e b =
          let st = standing routes b.1.0 b.1.1 n b.1.3 in
          let f = first_found routes n s e in
          either (not (eqb s.route (r + 1))) (not (eqb s.place (i + 1)))
          (elsewhere (f.at_route) (f.at_place) (f.route_is) (f.place_is) st.0 st.1 b.1.0 b.1.1 st.2 st.3 (f.least st.0 st.1 st.4) b.1.2)
        where
          elsewhere : (d j : ℕ) → s.route ≡ 1 + d → s.place ≡ 1 + j → (q' i' q k : ℕ) → q ≡ suc q' → k ≡ suc i' → (d < q') ⊎ ((d ≡ q') × (j ≤ i'))
              → IsEarlier q k (suc r) (suc i) → (not (eqb s.route (r + 1)) ≡ true) ⊎ (not (eqb s.place (i + 1)) ≡ true)
          elsewhere d j x y q' i' q k eq ek (inl lt) (inl before) = inl (apart s.route (r + 1) (λ e. omega arith))
          elsewhere d j x y q' i' q k eq ek (inl lt) (inr before) = let same = before.0 in inl (apart s.route (r + 1) (λ e. omega arith))
          elsewhere d j x y q' i' q k eq ek (inr le) (inl before) = let same = le.0 in inl (apart s.route (r + 1) (λ e. omega arith))
          elsewhere d j x y q' i' q k eq ek (inr le) (inr before) = let most = le.1 in let lt = before.1 in inr (apart s.place (i + 1) (λ e. omega arith))

  -- if no stop is repeated, the first position of a stop is its only one
  only_position : HasNoRepeatedStop p routes → (n : ℕ) (s : PrintedPosition) (f : IsFirstPosition n 1 routes s) (r i : ℕ) → Sits routes r i n → (f.at_route ≡ r) × (f.at_place ≡ i)
  only_position once n s f r i t = elim (f.least r i t) [
    | inl lt ↦ absurd (once (suc r) (suc i) n (t, (suc (f.at_route), suc (f.at_place), inl (omega arith), f.at_index)))
    | inr le ↦ elim (eqb_tells (f.at_place) i) [
      | inl same ↦ (le.0, same.1)
      | inr other ↦ (
          let most = le.1 in let ne = other.1 in
          absurd (once (suc r) (suc i) n (t, (suc (f.at_route), suc (f.at_place), inr (ap suc le.0, omega arith), f.at_index))))
    ]
  ]

  pub split_all : HasNoRepeatedStop p routes → AreAll (IsViolation p routes SplitPair) (stop_violations p routes SplitPair)
  split_all once =
      rule_places p routes SplitPair (λ r route i n. is_split routes (position_at r i) (partner_at p n)) (λ r route i n. 0)
      (λ r i n t h cost. (t, to r i (partner_at p n) h)) (λ r i n t b. from r i (partner_at p n) (b 0).1) (λ r i n b. (b 0).0) (λ r i n t. refl)
    where
      to : (r i : ℕ) (other : Option ℕ) → is_split routes (position_at r i) other ≡ true
          → (m : ℕ) × (other ≡ Some m) × ((q : ℕ) × (j : ℕ) × (q ≢ suc r) × HasStopAt routes q j m)
      to r i None h = not_so h
      to r i (Some m) h = by (first_position routes m) refl h
        where
          by : (o : Option PrintedPosition) → first_position routes m ≡ o → option_map_or (λ s. not (eqb s.route (r + 1))) o false ≡ true
              → (k : ℕ) × (Some m ≡ Some k) × ((q : ℕ) × (j : ℕ) × (q ≢ suc r) × HasStopAt routes q j k)
          by None e h = not_so h
          by (Some s) e h =
              let f = first_found routes m s e in
              let is = f.route_is in
              let ne = are_apart s.route (r + 1) h in
              (m, refl, (suc (f.at_route), suc (f.at_place), (λ same. ne (omega arith)), f.at_index))

      from : (r i : ℕ) (other : Option ℕ) → (m : ℕ) × (other ≡ Some m) × ((q : ℕ) × (j : ℕ) × (q ≢ suc r) × HasStopAt routes q j m)
          → is_split routes (position_at r i) other ≡ true
      from r i other b =
          let m = b.0 in
          let st = standing routes b.2.0 b.2.1 m b.2.3 in
          ap (λ (o : Option ℕ). is_split routes (position_at r i) o) b.1 ∙ by m st.0 st.1 st.4 (λ same. b.2.2 (st.2 ∙ ap suc same)) (first_position routes m) refl
        where
          by : (m q j : ℕ) → Sits routes q j m → q ≢ r → (o : Option PrintedPosition) → first_position routes m ≡ o
              → option_map_or (λ s. not (eqb s.route (r + 1))) o false ≡ true
          by m q j t ne None e = absurd (first_none routes m e q j t)
          by m q j t ne (Some s) e =
              let f = first_found routes m s e in
              let is = f.route_is in let same = (only_position once m s f q j t).0 in
              apart s.route (r + 1) (λ h. ne (omega arith))

  pub early_all : HasNoRepeatedStop p routes → AreAll (IsViolation p routes EarlyDelivery) (stop_violations p routes EarlyDelivery)
  early_all once =
      rule_places p routes EarlyDelivery (λ r route i n. is_early_delivery routes (position_at r i) (pickup_at p n)) (λ r route i n. 0)
      (λ r i n t h cost. (t, to r i (pickup_at p n) h)) (λ r i n t b. from r i (pickup_at p n) (b 0).1) (λ r i n b. (b 0).0) (λ r i n t. refl)
    where
      to : (r i : ℕ) (pickup : Option ℕ) → is_early_delivery routes (position_at r i) pickup ≡ true
          → (m : ℕ) × (pickup ≡ Some m) × ((j : ℕ) × (suc i < j) × HasStopAt routes (suc r) j m)
      to r i None h = not_so h
      to r i (Some m) h = by (first_position routes m) refl h
        where
          by : (o : Option PrintedPosition) → first_position routes m ≡ o → option_map_or (λ s. eqb s.route (r + 1) && nat_lt (i + 1) s.place) o false ≡ true
              → (k : ℕ) × (Some m ≡ Some k) × ((j : ℕ) × (suc i < j) × HasStopAt routes (suc r) j k)
          by None e h = not_so h
          by (Some s) e h =
              let f = first_found routes m s e in
              let parts = and_parts (eqb s.route (r + 1)) (nat_lt (i + 1) s.place) h in
              let at = are_same s.route (r + 1) parts.0 in
              let following = ltb-true (i + 1) s.place parts.1 in
              let is = f.route_is in let is' = f.place_is in
              let same : f.at_route ≡ r = omega arith in
              (m, refl, (suc (f.at_place), omega arith, subst (λ q. Sits routes q (f.at_place) m) same (f.at_index)))

      from : (r i : ℕ) (pickup : Option ℕ) → (m : ℕ) × (pickup ≡ Some m) × ((j : ℕ) × (suc i < j) × HasStopAt routes (suc r) j m)
          → is_early_delivery routes (position_at r i) pickup ≡ true
      from r i pickup b =
          let m = b.0 in
          let st = standing routes (suc r) b.2.0 m b.2.2 in
          let lt = b.2.1 in let eq = st.2 in let at = st.3 in
          ap (λ (o : Option ℕ). is_early_delivery routes (position_at r i) o) b.1 ∙ by m st.0 st.1 st.4 (omega arith) (omega arith) (first_position routes m) refl
        where
          by : (m q j : ℕ) → Sits routes q j m → q ≡ r → i < j → (o : Option PrintedPosition) → first_position routes m ≡ o
              → option_map_or (λ s. eqb s.route (r + 1) && nat_lt (i + 1) s.place) o false ≡ true
          by m q j t here lt None e = absurd (first_none routes m e q j t)
          by m q j t here lt (Some s) e =
              let f = first_found routes m s e in
              let is = f.route_is in let is' = f.place_is in
              let only = only_position once m s f q j t in
              let same = only.0 in let same' = only.1 in
              both (eqb s.route (r + 1)) (nat_lt (i + 1) s.place) (same_test s.route (r + 1) (omega arith)) (lt-ltb (i + 1) s.place (omega arith))

  -- the route at index r, from which the excess is computed, is that of the position
  on_route : (r i n : ℕ) (t : Sits routes r i n) → unwrap_or (slice_get routes r) [] ≡ t.0
  on_route r i n t = ap (λ o. unwrap_or o []) t.1

  pub load_all : AreAll (IsViolation p routes Load) (visit_violations p routes Load)
  load_all =
      rule_places p routes Load (λ r route i n. is_overload p (load p route (i + 1))) (λ r route i n. unsigned_abs (load p route (i + 1) -ℤ pos p.capacity))
      (λ r i n t h cost. (t.0, t.1, t.2, subst (λ k. pos p.capacity <ℤ load p t.0 k) (add-one i) (record { lt = subst T (sym h) tt })))
      (λ r i n t b. (let same : (b 0).0 ≡ t.0 = same_Some _ _ (sym (b 0).1 ∙ t.1) in
      let over : pos p.capacity <ℤ load p t.0 (suc i) = subst (λ (l : List ℕ). pos p.capacity <ℤ load p l (suc i)) same (b 0).3 in
      subst (λ k. int_lt (pos p.capacity) (load p t.0 k) ≡ true) (sym (add-one i)) (true_from (int_lt (pos p.capacity) (load p t.0 (suc i))) (over.lt))))
      (λ r i n b. ((b 0).0, (b 0).1, (b 0).2))
      (λ r i n t. ap (λ k. unsigned_abs (load p t.0 k -ℤ pos p.capacity)) (add-one i)
      ∙ ap (λ l. unsigned_abs (load p l (suc i) -ℤ pos p.capacity)) (sym (on_route r i n t)))

  pub late_true : (kind : Kind) (time latest : ℕ) → is_late_for_kind kind time latest ≡ true → (kind ≡ LiLim) × (latest < time)
  late_true LiLim time latest h = (refl, ltb-true latest time h)
  late_true Vrp time latest h = not_so h

  pub late_holds : (kind : Kind) (time latest : ℕ) → kind ≡ LiLim → latest < time → is_late_for_kind kind time latest ≡ true
  late_holds kind time latest is lt = subst (λ k. is_late_for_kind k time latest ≡ true) (sym is) (lt-ltb latest time lt)

  pub late_all : AreAll (IsViolation p routes Late) (visit_violations p routes Late)
  late_all =
      rule_places p routes Late (λ r route i n. is_late p (start p route (i + 1)) (place p route (i + 1)).latest)
      (λ r route i n. start p route (i + 1) - (place p route (i + 1)).latest)
      (λ r i n t h cost. (let late = late_true p.kind (start p t.0 (i + 1)) (place p t.0 (i + 1)).latest h in
      (late.0, (t.0, t.1, t.2, subst (λ k. (place p t.0 k).latest < start p t.0 k) (add-one i) late.1))))
      (λ r i n t b. (let same : (b 0).1.0 ≡ t.0 = same_Some _ _ (sym (b 0).1.1 ∙ t.1) in
      let late : (place p t.0 (suc i)).latest < start p t.0 (suc i) = subst (λ (l : List ℕ). (place p l (suc i)).latest < start p l (suc i)) same (b 0).1.3 in
      late_holds p.kind _ _ (b 0).0 (subst (λ k. (place p t.0 k).latest < start p t.0 k) (sym (add-one i)) late)))
      (λ r i n b. ((b 0).1.0, (b 0).1.1, (b 0).1.2))
      (λ r i n t. ap (λ k. start p t.0 k - (place p t.0 k).latest) (add-one i)
      ∙ ap (λ l. start p l (suc i) - (place p l (suc i)).latest) (sym (on_route r i n t)))
