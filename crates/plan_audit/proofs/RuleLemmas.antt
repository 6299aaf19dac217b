-- Each rule on positions of stops agrees with the auditor's test.
use Rattle.std.proofs.Common.{
  ◌≡◌,
  ◌≢◌,
  ℕ,
  zero,
  suc,
  ◌<◌,
  ◌≤◌,
  ◌⊎◌,
  Bool,
  true,
  false,
  cond,
  ◌&&◌,
  nat_lt,
  List,
  Option,
  Some,
  None,
  slice_get,
  is_some,
  refl,
  sym,
  ap,
  subst,
  ◌∙◌,
  inl,
  inr,
  arith,
  eqb,
}
use Rattle.std.specs.Option.{option_and_then}
use Rattle.std.proofs.lemmas.Bool.{lt-ltb, ltb-true}
use Rattle.std.proofs.lemmas.Bool.Decides.{eqb_tells}
use Rattle.std.proofs.lemmas.Option.{same_Some}
use Rattle.plan_types.specs.Instance.{Instance, stop_at, partner_at, request_with, pickup_at}
use Rattle.plan_types.specs.Request.{partner_in, pickup_in}
use Rattle.plan_types.specs.declared.requests.Stop.{Stop}
use Rattle.plan_types.specs.declared.requests.Request.{Request}
use Rattle.plan_types.specs.declared.requests.Request.TheVariants.{Single, Pair}
use Rattle.plan_audit.specs.Rules.{HasStopAt, IsVisited, IsEarlier, IsUnknown, IsRepeated, IsMissing, IsSplit, IsEarlyDelivery}
use Rattle.plan_audit.specs.FirstFault.{position_of, unknown_at, repeated_at, missing_at, split_at, early_delivery_at}
use Rattle.plan_audit.specs.declared.first_positions.StopPosition.{StopPosition}
use Rattle.plan_audit.proofs.FirstLemmas.{none_some}
use Rattle.plan_audit.proofs.PositionLemmas.{Sits, position_of-found, position_of-none, neither_before}
use Rattle.plan_audit.proofs.FailingPlaces.{Spot, IsTestOf}

-- if routes and places count from 0 instead of 1, both numbers of a stop's position are less by 1
pub standing : (routes : List (List ℕ)) (r i n : ℕ) → HasStopAt routes r i n → (q : ℕ) × (j : ℕ) × (r ≡ suc q) × (i ≡ suc j) × Sits routes q j n
standing routes zero i n t = absurd (none_some t.0 t.1)
standing routes (suc r) zero n t = absurd (none_some n t.2)
standing routes (suc r) (suc i) n t = (r, i, refl, refl, t)

-- a stop at no place has no first position, and conversely
pub nowhere-first_position : (routes : List (List ℕ)) (n : ℕ) → position_of routes n ≡ None → IsVisited routes n → ⊥
nowhere-first_position routes n none t = let s = standing routes t.0 t.1 n t.2 in position_of-none routes n none s.0 s.1 s.4

abbrev seat_test : ℕ → ℕ → ℕ → Option StopPosition → Option ℕ
seat_test r i n o = option_and_then (λ s. cond (eqb s.route r && eqb s.place i) None (Some n)) o

abbrev partner_test : List (List ℕ) → Option ℕ → Option ℕ
partner_test routes o = option_and_then (λ m. cond (is_some (position_of routes m)) None (Some m)) o

abbrev split_seat : ℕ → ℕ → Option StopPosition → Option ℕ
split_seat r n o = option_and_then (λ s. cond (eqb s.route r) None (Some n)) o

abbrev delivered_seat : ℕ → ℕ → Option StopPosition → Option ℕ
delivered_seat i n o = option_and_then (λ s. cond (nat_lt i s.place) (Some n) None) o

-- the answer of a test on the first position of another stop
seat_reported : (routes : List (List ℕ)) (test : StopPosition → Option ℕ) (other : Option ℕ) (s : ℕ)
    → option_and_then (λ m. option_and_then test (position_of routes m)) other ≡ Some s
    → (m : ℕ) × (u : StopPosition) × (other ≡ Some m) × Sits routes u.route u.place m × (test u ≡ Some s)
seat_reported routes test None s reported = absurd (none_some s reported)
seat_reported routes test (Some m) s reported = by (position_of routes m) refl reported
  where
    by : (o : Option StopPosition) → position_of routes m ≡ o → option_and_then test o ≡ Some s
        → (k : ℕ) × (u : StopPosition) × (Some m ≡ Some k) × Sits routes u.route u.place k × (test u ≡ Some s)
    by None e reported = absurd (none_some s reported)
    by (Some u) e reported = (m, u, refl, (position_of-found routes m u e).sits, reported)

-- the pickup of a delivery is its partner
partner_from_pickup : (p : Instance) (n m : ℕ) → pickup_at p n ≡ Some m → partner_at p n ≡ Some m
partner_from_pickup p n m is = by (request_with p n) is
  where
    by : (o : Option Request) → option_and_then (pickup_in n) o ≡ Some m → option_and_then (partner_in n) o ≡ Some m
    by None h = absurd (none_some m h)
    by (Some (Single s)) h = absurd (none_some m h)
    by (Some (Pair a b)) h = first (eqb a.number n) h
      where
        first : (c : Bool) → cond c None (cond (eqb b.number n) (Some a.number) None) ≡ Some m
            → cond c (Some b.number) (cond (eqb b.number n) (Some a.number) None) ≡ Some m
        first true h = absurd (none_some m h)
        first false h = h

module _ (p : Instance) (routes : List (List ℕ)) where
  pub unknown_rule : IsTestOf (IsUnknown p routes) (λ _ _ _ n. unknown_at p routes n) routes
  unknown_rule = record { to = λ r i s t. to r i s t (stop_at p t.1) refl; from = from }
    where
      to : (r i s : ℕ) (t : Spot (λ _ _ _ n. unknown_at p routes n) routes r i s) (o : Option Stop) → stop_at p (t.1) ≡ o → IsUnknown p routes (suc r) (suc i) s
      to r i s t (Some x) e = absurd (none_some s (let h : cond (is_some (stop_at p t.1)) None (Some t.1) ≡ Some s = t.4 in rw e at h))
      to r i s t None e =
          let same : t.1 ≡ s = same_Some _ _ (let h : cond (is_some (stop_at p t.1)) None (Some t.1) ≡ Some s = t.4 in rw e at h) in
          ((t.0, t.2, subst (λ n. slice_get t.0 i ≡ Some n) same t.3), subst (λ n. stop_at p n ≡ None) same e)

      from : (r i s : ℕ) → IsUnknown p routes r i s → (q : ℕ) × (j : ℕ) × (r ≡ suc q) × (i ≡ suc j) × Spot (λ _ _ _ n. unknown_at p routes n) routes q j s
      from r i s b = let t = standing routes r i s b.0 in (t.0, t.1, t.2, t.3, (t.4.0, s, t.4.1, t.4.2, rw b.1 refl))

  pub repeated_rule : IsTestOf (IsRepeated p routes) (λ r _ i n. repeated_at p routes r i n) routes
  repeated_rule = record { to = λ r i s t. to r i s t (position_of routes t.1) refl; from = from }
    where
      to : (r i s : ℕ) (t : Spot (λ r _ i n. repeated_at p routes r i n) routes r i s) (o : Option StopPosition) → position_of routes (t.1) ≡ o
          → IsRepeated p routes (suc r) (suc i) s
      to r i s t None e = absurd (none_some s (let h : seat_test r i t.1 (position_of routes t.1) ≡ Some s = t.4 in rw e at h))
      to r i s t (Some u) e =
          let reported : seat_test r i t.1 (Some u) ≡ Some s = (let h : seat_test r i t.1 (position_of routes t.1) ≡ Some s = t.4 in rw e at h) in
          let first_position = position_of-found routes t.1 u e in
          let first = first_position.least r i (t.0, t.2, t.3) in
          elsewhere (eqb_tells u.route r) (eqb_tells u.place i) reported first first_position.sits
        where
          elsewhere : ((eqb u.route r ≡ true) × (u.route ≡ r)) ⊎ ((eqb u.route r ≡ false) × (u.route ≢ r))
              → ((eqb u.place i ≡ true) × (u.place ≡ i)) ⊎ ((eqb u.place i ≡ false) × (u.place ≢ i))
              → cond (eqb u.route r && eqb u.place i) None (Some (t.1)) ≡ Some s → (u.route < r) ⊎ ((u.route ≡ r) × (u.place ≤ i))
              → Sits routes u.route u.place (t.1) → IsRepeated p routes (suc r) (suc i) s
          elsewhere (inl a) (inl b) reported first sits = absurd (none_some s (rw (a.0, b.0) at reported))
          elsewhere (inl a) (inr b) reported first sits =
              let same : t.1 ≡ s = same_Some _ _ (rw (a.0, b.0) at reported) in
              let before : u.place < i = elim first [ inl lt ↦ (let e = a.1 in omega arith) | inr le ↦ (let ne = b.1 in let le' = le.1 in omega arith) ] in (
                (t.0, t.2, subst (λ n. slice_get t.0 i ≡ Some n) same t.3),
                (suc u.route, suc u.place, inr (ap suc a.1, omega arith), subst (λ n. Sits routes u.route u.place n) same sits),
              )
          elsewhere (inr a) b reported first sits =
              let same : t.1 ≡ s = same_Some _ _ (rw (a.0) at reported) in
              let before : u.route < r = elim first [ inl lt ↦ lt | inr le ↦ absurd (a.1 le.0) ] in (
                (t.0, t.2, subst (λ n. slice_get t.0 i ≡ Some n) same t.3),
                (suc u.route, suc u.place, inl (omega arith), subst (λ n. Sits routes u.route u.place n) same sits),
              )

      from : (r i s : ℕ) → IsRepeated p routes r i s → (q : ℕ) × (j : ℕ) × (r ≡ suc q) × (i ≡ suc j) × Spot (λ r _ i n. repeated_at p routes r i n) routes q j s
      from r i s b =
          let t = standing routes r i s b.0 in
          let u = standing routes b.1.0 b.1.1 s b.1.3 in (
            t.0,
            t.1,
            t.2,
            t.3,
            (t.4.0, s, t.4.1, t.4.2, reported (position_of routes s) refl t.0 t.1 u.0 u.1 u.4 (earlier r i b.1.0 b.1.1 t.0 t.1 u.0 u.1 t.2 t.3 u.2 u.3 b.1.2)),
          )
        where
          earlier : (r i q j r' i' q' j' : ℕ) → r ≡ suc r' → i ≡ suc i' → q ≡ suc q' → j ≡ suc j' → IsEarlier q j r i → IsEarlier q' j' r' i'
          earlier r i q j r' i' q' j' er ei eq ej (inl lt) = inl (omega arith)
          earlier r i q j r' i' q' j' er ei eq ej (inr e) = let a = e.0 in let b = e.1 in inr (omega arith, omega arith)

          reported : (o : Option StopPosition) → position_of routes s ≡ o → (r i q j : ℕ) → Sits routes q j s → IsEarlier q j r i
              → option_and_then (λ t. cond (eqb t.route r && eqb t.place i) None (Some s)) (position_of routes s) ≡ Some s
          reported None e r i q j sits before = absurd (position_of-none routes s e q j sits)
          reported (Some u) e r i q j sits before =
              let first = (position_of-found routes s u e).least q j sits in
              let away : (eqb u.route r && eqb u.place i) ≡ false = apart (eqb_tells u.route r) (eqb_tells u.place i) first before in
              ap (λ (o : Option StopPosition). option_and_then (λ t. cond (eqb t.route r && eqb t.place i) None (Some s)) o) e ∙ ap (λ b. cond b None (Some s)) away
            where
              apart : ((eqb u.route r ≡ true) × (u.route ≡ r)) ⊎ ((eqb u.route r ≡ false) × (u.route ≢ r))
                  → ((eqb u.place i ≡ true) × (u.place ≡ i)) ⊎ ((eqb u.place i ≡ false) × (u.place ≢ i))
                  → (u.route < q) ⊎ ((u.route ≡ q) × (u.place ≤ j)) → IsEarlier q j r i → (eqb u.route r && eqb u.place i) ≡ false
              apart (inr a) b first before = rw (a.0) refl
              apart (inl a) (inr b) first before = rw (a.0, b.0) refl
              apart (inl a) (inl b) (inl f) (inl g) = let x = a.1 in absurd (omega arith)
              apart (inl a) (inl b) (inl f) (inr g) = let x = a.1 in let y = g.0 in absurd (omega arith)
              apart (inl a) (inl b) (inr f) (inl g) = let x = a.1 in let y = f.0 in absurd (omega arith)
              apart (inl a) (inl b) (inr f) (inr g) = let x = b.1 in let y = f.1 in let z = g.1 in absurd (omega arith)

  pub missing_rule : IsTestOf (IsMissing p routes) (λ _ _ _ n. missing_at p routes n) routes
  missing_rule = record { to = λ r i s t. to r i s t (partner_at p t.1) refl; from = from }
    where
      to : (r i s : ℕ) (t : Spot (λ _ _ _ n. missing_at p routes n) routes r i s) (o : Option ℕ) → partner_at p (t.1) ≡ o → IsMissing p routes (suc r) (suc i) s
      to r i s t None e = absurd (none_some s (let h : partner_test routes (partner_at p t.1) ≡ Some s = t.4 in rw e at h))
      to r i s t (Some m) e = by (position_of routes m) refl
        where
          by : (o : Option StopPosition) → position_of routes m ≡ o → IsMissing p routes (suc r) (suc i) s
          by (Some u) f =
              absurd (none_some s
              (let h : partner_test routes (partner_at p t.1) ≡ Some s = t.4 in let g : cond (is_some (position_of routes m)) None (Some m)
              ≡ Some s = (rw e at h) in rw f at g))
          by None f =
              let same : m ≡ s =
              same_Some _ _
              (let h : partner_test routes (partner_at p t.1) ≡ Some s = t.4 in let g : cond (is_some (position_of routes m)) None (Some m)
              ≡ Some s = (rw e at h) in rw f at g) in
              (t.1, (t.0, t.2, t.3), e ∙ ap Some same, λ somewhere. nowhere-first_position routes m f (subst (λ n. IsVisited routes n) (sym same) somewhere))

      from : (r i s : ℕ) → IsMissing p routes r i s → (q : ℕ) × (j : ℕ) × (r ≡ suc q) × (i ≡ suc j) × Spot (λ _ _ _ n. missing_at p routes n) routes q j s
      from r i s b =
          let t = standing routes r i b.0 b.1 in
          (t.0, t.1, t.2, t.3, (t.4.0, b.0, t.4.1, t.4.2, rw b.2 (empty (position_of routes s) refl)))
        where
          empty : (o : Option StopPosition) → position_of routes s ≡ o → cond (is_some (position_of routes s)) None (Some s) ≡ Some s
          empty None e = rw e refl
          empty (Some u) e = absurd (b.3 (suc u.route, suc u.place, (position_of-found routes s u e).sits))

  -- if no stop is repeated, the first position is the only one
  only-first_position : ((r i n : ℕ) → IsRepeated p routes r i n → ⊥) → (n : ℕ) (u : StopPosition) → position_of routes n ≡ Some u → (r i : ℕ) → Sits routes r i n
      → (u.route ≡ r) × (u.place ≡ i)
  only-first_position once n u e r i sits =
      let first_position = position_of-found routes n u e in
      let same =
      neither_before (suc u.route) (suc u.place) (suc r) (suc i) (λ earlier. once (suc r) (suc i) n (sits, (suc u.route, suc u.place, earlier, first_position.sits)))
      (λ earlier. once (suc u.route) (suc u.place) n (first_position.sits, (suc r, suc i, earlier, sits))) in
      (omega (arith, same.0), omega (arith, same.1))

  pub split_rule : ((r i n : ℕ) → IsRepeated p routes r i n → ⊥) → IsTestOf (IsSplit p routes) (λ r _ _ n. split_at p routes r n) routes
  split_rule once = record { to = to; from = from }
    where
      to : (r i s : ℕ) (t : Spot (λ r _ _ n. split_at p routes r n) routes r i s) → IsSplit p routes (suc r) (suc i) s
      to r i s t =
          let found = seat_reported routes (λ u. cond (eqb u.route r) None (Some t.1)) (partner_at p t.1) s t.4 in
          away found.0 found.1 found.2 found.3 (eqb_tells found.1.route r) found.4
        where
          away : (m : ℕ) (u : StopPosition) → partner_at p (t.1) ≡ Some m → Sits routes u.route u.place m
              → ((eqb u.route r ≡ true) × (u.route ≡ r)) ⊎ ((eqb u.route r ≡ false) × (u.route ≢ r)) → cond (eqb u.route r) None (Some (t.1)) ≡ Some s
              → IsSplit p routes (suc r) (suc i) s
          away m u e sits (inl a) reported = absurd (none_some s (rw (a.0) at reported))
          away m u e sits (inr a) reported =
              let same : t.1 ≡ s = same_Some _ _ (rw (a.0) at reported) in (
                (t.0, t.2, subst (λ n. slice_get t.0 i ≡ Some n) same t.3),
                (m, subst (λ n. partner_at p n ≡ Some m) same e, (suc u.route, suc u.place, (λ h. a.1 (omega arith)), sits)),
              )

      from : (r i s : ℕ) → IsSplit p routes r i s → (q : ℕ) × (j : ℕ) × (r ≡ suc q) × (i ≡ suc j) × Spot (λ r _ _ n. split_at p routes r n) routes q j s
      from r i s b =
          let t = standing routes r i s b.0 in
          let u = standing routes b.1.2.0 b.1.2.1 b.1.0 b.1.2.3 in
          (t.0, t.1, t.2, t.3, (t.4.0, s, t.4.1, t.4.2, rw (b.1.1) (reported (position_of routes b.1.0) refl t.0 t.2 u.0 u.1 u.2 u.4)))
        where
          reported : (o : Option StopPosition) → position_of routes (b.1.0) ≡ o → (r' : ℕ) → r ≡ suc r' → (q' j' : ℕ) → b.1.2.0 ≡ suc q' → Sits routes q' j' (b.1.0)
              → split_seat r' s (position_of routes (b.1.0)) ≡ Some s
          reported None f r' er q' j' eq sits = absurd (position_of-none routes (b.1.0) f q' j' sits)
          reported (Some x) f r' er q' j' eq sits =
              let only = only-first_position once (b.1.0) x f q' j' sits in
              let ne = b.1.2.2 in
              ap (split_seat r' s) f ∙ away (eqb_tells x.route r') (λ h. ne (eq ∙ ap suc (sym (only.0) ∙ h) ∙ sym er))
            where
              away : ((eqb x.route r' ≡ true) × (x.route ≡ r')) ⊎ ((eqb x.route r' ≡ false) × (x.route ≢ r')) → (x.route ≡ r' → ⊥)
                  → cond (eqb x.route r') None (Some s) ≡ Some s
              away (inl a) ne = absurd (ne a.1)
              away (inr a) ne = rw (a.0) refl

  pub delivered_rule : ((r i n : ℕ) → IsRepeated p routes r i n → ⊥) → ((r i n : ℕ) → IsSplit p routes r i n → ⊥)
      → IsTestOf (IsEarlyDelivery p routes) (λ _ _ i n. early_delivery_at p routes i n) routes
  delivered_rule once whole = record { to = to; from = from }
    where
      to : (r i s : ℕ) (t : Spot (λ _ _ i n. early_delivery_at p routes i n) routes r i s) → IsEarlyDelivery p routes (suc r) (suc i) s
      to r i s t =
          let found = seat_reported routes (λ u. cond (nat_lt i u.place) (Some t.1) None) (pickup_at p t.1) s t.4 in
          later found.0 found.1 found.2 found.3 (nat_lt i found.1.place) refl found.4 (eqb_tells found.1.route r)
        where
          later : (m : ℕ) (u : StopPosition) → pickup_at p (t.1) ≡ Some m → Sits routes u.route u.place m → (b : Bool) → nat_lt i u.place ≡ b
              → cond (nat_lt i u.place) (Some (t.1)) None ≡ Some s → ((eqb u.route r ≡ true) × (u.route ≡ r)) ⊎ ((eqb u.route r ≡ false) × (u.route ≢ r))
              → IsEarlyDelivery p routes (suc r) (suc i) s
          later m u e sits false lt reported where_to = absurd (none_some s (rw lt at reported))
          later m u e sits true lt reported (inr a) =
              absurd (whole (suc r) (suc i) t.1
              ((t.0, t.2, t.3), (m, partner_from_pickup p t.1 m e, (suc u.route, suc u.place, (λ h. a.1 (omega arith)), sits))))
          later m u e sits true lt reported (inl a) =
              let same : t.1 ≡ s = same_Some _ _ (rw lt at reported) in
              let after : i < u.place = ltb-true i u.place lt in (
                (t.0, t.2, subst (λ n. slice_get t.0 i ≡ Some n) same t.3),
                (m, subst (λ n. pickup_at p n ≡ Some m) same e, (suc u.place, omega arith, subst (λ q. Sits routes q u.place m) (a.1) sits)),
              )

      from : (r i s : ℕ) → IsEarlyDelivery p routes r i s
          → (q : ℕ) × (j : ℕ) × (r ≡ suc q) × (i ≡ suc j) × Spot (λ _ _ i n. early_delivery_at p routes i n) routes q j s
      from r i s b =
          let t = standing routes r i s b.0 in
          let u = standing routes r b.1.2.0 b.1.0 b.1.2.2 in
          (t.0, t.1, t.2, t.3, (t.4.0, s, t.4.1, t.4.2, rw (b.1.1) (reported (position_of routes b.1.0) refl t.1 t.3 u.0 u.1 u.3 u.4)))
        where
          reported : (o : Option StopPosition) → position_of routes (b.1.0) ≡ o → (i' : ℕ) → i ≡ suc i' → (q' j' : ℕ) → b.1.2.0 ≡ suc j' → Sits routes q' j' (b.1.0)
              → delivered_seat i' s (position_of routes (b.1.0)) ≡ Some s
          reported None f i' ei q' j' ej sits = absurd (position_of-none routes (b.1.0) f q' j' sits)
          reported (Some x) f i' ei q' j' ej sits =
              let only = only-first_position once (b.1.0) x f q' j' sits in
              let lt = b.1.2.1 in
              let place = only.1 in
              let after : i' < x.place = omega arith in
              ap (delivered_seat i' s) f ∙ ap (λ c. cond c (Some s) None) (lt-ltb i' x.place after)
