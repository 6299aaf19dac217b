-- A plan that keeps the rules is sound, and conversely.
use Rattle.std.proofs.Common.{
  ◌≡◌,
  get_or,
  ℕ,
  zero,
  suc,
  ◌+◌,
  ◌<◌,
  ◌≤◌,
  ◌⊎◌,
  true,
  false,
  cond,
  max,
  ℤ,
  pos,
  ◌<ℤ◌,
  ◌≤ℤ◌,
  List,
  [],
  ◌∷◌,
  length,
  map,
  Option,
  Some,
  None,
  IsSome,
  refl,
  sym,
  ap,
  subst,
  ◌∙◌,
  inl,
  inr,
  arith,
  eqb,
}
use Rattle.std.specs.List.{range_with_len}
use Rattle.std.specs.Option.{option_map, option_and_then, option_or}
use Rattle.std.proofs.lemmas.Bool.{cases_lt}
use Rattle.std.proofs.lemmas.Bool.Decides.{eqb_tells}
use Rattle.std.proofs.lemmas.Int.{by_lt_z, ints}
use Rattle.std.proofs.lemmas.List.Sums.{fold_push}
use Rattle.std.proofs.lemmas.List.FromFn.{map-range_with_len_more}
use Rattle.std.proofs.lemmas.Option.{same_Some, slice_get-get_or, slice_get_within}
use Rattle.plan_types.specs.Instance.{Instance, IsInstance, stop_at, partner_at, request_with, first_some, pickup_at}
use Rattle.plan_types.specs.Laws.{NamedRequestsAreFound, RequestsAreStoredByName}
use Rattle.plan_types.specs.Request.{request_name, stop_in, partner_in, pickup_in}
use Rattle.plan_types.specs.declared.requests.Stop.{Stop}
use Rattle.plan_types.specs.declared.requests.Request.{Request}
use Rattle.plan_types.specs.declared.requests.Request.TheVariants.{Single, Pair}
use Rattle.plan_types.specs.declared.requests.Kind.TheVariants.{LiLim}
use Rattle.route_sched.specs.Route.{IsKnownStop, place}
use Rattle.route_sched.specs.Schedule.{start, load, time_between, greatest}
use Rattle.plan_audit.specs.Rules.{item_at, HasStopAt, IsVisited, IsUnknown, IsRepeated, IsMissing, IsSplit, IsEarlyDelivery, IsOverloaded, IsLate, IsLateReturn}
use Rattle.plan_audit.specs.FirstFault.{position_of}
use Rattle.plan_audit.specs.Verdict.{Subject, planned, printed, routes_of, Breaks, KeepsRules}
use Rattle.plan_audit.specs.Laws.{HasStopOnlyAt, IsPlanned, IsServedOnce, IsNamed, IsPlaceOf, IsSoundPlan}
use Rattle.plan_audit.specs.declared.first_positions.StopPosition.{StopPosition}
use Rattle.plan_audit.specs.declared.rules.Rule.TheVariants.{UnknownStop, VisitedTwice, MissingStop, SplitPair, EarlyDelivery, Load, Late, LateReturn}
use Rattle.plan_audit.proofs.FirstLemmas.{none_some}
use Rattle.plan_audit.proofs.PositionLemmas.{position_of-found, neither_before}
use Rattle.plan_audit.proofs.RuleLemmas.{nowhere-first_position}
use Rattle.plan_audit.proofs.VerdictLemmas.{Keeps}
use Rattle.plan_audit.proofs.ServiceLemmas.{HasStop, has_found, pair_apart, partner_of_pickup, partner_of_delivery, pickup_of_delivery}

-- a missing partner breaks rule 3 for a plan and for a printed solution
pub missing_in : (p : Instance) (s : Subject) (r i n : ℕ) → IsMissing p (routes_of s) r i n → Breaks p s MissingStop r i n
missing_in p (planned routes pins) r i n b = b
missing_in p (printed routes cost) r i n b = inl b

-- a stop is in some route or in none
pub somewhere_or_not : (routes : List (List ℕ)) (n : ℕ) → IsVisited routes n ⊎ (IsVisited routes n → ⊥)
somewhere_or_not routes n = by (position_of routes n) refl
  where
    by : (o : Option StopPosition) → position_of routes n ≡ o → IsVisited routes n ⊎ (IsVisited routes n → ⊥)
    by None e = inr (nowhere-first_position routes n e)
    by (Some u) e = inl (suc u.route, suc u.place, (position_of-found routes n u e).sits)

-- a place of a route has a stop
pub stop_there : (ns : List ℕ) (i : ℕ) → 1 ≤ i → i ≤ length ns → (n : ℕ) × (item_at ns i ≡ Some n)
stop_there ns zero from to = absurd (omega arith)
stop_there ns (suc k) from to = (get_or ns k 0, slice_get-get_or ns k 0 (omega arith))

pub stop_within : (ns : List ℕ) (i n : ℕ) → item_at ns i ≡ Some n → (1 ≤ i) × (i ≤ length ns)
stop_within ns zero n at = absurd (none_some n at)
stop_within ns (suc k) n at = let lt = slice_get_within ns k n at in (omega arith, omega arith)

-- service starts no earlier than the stop's earliest time
start_from : (p : Instance) (route : List ℕ) (i : ℕ) → (place p route i).earliest ≤ start p route i
unfolding start
start_from p route i =
    let times : ℕ → ℕ = λ j. (place p route j).earliest + time_between p route j i in
    let last : greatest (map times (range_with_len 0 (i + 1))) ≡ max (greatest (map times (range_with_len 0 i))) (times i) =
    ap greatest (map-range_with_len_more times 0 i i (omega arith)) ∙ fold_push max 0 (map times (range_with_len 0 i)) (times i) in
    omega arith

-- a plan that keeps the rules is sound
module _ (found : NamedRequestsAreFound) (p : Instance) (s : Subject) (valid : IsInstance p) (kept : KeepsRules 1 8 p s) where
  live : (r i n : ℕ) → HasStopAt (routes_of s) r i n → IsKnownStop p n
  live r i n t = by (stop_at p n) refl
    where
      by : (o : Option Stop) → stop_at p n ≡ o → IsSome o
      by (Some x) e = refl
      by None e = absurd (kept UnknownStop r i n (omega arith) (omega arith) (t, e))

  not_twice : (r i q j n : ℕ) → HasStopAt (routes_of s) r i n → HasStopAt (routes_of s) q j n → (q < r) ⊎ ((q ≡ r) × (j < i)) → ⊥
  not_twice r i q j n t u earlier = kept VisitedTwice r i n (omega arith) (omega arith) (t, (q, j, earlier, u))

  once : (r i n : ℕ) → HasStopAt (routes_of s) r i n → (q j : ℕ) → HasStopAt (routes_of s) q j n → (q ≡ r) × (j ≡ i)
  once r i n t q j u = neither_before q j r i (not_twice r i q j n t u) (not_twice q j r i n u t)

  stands_once : (r i n : ℕ) → HasStopAt (routes_of s) r i n → HasStopOnlyAt (routes_of s) r i n
  stands_once r i n t = (t, once r i n t)

  -- the other stop of a pair is in a route too
  partner_stands : (r i n m : ℕ) → HasStopAt (routes_of s) r i n → partner_at p n ≡ Some m → IsVisited (routes_of s) m
  partner_stands r i n m t is = elim (somewhere_or_not (routes_of s) m) [
    | inl there ↦ there
    | inr nowhere ↦ absurd (kept MissingStop r i m (omega arith) (omega arith) (missing_in p s r i m (n, t, is, nowhere)))
  ]

  both_served : (name : ℕ) (a b : Stop) → IsNamed p name (Pair a b) → (r i q j : ℕ) → HasStopAt (routes_of s) r i a.number → HasStopAt (routes_of s) q j b.number
      → IsServedOnce (routes_of s) (Pair a b)
  both_served name a b at r i q j t u = elim (eqb_tells q r) [
    | inr ne ↦ absurd (kept SplitPair r i a.number (omega arith) (omega arith) (t, (b.number, partner_of_pickup found p valid name a b at, (q, j, ne.1, u))))
    | inl same ↦ (
        let u' : HasStopAt (routes_of s) r j b.number = subst (λ q. HasStopAt (routes_of s) q j b.number) (same.1) u in
        elim (cases_lt i j) [
          | inl lt ↦ (r, i, j, lt, stands_once r i a.number t, stands_once r j b.number u')
          | inr ge ↦ absurd
              (kept EarlyDelivery r j b.number (omega arith) (omega arith) (u', (a.number, pickup_of_delivery found p valid name a b at, (i, following ge u', t))))
        ])
  ]
    where
      same_stop : (t' : HasStopAt (routes_of s) r i a.number) (u' : HasStopAt (routes_of s) r j b.number) → i ≡ j → a.number ≡ b.number
      same_stop t' u' e =
          let route : t'.0 ≡ u'.0 = same_Some _ _ (sym t'.1 ∙ u'.1) in
          same_Some _ _ (sym t'.2 ∙ subst (λ k. item_at t'.0 k ≡ Some b.number) (sym e) (subst (λ (l : List ℕ). item_at l j ≡ Some b.number) (sym route) u'.2))

      following : j ≤ i → HasStopAt (routes_of s) r j b.number → j < i
      following ge u' = elim (cases_lt j i) [
        | inl lt ↦ lt
        | inr le ↦ absurd (pair_apart p valid name a b at (same_stop t u' (omega arith)))
      ]

  served : (name : ℕ) (request : Request) → IsNamed p name request → IsPlanned (routes_of s) request → IsServedOnce (routes_of s) request
  served name (Single a) at t = (t.0, t.1, stands_once t.0 t.1 a.number t.2)
  served name (Pair a b) at (inl t) =
      let u = partner_stands t.0 t.1 a.number b.number t.2 (partner_of_pickup found p valid name a b at) in
      both_served name a b at t.0 t.1 u.0 u.1 t.2 u.2
  served name (Pair a b) at (inr u) =
      let t = partner_stands u.0 u.1 b.number a.number u.2 (partner_of_delivery found p valid name a b at) in
      both_served name a b at t.0 t.1 u.0 u.1 t.2 u.2

  loads : (r i : ℕ) (route : List ℕ) → IsPlaceOf (routes_of s) r route i → load p route i ≤ℤ pos p.capacity
  loads r i route at =
      let stop = stop_there route i at.1 at.2 in
      by_lt_z (pos p.capacity) (load p route i) (λ lt. absurd (kept Load r i stop.0 (omega arith) (omega arith) (route, at.0, stop.1, lt))) (λ le. le)

  windows : p.kind ≡ LiLim → (r i : ℕ) (route : List ℕ) → IsPlaceOf (routes_of s) r route i
      → ((place p route i).earliest ≤ start p route i) × (start p route i ≤ (place p route i).latest)
  windows kind r i route at =
      let stop = stop_there route i at.1 at.2 in (
        start_from p route i,
        elim (cases_lt (place p route i).latest (start p route i)) [
          | inl lt ↦ absurd (kept Late r i stop.0 (omega arith) (omega arith) (kind, (route, at.0, stop.1, lt)))
          | inr ge ↦ ge
        ],
      )

  returns : p.kind ≡ LiLim → (r : ℕ) (route : List ℕ) → item_at (routes_of s) r ≡ Some route → 0 < length route
      → start p route (length route + 1) ≤ p.depot.latest
  returns kind r route at some = elim (cases_lt p.depot.latest (start p route (length route + 1))) [
    | inl lt ↦ absurd (kept LateReturn r (length route + 1) 0 (omega arith) (omega arith) (kind, (route, at, some, refl, refl, lt)))
    | inr ge ↦ ge
  ]

  pub sound_from : IsSoundPlan p (routes_of s)
  sound_from = record { live = live; served = served; loads = loads; windows = windows; returns = returns }

-- the stops a and b are a pair of the problem; their numbers are n and m, in either order
IsPairOf : Instance → ℕ → ℕ → Stop → Stop → Type 0
IsPairOf p n m a b = IsNamed p a.number (Pair a b) × (((a.number ≡ n) × (b.number ≡ m)) ⊎ ((b.number ≡ n) × (a.number ≡ m)))

first_request : (n : ℕ) (es : List (ℕ × Request)) (s : Stop) → first_some (stop_in n) es ≡ Some s
    → (r : Request) × (first_some (λ r. option_map (λ _. r) (stop_in n r)) es ≡ Some r) × HasStop n r
first_request n [] s is = absurd (none_some s is)
first_request n (e ∷ es) s is = by (stop_in n e.1) refl (λ h. first_request n es s h)
  where
    by : (o : Option Stop) → stop_in n e.1 ≡ o
        → (first_some (stop_in n) es ≡ Some s → (r : Request) × (first_some (λ r. option_map (λ _. r) (stop_in n r)) es ≡ Some r) × HasStop n r)
        → (r : Request) × (option_or (option_map (λ _. e.1) (stop_in n e.1)) (first_some (λ r. option_map (λ _. r) (stop_in n r)) es) ≡ Some r) × HasStop n r
    by (Some t) at rest =
        (e.1, ap (λ (o : Option Stop). option_or (option_map (λ _. e.1) o) (first_some (λ r. option_map (λ _. r) (stop_in n r)) es)) at, has_found n e.1 t at)
    by None at rest =
        let later = rest (sym (ap (λ (o : Option Stop). option_or o (first_some (stop_in n) es)) at) ∙ is) in
        (later.0, ap (λ (o : Option Stop). option_or (option_map (λ _. e.1) o) (first_some (λ r. option_map (λ _. r) (stop_in n r)) es)) at ∙ later.1, later.2)

module _ (by_name : RequestsAreStoredByName) (p : Instance) (valid : IsInstance p) where
  pair_of : (n m : ℕ) → partner_at p n ≡ Some m → (a : Stop) × (b : Stop) × IsPairOf p n m a b
  unfolding IsPairOf
  pair_of n m is = by (request_with p n) refl is
    where
      by : (o : Option Request) → request_with p n ≡ o → option_and_then (partner_in n) o ≡ Some m → (a : Stop) × (b : Stop) × IsPairOf p n m a b
      by None e reported = absurd (none_some m reported)
      by (Some (Single s)) e reported = absurd (none_some m reported)
      by (Some (Pair a b)) e reported = elim (eqb_tells a.number n) [
        | inl t ↦ (
          a,
          b,
          (
            by_name p n (Pair a b) valid e,
            inl (
              t.1,
              same_Some _ _ (let h : cond (eqb a.number n) (Some b.number) (cond (eqb b.number n) (Some a.number) None) ≡ Some m = reported in rw (t.0) at h),
            ),
          ),
        )
        | inr t ↦ elim (eqb_tells b.number n) [
          | inl u ↦ (
            a,
            b,
            (
              by_name p n (Pair a b) valid e,
              inr (
                u.1,
                same_Some _ _
                    (let h : cond (eqb a.number n) (Some b.number) (cond (eqb b.number n) (Some a.number) None) ≡ Some m = reported in rw (t.0, u.0) at h),
              ),
            ),
          )
          | inr u ↦ absurd
              (none_some m (let h : cond (eqb a.number n) (Some b.number) (cond (eqb b.number n) (Some a.number) None) ≡ Some m = reported in rw (t.0, u.0) at h))
        ]
      ]

  pickup_pair : (n m : ℕ) → pickup_at p n ≡ Some m → (a : Stop) × (b : Stop) × IsNamed p a.number (Pair a b) × (b.number ≡ n) × (a.number ≡ m)
  pickup_pair n m is = by (request_with p n) refl is
    where
      by : (o : Option Request) → request_with p n ≡ o → option_and_then (pickup_in n) o ≡ Some m
          → (a : Stop) × (b : Stop) × IsNamed p a.number (Pair a b) × (b.number ≡ n) × (a.number ≡ m)
      by None e reported = absurd (none_some m reported)
      by (Some (Single s)) e reported = absurd (none_some m reported)
      by (Some (Pair a b)) e reported = elim (eqb_tells a.number n) [
        | inl t ↦ absurd (none_some m (let h : cond (eqb a.number n) None (cond (eqb b.number n) (Some a.number) None) ≡ Some m = reported in rw (t.0) at h))
        | inr t ↦ elim (eqb_tells b.number n) [
          | inl u ↦ (
            a,
            b,
            by_name p n (Pair a b) valid e,
            u.1,
            same_Some _ _ (let h : cond (eqb a.number n) None (cond (eqb b.number n) (Some a.number) None) ≡ Some m = reported in rw (t.0, u.0) at h),
          )
          | inr u ↦ absurd (none_some m (let h : cond (eqb a.number n) None (cond (eqb b.number n) (Some a.number) None) ≡ Some m = reported in rw (t.0, u.0) at h))
        ]
      ]

  -- a current stop belongs to a request
  request_of : (n : ℕ) → IsKnownStop p n → (r : Request) × IsNamed p (request_name r) r × HasStop n r
  request_of n is = by (stop_at p n) refl is
    where
      by : (o : Option Stop) → stop_at p n ≡ o → IsSome o → (r : Request) × IsNamed p (request_name r) r × HasStop n r
      by (Some s) e some = let f = first_request n p.requests s e in (f.0, by_name p n f.0 valid f.1, f.2)
      by None e some = absurd (let g : false ≡ true = some in cc)

z_apart : (a b : ℤ) → a <ℤ b → b ≤ℤ a → ⊥
z_apart a b lt le = omega (arith, ints)

-- a sound plan keeps the rules
module _ (by_name : RequestsAreStoredByName) (p : Instance) (valid : IsInstance p) (s : Subject) (sound : IsSoundPlan p (routes_of s)) where
  -- a stop in the routes has exactly one place
  one_place : (r i n : ℕ) → HasStopAt (routes_of s) r i n → (q : ℕ) × (j : ℕ) × HasStopOnlyAt (routes_of s) q j n
  one_place r i n t = let f = request_of by_name p valid n (sound.live r i n t) in by f.0 f.1 f.2
    where
      by : (q : Request) → IsNamed p (request_name q) q → HasStop n q → (q : ℕ) × (j : ℕ) × HasStopOnlyAt (routes_of s) q j n
      by (Single a) at has =
          let served = sound.served a.number (Single a) at (r, i, subst (λ m. HasStopAt (routes_of s) r i m) (sym has) t) in
          (served.0, served.1, subst (λ m. HasStopOnlyAt (routes_of s) served.0 served.1 m) has served.2)
      by (Pair a b) at (inl has) =
          let served = sound.served a.number (Pair a b) at (inl (r, i, subst (λ m. HasStopAt (routes_of s) r i m) (sym has) t)) in
          (served.0, served.1, subst (λ m. HasStopOnlyAt (routes_of s) served.0 served.1 m) has served.4)
      by (Pair a b) at (inr has) =
          let served = sound.served a.number (Pair a b) at (inr (r, i, subst (λ m. HasStopAt (routes_of s) r i m) (sym has) t)) in
          (served.0, served.2, subst (λ m. HasStopOnlyAt (routes_of s) served.0 served.2 m) has served.5)

  keeps_twice : (r i n : ℕ) → IsRepeated p (routes_of s) r i n → ⊥
  keeps_twice r i n b =
      let one = one_place r i n b.0 in
      let here = one.2.1 r i b.0 in
      let there = one.2.1 b.1.0 b.1.1 b.1.3 in
      let hr = here.0 in let hi = here.1 in let tr = there.0 in let ti = there.1 in
      elim b.1.2 [ inl lt ↦ omega arith | inr e ↦ (let le = e.1 in omega arith) ]

  keeps_missing : (r i n : ℕ) → IsMissing p (routes_of s) r i n → ⊥
  unfolding IsPairOf
  keeps_missing r i n b =
      let pair = pair_of by_name p valid b.0 n b.2 in
      let x = pair.0 in let y = pair.1 in
      elim pair.2.1 [
        | inl e ↦ (
            let served = sound.served x.number (Pair x y) pair.2.0 (inl (r, i, subst (λ m. HasStopAt (routes_of s) r i m) (sym e.0) b.1)) in
            b.3 (served.0, served.2, subst (λ m. HasStopAt (routes_of s) served.0 served.2 m) e.1 served.5.0))
        | inr e ↦ (
            let served = sound.served x.number (Pair x y) pair.2.0 (inr (r, i, subst (λ m. HasStopAt (routes_of s) r i m) (sym e.0) b.1)) in
            b.3 (served.0, served.1, subst (λ m. HasStopAt (routes_of s) served.0 served.1 m) e.1 served.4.0))
      ]

  keeps_whole : (r i n : ℕ) → IsSplit p (routes_of s) r i n → ⊥
  unfolding IsPairOf
  keeps_whole r i n b =
      let m = b.1.0 in let q = b.1.2.0 in let j = b.1.2.1 in
      let pair = pair_of by_name p valid n m b.1.1 in
      let x = pair.0 in let y = pair.1 in
      elim pair.2.1 [
        | inl e ↦ (
            let here : HasStopAt (routes_of s) r i x.number = subst (λ k. HasStopAt (routes_of s) r i k) (sym e.0) b.0 in
            let there : HasStopAt (routes_of s) q j y.number = subst (λ k. HasStopAt (routes_of s) q j k) (sym e.1) b.1.2.3 in
            let served = sound.served x.number (Pair x y) pair.2.0 (inl (r, i, here)) in
            b.1.2.2 ((served.5.1 q j there).0 ∙ sym (served.4.1 r i here).0))
        | inr e ↦ (
            let here : HasStopAt (routes_of s) r i y.number = subst (λ k. HasStopAt (routes_of s) r i k) (sym e.0) b.0 in
            let there : HasStopAt (routes_of s) q j x.number = subst (λ k. HasStopAt (routes_of s) q j k) (sym e.1) b.1.2.3 in
            let served = sound.served x.number (Pair x y) pair.2.0 (inr (r, i, here)) in
            b.1.2.2 ((served.4.1 q j there).0 ∙ sym (served.5.1 r i here).0))
      ]

  keeps_order : (r i n : ℕ) → IsEarlyDelivery p (routes_of s) r i n → ⊥
  keeps_order r i n b =
      let m = b.1.0 in let j = b.1.2.0 in
      let pair = pickup_pair by_name p valid n m b.1.1 in
      let x = pair.0 in let y = pair.1 in
      let here : HasStopAt (routes_of s) r i y.number = subst (λ k. HasStopAt (routes_of s) r i k) (sym pair.3) b.0 in
      let there : HasStopAt (routes_of s) r j x.number = subst (λ k. HasStopAt (routes_of s) r j k) (sym pair.4) b.1.2.2 in
      let served = sound.served x.number (Pair x y) pair.2 (inr (r, i, here)) in
      let first = (served.4.1 r j there).1 in
      let last = (served.5.1 r i here).1 in
      let order = served.3 in
      let before = b.1.2.1 in
      omega arith

  keeps_loads : (r i n : ℕ) → IsOverloaded p (routes_of s) r i n → ⊥
  keeps_loads r i n b = let within = stop_within b.0 i n b.2 in z_apart (pos p.capacity) (load p b.0 i) b.3 (sound.loads r i b.0 (b.1, within.0, within.1))

  keeps_windows : (r i n : ℕ) → IsLate p (routes_of s) r i n → ⊥
  keeps_windows r i n b =
      let route = b.1.0 in
      let within = stop_within route i n b.1.2 in
      let late = b.1.3 in
      let in_time = (sound.windows b.0 r i route (b.1.1, within.0, within.1)).1 in
      omega arith

  keeps_returns : (r i n : ℕ) → IsLateReturn p (routes_of s) r i n → ⊥
  keeps_returns r i n b =
      let route = b.1.0 in
      let late : p.depot.latest < start p route (length route + 1) = subst (λ k. p.depot.latest < start p route k) b.1.3 b.1.5 in
      let in_time = sound.returns b.0 r route b.1.1 b.1.2 in
      omega arith

  keeps_live : (r i n : ℕ) → IsUnknown p (routes_of s) r i n → ⊥
  keeps_live r i n b = by (stop_at p n) b.1 (sound.live r i n b.0)
    where
      by : (o : Option Stop) → o ≡ None → IsSome o → ⊥
      by None e some = (let g : false ≡ true = some in cc)
      by (Some x) e some = none_some x (sym e)

  pub keeps_from : Keeps p s MissingStop → KeepsRules 1 8 p s
  keeps_from missing UnknownStop r i n from to b = keeps_live r i n b
  keeps_from missing VisitedTwice r i n from to b = keeps_twice r i n b
  keeps_from missing MissingStop r i n from to b = missing r i n b
  keeps_from missing SplitPair r i n from to b = keeps_whole r i n b
  keeps_from missing EarlyDelivery r i n from to b = keeps_order r i n b
  keeps_from missing Load r i n from to b = keeps_loads r i n b
  keeps_from missing Late r i n from to b = keeps_windows r i n b
  keeps_from missing LateReturn r i n from to b = keeps_returns r i n b
  keeps_from missing _ r i n from to b = omega arith

  pub keeps_partners : (r i n : ℕ) → IsMissing p (routes_of s) r i n → ⊥
  keeps_partners r i n b = keeps_missing r i n b
