-- The first route beyond the fleet.
use Rattle.std.proofs.Common.{
  ◌≡◌,
  ◌≢◌,
  ℕ,
  zero,
  suc,
  ◌+◌,
  ◌-◌,
  ◌<◌,
  ◌≤◌,
  ◌⊎◌,
  Bool,
  true,
  false,
  cond,
  not,
  List,
  [],
  ◌∷◌,
  length,
  take,
  Option,
  Some,
  None,
  slice_get,
  refl,
  sym,
  ap,
  subst,
  ◌∙◌,
  inl,
  inr,
  arith,
  eqb,
}
use Rattle.std.proofs.lemmas.Bool.Decides.{eqb_tells}
use Rattle.std.proofs.lemmas.List.Sums.{sum_by-cons}
use Rattle.std.proofs.lemmas.Option.{same_Some}
use Rattle.plan_types.specs.Instance.{Instance}
use Rattle.route_sched.specs.Cost.{used_count}
use Rattle.plan_audit.specs.FirstFault.{first_route_beyond}
use Rattle.plan_audit.specs.Verdict.{IsBeyondFleet}
use Rattle.plan_audit.proofs.FirstLemmas.{none_some}
use Rattle.plan_audit.proofs.FailingPlaces.{IsLeastOf}
use Rattle.plan_audit.proofs.TimeLemmas.{positive, nonzero, route_in}

is_used : List ℕ → ℕ
is_used r = cond (not (eqb (length r) 0)) 1 0

used-cons : (r : List ℕ) (rs : List (List ℕ)) → used_count (r ∷ rs) ≡ is_used r + used_count rs
unfolding is_used
used-cons r rs = sum_by-cons is_used r rs

-- the number of used routes after one more route is added, which is empty or not
used-empty : (r : List ℕ) (rs : List (List ℕ)) → eqb (length r) 0 ≡ true → used_count (r ∷ rs) ≡ used_count rs
unfolding is_used
used-empty r rs e = let none : is_used r ≡ 0 = rw e refl in let step = used-cons r rs in omega arith

used-more : (r : List ℕ) (rs : List (List ℕ)) → eqb (length r) 0 ≡ false → used_count (r ∷ rs) ≡ used_count rs + 1
unfolding is_used
used-more r rs e = let one : is_used r ≡ 1 = rw e refl in let step = used-cons r rs in omega arith

-- there are no more used routes than routes
pub used-most : (rs : List (List ℕ)) → used_count rs ≤ length rs
used-most [] = omega arith
used-most (r ∷ rs) = by (eqb (length r) 0) refl (used-most rs)
  where
    by : (b : Bool) → eqb (length r) 0 ≡ b → used_count rs ≤ length rs → used_count (r ∷ rs) ≤ length (r ∷ rs)
    by true e rest = let step = used-empty r rs e in omega arith
    by false e rest = let step = used-more r rs e in omega arith

pub used-take : (n : ℕ) (rs : List (List ℕ)) → used_count (take n rs) ≤ used_count rs
used-take zero rs = omega arith
used-take (suc n) [] = omega arith
used-take (suc n) (r ∷ rs) =
    let rest = used-take n rs in
    let some = used-cons r (take n rs) in
    let all = used-cons r rs in
    omega arith

pub length-take-most : (n : ℕ) (rs : List (List ℕ)) → length (take n rs) ≤ length rs
length-take-most zero rs = omega arith
length-take-most (suc n) [] = omega arith
length-take-most (suc n) (r ∷ rs) = let rest = length-take-most n rs in omega arith

-- among the first routes, up to and including a used one, at least one is used
used-some : (rs : List (List ℕ)) (y : ℕ) (r : List ℕ) → slice_get rs y ≡ Some r → 0 < length r → 1 ≤ used_count (take (suc y) rs)
used-some [] y r at some = absurd (none_some r at)
used-some (x ∷ xs) zero r at some =
    let same : x ≡ r = same_Some x r at in
    let step = used-more x [] (nonzero (length x) (subst (λ (l : List ℕ). 0 < length l) (sym same) some)) in
    omega arith
used-some (x ∷ xs) (suc y) r at some =
    let rest = used-some xs y r at some in
    let step = used-cons x (take (suc y) xs) in
    omega arith

-- the answer of `first_route_beyond` for route r followed by the routes rs
abbrev beyond_step : ℕ → ℕ → List ℕ → List (List ℕ) → Option ℕ
beyond_step left k r rs =
    cond (eqb (length r) 0) (first_route_beyond left (k + 1) rs) (cond (eqb left 0) (Some k) (first_route_beyond (left - 1) (k + 1) rs))

-- if route y is used and is number `left` + 1 of the used routes, it is the route that is found
beyond_at : (left k y : ℕ) (rs : List (List ℕ)) (r : List ℕ) → slice_get rs y ≡ Some r → 0 < length r → used_count (take (suc y) rs) ≡ left + 1
    → first_route_beyond left k rs ≡ Some (k + y)
beyond_at left k y [] r at some is = absurd (none_some r at)
beyond_at left k zero (x ∷ xs) r at some is =
    let same : x ≡ r = same_Some x r at in
    let used = nonzero (length x) (subst (λ (l : List ℕ). 0 < length l) (sym same) some) in
    let step = used-more x [] used in
    let none : left ≡ 0 = omega arith in
    let place : k ≡ k + zero = omega arith in
    rw (used, none) (ap Some place)
beyond_at left k (suc y) (x ∷ xs) r at some is = by (eqb (length x) 0) refl (λ l e. beyond_at l (k + 1) y xs r at some e)
  where
    place : Some (k + 1 + y) ≡ Some (k + suc y)
    place = let e : k + 1 + y ≡ k + suc y = omega arith in ap Some e

    by : (b : Bool) → eqb (length x) 0 ≡ b → ((l : ℕ) → used_count (take (suc y) xs) ≡ l + 1 → first_route_beyond l (k + 1) xs ≡ Some (k + 1 + y))
        → cond b (first_route_beyond left (k + 1) xs) (cond (eqb left 0) (Some k) (first_route_beyond (left - 1) (k + 1) xs)) ≡ Some (k + suc y)
    by true e further = let step = used-empty x (take (suc y) xs) e in further left (omega arith) ∙ place
    by false e further =
        let step = used-more x (take (suc y) xs) e in
        let rest = used-some xs y r at some in
        let more : 0 < left = omega arith in
        rw (nonzero left more) (further (left - 1) (omega arith) ∙ place)

-- the route that is found is used, and with it one more route is used than there are vehicles left
record IsBeyond (left k : ℕ) (rs : List (List ℕ)) (m : ℕ) : Type 0 where
  index : ℕ
  route : List ℕ
  place : m ≡ k + index
  stands : slice_get rs index ≡ Some route
  used : 0 < length route
  count : used_count (take (suc index) rs) ≡ left + 1

beyond_found : (left k : ℕ) (rs : List (List ℕ)) (m : ℕ) → first_route_beyond left k rs ≡ Some m → IsBeyond left k rs m
beyond_found left k [] m is = absurd (none_some m is)
beyond_found left k (x ∷ xs) m is =
    by (eqb (length x) 0) refl (eqb_tells left 0) (λ h. beyond_found left (k + 1) xs m h) (λ h. beyond_found (left - 1) (k + 1) xs m h)
  where
    by : (b : Bool) → eqb (length x) 0 ≡ b → ((eqb left 0 ≡ true) × (left ≡ 0)) ⊎ ((eqb left 0 ≡ false) × (left ≢ 0))
        → (first_route_beyond left (k + 1) xs ≡ Some m → IsBeyond left (k + 1) xs m)
        → (first_route_beyond (left - 1) (k + 1) xs ≡ Some m → IsBeyond (left - 1) (k + 1) xs m) → IsBeyond left k (x ∷ xs) m
    by true e t empty used =
        let later = empty (let h : beyond_step left k x xs ≡ Some m = is in rw e at h) in
        record {
          index = suc (later.index);
          route = later.route;
          place = (let p = later.place in omega arith);
          stands = later.stands;
          used = later.used;
          count = used-empty x (take (suc (later.index)) xs) e ∙ later.count;
        }
    by false e (inl t) empty used =
        let same : k ≡ m = same_Some k m (let h : beyond_step left k x xs ≡ Some m = is in rw (e, t.0) at h) in
        let step = used-more x [] e in
        let none = t.1 in
        record {
          index = 0;
          route = x;
          place = omega arith;
          stands = refl;
          used = positive (length x) e;
          count = omega arith;
        }
    by false e (inr t) empty used =
        let later = used (let h : beyond_step left k x xs ≡ Some m = is in rw (e, t.0) at h) in
        let step = used-more x (take (suc (later.index)) xs) e in
        let count = later.count in
        let some = t.1 in
        record {
          index = suc (later.index);
          route = later.route;
          place = (let p = later.place in omega arith);
          stands = later.stands;
          used = later.used;
          count = omega arith;
        }

-- if no used route is beyond the number of vehicles, there are no more used routes than vehicles
pub used-within : (left k : ℕ) (rs : List (List ℕ)) → first_route_beyond left k rs ≡ None → used_count rs ≤ left
used-within left k [] is = omega arith
used-within left k (r ∷ rs) is = by (eqb (length r) 0) refl (eqb_tells left 0) (λ h. used-within left (k + 1) rs h) (λ h. used-within (left - 1) (k + 1) rs h)
  where
    by : (b : Bool) → eqb (length r) 0 ≡ b → ((eqb left 0 ≡ true) × (left ≡ 0)) ⊎ ((eqb left 0 ≡ false) × (left ≢ 0))
        → (first_route_beyond left (k + 1) rs ≡ None → used_count rs ≤ left) → (first_route_beyond (left - 1) (k + 1) rs ≡ None → used_count rs ≤ left - 1)
        → used_count (r ∷ rs) ≤ left
    by true e t empty used =
        let rest = empty (let h : beyond_step left k r rs ≡ None = is in rw e at h) in
        let step = used-empty r rs e in
        omega arith
    by false e (inl t) empty used =
        absurd (none_some k (sym (let h : beyond_step left k r rs ≡ None = is in rw (e, t.0) at h)))
    by false e (inr t) empty used =
        let rest = used (let h : beyond_step left k r rs ≡ None = is in rw (e, t.0) at h) in
        let step = used-more r rs e in
        let some = t.1 in
        omega arith

module _ (p : Instance) (routes : List (List ℕ)) where
  pub fleet_nothing : first_route_beyond p.fleet 0 routes ≡ None → (r i n : ℕ) → IsBeyondFleet p routes r i n → ⊥
  fleet_nothing is r i n b =
      let at = route_in routes b.3.0 r b.3.1 in
      none_some _ (sym is ∙ beyond_at p.fleet 0 at.0 routes b.3.0 at.2 b.3.2 (subst (λ r. used_count (take r routes) ≡ p.fleet + 1) at.1 b.2))

  pub fleet_found : (m : ℕ) → first_route_beyond p.fleet 0 routes ≡ Some m → IsLeastOf (IsBeyondFleet p routes) (suc m) 0 0
  fleet_found m is =
      let found = beyond_found p.fleet 0 routes m is in
      let place = found.place in
      let here : found.index ≡ m = omega arith in
      record {
        broken = (
          refl,
          refl,
          subst (λ x. used_count (take (suc x) routes) ≡ p.fleet + 1) here (found.count),
          (found.route, subst (λ x. slice_get routes x ≡ Some (found.route)) here (found.stands), found.used),
        );
        least = λ q j t b. (
            let at = route_in routes b.3.0 q b.3.1 in
            let same : 0 + at.0 ≡ m =
            same_Some _ _ (sym (beyond_at p.fleet 0 at.0 routes b.3.0 at.2 b.3.2 (subst (λ r. used_count (take r routes) ≡ p.fleet + 1) at.1 b.2)) ∙ is) in
            let e = at.1 in let a = b.0 in let c = b.1 in
            inr (omega arith, inr (sym a, omega arith)));
      }

  pub none_beyond : used_count routes ≤ p.fleet → first_route_beyond p.fleet 0 routes ≡ None
  none_beyond few = by (first_route_beyond p.fleet 0 routes) refl
    where
      by : (o : Option ℕ) → first_route_beyond p.fleet 0 routes ≡ o → o ≡ None
      by None e = refl
      by (Some m) e = let b = (fleet_found m e).broken in let count = b.2 in let le = used-take (suc m) routes in absurd (omega arith)
