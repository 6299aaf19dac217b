-- The best of some trials: by the kind of violation, then by its excess, then by distance.
use Rattle.std.proofs.Common.{◌≡◌, ◌∙◌, ℕ, suc, ◌<◌, ◌≤◌, ◌⊎◌, inl, inr, Bool, true, false, not, if◌then◌else◌, ltb, ◌&&◌, ◌||◌, List, [], ◌∷◌, Option, Some, None, refl, sym, ap, arith}
use Rattle.std.specs.Prelude.{⊤}
use Rattle.std.specs.List.{AllByRecursion}
use Rattle.std.proofs.lemmas.Bool.{cases_Bool, cases_lt, false≢true}
use Rattle.std.proofs.lemmas.Bool.Decides.{leb_tells}
use Rattle.move_ops.proofs.OccurrenceLemmas.{none_some, some_same}
use Rattle.request_explanation.specs.Laws.{NoneIsBetter, OverloadIsLastResort}
use Rattle.request_explanation.specs.LimitViolations.{excess_of, is_overload, violates_less}
use Rattle.request_explanation.specs.Trials.{best_from, better, is_better, trials}
use Rattle.request_explanation.specs.declared.limit_violations.LimitViolation.{LimitViolation}
use Rattle.request_explanation.specs.declared.trials.Trial.{Trial}

-- ---- two trials by their kinds, excesses and distances
-- the tests: the first trial violates less, and the first trial is better
abbrev pub less : Bool → ℕ → Bool → ℕ → Bool
less x e y f = if x then y && ltb e f else (y || ltb e f)

abbrev before : Bool → ℕ → ℕ → Bool → ℕ → ℕ → Bool
before x e d y f g = less x e y f || (not (less y f x e) && ltb d g)

-- the meaning of the tests: an overload is greater than everything that is not an overload, and within a kind
-- the numbers decide
abbrev pub ByKind : Bool → Bool → Type 0 → Type 0
ByKind false false R = R
ByKind false true R = ⊤
ByKind true false R = ⊥
ByKind true true R = R

abbrev pub Least : ℕ → ℕ → ℕ → ℕ → Type 0
Least e d f g = (e < f) ⊎ ((e ≡ f) × (d ≤ g))

abbrev pub AtMost : Bool → ℕ → ℕ → Bool → ℕ → ℕ → Type 0
AtMost x e d y f g = ByKind x y (Least e d f g)

lower : (e d f g : ℕ) → ltb e f ≡ true → Least e d f g
lower e d f g h = elim (leb_tells (suc e) f) [
  | inl t ↦ inl (omega (arith, t.1))
  | inr t ↦ absurd (false≢true (sym t.0 ∙ h))
]

no_higher : (e d f g : ℕ) → ltb f e ≡ false → d ≤ g → Least e d f g
no_higher e d f g h most = elim (leb_tells (suc f) e) [
  | inl t ↦ absurd (false≢true (sym h ∙ t.0))
  | inr t ↦ elim (cases_lt e f) [
    | inl first ↦ inl first
    | inr back ↦ inr (omega (arith, t.1, back), most)
  ]
]

-- a trial that violates less is better, whatever the distances are
by_less : (x : Bool) (e d : ℕ) (y : Bool) (f g : ℕ) → less x e y f ≡ true → AtMost x e d y f g
by_less false e d false f g h = lower e d f g h
by_less false e d true f g h = tt
by_less true e d false f g h = absurd (false≢true h)
by_less true e d true f g h = lower e d f g h

by_way : (x : Bool) (e d : ℕ) (y : Bool) (f g : ℕ) → less y f x e ≡ false → d ≤ g → AtMost x e d y f g
by_way false e d false f g h most = no_higher e d f g h most
by_way false e d true f g h most = tt
by_way true e d false f g h most = absurd (false≢true (sym h))
by_way true e d true f g h most = no_higher e d f g h most

pub no_less : (x : Bool) (e : ℕ) → less x e x e ≡ false
no_less x e = elim (leb_tells (suc e) e) [
  | inl t ↦ absurd (omega (arith, t.1))
  | inr t ↦ of_kind x t.0
]
  where
    of_kind : (x : Bool) → ltb e e ≡ false → less x e x e ≡ false
    of_kind false h = h
    of_kind true h = h

pub not_less_than_none : (x : Bool) (e : ℕ) → less x e false 0 ≡ false
not_less_than_none true e = refl
not_less_than_none false e = elim (leb_tells (suc e) 0) [
  | inl t ↦ absurd (omega (arith, t.1))
  | inr t ↦ t.0
]

distance_tells : (d g : ℕ) (t : Bool) → ltb d g ≡ t → ((t ≡ true) × (d ≤ g)) ⊎ ((t ≡ false) × (g ≤ d))
distance_tells d g t h = elim (leb_tells (suc d) g) [
  | inl u ↦ inl (sym h ∙ u.0, omega (arith, u.1))
  | inr u ↦ inr (sym h ∙ u.0, omega (arith, u.1))
]

was_before : (x : Bool) (e d : ℕ) (y : Bool) (f g : ℕ) → before x e d y f g ≡ true → AtMost x e d y f g
was_before x e d y f g h = elim (cases_Bool (less x e y f)) [
  | inl first ↦ by_less x e d y f g first
  | inr level ↦ elim (cases_Bool (less y f x e)) [
    | inl back ↦ absurd (let k : false ≡ true = rw (level, back) at h in cc)
    | inr even ↦ elim (distance_tells d g (ltb d g) refl) [
      | inl u ↦ by_way x e d y f g even u.1
      | inr u ↦ absurd (let k : false ≡ true = rw (level, even, u.0) at h in cc)
    ]
  ]
]

not_before : (x : Bool) (e d : ℕ) (y : Bool) (f g : ℕ) → before x e d y f g ≡ false → AtMost y f g x e d
not_before x e d y f g h = elim (cases_Bool (less x e y f)) [
  | inl first ↦ absurd (let k : true ≡ false = rw first at h in cc)
  | inr level ↦ elim (cases_Bool (less y f x e)) [
    | inl back ↦ by_less y f g x e d back
    | inr even ↦ elim (distance_tells d g (ltb d g) refl) [
      | inl u ↦ absurd (let k : true ≡ false = rw (level, even, u.0) at h in cc)
      | inr u ↦ by_way y f g x e d level u.1
    ]
  ]
]

is_not_least : (e d f g : ℕ) → Least f g e d → (ltb e f || (not (ltb f e) && ltb d g)) ≡ false
is_not_least e d f g (inl less) = elim (leb_tells (suc e) f) [
  | inl t ↦ absurd (omega (arith, t.1, less))
  | inr t ↦ elim (leb_tells (suc f) e) [
    | inl s ↦ rw (t.0, s.0) refl
    | inr s ↦ absurd (omega (arith, s.1, less))
  ]
]
is_not_least e d f g (inr both) = elim (leb_tells (suc e) f) [
  | inl t ↦ absurd (omega (arith, t.1, both.0))
  | inr t ↦ elim (leb_tells (suc d) g) [
    | inl u ↦ absurd (omega (arith, u.1, both.1))
    | inr u ↦ elim (leb_tells (suc f) e) [
      | inl s ↦ rw (t.0, s.0) refl
      | inr s ↦ rw (t.0, s.0, u.0) refl
    ]
  ]
]

is_not_before : (x : Bool) (e d : ℕ) (y : Bool) (f g : ℕ) → AtMost y f g x e d → before x e d y f g ≡ false
is_not_before false e d false f g most = is_not_least e d f g most
is_not_before false e d true f g most = absurd most
is_not_before true e d false f g most = refl
is_not_before true e d true f g most = is_not_least e d f g most

both_least : (e d f g h k : ℕ) → Least e d f g → Least f g h k → Least e d h k
both_least e d f g h k (inl a) (inl b) = inl (omega (arith, a, b))
both_least e d f g h k (inl a) (inr b) = inl (omega (arith, a, b.0))
both_least e d f g h k (inr a) (inl b) = inl (omega (arith, a.0, b))
both_least e d f g h k (inr a) (inr b) = inr (a.0 ∙ b.0, omega (arith, a.1, b.1))

joined : (x : Bool) (e d : ℕ) (y : Bool) (f g : ℕ) (z : Bool) (h k : ℕ) → AtMost x e d y f g → AtMost y f g z h k → AtMost x e d z h k
joined false e d false f g false h k a b = both_least e d f g h k a b
joined false e d false f g true h k a b = tt
joined false e d true f g false h k a b = absurd b
joined false e d true f g true h k a b = tt
joined true e d false f g z h k a b = absurd a
joined true e d true f g false h k a b = absurd b
joined true e d true f g true h k a b = both_least e d f g h k a b

-- ---- trials
-- one trial is no worse than another if the other is not better
abbrev pub no_worse : (t u : Trial) → Type 0
no_worse t u = AtMost (is_overload t.violation) (excess_of t.violation) t.distance (is_overload u.violation) (excess_of u.violation) u.distance

pub not_better : (t u : Trial) → no_worse u t → is_better t u ≡ false
not_better t u most = is_not_before (is_overload t.violation) (excess_of t.violation) t.distance (is_overload u.violation) (excess_of u.violation) u.distance most

no_worse_both : (t u v : Trial) → no_worse t u → no_worse u v → no_worse t v
no_worse_both t u v =
    joined (is_overload t.violation) (excess_of t.violation) t.distance (is_overload u.violation) (excess_of u.violation) u.distance (is_overload v.violation) (excess_of v.violation) v.distance

-- Trial `t` is no worse than trial `u` if `t` violates less than `least` and `u` does not. It is also no worse
-- if `t` violates no more than `least`, `u` violates no less than `least`, and the distance of `t` is no
-- greater.
pub by_miss : (t u : Trial) (least : Option LimitViolation) → violates_less t.violation least ≡ true → violates_less u.violation least ≡ false → no_worse t u
by_miss t u least less_is more =
    joined (is_overload t.violation) (excess_of t.violation) t.distance (is_overload least) (excess_of least) u.distance (is_overload u.violation) (excess_of u.violation) u.distance
    (by_less (is_overload t.violation) (excess_of t.violation) t.distance (is_overload least) (excess_of least) u.distance less_is)
    (by_way (is_overload least) (excess_of least) u.distance (is_overload u.violation) (excess_of u.violation) u.distance more (omega arith))

pub by_distance : (t u : Trial) (least : Option LimitViolation) → violates_less least t.violation ≡ false → violates_less u.violation least ≡ false → t.distance ≤ u.distance → no_worse t u
by_distance t u least no_more more longer =
    joined (is_overload t.violation) (excess_of t.violation) t.distance (is_overload least) (excess_of least) u.distance (is_overload u.violation) (excess_of u.violation) u.distance
    (by_way (is_overload t.violation) (excess_of t.violation) t.distance (is_overload least) (excess_of least) u.distance no_more longer)
    (by_way (is_overload least) (excess_of least) u.distance (is_overload u.violation) (excess_of u.violation) u.distance more (omega arith))

-- A trial without overload is no worse than another if neither its excess nor its distance is greater.
pub by_excess : (t u : Trial) → is_overload t.violation ≡ false → excess_of t.violation ≤ excess_of u.violation → t.distance ≤ u.distance → no_worse t u
by_excess t u light most longer = of_kind (is_overload t.violation) (is_overload u.violation) light
  where
    least : Least (excess_of t.violation) t.distance (excess_of u.violation) u.distance
    least = elim (cases_lt (excess_of t.violation) (excess_of u.violation)) [
      | inl first ↦ inl first
      | inr back ↦ inr (omega (arith, most, back), longer)
    ]

    of_kind : (x y : Bool) → x ≡ false → AtMost x (excess_of t.violation) t.distance y (excess_of u.violation) u.distance
    of_kind true y h = absurd (false≢true (sym h))
    of_kind false false h = least
    of_kind false true h = tt

-- a best trial that is no worse than the next one stays the best
pub best_stays : (best t : Trial) → no_worse best t → better (Some best) t ≡ Some best
best_stays best t most = kept (not_better t best most)
  where
    kept : is_better t best ≡ false → better (Some best) t ≡ Some best
    kept fails = rw fails refl

-- The best of a first trial and a list is no worse than each of these trials.
best_is : (best last : Trial) (ts : List Trial) → best_from (Some best) ts ≡ Some last → no_worse last best × AllByRecursion (λ t. is_better t last ≡ false) ts
best_is best last [] e = let same : best ≡ last = some_same best last e in (same_worse best last same, tt)
  where
    same_worse : (t u : Trial) → t ≡ u → no_worse u t
    same_worse t u same =
        rw same (by_way (is_overload u.violation) (excess_of u.violation) u.distance (is_overload u.violation) (excess_of u.violation) u.distance (no_less (is_overload u.violation) (excess_of u.violation)) (omega arith))
best_is best last (t ∷ ts) e = elim (cases_Bool (is_better t best)) [
  | inl holds ↦ (
      let rest = best_is t last ts (ap (λ o. best_from o ts) (sym (taken holds)) ∙ e) in
      let first = no_worse_both last t best rest.0 (was_before (is_overload t.violation) (excess_of t.violation) t.distance (is_overload best.violation) (excess_of best.violation) best.distance holds) in
      (first, (not_better t last rest.0, rest.1)))
  | inr fails ↦ (
      let rest = best_is best last ts (ap (λ o. best_from o ts) (sym (left fails)) ∙ e) in
      let this = no_worse_both last best t rest.0 (not_before (is_overload t.violation) (excess_of t.violation) t.distance (is_overload best.violation) (excess_of best.violation) best.distance fails) in
      (rest.0, (not_better t last this, rest.1)))
]
  where
    taken : is_better t best ≡ true → better (Some best) t ≡ Some t
    taken holds = rw holds refl

    left : is_better t best ≡ false → better (Some best) t ≡ Some best
    left fails = rw fails refl

best_of : (ts : List Trial) (last : Trial) → best_from None ts ≡ Some last → AllByRecursion (λ t. is_better t last ≡ false) ts
best_of [] last e = absurd (none_some last e)
best_of (t ∷ ts) last e = let rest = best_is t last ts e in (not_better t last rest.0, rest.1)

pub none_is_better : NoneIsBetter
none_is_better p route r kept best e = best_of (trials p route r kept) best e

-- If the best trial is overloaded, every trial is overloaded by at least as much.
as_heavy : (best t : Trial) → is_overload best.violation ≡ true → is_better t best ≡ false → (is_overload t.violation ≡ true) × (excess_of best.violation ≤ excess_of t.violation)
as_heavy best t heavy fails =
    of_kind (is_overload best.violation) (is_overload t.violation) heavy
    (not_before (is_overload t.violation) (excess_of t.violation) t.distance (is_overload best.violation) (excess_of best.violation) best.distance fails)
  where
    least : (e d f g : ℕ) → Least e d f g → e ≤ f
    least e d f g (inl less) = omega (arith, less)
    least e d f g (inr both) = omega (arith, both.0)

    of_kind : (x y : Bool) → x ≡ true → AtMost x (excess_of best.violation) best.distance y (excess_of t.violation) t.distance → (y ≡ true) × (excess_of best.violation ≤ excess_of t.violation)
    of_kind false y h most = absurd (false≢true h)
    of_kind true false h most = absurd most
    of_kind true true h most = (refl, least (excess_of best.violation) best.distance (excess_of t.violation) t.distance most)

all_as_heavy : (best : Trial) (ts : List Trial) → is_overload best.violation ≡ true → AllByRecursion (λ t. is_better t best ≡ false) ts →
    AllByRecursion (λ t. (is_overload t.violation ≡ true) × (excess_of best.violation ≤ excess_of t.violation)) ts
all_as_heavy best [] heavy none = tt
all_as_heavy best (t ∷ ts) heavy none = (as_heavy best t heavy none.0, all_as_heavy best ts heavy none.1)

pub overload_is_last : OverloadIsLastResort
overload_is_last p route r kept best e heavy = all_as_heavy best (trials p route r kept) heavy (none_is_better p route r kept best e)
