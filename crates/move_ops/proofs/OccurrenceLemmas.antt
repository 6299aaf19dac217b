-- The number of times that a number occurs in a list, and what follows for stops that are current and distinct.
use Rattle.std.proofs.Common.{◌≡◌, ℕ, zero, suc, ◌+◌, ◌<◌, ◌≤◌, ◌||◌, true, false, cond, List, [], ◌∷◌, ◌++◌, length}
use Rattle.std.proofs.Common.{take, drop, set, get_or, Some, slice_get, refl, sym, ap, subst, ◌∙◌, inl, inr, arith, eqb, nat_eq}
use Rattle.std.specs.List.{AllByRecursion, IsDistinct, list_any, concat}
use Rattle.std.proofs.lemmas.Bool.{eq-eqb}
use Rattle.std.proofs.lemmas.Bool.Decides.{eqb_tells}
use Rattle.std.proofs.lemmas.List.Folds.{list_any-append}
use Rattle.std.proofs.lemmas.List.{take-append-drop, drop_more}
use Rattle.std.proofs.lemmas.List.Elements.{All-from_recursion, recursion_from_All}
use Rattle.plan_types.specs.Instance.{Instance}
use Rattle.route_sched.specs.Cost.{has_stop}
use Rattle.route_sched.specs.Route.{IsKnownStop, AreDistinctStops}
use Rattle.plan_audit.specs.Passes.{has}
pub use Rattle.std.proofs.lemmas.Option.{none-some as none_some, same_Some as some_same}

abbrev pub times : ℕ → List ℕ → ℕ
times n [] = 0
times n (x ∷ xs) = cond (eqb n x) 1 0 + times n xs

pub one_here : (n x : ℕ) → n ≡ x → ◌≡◌ {A = ℕ} (cond (eqb n x) 1 0) 1
one_here n x same = rw (eq-eqb n x same) refl

pub none_here : (n x : ℕ) → eqb n x ≡ false → ◌≡◌ {A = ℕ} (cond (eqb n x) 1 0) 0
none_here n x apart = rw apart refl

pub times-append : (n : ℕ) (xs ys : List ℕ) → times n (xs ++ ys) ≡ times n xs + times n ys
times-append n [] ys = omega arith
times-append n (x ∷ xs) ys = omega (arith, times-append n xs ys)

-- a number occurs in a list as often as in a prefix and in the rest together
pub times_split : (n k : ℕ) (xs : List ℕ) → times n (take k xs) + times n (drop k xs) ≡ times n xs
times_split n k xs = sym (times-append n (take k xs) (drop k xs)) ∙ ap (times n) (take-append-drop k xs)

-- a number at an index occurs at least once, and conversely
pub occurs_at : (n i : ℕ) (xs : List ℕ) → slice_get xs i ≡ Some n → 1 ≤ times n xs
occurs_at n i [] at = absurd (none_some n at)
occurs_at n zero (x ∷ xs) at = let e = one_here n x (sym (some_same x n at)) in omega arith
occurs_at n (suc i) (x ∷ xs) at = let h = occurs_at n i xs at in omega arith

-- distinct numbers are those that occur once
none_of : (x : ℕ) (xs : List ℕ) → AllByRecursion (λ y. nat_eq x y ≡ false) xs → times x xs ≡ 0
none_of x [] apart = refl
none_of x (y ∷ ys) apart = let e = none_here x y apart.0 in let h = none_of x ys apart.1 in omega arith

apart_from : (x : ℕ) (xs : List ℕ) → times x xs ≡ 0 → AllByRecursion (λ y. nat_eq x y ≡ false) xs
apart_from x [] none = tt
apart_from x (y ∷ ys) none = elim (eqb_tells x y) [
  | inl t ↦ (let e = one_here x y t.1 in absurd (omega arith))
  | inr t ↦ (t.0, apart_from x ys (omega arith))
]

pub at_most_once : (xs : List ℕ) → IsDistinct nat_eq xs → (n : ℕ) → times n xs ≤ 1
unfolding IsDistinct
at_most_once [] once n = omega arith
at_most_once (x ∷ xs) once n = elim (eqb_tells n x) [
  | inl t ↦ (let e = one_here n x t.1 in let h : times n xs ≡ 0 = subst (λ m. times m xs ≡ 0) (sym t.1) (none_of x xs once.0) in omega arith)
  | inr t ↦ (let e = none_here n x t.0 in let h = at_most_once xs once.1 n in omega arith)
]

pub distinct_from : (xs : List ℕ) → ((n : ℕ) → times n xs ≤ 1) → IsDistinct nat_eq xs
unfolding IsDistinct
distinct_from [] few = tt
distinct_from (x ∷ xs) few =
    (apart_from x xs (let e = one_here x x refl in let h = few x in omega arith), distinct_from xs (λ n. let h = few n in omega arith))

module _ (p : Instance) where
  known_from : (xs : List ℕ) → ((n : ℕ) → 1 ≤ times n xs → IsKnownStop p n) → AllByRecursion (IsKnownStop p) xs
  known_from [] each = tt
  known_from (x ∷ xs) each = (each x (let e = one_here x x refl in omega arith), known_from xs (λ n h. each n (omega arith)))

  known_of : (xs : List ℕ) → AllByRecursion (IsKnownStop p) xs → (n : ℕ) → 1 ≤ times n xs → IsKnownStop p n
  known_of [] known n some = absurd (omega arith)
  known_of (x ∷ xs) known n some = elim (eqb_tells n x) [
    | inl t ↦ subst (IsKnownStop p) (sym t.1) known.0
    | inr t ↦ (let e = none_here n x t.0 in known_of xs known.1 n (omega arith))
  ]

  -- stops are current and distinct if each occurs at most once and is current
  pub once_from : (xs : List ℕ) → ((n : ℕ) → times n xs ≤ 1) → ((n : ℕ) → 1 ≤ times n xs → IsKnownStop p n) → AreDistinctStops p xs
  once_from xs few known = record { live = All-from_recursion (IsKnownStop p) xs (known_from xs known); distinct = distinct_from xs few }

  pub once_few : (xs : List ℕ) → AreDistinctStops p xs → (n : ℕ) → times n xs ≤ 1
  once_few xs once n = at_most_once xs (once.distinct) n

  pub once_known : (xs : List ℕ) → AreDistinctStops p xs → (n : ℕ) → 1 ≤ times n xs → IsKnownStop p n
  once_known xs once n some = known_of xs (recursion_from_All (IsKnownStop p) xs (once.live)) n some

-- a number that is not in a list occurs 0 times
pub none_anywhere : (n : ℕ) (xs : List ℕ) → list_any (nat_eq n) xs ≡ false → times n xs ≡ 0
none_anywhere n [] none = refl
none_anywhere n (x ∷ xs) none = elim (eqb_tells n x) [
  | inl t ↦ absurd (let h : true ≡ false = rw t.0 at none in cc)
  | inr t ↦ (let e = none_here n x t.0 in let rest : list_any (nat_eq n) xs ≡ false = rw t.0 at none in let h = none_anywhere n xs rest in omega arith)
]

-- how often number n occurs in all routes after one of them is replaced
pub times_replaced : (n : ℕ) (routes : List (List ℕ)) (k : ℕ) (old new : List ℕ) → slice_get routes k ≡ Some old
    → times n (concat (set routes k new)) + times n old ≡ times n (concat routes) + times n new
times_replaced n [] k old new at = absurd (none_some old at)
times_replaced n (route ∷ routes) zero old new at =
    let same = ap (times n) (some_same route old at) in
    let e = times-append n new (concat routes) in
    let f = times-append n route (concat routes) in
    omega arith
times_replaced n (route ∷ routes) (suc k) old new at =
    let e = times-append n route (concat (set routes k new)) in
    let f = times-append n route (concat routes) in
    let h = times_replaced n routes k old new at in
    omega arith

-- the stop is in the next list or in a later one
pub has_stop_more : (lists : List (List ℕ)) (k n : ℕ) → k < length lists
    → has_stop (drop k lists) n ≡ has (get_or lists k []) n || has_stop (drop (k + 1) lists) n
has_stop_more lists k n within =
    ap (λ ls. has_stop ls n) (drop_more lists k [] within) ∙ list_any-append (nat_eq n) (get_or lists k []) (concat (drop (k + 1) lists))
