-- Lemmas about the number of items that pass a test, and about how often a number occurs in lists
use Rattle.std.proofs.Common.{◌≡◌, ℕ, zero, suc, ◌<◌, ◌≤◌, Bool, true, false, cond, not, List, [], ◌∷◌, ◌++◌, Some, refl, sym, ap, subst, ◌∙◌, inl, inr, arith, nat_eq}
use Rattle.std.specs.Prelude.{count_by}
use Rattle.std.specs.List.{AllByRecursion, concat, starts_with}
use Rattle.std.specs.Map.{lookup}
use Rattle.std.proofs.lemmas.Bool.{and_parts, and_from, not-true, eqb-true}
use Rattle.std.proofs.lemmas.Bool.Decides.{eqb_tells}
use Rattle.std.proofs.lemmas.List.Sums.{sum_by-cons}
use Rattle.plan_audit.specs.Passes.{has, are_distinct}
use Rattle.move_ops.proofs.FitLemmas.{had_often, often_had}
use Rattle.fleet_reduction.proofs.SubfleetLemmas.{count_more, one_more}
use Rattle.move_ops.proofs.OccurrenceLemmas.{none_some, some_same, times, one_here, none_here}

-- If a test is stricter than another one, and rejects an item that the other one passes, it passes fewer items
pub count_less : {X : Type 0} (f g : X → Bool) (es : List (ℕ × X)) (name : ℕ) (x : X) → ((y : X) → g y ≡ true → f y ≡ true) → lookup (nat_eq name) es ≡ Some x → f x ≡ true → g x ≡ false
    → count_by (λ e. g e.1) es < count_by (λ e. f e.1) es
count_less f g [] name x each at passed failed = absurd (none_some x at)
count_less f g (e ∷ es) name x each at passed failed =
    let a = sum_by-cons (λ e. cond (f e.1) 1 0) e es in
    let b = sum_by-cons (λ e. cond (g e.1) 1 0) e es in
    elim (eqb_tells name e.0) [
      | inl t ↦ (
          let same : e.1 ≡ x = some_same e.1 x (let h : cond true (Some e.1) (lookup (nat_eq name) es) ≡ Some x = rw t.0 at at in h) in
          let fe : f e.1 ≡ true = ap f same ∙ passed in
          let ge : g e.1 ≡ false = ap g same ∙ failed in
          let h = count_more (λ e. f e.1) (λ e. g e.1) es (λ e. each e.1) in
          let c : ◌≡◌ {A = ℕ} (cond (f e.1) 1 0) 1 = rw fe refl in
          let d : ◌≡◌ {A = ℕ} (cond (g e.1) 1 0) 0 = rw ge refl in
          omega arith)
      | inr t ↦ (
          let rest : lookup (nat_eq name) es ≡ Some x = rw t.0 at at in
          let h = count_less f g es name x each rest passed failed in
          let here : cond (g e.1) 1 0 ≤ cond (f e.1) 1 0 = one_more (f e.1) (g e.1) (each e.1) in
          omega arith)
    ]

-- Each number of a list of distinct numbers occurs once
pub at_most_once : (xs : List ℕ) → are_distinct xs ≡ true → (n : ℕ) → times n xs ≤ 1
at_most_once [] once n = omega arith
at_most_once (x ∷ xs) once n =
    let both = and_parts (not (has xs x)) (are_distinct xs) once in
    elim (eqb_tells n x) [
      | inl t ↦ (let e = one_here n x t.1 in let h : times n xs ≡ 0 = subst (λ m. times m xs ≡ 0) (sym t.1) (none_of x xs (not-true (has xs x) both.0)) in omega arith)
      | inr t ↦ (let e = none_here n x t.0 in let h = at_most_once xs both.1 n in omega arith)
    ]
  where
    none_of : (x : ℕ) (xs : List ℕ) → has xs x ≡ false → times x xs ≡ 0
    none_of x xs none = by (times x xs) refl
      where
        by : (k : ℕ) → times x xs ≡ k → k ≡ 0
        by zero e = refl
        by (suc k) e = absurd (let h : true ≡ false = sym (often_had xs x (omega arith)) ∙ none in cc)

pub distinct_from : (xs : List ℕ) → ((n : ℕ) → times n xs ≤ 1) → are_distinct xs ≡ true
distinct_from [] few = refl
distinct_from (x ∷ xs) few =
    and_from (not (has xs x)) (are_distinct xs) (by (has xs x) refl)
    (distinct_from xs (λ n. let h = few n in omega arith))
  where
    by : (b : Bool) → has xs x ≡ b → not b ≡ true
    by false e = refl
    by true e = absurd (let h = had_often xs x e in let g = few x in let k = one_here x x refl in omega arith)

-- If a property holds for each number that occurs in a list, it holds for all items
pub all_occurring : (P : ℕ → Type 0) (xs : List ℕ) → ((n : ℕ) → 1 ≤ times n xs → P n) → AllByRecursion P xs
all_occurring P [] each = tt
all_occurring P (x ∷ xs) each = (each x (let e = one_here x x refl in omega arith), all_occurring P xs (λ n h. each n (omega arith)))

-- If a property holds for all items of a list, it holds for each number that occurs in it
pub holds_for : (P : ℕ → Type 0) (xs : List ℕ) → AllByRecursion P xs → (n : ℕ) → 1 ≤ times n xs → P n
holds_for P [] all n some = absurd (omega arith)
holds_for P (x ∷ xs) all n some = elim (eqb_tells n x) [
  | inl t ↦ subst P (sym t.1) all.0
  | inr t ↦ (let e = none_here n x t.0 in holds_for P xs all.1 n (omega arith))
]

-- If a property holds for all items of two joined lists, it holds for all items of each list
all_parts : (P : ℕ → Type 0) (xs ys : List ℕ) → AllByRecursion P (xs ++ ys) → AllByRecursion P xs × AllByRecursion P ys
all_parts P [] ys all = (tt, all)
all_parts P (x ∷ xs) ys all = let rest = all_parts P xs ys all.1 in ((all.0, rest.0), rest.1)

pub all_split : (P : ℕ → Type 0) (lists : List (List ℕ)) → AllByRecursion P (concat lists) → AllByRecursion (AllByRecursion P) lists
all_split P [] all = tt
all_split P (l ∷ lists) all = let parts = all_parts P l (concat lists) all in (parts.0, all_split P lists parts.1)

pub all_join : (P : ℕ → Type 0) (xs ys : List ℕ) → AllByRecursion P xs → AllByRecursion P ys → AllByRecursion P (xs ++ ys)
all_join P [] ys all rest = rest
all_join P (x ∷ xs) ys all rest = (all.0, all_join P xs ys all.1 rest)

pub all_joined : (P : ℕ → Type 0) (lists : List (List ℕ)) → AllByRecursion (AllByRecursion P) lists → AllByRecursion P (concat lists)
all_joined P [] all = tt
all_joined P (l ∷ lists) all = all_join P l (concat lists) all.0 (all_joined P lists all.1)

-- A number occurs in a prefix of a list no more often than in the list
pub times_prefix : (n : ℕ) (xs prefix : List ℕ) → starts_with nat_eq xs prefix ≡ true → times n prefix ≤ times n xs
times_prefix n xs [] begins = omega arith
times_prefix n [] (m ∷ prefix) begins = absurd (let h : false ≡ true = begins in cc)
times_prefix n (x ∷ xs) (m ∷ prefix) begins =
    let both = and_parts (nat_eq m x) (starts_with nat_eq xs prefix) begins in
    let h = times_prefix n xs prefix both.1 in
    let e : times n (m ∷ []) ≡ times n (x ∷ []) = ap (λ k. times n (k ∷ [])) (eqb-true m x both.0) in
    omega arith
