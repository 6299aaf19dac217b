-- The items of a list that is built item by item, and their order.
use Rattle.std.proofs.Common.{◌≡◌, ℕ, zero, suc, ◌+◌, ◌<◌, ◌⊎◌, List, [], ◌∷◌, ◌++◌, slice_get, Option, Some, None, refl, sym, ap, subst, inl, inr, arith}
use Rattle.std.specs.List.{AllByRecursion, Contains}
use Rattle.std.specs.Option.{option_to_list}
use Rattle.std.proofs.lemmas.List.Elements.{Contains-append_left, Contains-append_right, Contains-append_cases}
use Rattle.rule_violations.specs.Violations.{violations_from}
use Rattle.rule_violations.specs.Laws.{AreAscending, IsBefore}
use Rattle.rule_violations.specs.declared.violations.Violation.{Violation}

pub in_nothing : {X : Type 0} (x : X) → Contains [] x → ⊥
in_nothing x c = let lt = c.1 in omega arith

pub in_head : {X : Type 0} (x : X) (xs : List X) → Contains (x ∷ xs) x
in_head x xs = (0, omega arith, refl)

in_one : {X : Type 0} (x y : X) → Contains (x ∷ []) y → x ≡ y
in_one x y (zero, lt, e) = e
in_one x y (suc k, lt, e) = absurd (omega arith)

pub in_cases : {X : Type 0} (x : X) (xs : List X) (y : X) → Contains (x ∷ xs) y → (x ≡ y) ⊎ Contains xs y
in_cases x xs y c = elim (Contains-append_cases (x ∷ []) xs y c) [
  | inl one ↦ inl (in_one x y one)
  | inr rest ↦ inr rest
]

pub in_tail : {X : Type 0} (x : X) (xs : List X) (y : X) → Contains xs y → Contains (x ∷ xs) y
in_tail x xs y c = Contains-append_right (x ∷ []) xs y c

-- if an option is turned into a list, each item of the list is the item of the option
pub in_option : {X : Type 0} (o : Option X) (x : X) → Contains (option_to_list o) x → o ≡ Some x
in_option None x c = absurd (in_nothing x c)
in_option (Some y) x c = ap Some (in_one y x c)

pub option_in : {X : Type 0} (o : Option X) (x : X) → o ≡ Some x → Contains (option_to_list o) x
option_in o x e = subst (λ q. Contains (option_to_list q) x) (sym e) (in_head x [])

pub all_from : {X : Type 0} (P : X → Type 0) (xs : List X) → ((x : X) → Contains xs x → P x) → AllByRecursion P xs
all_from P [] each = tt
all_from P (x ∷ xs) each = (each x (in_head x xs), all_from P xs (λ y c. each y (in_tail x xs y c)))

pub all_at : {X : Type 0} (P : X → Type 0) (xs : List X) (y : X) → AllByRecursion P xs → Contains xs y → P y
all_at P [] y all c = absurd (in_nothing y c)
all_at P (x ∷ xs) y all c = elim (in_cases x xs y c) [
  | inl e ↦ subst P e all.0
  | inr rest ↦ all_at P xs y all.1 rest
]

-- two ascending lists make one ascending list if each item of the first comes before each item of the second
pub ascending_append : (xs ys : List Violation) → AreAscending xs → AreAscending ys → ((x y : Violation) → Contains xs x → Contains ys y → IsBefore x y) → AreAscending (xs ++ ys)
ascending_append [] ys up up' before = up'
ascending_append (x ∷ xs) ys up up' before = (
  all_from (IsBefore x) (xs ++ ys) (λ y c. elim (Contains-append_cases xs ys y c) [
    | inl left ↦ all_at (IsBefore x) xs y up.0 left
    | inr right ↦ before x y (in_head x xs) right
  ]),
  ascending_append xs ys up.1 up' (λ z y c d. before z y (in_tail x xs z c) d),
)

pub ascending_option : (o : Option Violation) → AreAscending (option_to_list o)
ascending_option None = tt
ascending_option (Some b) = (tt, tt)

module _ {X : Type 0} (of_item : ℕ → X → List Violation) where
  -- an item of the list comes from an item of the input
  pub reported_to : (k : ℕ) (xs : List X) (b : Violation) → Contains (violations_from of_item k xs) b
      → (j : ℕ) × (x : X) × (slice_get xs j ≡ Some x) × Contains (of_item (k + j) x) b
  reported_to k [] b c = absurd (in_nothing b c)
  reported_to k (x ∷ xs) b c = elim (Contains-append_cases (of_item k x) (violations_from of_item (k + 1) xs) b c) [
    | inl left ↦ (0, x, refl, subst (λ i. Contains (of_item i x) b) (let e : k ≡ k + 0 = omega arith in e) left)
    | inr right ↦
        (let t = reported_to (k + 1) xs b right in
        (suc t.0, t.1, t.2, subst (λ i. Contains (of_item i t.1) b) (let e : k + 1 + t.0 ≡ k + suc t.0 = omega arith in e) t.3))
  ]

  -- each item of the input puts its violations into the list
  pub item_in_violations : (k : ℕ) (xs : List X) (b : Violation) (j : ℕ) (x : X) → slice_get xs j ≡ Some x → Contains (of_item (k + j) x) b → Contains (violations_from of_item k xs) b
  item_in_violations k [] b j x at c = absurd (let h : None ≡ Some x = at in cc)
  item_in_violations k (y ∷ xs) b zero x at c =
      let same : x ≡ y = (let h : Some y ≡ Some x = at in cc) in
      Contains-append_left (of_item k y) (violations_from of_item (k + 1) xs) b
      (subst (λ z. Contains (of_item k z) b) same (subst (λ i. Contains (of_item i x) b) (let e : k + 0 ≡ k = omega arith in e) c))
  item_in_violations k (y ∷ xs) b (suc j) x at c =
      Contains-append_right (of_item k y) (violations_from of_item (k + 1) xs) b
      (item_in_violations (k + 1) xs b j x at (subst (λ i. Contains (of_item i x) b) (let e : k + suc j ≡ k + 1 + j = omega arith in e) c))

  -- the list is ascending if each part is and comes before the later parts
  pub reported_ascending : ((k : ℕ) (x : X) → AreAscending (of_item k x))
      → ((i j : ℕ) (x y : X) (b c : Violation) → i < j → Contains (of_item i x) b → Contains (of_item j y) c → IsBefore b c) → (k : ℕ) (xs : List X)
      → AreAscending (violations_from of_item k xs)
  reported_ascending each before k [] = tt
  reported_ascending each before k (x ∷ xs) =
      ascending_append (of_item k x) (violations_from of_item (k + 1) xs) (each k x) (reported_ascending each before (k + 1) xs)
      (λ b c first later. (let t = reported_to (k + 1) xs c later in before k (k + 1 + t.0) x t.1 b c (omega arith) first t.3))
