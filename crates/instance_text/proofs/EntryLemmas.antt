-- Entries in ascending order are those that lookups of the names find, from the first number on.
use Rattle.std.proofs.Common.{◌≡◌, ◌≢◌, ℕ, zero, suc, ◌+◌, ◌<◌, ◌≤◌, true, false, cond, eqb, List, [], ◌∷◌, nat_eq, Option, Some, None, inl, inr, refl, ap, ◌∙◌, arith, ◌⊎◌}
use Rattle.std.specs.List.{AllByRecursion, cons_option, filter_map, range_with_len}
use Rattle.std.specs.List.Sorted.{IsStrictlySortedBy}
use Rattle.std.specs.Map.{keys_of, lookup}
use Rattle.std.specs.Option.{option_map}
use Rattle.std.specs.Ordering.{nat_cmp}
use Rattle.std.specs.declared.cmp.Ordering.TheVariants.{Less, Equal, Greater}
use Rattle.std.proofs.lemmas.Bool.{cases_lt, le-ltb, ne_eqb}
use Rattle.std.proofs.lemmas.Bool.Decides.{eqb_tells}
use Rattle.plan_types.specs.declared.requests.Request.{Request}

abbrev pub entry_named : List (ℕ × Request) → ℕ → Option (ℕ × Request)
entry_named es n = option_map (λ r. (n, r)) (lookup (nat_eq n) es)

less_from_cmp : (a b : ℕ) → nat_cmp a b ≡ Less → a < b
less_from_cmp a b is = elim (cases_lt a b) [
  | inl less ↦ less
  | inr le ↦ absurd (not_less le (eqb_tells a b))
]
  where
    equal_less : Equal ≡ Less → ⊥
    equal_less h = cc

    greater_less : Greater ≡ Less → ⊥
    greater_less h = cc

    not_less : b ≤ a → ((eqb a b ≡ true) × (a ≡ b)) ⊎ ((eqb a b ≡ false) × (a ≢ b)) → ⊥
    not_less le (inl t) = let g : nat_cmp a b ≡ Less = is in equal_less (rw (le-ltb a b le, t.0) at g)
    not_less le (inr t) = let g : nat_cmp a b ≡ Less = is in greater_less (rw (le-ltb a b le, t.0) at g)

abbrev IsAbove : ℕ → List (ℕ × Request) → Type 0
IsAbove n es = AllByRecursion (λ e. n < e.0) es

above_head : (n : ℕ) (es : List (ℕ × Request)) → AllByRecursion (λ y. nat_cmp n y ≡ Less) (keys_of es) → IsAbove n es
above_head n [] all = tt
above_head n (e ∷ es) all = (less_from_cmp n e.0 all.0, above_head n es all.1)

above_lesser : (m n : ℕ) (es : List (ℕ × Request)) → m ≤ n → IsAbove n es → IsAbove m es
above_lesser m n [] le all = tt
above_lesser m n (e ∷ es) le all = (omega (arith, all.0), above_lesser m n es le all.1)

none_above : (n : ℕ) (es : List (ℕ × Request)) → IsAbove n es → lookup (nat_eq n) es ≡ None
none_above n [] all = refl
none_above n (e ∷ es) all = rw (ne_eqb n e.0 (λ h. absurd (omega (arith, all.0, h)))) (none_above n es all.1)

-- lookups of greater names do not find the first entry
later_same : (e : ℕ × Request) (es : List (ℕ × Request)) (n count : ℕ) → e.0 < n → filter_map (entry_named (e ∷ es)) (range_with_len n count) ≡ filter_map (entry_named es) (range_with_len n count)
later_same e es n zero above = refl
later_same e es n (suc count) above =
    rw (ne_eqb n e.0 (λ h. absurd (omega (arith, above, h))))
    (ap (cons_option (entry_named es n)) (later_same e es (n + 1) count (omega (arith, above))))

none_left : (n count : ℕ) → filter_map (entry_named []) (range_with_len n count) ≡ []
none_left n zero = refl
none_left n (suc count) = none_left (n + 1) count

-- the names are among the `count` numbers from n on
abbrev pub AreNamedWithin : ℕ → ℕ → List (ℕ × Request) → Type 0
AreNamedWithin n count es = AllByRecursion (λ e. (n ≤ e.0) × (e.0 < n + count)) es

within_later : (n count : ℕ) (es : List (ℕ × Request)) → IsAbove n es → AreNamedWithin n (suc count) es → AreNamedWithin (n + 1) count es
within_later n count [] above all = tt
within_later n count (e ∷ es) above all = ((omega (arith, above.0), omega (arith, all.0.1)), within_later n count es above.1 all.1)

pub entries_named : (es : List (ℕ × Request)) (n count : ℕ) → IsStrictlySortedBy nat_cmp (keys_of es) → AreNamedWithin n count es → filter_map (entry_named es) (range_with_len n count) ≡ es
unfolding IsStrictlySortedBy
entries_named [] n count ascending all = none_left n count
entries_named (e ∷ es) n zero ascending all = absurd (omega (arith, all.0.0, all.0.1))
entries_named (e ∷ es) n (suc count) ascending all =
    by (eqb_tells n e.0) (λ within. entries_named es (n + 1) count ascending.1 within) (λ within. entries_named (e ∷ es) (n + 1) count ascending within)
  where
    above : IsAbove e.0 es
    above = above_head e.0 es ascending.0

    by : ((eqb n e.0 ≡ true) × (n ≡ e.0)) ⊎ ((eqb n e.0 ≡ false) × (n ≢ e.0))
        → (AreNamedWithin (n + 1) count es → filter_map (entry_named es) (range_with_len (n + 1) count) ≡ es)
        → (AreNamedWithin (n + 1) count (e ∷ es) → filter_map (entry_named (e ∷ es)) (range_with_len (n + 1) count) ≡ e ∷ es)
        → filter_map (entry_named (e ∷ es)) (range_with_len n (suc count)) ≡ e ∷ es
    by (inl t) others whole =
        let rest : filter_map (entry_named es) (range_with_len (n + 1) count) ≡ es = others (within_later n count es (above_lesser n e.0 es (omega (arith, t.1)) above) all.1) in
        ap (λ o. cons_option (option_map (λ r. (n, r)) (cond o (Some e.1) (lookup (nat_eq n) es))) (filter_map (entry_named (e ∷ es)) (range_with_len (n + 1) count))) t.0
        ∙ ap (λ xs. (n, e.1) ∷ xs) (later_same e es (n + 1) count (omega (arith, t.1)) ∙ rest)
        ∙ ap (λ m. (m, e.1) ∷ es) t.1
    by (inr t) others whole =
        let less : n < e.0 = omega (arith, all.0.0, t.1) in
        let higher : IsAbove n (e ∷ es) = (less, above_lesser n e.0 es (omega (arith, less)) above) in
        ap (λ o. cons_option (option_map (λ r. (n, r)) o) (filter_map (entry_named (e ∷ es)) (range_with_len (n + 1) count))) (none_above n (e ∷ es) higher)
        ∙ whole (within_later n count (e ∷ es) higher all)
