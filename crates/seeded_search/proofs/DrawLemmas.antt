-- Items drawn one after another without repetition. The list is not changed by the draws; each drawn item is found
-- by its index in the list.
use Rattle.std.proofs.Common.{◌≡◌, ℕ, ◌+◌, ◌-◌, ◌<◌, ◌≤◌, true, false, cond, nat_le, List, [], ◌∷◌, ◌++◌, length, drop, get_or, slice_index, refl, sym, ap, subst, ◌∙◌, inl, inr, arith}
use Rattle.std.proofs.lemmas.Bool.{cases_lt}
use Rattle.std.specs.List.{remove}
use Rattle.std.proofs.lemmas.List.{append-nil, append_assoc, drop_more}
use Rattle.std.proofs.lemmas.List.Edits.{length-remove, get_or-remove_below, get_or-remove_above}
use Rattle.seeded_search.specs.Words.{pick}
use Rattle.seeded_search.specs.Steps.{drawn}
use Rattle.seeded_search.specs.Draws.{left_of, AreTaken, index_of}

-- each draw removes one item
length_left : (taken xs : List ℕ) → AreTaken taken xs → length (left_of taken xs) + length taken ≡ length xs
length_left [] xs are = omega arith
length_left (i ∷ older) xs are =
    let before = length_left older xs are.1 in
    let one = length-remove (left_of older xs) i are.0 in
    omega arith

-- after item i is removed, item k of the rest is the old item k, or the old item k + 1 if i is at most k
left_at : (i k : ℕ) (xs : List ℕ) → i < length xs → k < length (remove xs i) → (get_or (remove xs i) k 0 ≡ get_or xs (cond (nat_le i k) (k + 1) k) 0) × (cond (nat_le i k) (k + 1) k < length xs)
left_at i k xs within low = elim (cases_lt k i) [
  | inl below ↦ (
      let no : nat_le i k ≡ false = grind arith in
      rw no (get_or-remove_below xs i 0 k below within, omega (arith, length-remove xs i within)))
  | inr above ↦ (
      let yes : nat_le i k ≡ true = grind arith in
      rw yes (get_or-remove_above xs i 0 k above within, omega (arith, length-remove xs i within)))
]

-- item k of the rest is the item of the whole list at `index_of taken k`
left_is : (taken xs : List ℕ) (k : ℕ) → AreTaken taken xs → k < length (left_of taken xs) → (get_or (left_of taken xs) k 0 ≡ get_or xs (index_of taken k) 0) × (index_of taken k < length xs)
left_is [] xs k are low = (refl, low)
left_is (i ∷ older) xs k are low =
    let one = left_at i k (left_of older xs) are.0 low in
    let rest = left_is older xs (cond (nat_le i k) (k + 1) k) are.1 one.1 in
    (one.0 ∙ rest.0, rest.1)

-- nothing is drawn from an empty list
drawn_none : (ws : List ℕ) → drawn ws [] ≡ []
drawn_none [] = refl
drawn_none (w ∷ ws) = refl

pub drawn_end : (names ws left all : List ℕ) → names ++ drawn ws left ≡ all → length left ≡ 0 → names ≡ all
drawn_end names ws [] all so_far none = sym (append-nil names) ∙ (ap (λ ns. names ++ ns) (sym (drawn_none ws)) ∙ so_far)
drawn_end names ws (x ∷ xs) all so_far none = absurd (omega arith)

-- an index below the number of items that are not removed is an index in the rest
left_within : (taken xs : List ℕ) (k : ℕ) → AreTaken taken xs → k < length xs - length taken → k < length (left_of taken xs)
left_within taken xs k are low = let all = length_left taken xs are in omega arith

pub index_within : (taken xs : List ℕ) (k n : ℕ) → AreTaken taken xs → k < length xs - length taken → n ≡ index_of taken k → n < length xs
index_within taken xs k n are low is = subst (λ n. n < length xs) (sym is) (left_is taken xs k are (left_within taken xs k are low)).1

pub none_left : (taken xs : List ℕ) → AreTaken taken xs → length xs ≤ length taken → length (left_of taken xs) ≡ 0
none_left taken xs are all_taken = let all = length_left taken xs are in omega arith

first_drawn : (w : ℕ) (ws left : List ℕ) → 0 < length left → drawn (w ∷ ws) left ≡ get_or left (pick w (length left)) 0 ∷ drawn ws (remove left (pick w (length left)))
first_drawn w ws [] some = absurd (omega arith)
first_drawn w ws (x ∷ xs) some = refl

-- after one more word has drawn its item, the items so far and those of the remaining words are again all items
-- drawn
pub drawn_more : (names new all words : List ℕ) (n w k x : ℕ) (taken after xs : List ℕ) → AreTaken taken xs
    → names ++ drawn (drop n words) (left_of taken xs) ≡ all → n < length words → w ≡ slice_index words n
    → k ≡ pick w (length xs - length taken) → k < length xs - length taken → x ≡ slice_index xs (index_of taken k) → new ≡ names ++ x ∷ [] → after ≡ k ∷ taken
    → (new ++ drawn (drop (n + 1) words) (left_of after xs) ≡ all) × AreTaken after xs
drawn_more names new all words n w k x taken after xs are so_far within word picks low is made took =
    let all_left = length_left taken xs are in
    let here = left_within taken xs k are low in
    let many : length xs - length taken ≡ length (left_of taken xs) = omega arith in
    let picked : k ≡ pick w (length (left_of taken xs)) = picks ∙ ap (pick w) many in
    let at : x ≡ get_or (left_of taken xs) k 0 = is ∙ sym (left_is taken xs k are here).0 in
    let next : drop n words ≡ w ∷ drop (n + 1) words = drop_more words n 0 within ∙ ap (λ v. v ∷ drop (n + 1) words) (sym word) in
    let step : drawn (drop n words) (left_of taken xs) ≡ x ∷ drawn (drop (n + 1) words) (remove (left_of taken xs) k) =
    ap (λ ws. drawn ws (left_of taken xs)) next ∙ (first_drawn w (drop (n + 1) words) (left_of taken xs) (omega arith)
    ∙ (ap (λ j. get_or (left_of taken xs) j 0 ∷ drawn (drop (n + 1) words) (remove (left_of taken xs) j)) (sym picked)
    ∙ ap (λ y. y ∷ drawn (drop (n + 1) words) (remove (left_of taken xs) k)) (sym at))) in (
      ap (λ l. l ++ drawn (drop (n + 1) words) (left_of after xs)) made
          ∙ (ap (λ l. (names ++ x ∷ []) ++ drawn (drop (n + 1) words) (left_of l xs)) took
          ∙ (append_assoc names (x ∷ []) (drawn (drop (n + 1) words) (left_of (k ∷ taken) xs)) ∙ (ap (λ l. names ++ l) (sym step) ∙ so_far))),
      subst (λ l. AreTaken l xs) (sym took) (here, are),
    )
