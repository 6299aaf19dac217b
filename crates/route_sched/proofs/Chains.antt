-- The greatest of the sums that end at a place, from the greatest of those that end at the place before.
use Rattle.std.proofs.Common.{◌≡◌, ℕ, zero, suc, ◌+◌, ◌-◌, ◌≤◌, max, map, refl, sym, ap, ◌∙◌, arith, add-one, subst}
use Rattle.std.specs.List.{range_with_len}
use Rattle.std.proofs.lemmas.List.Sums.{fold_push}
use Rattle.std.proofs.lemmas.List.FromFn.{map-range_with_len_more, sum_by-map-range_with_len_more}
use Rattle.route_sched.specs.Chain.{sum_between, chain}
use Rattle.route_sched.specs.Schedule.{greatest}

sum_between-more : (f : ℕ → ℕ) (j i : ℕ) → j ≤ i → sum_between f j (i + 1) ≡ sum_between f j i + f i
unfolding sum_between
sum_between-more f j i h =
    let one_more : i + 1 - j ≡ (i - j) + 1 = omega arith in
    rw one_more (sum_by-map-range_with_len_more (λ x. x) f j (i - j) i (omega arith))

sum_between-none : (f : ℕ → ℕ) (i : ℕ) → sum_between f i i ≡ 0
unfolding sum_between
sum_between-none f i = let none : i - i ≡ 0 = omega arith in rw none refl

-- the greatest f j over the n numbers j from i on
greatest_from : (ℕ → ℕ) → ℕ → ℕ → ℕ
greatest_from f i n = greatest (map f (range_with_len i n))

greatest_from-more : (f : ℕ → ℕ) (i n : ℕ) → greatest_from f i (n + 1) ≡ max (greatest_from f i n) (f (i + n))
unfolding greatest_from
greatest_from-more f i n =
    ap (λ xs. greatest xs) (map-range_with_len_more f i n (i + n) (omega arith)) ∙ fold_push max 0 (map f (range_with_len i n)) (f (i + n))

greatest_from-one : (f : ℕ → ℕ) (i : ℕ) → greatest_from f i 1 ≡ f i
unfolding greatest_from
greatest_from-one f i = omega arith

-- if each number grows by c, so does the greatest
greatest_from-add : (f g : ℕ → ℕ) (c i n : ℕ) → ((j : ℕ) → i ≤ j → j ≤ i + n → g j ≡ f j + c) → greatest_from g i (n + 1) ≡ greatest_from f i (n + 1) + c
greatest_from-add f g c i zero each = omega (arith, each i (omega arith) (omega arith), greatest_from-one f i, greatest_from-one g i)
greatest_from-add f g c i (suc n) each =
    let before : greatest_from g i (suc n) ≡ greatest_from f i (suc n) + c =
    subst (λ m. greatest_from g i m ≡ greatest_from f i m + c) (add-one n) (greatest_from-add f g c i n (λ j h k. each j h (omega arith))) in
    omega (arith, greatest_from-more f i (suc n), greatest_from-more g i (suc n), each (i + suc n) (omega arith) (omega arith), before)

pub chain-first : (e f : ℕ → ℕ) (i : ℕ) → chain e f i i ≡ e i
unfolding chain greatest_from
chain-first e f i =
    let one : i + 1 - i ≡ 1 = omega arith in
    rw one (greatest_from-one (λ j. e j + sum_between f j i) i ∙ omega (arith, sum_between-none f i))

-- the greatest sum at the next place: a vehicle that arrives early waits
pub chain-next : (e f : ℕ → ℕ) (i k : ℕ) → i ≤ k → chain e f i (k + 1) ≡ max (e (k + 1)) (chain e f i k + f k)
unfolding chain greatest_from
chain-next e f i k h =
    let to_next : ℕ → ℕ = λ j. e j + sum_between f j (k + 1) in
    let to_here : ℕ → ℕ = λ j. e j + sum_between f j k in
    let more : k + 1 + 1 - i ≡ (k + 1 - i) + 1 = omega arith in
    let some : k + 1 - i ≡ (k - i) + 1 = omega arith in
    let end : i + (k + 1 - i) ≡ k + 1 = omega arith in
    let none_between : sum_between f (k + 1) (k + 1) ≡ 0 = sum_between-none f (k + 1) in
    let grown : greatest_from to_next i ((k - i) + 1) ≡ greatest_from to_here i ((k - i) + 1) + f k =
    greatest_from-add to_here to_next (f k) i (k - i) (λ j _ m. omega (arith, sum_between-more f j k (omega arith))) in
    let grown' : greatest_from to_next i (k + 1 - i) ≡ greatest_from to_here i (k + 1 - i) + f k =
    subst (λ n. greatest_from to_next i n ≡ greatest_from to_here i n + f k) (sym some) grown in
    let last : greatest_from to_next i (k + 1 + 1 - i) ≡ max (greatest_from to_next i (k + 1 - i)) (to_next (k + 1)) =
    ap (greatest_from to_next i) more ∙ (greatest_from-more to_next i (k + 1 - i) ∙ ap (λ m. max (greatest_from to_next i (k + 1 - i)) (to_next m)) end) in
    omega (arith, last, none_between, grown')
