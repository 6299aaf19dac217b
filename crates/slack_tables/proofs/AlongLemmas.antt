-- Starts, loads and lengths along stops given by place: from one place to the next, and for two routes with the
-- same stops from some place on.
use Rattle.std.proofs.Common.{◌≡◌, ℕ, zero, suc, ◌+◌, ◌≤◌, max, false, cond, eqb, ℤ, pos, ◌+ℤ◌, map, fold, refl, sym, ap, ◌∙◌, arith, add-one, subst}
use Rattle.std.specs.List.{range_with_len}
use Rattle.std.proofs.lemmas.Bool.{ne_eqb, eq-eqb}
use Rattle.std.proofs.lemmas.List.Sums.{fold_push}
use Rattle.std.proofs.lemmas.List.FromFn.{map-range_with_len_more, sum_by-map-range_with_len_more}
use Rattle.std.proofs.lemmas.Int.{ints}
use Rattle.plan_types.specs.declared.requests.Stop.{Stop}
use Rattle.nint_dist.specs.Distance.{distance}
use Rattle.route_sched.proofs.Chains.{chain-first, chain-next}
use Rattle.slack_tables.specs.Along.{stay, start_along, moved_along, load_along, length_along}

-- ---- from place to place
pub start-first : (at : ℕ → Stop) → start_along at 0 ≡ (at 0).earliest
start-first at = chain-first (λ j. (at j).earliest) (stay at) 0

pub start-next : (at : ℕ → Stop) (k : ℕ) → start_along at (k + 1) ≡ max (at (k + 1)).earliest (start_along at k + stay at k)
start-next at k = chain-next (λ j. (at j).earliest) (stay at) 0 k (omega arith)

pub moved-first : (at : ℕ → Stop) (i t : ℕ) → moved_along at i t i ≡ t
moved-first at i t = chain-first (λ j. cond (eqb j i) t (at j).earliest) (stay at) i ∙ rw (eq-eqb i i refl) refl

pub moved-next : (at : ℕ → Stop) (i t k : ℕ) → i ≤ k → moved_along at i t (k + 1) ≡ max (at (k + 1)).earliest (moved_along at i t k + stay at k)
moved-next at i t k h =
    let ne : eqb (k + 1) i ≡ false = ne_eqb (k + 1) i (λ e. omega arith) in
    chain-next (λ j. cond (eqb j i) t (at j).earliest) (stay at) i k h ∙ rw ne refl

pub load-first : (at : ℕ → Stop) → load_along at 0 ≡ pos 0
unfolding load_along
load-first at = refl

pub load-next : (at : ℕ → Stop) (k : ℕ) → load_along at (k + 1) ≡ load_along at k +ℤ (at (k + 1)).demand
unfolding load_along
load-next at k =
    let demand : ℕ → ℤ = λ m. (at m).demand in
    ap (λ xs. fold ◌+ℤ◌ (pos 0) xs) (map-range_with_len_more demand 1 k (k + 1) (omega arith))
    ∙ fold_push ◌+ℤ◌ (pos 0) (map demand (range_with_len 1 k)) (demand (k + 1))

pub length-first : (at : ℕ → Stop) → length_along at 0 ≡ 0
unfolding length_along
length-first at = refl

pub length-next : (at : ℕ → Stop) (k : ℕ) → length_along at (k + 1) ≡ length_along at k + distance (at k) (at (k + 1))
unfolding length_along
length-next at k = sum_by-map-range_with_len_more (λ x. x) (λ m. distance (at m) (at (m + 1))) 0 k k (omega arith)

-- ---- two routes that have the same stops up to place n
module _ (a b : ℕ → Stop) (n : ℕ) (same : (k : ℕ) → k ≤ n → b k ≡ a k) where
  pub same-start : (k : ℕ) → k ≤ n → start_along b k ≡ start_along a k
  same-start zero h = rw (start-first b, start-first a, same 0 h) refl
  same-start (suc k) h = rw (← add-one k, start-next b k, start-next a k, same-start k (omega arith), same k (omega arith), same (k + 1) (omega arith)) refl

  pub same-load : (k : ℕ) → k ≤ n → load_along b k ≡ load_along a k
  same-load zero h = rw (load-first b, load-first a) refl
  same-load (suc k) h = rw (← add-one k, load-next b k, load-next a k, same-load k (omega arith), same (k + 1) (omega arith)) refl

  pub same-length : (k : ℕ) → k ≤ n → length_along b k ≡ length_along a k
  same-length zero h = rw (length-first b, length-first a) refl
  same-length (suc k) h = rw (← add-one k, length-next b k, length-next a k, same-length k (omega arith), same k (omega arith), same (k + 1) (omega arith)) refl

-- ---- two routes with the same stops from places m and s on: the splice. All later values depend only on the
-- start, the load and the length at the place where they join.
module _ (a b : ℕ → Stop) (m s : ℕ) (same : (k : ℕ) → b (s + k) ≡ a (m + k)) where
  pub spliced-start : (k : ℕ) → start_along b (s + k) ≡ moved_along a m (start_along b s) (m + k)
  spliced-start zero =
      let here : s + 0 ≡ s = omega arith in
      let there : m + 0 ≡ m = omega arith in
      rw (here, there) (sym (moved-first a m (start_along b s)))
  spliced-start (suc k) =
      let next_b : s + suc k ≡ s + k + 1 = omega arith in
      let next_a : m + suc k ≡ m + k + 1 = omega arith in
      let next : b (s + k + 1) ≡ a (m + k + 1) = subst (λ i. b i ≡ a (m + k + 1)) next_b (subst (λ i. b (s + suc k) ≡ a i) next_a (same (suc k))) in
      rw (next_b, next_a, start-next b (s + k), moved-next a m (start_along b s) (m + k) (omega arith), spliced-start k, same k, next) refl

  pub spliced-load : (k : ℕ) → load_along b (s + k) +ℤ load_along a m ≡ load_along a (m + k) +ℤ load_along b s
  spliced-load zero =
      let here : s + 0 ≡ s = omega arith in
      let there : m + 0 ≡ m = omega arith in
      rw (here, there) (omega (arith, ints))
  spliced-load (suc k) =
      let before = spliced-load k in
      let next_b : s + suc k ≡ s + k + 1 = omega arith in
      let next_a : m + suc k ≡ m + k + 1 = omega arith in
      let next : b (s + k + 1) ≡ a (m + k + 1) = subst (λ i. b i ≡ a (m + k + 1)) next_b (subst (λ i. b (s + suc k) ≡ a i) next_a (same (suc k))) in
      let goods = ap (λ x. x.demand) next in
      rw (next_b, next_a) (omega (arith, ints, load-next b (s + k), load-next a (m + k)))

  pub spliced-length : (k : ℕ) → length_along b (s + k) + length_along a m ≡ length_along a (m + k) + length_along b s
  spliced-length zero =
      let here : s + 0 ≡ s = omega arith in
      let there : m + 0 ≡ m = omega arith in
      rw (here, there) (omega arith)
  spliced-length (suc k) =
      let before = spliced-length k in
      let next_b : s + suc k ≡ s + k + 1 = omega arith in
      let next_a : m + suc k ≡ m + k + 1 = omega arith in
      let next : b (s + k + 1) ≡ a (m + k + 1) = subst (λ i. b i ≡ a (m + k + 1)) next_b (subst (λ i. b (s + suc k) ≡ a i) next_a (same (suc k))) in
      let leg : distance (b (s + k)) (b (s + k + 1)) ≡ distance (a (m + k)) (a (m + k + 1)) = rw (same k, next) refl in
      rw (next_b, next_a) (omega (arith, length-next b (s + k), length-next a (m + k)))
