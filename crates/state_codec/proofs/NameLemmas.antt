-- Names are in ascending order
use Rattle.std.proofs.Common.{◌≡◌, ℕ, ◌-◌, ◌<◌, ◌≤◌, Bool, true, false, List, length, get_or, Some, refl, sym, ap, ◌∙◌, arith, nat_lt, slice_get}
use Rattle.std.specs.List.{list_all}
use Rattle.std.specs.List.Sorted.{IsStrictlySortedBy}
use Rattle.std.specs.Ordering.{nat_cmp}
use Rattle.std.specs.Map.{keys_of}
use Rattle.std.proofs.lemmas.Bool.{lt-ltb, ltb-true}
use Rattle.std.proofs.lemmas.List.{get_or-map, length-map}
use Rattle.std.proofs.lemmas.List.Folds.{list_all_at}
use Rattle.std.proofs.lemmas.List.Sums.{list_all-from_AllPass}
use Rattle.std.proofs.lemmas.Map.Keys.{non_decreasing_from_sorted}
use Rattle.std.proofs.lemmas.Option.{slice_get_within, get_or_from_slice_get}
use Rattle.plan_types.specs.declared.requests.Request.{Request}

-- All ascending names are below a number if the last one is
module _ (n : ℕ) (es : List (ℕ × Request)) (e : ℕ × Request) (ascending : IsStrictlySortedBy nat_cmp (keys_of es)) (at : slice_get es (length es - 1) ≡ Some e) where
  last-within : length es - 1 < length es
  last-within = slice_get_within es (length es - 1) e at

  no-more : (k : ℕ) (d : ℕ × Request) → k < length es → (get_or es k d).0 ≤ e.0
  no-more k d b =
      let ordered = non_decreasing_from_sorted (keys_of es) ascending k (length es - 1) 0 (omega arith) (rw length-map last-within) in
      let here = get_or-map (λ (f : ℕ × Request). f.0) es k d 0 b in
      let there = get_or-map (λ (f : ℕ × Request). f.0) es (length es - 1) e 0 last-within ∙ ap (λ (f : ℕ × Request). f.0) (get_or_from_slice_get es (length es - 1) e e at) in
      omega (arith, ordered, here, there)

  by : (b : Bool) → nat_lt e.0 n ≡ b → b ≡ list_all (λ f. nat_lt f.0 n) es
  by true less = sym (list_all-from_AllPass (λ f. nat_lt f.0 n) es (λ k d b. (let low = no-more k d b in let top = ltb-true e.0 n less in lt-ltb (get_or es k d).0 n (omega (arith, low, top)))))
  by false more = sym (list_all_at (λ f. nat_lt f.0 n) es (length es - 1) e last-within (ap (λ (f : ℕ × Request). nat_lt f.0 n) (get_or_from_slice_get es (length es - 1) e e at) ∙ more))

  pub last_decides : nat_lt e.0 n ≡ list_all (λ f. nat_lt f.0 n) es
  last_decides = by (nat_lt e.0 n) refl
