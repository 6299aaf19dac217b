-- The number of bytes before the first that passes a test, as `position` returns it.
use Rattle.std.proofs.Common.{◌≡◌, ℕ, ◌≤◌, Bool, true, false, not, cond, List, Option, Some, None, length, refl, subst, sym, ap, ◌∙◌, arith}
use Rattle.std.specs.Prelude.{nat_lt}
use Rattle.std.specs.List.{position_or_len, prefix_len}
use Rattle.std.specs.Option.{unwrap_or}
use Rattle.std.proofs.lemmas.Bool.{cond_both, ltb-false}
use Rattle.std.proofs.lemmas.List.Sums.{prefix_len-le-length}

reported : (place len : ℕ) (r : Option ℕ) → place ≤ len → r ≡ cond (nat_lt place len) (Some place) None → unwrap_or r len ≡ place
reported place len r few e =
    let P : Option ℕ → Type 0 = λ o. unwrap_or o len ≡ place in
    subst P (sym e) (cond_both (nat_lt place len) (Some place) None P (λ _. refl) (λ above. omega (arith, few, ltb-false place len above)))

not_not : (b : Bool) → not (not b) ≡ b
not_not true = refl
not_not false = refl

module _ (p : ℕ → Bool) (text : List ℕ) (r : Option ℕ) where
  -- the place of the first byte that passes, from the number of bytes before it
  pub place_or_len : r ≡ cond (nat_lt (position_or_len p text) (length text)) (Some (position_or_len p text)) None
      → unwrap_or r (length text) ≡ position_or_len p text
  place_or_len e = reported (position_or_len p text) (length text) r (prefix_len-le-length (λ b. not (p b)) text) e

  -- the place of the first byte that does not pass, from the number of bytes before it
  pub front_or_len : r ≡ cond (nat_lt (position_or_len (λ b. not (p b)) text) (length text)) (Some (position_or_len (λ b. not (p b)) text)) None
      → unwrap_or r (length text) ≡ prefix_len p text
  front_or_len e =
      reported (position_or_len (λ b. not (p b)) text) (length text) r (prefix_len-le-length (λ b. not (not (p b))) text) e
      ∙ ap (λ q. prefix_len q text) (λ i b. not_not (p b) i)
