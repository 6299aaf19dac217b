-- The step counts of a command's operations: none for 0 steps, otherwise that of the first operation and those
-- of the remaining steps.
use Rattle.std.proofs.Common.{◌≡◌, ◌∙◌, inl, inr, ℕ, suc, ◌-◌, ◌/◌, ◌%◌, ◌<◌, ◌≤◌, List, [], ◌∷◌, ◌++◌, replicate, if◌then◌else◌, ◌==◌, sym, ap, refl, arith}
use Rattle.std.proofs.Math.Nat.{div-eq-sub-div, div-eq_of_lt, mod-eq-sub-mod, mod-eq_of_lt, zero-div, zero-mod}
use Rattle.std.proofs.Math.Numerals.{suc-eq-add-one}
use Rattle.std.proofs.lemmas.Bool.{cases_Bool, eqb-true}
use Rattle.command_text.specs.Answering.{counts_of}

rest_of : ℕ → List ℕ
rest_of r = if r == 0 then [] else r ∷ []

quotient_more : (most n : ℕ) → 0 < most → most ≤ n → n / most ≡ suc ((n - most) / most)
quotient_more most n some large = div-eq-sub-div some large ∙ sym (suc-eq-add-one ((n - most) / most))

pub large_count : (most n : ℕ) → 0 < most → most ≤ n → counts_of most n ≡ most ∷ counts_of most (n - most)
unfolding counts_of rest_of
large_count most n some large =
    ap (λ q. replicate q most ++ rest_of (n % most)) (quotient_more most n some large)
    ∙ ap (λ r. most ∷ (replicate ((n - most) / most) most ++ rest_of r)) (mod-eq-sub-mod large)

one_rest : (n : ℕ) → 0 < n → rest_of n ≡ n ∷ []
unfolding rest_of
one_rest n some = elim (cases_Bool (n == 0)) [
  | inl t ↦ absurd (omega (arith, some, eqb-true n 0 t))
  | inr f ↦ rw f refl
]

pub no_counts : (most : ℕ) → counts_of most 0 ≡ []
unfolding counts_of rest_of
no_counts most = ap (λ q. replicate q most ++ rest_of (0 % most)) (zero-div most) ∙ ap rest_of (zero-mod most)

none_left : (n : ℕ) → n - n ≡ 0
none_left n = omega arith

pub small_count : (most n : ℕ) → 0 < n → n < most → counts_of most n ≡ n ∷ counts_of most (n - n)
unfolding counts_of rest_of
small_count most n some small =
    ap (λ q. replicate q most ++ rest_of (n % most)) (div-eq_of_lt small) ∙ ap rest_of (mod-eq_of_lt small) ∙ one_rest n some
    ∙ ap (λ ns. n ∷ ns) (sym (ap (counts_of most) (none_left n) ∙ no_counts most))
