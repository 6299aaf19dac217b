-- The lines of a text that are read: all except the blank ones.
use Rattle.std.proofs.Common.{◌≡◌, ℕ, ◌+◌, true, false, cond, List, [], ◌∷◌, refl, ap}
use Rattle.text_lines.specs.Words.{is_blank_line}
use Rattle.instance_read.specs.Rows.{rows_from}

pub rows_nil : (n : ℕ) → rows_from n [] ≡ []
unfolding rows_from
rows_nil n = refl

-- a blank line at the beginning is skipped, and any other one is read
pub rows_blank : (n : ℕ) (l : List ℕ) (ls : List (List ℕ)) → is_blank_line l ≡ true → rows_from n (l ∷ ls) ≡ rows_from (n + 1) ls
unfolding rows_from
rows_blank n l ls e = ap (λ t. cond t (rows_from (n + 1) ls) (record { line = n; text = l } ∷ rows_from (n + 1) ls)) e

pub rows_read : (n : ℕ) (l : List ℕ) (ls : List (List ℕ)) → is_blank_line l ≡ false → rows_from n (l ∷ ls) ≡ record { line = n; text = l } ∷ rows_from (n + 1) ls
unfolding rows_from
rows_read n l ls e = ap (λ t. cond t (rows_from (n + 1) ls) (record { line = n; text = l } ∷ rows_from (n + 1) ls)) e
