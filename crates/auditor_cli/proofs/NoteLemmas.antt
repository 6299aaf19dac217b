-- A note that is printed piece by piece has the bytes of its definition.
use Rattle.std.proofs.Common.{◌≡◌, ◌∙◌, ◌++◌, ℕ, List, [], ◌∷◌, sym, append_assoc}

-- A line of five pieces is the same whether they are joined from the right or from the left.
pub five_pieces : (a b c d e : List ℕ) → a ++ (b ++ (c ++ (d ++ (e ++ 10 ∷ [])))) ≡ ((((a ++ b) ++ c) ++ d) ++ e) ++ 10 ∷ []
five_pieces a b c d e =
    sym (append_assoc a b (c ++ (d ++ (e ++ 10 ∷ [])))) ∙ sym (append_assoc (a ++ b) c (d ++ (e ++ 10 ∷ [])))
    ∙ sym (append_assoc ((a ++ b) ++ c) d (e ++ 10 ∷ [])) ∙ sym (append_assoc (((a ++ b) ++ c) ++ d) e (10 ∷ []))
