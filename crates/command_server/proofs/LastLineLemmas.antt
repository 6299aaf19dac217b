-- The last line of a text is determined by its line feeds.
use Rattle.std.proofs.Common.{◌≡◌, ◌∙◌, ℕ, zero, suc, ◌==◌, if◌then◌else◌, true, false, List, [], ◌∷◌, ◌++◌, Option, Some, None, refl, sym, ap, arith, append_assoc, append-nil}
use Rattle.std.proofs.lemmas.Bool.{ne_eqb}
use Rattle.text_lines.specs.Lines.{HasNoLineFeed}
use Rattle.std.specs.Option.{option_and_then}
use Rattle.command_server.specs.Strict.{HasNoLine, IsLastLine, IsLastLineAfter, last_line_after, failed_answer_of, failed_answer_in}

head_free : (b : ℕ) (bs : List ℕ) → HasNoLineFeed (b ∷ bs) → (b == 10) ≡ false
head_free b bs none = ne_eqb b 10 (λ e. none (zero, omega arith, e))

rest_free : (b : ℕ) (bs : List ℕ) → HasNoLineFeed (b ∷ bs) → HasNoLineFeed bs
rest_free b bs none (k, l, here) = none (suc k, omega (arith, l), here)

-- bytes without a line feed continue the open line
past_line : (last : Option (List ℕ)) (begun line rest : List ℕ) → HasNoLineFeed line → last_line_after last begun (line ++ rest) ≡ last_line_after last (begun ++ line) rest
unfolding last_line_after
past_line last begun [] rest none = ap (λ t. last_line_after last t rest) (sym (append-nil begun))
past_line last begun (b ∷ bs) rest none =
    ap (λ v. if v then last_line_after (Some begun) [] (bs ++ rest) else last_line_after last (begun ++ b ∷ []) (bs ++ rest)) (head_free b bs none)
    ∙ past_line last (begun ++ b ∷ []) bs rest (rest_free b bs none)
    ∙ ap (λ t. last_line_after last t rest) (append_assoc begun (b ∷ []) bs)

none_in : (last : Option (List ℕ)) (begun rest : List ℕ) → HasNoLineFeed rest → last_line_after last begun rest ≡ last
unfolding last_line_after
none_in last begun [] none = refl
none_in last begun (b ∷ bs) none =
    ap (λ v. if v then last_line_after (Some begun) [] bs else last_line_after last (begun ++ b ∷ []) bs) (head_free b bs none) ∙ none_in last (begun ++ b ∷ []) bs (rest_free b bs none)

-- a line feed ends the open line
at_feed : (last : Option (List ℕ)) (begun rest : List ℕ) → last_line_after last begun (10 ∷ rest) ≡ last_line_after (Some begun) [] rest
unfolding last_line_after
at_feed last begun rest = refl

ends : (last : Option (List ℕ)) (line rest : List ℕ) → HasNoLineFeed line → HasNoLineFeed rest → last_line_after last [] (line ++ 10 ∷ rest) ≡ Some line
ends last line rest free none = past_line last [] line (10 ∷ rest) free ∙ at_feed last line rest ∙ none_in (Some line) [] rest none

-- the line before the last line feed is the last one, whatever comes before it
following : (last : Option (List ℕ)) (begun front line rest : List ℕ) → HasNoLineFeed line → HasNoLineFeed rest → last_line_after last begun (front ++ 10 ∷ (line ++ 10 ∷ rest)) ≡ Some line
unfolding last_line_after
following last begun [] line rest free none = ends (Some begun) line rest free none
following last begun (b ∷ bs) line rest free none =
    elim (b == 10) as (λ v. (if v then last_line_after (Some begun) [] (bs ++ 10 ∷ (line ++ 10 ∷ rest)) else last_line_after last (begun ++ b ∷ []) (bs ++ 10 ∷ (line ++ 10 ∷ rest))) ≡ Some line) [
      | true ↦ following (Some begun) [] bs line rest free none
      | false ↦ following last (begun ++ b ∷ []) bs line rest free none
    ]

pub is_last : IsLastLine
is_last line rest free none = ends None line rest free none

pub is_last_after : IsLastLineAfter
is_last_after front line rest free none = following None [] front line rest free none

pub has_none : HasNoLine
has_none rest none = none_in None [] rest none

-- bytes without a line feed end no line
last_without_feed : (last : Option (List ℕ)) (begun text rest : List ℕ) → HasNoLineFeed rest → last_line_after last begun (text ++ rest) ≡ last_line_after last begun text
unfolding last_line_after
last_without_feed last begun [] rest none = none_in last begun rest none
last_without_feed last begun (b ∷ bs) rest none =
    elim (b == 10) as (λ v. (if v then last_line_after (Some begun) [] (bs ++ rest) else last_line_after last (begun ++ b ∷ []) (bs ++ rest))
    ≡ (if v then last_line_after (Some begun) [] bs else last_line_after last (begun ++ b ∷ []) bs)) [
      | true ↦ last_without_feed (Some begun) [] bs rest none
      | false ↦ last_without_feed last (begun ++ b ∷ []) bs rest none
    ]

pub stops_without_feed : (text rest : List ℕ) → HasNoLineFeed rest → failed_answer_in (text ++ rest) ≡ failed_answer_in text
stops_without_feed text rest none = ap (option_and_then failed_answer_of) (last_without_feed None [] text rest none)
