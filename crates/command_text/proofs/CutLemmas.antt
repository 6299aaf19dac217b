-- An input is cut at its first line feed, and continues after the bytes that the line announces.
use Rattle.std.proofs.Common.{◌≡◌, ◌∙◌, ℕ, zero, suc, ◌+◌, ◌<◌, Bool, true, false, not, cond, if◌then◌else◌, List, [], ◌∷◌, ◌++◌, length, take, drop, get_or, refl, sym, ap, arith}
use Rattle.std.specs.Str.Lines.{strip_carriage_return}
use Rattle.std.proofs.lemmas.Bool.{ne_eqb}
use Rattle.std.proofs.lemmas.List.{drop_all, take_all, get_or_default}
use Rattle.std.proofs.Math.Seq.{drop-append-add, take-append_seam}
use Rattle.text_lines.specs.Lines.{HasNoLineFeed}
use Rattle.command_text.specs.Parsing.{parsed_line}
use Rattle.command_text.specs.Cutting.{Piece, announced_len, first_command, ends, first_piece, line_len, pieces_after, pieces_of}
use Rattle.command_text.specs.Laws.{PiecesEnd, PiecesFollow, cut_at, piece_at}

pub none : pieces_of [] ≡ []
unfolding pieces_after
none = refl

skip : (k : ℕ) (text : List ℕ) → pieces_after k text ≡ pieces_of (drop k text)
unfolding pieces_after
skip zero [] = refl
skip (suc k) [] = refl
skip zero (b ∷ bs) = refl
skip (suc k) (b ∷ bs) = skip k bs

-- the pieces of a text whose first line has `len` bytes
abbrev cut_by : ℕ → List ℕ → List Piece
cut_by len text =
    let a = parsed_line (strip_carriage_return (take len text)) in
    let p = piece_at a (drop (len + 1) text) in
    p ∷ (if ends p then [] else pieces_of (drop (len + 1 + announced_len a) text))

one_more : (n m : ℕ) → n + 1 + m ≡ suc (n + m)
one_more n m = omega arith

first_is : (text : List ℕ) → 0 < length text → pieces_of text ≡ cut_by (line_len text) text
unfolding pieces_after
first_is [] some = absurd (omega (arith, some))
first_is (b ∷ bs) some =
    let text = b ∷ bs in
    let n = announced_len (first_command text) in
    ap (λ ps. first_piece text ∷ (if ends (first_piece text) then [] else ps)) (skip (line_len text + n) bs ∙ ap (λ k. pieces_of (drop k text)) (sym (one_more (line_len text) n)))

module _ (text line rest : List ℕ) (len : ℕ) (prefix : take len text ≡ line) (following : drop (len + 1) text ≡ rest) (further : (n : ℕ) → drop (len + 1 + n) text ≡ drop n rest) where
  by_parts : cut_by len text ≡ cut_at (parsed_line (strip_carriage_return line)) rest
  by_parts =
      let a = parsed_line (strip_carriage_return line) in
      ap (λ l. let a' = parsed_line (strip_carriage_return l) in let p = piece_at a' (drop (len + 1) text) in p ∷ (if ends p then [] else pieces_of (drop (len + 1 + announced_len a') text))) prefix
      ∙ ap (λ r. piece_at a r ∷ (if ends (piece_at a r) then [] else pieces_of (drop (len + 1 + announced_len a) text))) following
      ∙ ap (λ r. piece_at a rest ∷ (if ends (piece_at a rest) then [] else pieces_of r)) (further (announced_len a))

no_feed_at : (line : List ℕ) → HasNoLineFeed line → (j : ℕ) → j < length line → get_or line j 0 ≡ 10 → ⊥
no_feed_at line no_feed j below here = no_feed (j, below, get_or_default line j 10 0 below ∙ here)

longer : (n m : ℕ) → n ≡ m → 1 + n ≡ suc m
longer n m is = omega (arith, is)

feed_after : (line rest : List ℕ) → ((j : ℕ) → j < length line → get_or line j 0 ≡ 10 → ⊥) → line_len (line ++ 10 ∷ rest) ≡ length line
feed_after [] rest none = refl
feed_after (b ∷ bs) rest none =
    ap (λ t. cond (not t) (1 + line_len (bs ++ 10 ∷ rest)) 0) (ne_eqb b 10 (none 0 (omega arith)))
    ∙ longer (line_len (bs ++ 10 ∷ rest)) (length bs) (feed_after bs rest (λ j below here. none (suc j) (omega (arith, below)) here))

no_feed_there : (line : List ℕ) → ((j : ℕ) → j < length line → get_or line j 0 ≡ 10 → ⊥) → line_len line ≡ length line
no_feed_there [] none = refl
no_feed_there (b ∷ bs) none =
    ap (λ t. cond (not t) (1 + line_len bs) 0) (ne_eqb b 10 (none 0 (omega arith))) ∙ longer (line_len bs) (length bs) (no_feed_there bs (λ j below here. none (suc j) (omega (arith, below)) here))

some_bytes : (line rest : List ℕ) → 0 < length (line ++ 10 ∷ rest)
some_bytes [] rest = omega arith
some_bytes (b ∷ bs) rest = omega arith

add_together : (len n : ℕ) → len + 1 + n ≡ len + suc n
add_together len n = omega arith

pub follow : PiecesFollow
follow line rest no_feed =
    let text = line ++ 10 ∷ rest in
    first_is text (some_bytes line rest) ∙ ap (λ n. cut_by n text) (feed_after line rest (no_feed_at line no_feed))
    ∙ by_parts text line rest (length line) (take-append_seam line (10 ∷ rest)) (drop-append-add line (10 ∷ rest) 1)
    (λ n. ap (λ k. drop k text) (add_together (length line) n) ∙ drop-append-add line (10 ∷ rest) (suc n))

nothing_left : (n : ℕ) → drop {A = ℕ} n [] ≡ []
nothing_left zero = refl
nothing_left (suc n) = refl

nothing_more : (b : Bool) (n : ℕ) → (if b then [] else pieces_of (drop n [])) ≡ []
nothing_more true n = refl
nothing_more false n = ap pieces_of (nothing_left n) ∙ none

pub last : PiecesEnd
last line no_feed some =
    let a = parsed_line (strip_carriage_return line) in
    first_is line some ∙ ap (λ n. cut_by n line) (no_feed_there line (no_feed_at line no_feed))
    ∙ by_parts line line [] (length line) (take_all (length line) line (omega arith)) (drop_all (length line + 1) line (omega arith))
    (λ n. drop_all (length line + 1 + n) line (omega arith) ∙ sym (nothing_left n))
    ∙ ap (λ ps. piece_at a [] ∷ ps) (nothing_more (ends (piece_at a [])) (announced_len a))
