-- Lemmas about the kept part of a line, and about the bytes before the first line feed.
use Rattle.std.proofs.Common.{◌≡◌, ◌∙◌, ℕ, ◌+◌, ◌-◌, ◌<◌, ◌≤◌, min, Bool, true, false, List, ◌++◌, length, take, refl, sym, ap, arith, take_all, append-nil, length-take-le}
use Rattle.std.specs.Prelude.{nat_le, nat_lt, slice_index, ◌==◌, if◌then◌else◌, OnOk, Result, Ok, Err, IsOk, ◌↔◌}
use mathlib.Core.Bool.{true≢false}
use Rattle.std.proofs.lemmas.Bool.{leb-true, ltb-false, ltb-true}
use Rattle.std.specs.Str.Lines.{strip_carriage_return}
use Rattle.text_lines.specs.Words.{words_of}
use Rattle.command_text.specs.Parsing.{parsed_line, announces_text}
use Rattle.command_text.specs.declared.parsed_command.ParsedCommand.TheVariants.{BadLine, BadText}
use Rattle.std.proofs.lemmas.List.{take-append-le}
use Rattle.std.proofs.Math.Seq.{take-append-add}

-- taking at most the bytes of a part takes a prefix of it
take_most : (k : ℕ) (part : List ℕ) → take (min k (length part)) part ≡ take k part
take_most k part = at (nat_lt (length part) k) refl
  where
    at : (b : Bool) → nat_lt (length part) k ≡ b → take (min k (length part)) part ≡ take k part
    at true less =
        let fewer : length part < k = ltb-true (length part) k less in
        let is : min k (length part) ≡ length part = omega (arith, fewer) in
        ap (λ n. take n part) is ∙ take_all (length part) part (omega arith) ∙ sym (take_all k part (omega (arith, fewer)))
    at false less =
        let fewer : k ≤ length part = omega (arith, ltb-false (length part) k less) in
        let is : min k (length part) ≡ k = omega (arith, fewer) in
        ap (λ n. take n part) is

pub kept_more : (most : ℕ) (before part : List ℕ) (room : ℕ) → room ≡ min (most - length (take most before)) (length part) → take most before ++ take room part ≡ take most (before ++ part)
kept_more most before part room is = at (nat_lt most (length before)) refl
  where
    at : (b : Bool) → nat_lt most (length before) ≡ b → take most before ++ take room part ≡ take most (before ++ part)
    at true more =
        let longer : most < length before = ltb-true most (length before) more in
        let full : length (take most before) ≡ most = length-take-le most before (omega (arith, longer)) in
        let none : room ≡ 0 = omega (arith, is, full) in
        ap (λ n. take most before ++ take n part) none ∙ append-nil (take most before) ∙ sym (take-append-le most before part (omega (arith, longer)))
    at false more =
        let shorter : length before ≤ most = omega (arith, ltb-false most (length before) more) in
        let all : take most before ≡ before = take_all most before shorter in
        let left : ℕ = most - length before in
        let room_is : room ≡ min left (length part) = is ∙ ap (λ (xs : List ℕ). min (most - length xs) (length part)) all in
        let whole : most ≡ length before + left = omega (arith, shorter) in
        ap (λ xs. xs ++ take room part) all ∙ ap (λ n. before ++ take n part) room_is ∙ ap (λ xs. before ++ xs) (take_most left part) ∙ sym (take-append-add before part left)
        ∙ ap (λ n. take n (before ++ part)) (sym whole)

-- a text is appended if it fits
pub appended_ok : {T E P Q : Type 0} (r : Result T E) → P → IsOk r ↔ P → OnOk r Q → Q
appended_ok (Ok x) fits may q = q
appended_ok (Err y) fits may q = absurd (true≢false (sym (may.1 fits)))

-- ---- parsing a line

kept_short : (most : ℕ) (line : List ℕ) → length (take most line) < most → take most line ≡ line
kept_short most line short = at (nat_lt most (length line)) refl
  where
    at : (b : Bool) → nat_lt most (length line) ≡ b → take most line ≡ line
    at true more =
        let full : length (take most line) ≡ most = length-take-le most line (omega (arith, ltb-true most (length line) more)) in
        absurd (omega (arith, full, short))
    at false more = take_all most line (omega (arith, ltb-false most (length line) more))

kept_long : (most : ℕ) (line : List ℕ) → most ≤ length (take most line) → most ≤ length line
kept_long most line long = at (nat_lt (length line) most) refl
  where
    at : (b : Bool) → nat_lt (length line) most ≡ b → most ≤ length line
    at true less =
        let fewer : length line < most = ltb-true (length line) most less in
        let all : take most line ≡ line = take_all most line (omega (arith, fewer)) in
        absurd (omega (arith, fewer, long, ap length all))
    at false less = omega (arith, ltb-false (length line) most less)

stripped_len : (l : List ℕ) → length l ≤ length (strip_carriage_return l) + 1
stripped_len l = at (slice_index l (length l - 1) == 13)
  where
    at : (b : Bool) → length l ≤ length (if b then take (length l - 1) l else l) + 1
    at true = let e : length (take (length l - 1) l) ≡ length l - 1 = length-take-le (length l - 1) l (omega arith) in omega (arith, e)
    at false = omega arith

requested_long : (l : List ℕ) (b : Bool) → nat_le (length l) 1024 ≡ false → announces_text (words_of l) ≡ b → parsed_line l ≡ (if b then BadText else BadLine)
unfolding parsed_line
requested_long l b long e = rw (long, e) refl

is_long : (n : ℕ) → 1024 < n → nat_le n 1024 ≡ false
is_long n more = at (nat_le n 1024) refl
  where
    at : (b : Bool) → nat_le n 1024 ≡ b → nat_le n 1024 ≡ false
    at true e = absurd (omega (arith, leb-true n 1024 e, more))
    at false e = e

-- a line that was kept whole is parsed from the kept bytes
pub requested_kept : (kept line : List ℕ) → kept ≡ take 1026 line → length kept < 1026 → parsed_line (strip_carriage_return kept) ≡ parsed_line (strip_carriage_return line)
requested_kept kept line is short = ap (λ l. parsed_line (strip_carriage_return l)) (is ∙ kept_short 1026 line (omega (arith, short, ap length is)))

-- a line that is too long is bad, and the scan of its first word shows whether it announces a text
pub requested_too_long : (kept line : List ℕ) (b : Bool) → kept ≡ take 1026 line → 1026 ≤ length kept → b ≡ announces_text (words_of (strip_carriage_return line))
    → (if b then BadText else BadLine) ≡ parsed_line (strip_carriage_return line)
requested_too_long kept line b is long e =
    let more : 1026 ≤ length line = kept_long 1026 line (omega (arith, long, ap length is)) in
    let over : 1024 < length (strip_carriage_return line) = omega (arith, more, stripped_len line) in
    sym (requested_long (strip_carriage_return line) b (is_long (length (strip_carriage_return line)) over) (sym e))
