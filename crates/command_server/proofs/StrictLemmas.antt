-- Lemmas about the last lines of a text after more bytes.
use Rattle.std.proofs.Common.{
  ◌≡◌,
  ◌∙◌,
  ℕ,
  suc,
  ◌+◌,
  ◌<◌,
  ◌≤◌,
  ◌==◌,
  ◌&&◌,
  if◌then◌else◌,
  true,
  false,
  List,
  [],
  ◌∷◌,
  ◌++◌,
  codes,
  nat_eq,
  take,
  length,
  Option,
  Some,
  None,
  refl,
  sym,
  ap,
  subst,
  arith,
  min,
  take_all,
  length-take,
  length-append,
}
use Rattle.std.specs.Prelude.{bytes_eq}
use Rattle.std.specs.Option.{option_and_then}
use Rattle.std.proofs.lemmas.List.{take-append-le}
use Rattle.std.proofs.lemmas.Bool.{ne_eqb}
use mathlib.Core.Logic.{◌≢◌}
use lib.Seq.{take-take}
use Rattle.command_server.specs.declared.strict.FailedAnswer.TheVariants.{Refused, DeviceFault}
use Rattle.command_server.specs.declared.strict.LastLines.{LastLines}
use Rattle.command_server.specs.Strict.{Follows, last_line_after, open_line_after, open_line, failed_answer_of, failed_answer_in}

-- one more byte continues the open line, unless it is a line feed
open_snoc : (begun text : List ℕ) (b : ℕ) → open_line_after begun (text ++ b ∷ []) ≡ (if b == 10 then [] else open_line_after begun text ++ b ∷ [])
unfolding open_line_after
open_snoc begun [] b = refl
open_snoc begun (c ∷ text) b =
    elim (c == 10) as (λ v. (if v then open_line_after [] (text ++ b ∷ []) else open_line_after (begun ++ c ∷ []) (text ++ b ∷ []))
    ≡ (if b == 10 then [] else (if v then open_line_after [] text else open_line_after (begun ++ c ∷ []) text) ++ b ∷ [])) [
      | true ↦ open_snoc [] text b
      | false ↦ open_snoc (begun ++ c ∷ []) text b
    ]

last_snoc : (last : Option (List ℕ)) (begun text : List ℕ) (b : ℕ) → last_line_after last begun (text ++ b ∷ []) ≡ (if b == 10 then Some (open_line_after begun text) else last_line_after last begun text)
unfolding open_line_after last_line_after
last_snoc last begun [] b = refl
last_snoc last begun (c ∷ text) b =
    elim (c == 10) as (λ v. (if v then last_line_after (Some begun) [] (text ++ b ∷ []) else last_line_after last (begun ++ c ∷ []) (text ++ b ∷ []))
    ≡ (if b == 10 then Some (if v then open_line_after [] text else open_line_after (begun ++ c ∷ []) text)
    else (if v then last_line_after (Some begun) [] text else last_line_after last (begun ++ c ∷ []) text))) [
      | true ↦ last_snoc (Some begun) [] text b
      | false ↦ last_snoc last (begun ++ c ∷ []) text b
    ]

-- comparing one byte more than a text has shows whether a line is that text
eq_front : (xs ys : List ℕ) → bytes_eq xs (take (suc (length xs)) ys) ≡ bytes_eq xs ys
eq_front [] [] = refl
eq_front [] (y ∷ ys) = refl
eq_front (x ∷ xs) [] = refl
eq_front (x ∷ xs) (y ∷ ys) = ap (λ v. nat_eq x y && v) (eq_front xs ys)

stop_of_front : (line : List ℕ) → failed_answer_of (take 13 line) ≡ failed_answer_of line
unfolding failed_answer_of
stop_of_front line =
    ap (λ (f : List ℕ). if bytes_eq (codes "no ") f then Some Refused else if bytes_eq (codes "fault device") (take 13 line) then Some DeviceFault else None) (take-take 3 13 line (omega arith))
    ∙ ap (λ v. if bytes_eq (codes "no ") (take 3 line) then Some Refused else if v then Some DeviceFault else None) (eq_front (codes "fault device") line)

-- a line feed ends the open line
pub follows_feed : (text : List ℕ) (l : LastLines) (b : ℕ) → b ≡ 10 → Follows text l → ([] ≡ take 13 (open_line (text ++ b ∷ []))) × (failed_answer_of l.begun.items ≡ failed_answer_in (text ++ b ∷ []))
follows_feed text l b feed f =
    let P : ℕ → Type 0 = λ b. ([] ≡ take 13 (open_line (text ++ b ∷ []))) × (failed_answer_of l.begun.items ≡ failed_answer_in (text ++ b ∷ [])) in
    subst P (sym feed) (
      ap (take 13) (sym (open_snoc [] text 10)),
      ap failed_answer_of f.0 ∙ stop_of_front (open_line text) ∙ ap (option_and_then failed_answer_of) (sym (last_snoc None [] text 10)),
    )

-- a byte other than a line feed leaves the last complete line as it is
reported_more : (text : List ℕ) (b : ℕ) → (b ≢ 10) → failed_answer_in text ≡ failed_answer_in (text ++ b ∷ [])
reported_more text b other =
    sym (ap (option_and_then failed_answer_of) (last_snoc None [] text b ∙ ap (λ v. if v then Some (open_line_after [] text) else last_line_after None [] text) (ne_eqb b 10 other)))

open_more : (text : List ℕ) (b : ℕ) → (b ≢ 10) → open_line text ++ b ∷ [] ≡ open_line (text ++ b ∷ [])
open_more text b other =
    sym (open_snoc [] text b ∙ ap (λ v. if v then [] else open_line_after [] text ++ b ∷ []) (ne_eqb b 10 other))

pub follows_more : (text : List ℕ) (l : LastLines) (b : ℕ) → (b ≢ 10) → length l.begun.items < 13 → Follows text l
    → (l.begun.items ++ b ∷ [] ≡ take 13 (open_line (text ++ b ∷ []))) × (l.reported ≡ failed_answer_in (text ++ b ∷ []))
follows_more text l b other short f =
    let rest : List ℕ = open_line text in
    let short' : length (take 13 rest) < 13 = subst (λ (k : List ℕ). length k < 13) f.0 short in
    let len : length (take 13 rest) ≡ min 13 (length rest) = length-take 13 rest in
    let fits : length rest < 13 = omega (arith, short', len) in
    let kept : l.begun.items ≡ rest = f.0 ∙ take_all 13 rest (omega arith) in
    let more : length (rest ++ b ∷ []) ≡ length rest + 1 = length-append rest (b ∷ []) in (
      ap (λ k. k ++ b ∷ []) kept ∙ sym (take_all 13 (rest ++ b ∷ []) (omega (arith, more, fits))) ∙ ap (take 13) (open_more text b other),
      f.1 ∙ reported_more text b other,
    )

pub follows_full : (text : List ℕ) (l : LastLines) (b : ℕ) → (b ≢ 10) → 13 ≤ length l.begun.items → Follows text l
    → (l.begun.items ≡ take 13 (open_line (text ++ b ∷ []))) × (l.reported ≡ failed_answer_in (text ++ b ∷ []))
follows_full text l b other full f =
    let rest : List ℕ = open_line text in
    let full' : 13 ≤ length (take 13 rest) = subst (λ (k : List ℕ). 13 ≤ length k) f.0 full in
    let len : length (take 13 rest) ≡ min 13 (length rest) = length-take 13 rest in
    let long : 13 ≤ length rest = omega (arith, full', len) in (
      f.0 ∙ sym (take-append-le 13 rest (b ∷ []) long) ∙ ap (take 13) (open_more text b other),
      f.1 ∙ reported_more text b other,
    )
