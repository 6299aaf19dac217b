-- Lemmas about taking the numbers of a line one by one.
use Rattle.std.proofs.Common.{◌≡◌, inl, inr, ℕ, ◌<◌, ◌≤◌, List, [], ◌∷◌, ◌++◌, length, slice_index_or, Option, Some, None, refl, sym, ◌∙◌, ap, arith, length-append}
use Rattle.std.proofs.lemmas.List.{append_assoc, append-nil}
use Rattle.std.specs.Option.{option_and_then, option_map, option_map_or}
use Rattle.command_types.specs.declared.commands.Spot.{Spot}
use Rattle.command_text.specs.Parsing.{fields_of, field_in, parse_numbers, spot_of, parse_two_spots}
use Rattle.command_text.specs.Numbers.{IsNoCommand}
use Rattle.command_text.specs.declared.parsed_command.ParsedCommand.{ParsedCommand}
use Rattle.command_text.specs.declared.parsed_command.ParsedCommand.TheVariants.{BadLine}
use Rattle.command_text.specs.declared.fields.Field.{Field}
use Rattle.command_text.specs.declared.verbs.Verb.{Verb}

-- the numbers of `words` are `xs`, followed by the numbers of `left`
abbrev pub TakesOn : List (List ℕ) → List Field → List (List ℕ) → Type 0
TakesOn words xs left = fields_of words ≡ option_map (λ fs. xs ++ fs) (fields_of left)

option_same : (o : Option (List Field)) → o ≡ option_map (λ fs. [] ++ fs) o
option_same None = refl
option_same (Some fs) = refl

pub begin : (words : List (List ℕ)) → TakesOn words [] words
begin words = option_same (fields_of words)

one_more : (xs : List Field) (f : Field) (o : Option (List Field)) → option_map (λ fs. xs ++ fs) (option_map (λ fs. f ∷ fs) o) ≡ option_map (λ fs. (xs ++ f ∷ []) ++ fs) o
one_more xs f None = refl
one_more xs f (Some fs) = ap Some (sym (append_assoc xs (f ∷ []) fs))

module _ (words : List (List ℕ)) (xs : List Field) (word : List ℕ) (all left : List (List ℕ)) (is_next : all ≡ word ∷ left) (so_far : TakesOn words xs all) where
  next : (o : Option Field) → field_in word ≡ o → fields_of words ≡ option_map (λ fs. xs ++ fs) (option_and_then (λ f. option_map (λ fs. f ∷ fs) (fields_of left)) o)
  unfolding fields_of
  next o is = so_far ∙ ap (λ ws. option_map (λ fs. xs ++ fs) (fields_of ws)) is_next ∙ ap (λ o. option_map (λ fs. xs ++ fs) (option_and_then (λ f. option_map (λ fs. f ∷ fs) (fields_of left)) o)) is

  pub go_on : (f : Field) → field_in word ≡ Some f → TakesOn words (xs ++ f ∷ []) left
  go_on f is = next (Some f) is ∙ one_more xs f (fields_of left)

  pub no_integer : field_in word ≡ None → IsNoCommand words
  no_integer is = inl (next None is)

  many : (f : Field) (o : Option (List Field)) → 11 ≤ length xs → fields_of words ≡ option_map (λ fs. xs ++ fs) (option_map (λ fs. f ∷ fs) o) → IsNoCommand words
  many f None full is = inl is
  many f (Some fs) full is = inr (xs ++ f ∷ fs, is, omega (arith, full, length-append xs (f ∷ fs)))

  pub too_many : (f : Field) → field_in word ≡ Some f → 11 ≤ length xs → IsNoCommand words
  too_many f is full = many f (fields_of left) full (next (Some f) is)

pub all_taken : (words : List (List ℕ)) (xs : List Field) → TakesOn words xs [] → fields_of words ≡ Some xs
unfolding fields_of
all_taken words xs so_far = so_far ∙ ap Some (append-nil xs)

pub eleven : (v : Verb) (fs : List Field) (d : Field) → 11 ≤ length fs → length fs < 12
    → parse_two_spots v (slice_index_or fs 0 d) (spot_of (slice_index_or fs 1 d) (slice_index_or fs 2 d) (slice_index_or fs 3 d) (slice_index_or fs 4 d) (slice_index_or fs 5 d))
    (spot_of (slice_index_or fs 6 d) (slice_index_or fs 7 d) (slice_index_or fs 8 d) (slice_index_or fs 9 d) (slice_index_or fs 10 d))
    ≡ parse_numbers v fs
unfolding parse_numbers
eleven v [] d least most = absurd (omega (arith, least))
eleven v (a0 ∷ []) d least most = absurd (omega (arith, least))
eleven v (a0 ∷ a1 ∷ []) d least most = absurd (omega (arith, least))
eleven v (a0 ∷ a1 ∷ a2 ∷ []) d least most = absurd (omega (arith, least))
eleven v (a0 ∷ a1 ∷ a2 ∷ a3 ∷ []) d least most = absurd (omega (arith, least))
eleven v (a0 ∷ a1 ∷ a2 ∷ a3 ∷ a4 ∷ []) d least most = absurd (omega (arith, least))
eleven v (a0 ∷ a1 ∷ a2 ∷ a3 ∷ a4 ∷ a5 ∷ []) d least most = absurd (omega (arith, least))
eleven v (a0 ∷ a1 ∷ a2 ∷ a3 ∷ a4 ∷ a5 ∷ a6 ∷ []) d least most = absurd (omega (arith, least))
eleven v (a0 ∷ a1 ∷ a2 ∷ a3 ∷ a4 ∷ a5 ∷ a6 ∷ a7 ∷ []) d least most = absurd (omega (arith, least))
eleven v (a0 ∷ a1 ∷ a2 ∷ a3 ∷ a4 ∷ a5 ∷ a6 ∷ a7 ∷ a8 ∷ []) d least most = absurd (omega (arith, least))
eleven v (a0 ∷ a1 ∷ a2 ∷ a3 ∷ a4 ∷ a5 ∷ a6 ∷ a7 ∷ a8 ∷ a9 ∷ []) d least most = absurd (omega (arith, least))
eleven v (a0 ∷ a1 ∷ a2 ∷ a3 ∷ a4 ∷ a5 ∷ a6 ∷ a7 ∷ a8 ∷ a9 ∷ a10 ∷ []) d least most = refl
eleven v (a0 ∷ a1 ∷ a2 ∷ a3 ∷ a4 ∷ a5 ∷ a6 ∷ a7 ∷ a8 ∷ a9 ∷ a10 ∷ a11 ∷ more) d least most = absurd (omega (arith, most))

-- a line with more than 11 numbers is bad, since no command has more
pub too_long : (v : Verb) (fs : List Field) → 11 < length fs → parse_numbers v fs ≡ BadLine
unfolding parse_numbers
too_long v [] least = absurd (omega (arith, least))
too_long v (a0 ∷ []) least = absurd (omega (arith, least))
too_long v (a0 ∷ a1 ∷ []) least = absurd (omega (arith, least))
too_long v (a0 ∷ a1 ∷ a2 ∷ []) least = absurd (omega (arith, least))
too_long v (a0 ∷ a1 ∷ a2 ∷ a3 ∷ []) least = absurd (omega (arith, least))
too_long v (a0 ∷ a1 ∷ a2 ∷ a3 ∷ a4 ∷ []) least = absurd (omega (arith, least))
too_long v (a0 ∷ a1 ∷ a2 ∷ a3 ∷ a4 ∷ a5 ∷ []) least = absurd (omega (arith, least))
too_long v (a0 ∷ a1 ∷ a2 ∷ a3 ∷ a4 ∷ a5 ∷ a6 ∷ []) least = absurd (omega (arith, least))
too_long v (a0 ∷ a1 ∷ a2 ∷ a3 ∷ a4 ∷ a5 ∷ a6 ∷ a7 ∷ []) least = absurd (omega (arith, least))
too_long v (a0 ∷ a1 ∷ a2 ∷ a3 ∷ a4 ∷ a5 ∷ a6 ∷ a7 ∷ a8 ∷ []) least = absurd (omega (arith, least))
too_long v (a0 ∷ a1 ∷ a2 ∷ a3 ∷ a4 ∷ a5 ∷ a6 ∷ a7 ∷ a8 ∷ a9 ∷ []) least = absurd (omega (arith, least))
too_long v (a0 ∷ a1 ∷ a2 ∷ a3 ∷ a4 ∷ a5 ∷ a6 ∷ a7 ∷ a8 ∷ a9 ∷ a10 ∷ []) least = absurd (omega (arith, least))
too_long v (a0 ∷ a1 ∷ a2 ∷ a3 ∷ a4 ∷ a5 ∷ a6 ∷ a7 ∷ a8 ∷ a9 ∷ a10 ∷ a11 ∷ more) least = refl

-- if the code parses two spots from eleven numbers, the result is that of the definition
pub eleven_read : (v : Verb) (fs : List Field) (d : Field) (a b : Option Spot) (read : ParsedCommand) → 11 ≤ length fs → length fs < 12
    → a ≡ spot_of (slice_index_or fs 1 d) (slice_index_or fs 2 d) (slice_index_or fs 3 d) (slice_index_or fs 4 d) (slice_index_or fs 5 d)
    → b ≡ spot_of (slice_index_or fs 6 d) (slice_index_or fs 7 d) (slice_index_or fs 8 d) (slice_index_or fs 9 d) (slice_index_or fs 10 d)
    → read ≡ parse_two_spots v (slice_index_or fs 0 d) a b → read ≡ parse_numbers v fs
eleven_read v fs d a b read least most first second is =
    is ∙ ap (λ s. parse_two_spots v (slice_index_or fs 0 d) s b) first
    ∙ ap (λ s. parse_two_spots v (slice_index_or fs 0 d) (spot_of (slice_index_or fs 1 d) (slice_index_or fs 2 d) (slice_index_or fs 3 d) (slice_index_or fs 4 d) (slice_index_or fs 5 d)) s) second
    ∙ eleven v fs d least most

pub no_command : (v : Verb) (words : List (List ℕ)) → IsNoCommand words → BadLine ≡ option_map_or (parse_numbers v) (fields_of words) BadLine
no_command v words (inl none) = sym (ap (λ o. option_map_or (parse_numbers v) o BadLine) none)
no_command v words (inr many) = sym (ap (λ o. option_map_or (parse_numbers v) o BadLine) many.1 ∙ too_long v many.0 many.2)
