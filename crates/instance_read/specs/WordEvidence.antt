-- The details of a fault that the words of a line of numbers show. Places of words count from 0.
use Rattle.std.specs.Prelude.{ℕ, ◌+◌, ◌^◌, Bool, true, false, if◌then◌else◌, List, [], ◌∷◌, length, Option, ℤ, unwrap_or, slice_get, slice_index_or}
use Rattle.std.specs.Option.{option_and_then, option_map_or}
use Rattle.text_lines.specs.Numbers.{below, magnitude, number_of}
use Rattle.instance_read.specs.Fields.{is_beyond, is_no_number, passes_test}
use Rattle.instance_read.specs.declared.evidence.Evidence.{Evidence}
use Rattle.instance_read.specs.declared.evidence.Evidence.TheVariants.{Count, Nothing, Word}
use Rattle.instance_read.specs.declared.evidence.Field.{Field}
use Rattle.instance_read.specs.declared.evidence.Field.TheVariants.{ExtraWord}
use Rattle.instance_read.specs.declared.faults.ReadFaultKind.{ReadFaultKind}
use Rattle.instance_read.specs.declared.faults.ReadFaultKind.TheVariants.{BadNumber, FieldCount, NodeRepeated, Range, TooManyStops}

-- the word at this place, or an empty word if there is none
abbrev pub word_at : List (List ℕ) → ℕ → List ℕ
word_at words k = unwrap_or (slice_get words k) []

-- the value of a word that is a number below 2^16, as stop numbers are, otherwise 0
abbrev pub stop_in : List ℕ → ℕ
stop_in word = unwrap_or (below (2 ^ 16) (below (2 ^ 64) (option_and_then magnitude (number_of word)))) 0

abbrev pub stop_at : List (List ℕ) → ℕ → ℕ
stop_at words k = stop_in (word_at words k)

-- the word is a number beyond these limits, if there are limits
abbrev pub is_beyond_some : Option (ℤ × ℤ) → List ℕ → Bool
is_beyond_some limits word = option_map_or (λ l. passes_test (is_beyond l) (number_of word)) limits false

-- the word, of a field with these limits, can have this fault; a node that occurs twice is the first word of
-- its line
abbrev pub is_faulty : ReadFaultKind → Option (ℤ × ℤ) → List ℕ → Bool
is_faulty BadNumber limits word = is_no_number word
is_faulty Range limits word = is_beyond_some limits word
is_faulty TooManyStops limits word = is_beyond_some limits word
is_faulty NodeRepeated limits word = true
is_faulty _ limits word = false

-- the first word that can have this fault; the first word of the list is at place k of the line
abbrev pub faulty_word : ReadFaultKind → List Field → List (ℤ × ℤ) → ℕ → List (List ℕ) → Evidence
faulty_word kind fields limits k [] = Nothing
faulty_word kind fields limits k (word ∷ words) =
    if is_faulty kind (slice_get limits k) word then Word (slice_index_or fields k ExtraWord) word (slice_get limits k)
    else faulty_word kind fields limits (k + 1) words

-- the details of a fault in a line with these fields; `limits` may be shorter, since the last fields may have
-- any value
abbrev pub numbers_evidence : ReadFaultKind → List Field → List (ℤ × ℤ) → List (List ℕ) → Evidence
numbers_evidence FieldCount fields limits words = Count (length fields) (length words)
numbers_evidence kind fields limits words = faulty_word kind fields limits 0 words
