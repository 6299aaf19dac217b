-- The numbers of a line.
use Rattle.std.specs.Prelude.{ℕ, Bool, false, ◌||◌, is_none, List, [], ◌∷◌, Option, Some, None, unwrap_or, ℤ, pos, int_lt, slice_get}
use Rattle.std.specs.List.{list_any}
use Rattle.std.specs.Option.{option_and_then, option_map_or}
use Rattle.text_lines.specs.Numbers.{number_of}

-- the number at this place, from 0, if the word there is a number
abbrev pub field : List (List ℕ) → ℕ → Option ℤ
field words k = option_and_then number_of (slice_get words k)

-- the number at this place, or 0 if there is none
abbrev pub value_at : List (List ℕ) → ℕ → ℤ
value_at words k = unwrap_or (field words k) (pos 0)

-- there is a number, and it passes the test
abbrev pub passes_test : (ℤ → Bool) → Option ℤ → Bool
passes_test test number = option_map_or test number false

abbrev pub is_no_number : List ℕ → Bool
is_no_number word = is_none (number_of word)

-- some word is not a number
abbrev pub has_no_number : List (List ℕ) → Bool
has_no_number words = list_any is_no_number words

-- the number is below the smallest or above the greatest value allowed
abbrev pub is_beyond : ℤ × ℤ → ℤ → Bool
is_beyond limits z = int_lt z limits.0 || int_lt limits.1 z

-- some number is beyond the limits for its place
abbrev pub any_beyond : List (ℤ × ℤ) → List (List ℕ) → Bool
any_beyond (limits ∷ more) (word ∷ words) = passes_test (is_beyond limits) (number_of word) || any_beyond more words
any_beyond (limits ∷ more) [] = false
any_beyond [] words = false

-- both are numbers, and the first is greater
abbrev pub exceeds : Option ℤ → Option ℤ → Bool
exceeds (Some a) (Some b) = int_lt b a
exceeds (Some a) None = false
exceeds None b = false
