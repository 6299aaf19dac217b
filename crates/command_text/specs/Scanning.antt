-- The scan for the first word of a line, byte by byte.
use Rattle.std.specs.Prelude.{ℕ, ◌==◌, Bool, true, false, if◌then◌else◌, List, [], ◌∷◌}
use Rattle.text_lines.specs.Words.{is_blank}
use Rattle.command_text.specs.declared.first_word.FirstWord.{FirstWord}
use Rattle.command_text.specs.declared.first_word.FirstWord.TheVariants.{Nothing, L, Lo, Loa, A, Ad, Ado, Adop, Whole, WholeAndReturn, Over, Other}

-- The state `longer` if the byte is this letter of the name, otherwise another word.
abbrev pub next_letter : ℕ → ℕ → FirstWord → FirstWord
next_letter letter b longer = if b == letter then longer else Other

-- The state after one more byte. 108 is l, 97 is a, and 13 is a carriage return.
abbrev pub scanned_byte : FirstWord → ℕ → FirstWord
scanned_byte Nothing b = if is_blank b then Nothing else if b == 108 then L else next_letter 97 b A
scanned_byte L b = next_letter 111 b Lo
scanned_byte Lo b = next_letter 97 b Loa
scanned_byte Loa b = next_letter 100 b Whole
scanned_byte A b = next_letter 100 b Ad
scanned_byte Ad b = next_letter 111 b Ado
scanned_byte Ado b = next_letter 112 b Adop
scanned_byte Adop b = next_letter 116 b Whole
scanned_byte Whole b = if b == 13 then WholeAndReturn else if is_blank b then Over else Other
scanned_byte WholeAndReturn b = Other
scanned_byte Over b = Over
scanned_byte Other b = Other

-- The state after these bytes, beginning in the given state.
abbrev pub scanned_on : FirstWord → List ℕ → FirstWord
scanned_on word [] = word
scanned_on word (b ∷ bs) = scanned_on (scanned_byte word b) bs

-- The state after these bytes, from the beginning of a line.
abbrev pub scan_of : List ℕ → FirstWord
scan_of bytes = scanned_on Nothing bytes

-- Whether the first word of a line that ends in this state is `load` or `adopt`.
abbrev pub is_announcement : FirstWord → Bool
is_announcement Whole = true
is_announcement WholeAndReturn = true
is_announcement Over = true
is_announcement _ = false
