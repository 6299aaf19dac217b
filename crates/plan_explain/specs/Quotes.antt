-- The lines of a refused file, their words, and their bytes as they are printed.
use Rattle.std.specs.Prelude.{ℕ, nat_le, ◌==◌, ◌&&◌, ◌||◌, Bool, List, map, take, if◌then◌else◌, false, is_none, nat_lt, [], ◌∷◌, length, drop}
use Rattle.std.specs.Str.{str_eq_ignore_ascii_case}
use Rattle.instance_read.specs.VrpLines.{key_text}
use Rattle.std.specs.Char.{is_ascii_digit}
use Rattle.std.specs.List.{prefix_len}
use Rattle.sol_text.specs.Values.{customer_of}

-- the key of the line, the part before the colon, is this key in any letter case
abbrev pub is_key : List ℕ → List ℕ → Bool
is_key key line = str_eq_ignore_ascii_case (key_text line) key

-- the byte is printed as it is: printable ASCII, or a tab
abbrev pub is_shown : ℕ → Bool
is_shown b = (nat_le 32 b && nat_le b 126) || b == 9

-- the printed byte: `?` for every byte that is not shown
abbrev pub shown_byte : ℕ → ℕ
shown_byte b = if is_shown b then b else 63

-- the first 200 bytes, as they are printed
abbrev pub shown_bytes : List ℕ → List ℕ
shown_bytes bytes = map shown_byte (take 200 bytes)

-- the word without a plus or minus at its start
abbrev pub unsigned : List ℕ → List ℕ
unsigned [] = []
unsigned (b ∷ body) = if b == 43 || b == 45 then body else b ∷ body

-- a point, followed by one or more digits and nothing else
abbrev pub is_point_and_digits : List ℕ → Bool
is_point_and_digits [] = false
is_point_and_digits (b ∷ digits) = b == 46 && nat_lt 0 (length digits) && prefix_len is_ascii_digit digits == length digits

-- the word is an optional sign, digits or none, a point, and digits; if such a word is not a valid number, its
-- fraction is the reason
abbrev pub is_fraction : List ℕ → Bool
is_fraction word = let body = unsigned word in is_point_and_digits (drop (prefix_len is_ascii_digit body) body)

-- the word is not the number of a customer: it has a byte that is not a digit, or is above 4,294,967,295
abbrev pub is_bad_customer : List ℕ → Bool
is_bad_customer word = is_none (customer_of word)
