-- The lines of a solution text, in the format of CVRPLIB's `.sol` files.
use Rattle.std.specs.Prelude.{ℕ, ◌==◌, ◌||◌, Bool, nat_lt, is_some, List, [], ◌∷◌, drop, Option, Some, None, if◌then◌else◌, codes}
use Rattle.std.specs.Char.{is_ascii_digit, to_ascii_lowercase}
use Rattle.std.specs.List.{prefix_len}
use Rattle.std.specs.Option.{option_and_then, option_map}
use Rattle.text_lines.specs.Words.{is_blank, words_of}

-- the part after a key in any letter case; the key is given in lower case
abbrev pub after_key : List ℕ → List ℕ → Option (List ℕ)
after_key [] text = Some text
after_key (c ∷ key) [] = None
after_key (c ∷ key) (b ∷ text) = if to_ascii_lowercase b == c then after_key key text else None

-- the part after the leading blanks
abbrev pub after_blanks : List ℕ → List ℕ
after_blanks text = drop (prefix_len is_blank text) text

-- the part after an optional `#` or `:`
abbrev pub after_optional_mark : ℕ → List ℕ → List ℕ
after_optional_mark mark [] = []
after_optional_mark mark (b ∷ text) = if b == mark then text else b ∷ text

-- the part after one or more digits
abbrev pub after_digits : List ℕ → Option (List ℕ)
after_digits text = let n = prefix_len is_ascii_digit text in if nat_lt 0 n then Some (drop n text) else None

-- the part after a colon
abbrev pub after_colon : List ℕ → Option (List ℕ)
after_colon [] = None
after_colon (b ∷ text) = if b == 58 then Some text else None

-- a route line is `Route`, blanks, an optional `#`, blanks, digits, blanks, a colon, and the customers, which
-- follow the colon; any of the blanks may be missing
unfoldable pub route_tail : List ℕ → Option (List ℕ)
route_tail line =
    option_and_then (λ more. after_colon (after_blanks more))
    (option_and_then (λ more. after_digits (after_blanks (after_optional_mark 35 (after_blanks more)))) (after_key (codes "route") line))

-- the part after a separator: a colon, blanks or both
abbrev pub after_separator : List ℕ → Option (List ℕ)
after_separator [] = None
after_separator (b ∷ text) = if is_blank b || b == 58 then Some (after_optional_mark 58 (after_blanks (b ∷ text))) else None

-- a cost line is `Cost`, a separator (a colon, blanks or both), and the cost
unfoldable pub cost_tail : List ℕ → Option (List ℕ)
cost_tail line = option_and_then after_separator (after_key (codes "cost") line)

-- the only word of a list
abbrev pub only_word : List (List ℕ) → Option (List ℕ)
only_word [] = None
only_word (w ∷ []) = Some w
only_word (w ∷ v ∷ ws) = None

-- the words of a route line after the colon
abbrev pub customer_words : List ℕ → Option (List (List ℕ))
customer_words line = option_map words_of (route_tail line)

-- the word of a cost line that has exactly one
abbrev pub cost_word : List ℕ → Option (List ℕ)
cost_word line = option_and_then (λ tail. only_word (words_of tail)) (cost_tail line)

abbrev pub is_route_line : List ℕ → Bool
is_route_line line = is_some (route_tail line)

abbrev pub is_cost_line : List ℕ → Bool
is_cost_line line = is_some (cost_word line)
