-- The details of a solution's fault, printed after its kind.
use Rattle.std.specs.Prelude.{ℕ, ◌==◌, ◌&&◌, ◌||◌, not, Bool, false, if◌then◌else◌, List, [], ◌∷◌, find, length, unwrap_or, codes, Option, Some, None, decimal}
use Rattle.std.specs.Char.{is_ascii_digit}
use Rattle.std.specs.List.{list_any}
use Rattle.std.specs.Str.{str_eq_ignore_ascii_case}
use Rattle.text_lines.specs.Lines.{lines_of}
use Rattle.text_lines.specs.Words.{is_blank, words_of}
use Rattle.instance_read.specs.VrpLines.{key_text, value_text}
use Rattle.sol_text.specs.LineShapes.{cost_tail}
use Rattle.sol_text.specs.declared.faults.SolFaultKind.{SolFaultKind}
use Rattle.sol_text.specs.declared.faults.SolFaultKind.TheVariants.{BadLine, BadNumber, NoCost, OutOfMemory}
use Rattle.plan_explain.specs.Quotes.{is_fraction, is_bad_customer, shown_bytes}
use Rattle.plan_audit.specs.Rules.{item_at}
use Rattle.plan_explain.specs.Templates.{form, text_if}

-- the line begins with a space or a tab
abbrev pub begins_with_blank : List ℕ → Bool
begins_with_blank [] = false
begins_with_blank (b ∷ bs) = is_blank b

-- the word is `Route`, `Cost` or `Cost:` in any letter case, with which a route line or a cost line begins
abbrev pub is_line_keyword : List ℕ → Bool
is_line_keyword word =
    str_eq_ignore_ascii_case word (codes "route") || (str_eq_ignore_ascii_case word (codes "cost") || str_eq_ignore_ascii_case word (codes "cost:"))

-- the first of these words, or an empty word if there is none
abbrev pub first_word : List (List ℕ) → List ℕ
first_word [] = []
first_word (word ∷ more) = word

-- the line begins with a blank, and its first word is one with which a route line or a cost line begins
abbrev pub is_indented : List ℕ → Bool
is_indented line = begins_with_blank line && is_line_keyword (first_word (words_of line))

-- the byte is a digit or #, which the number of a route has, and a key of words does not
abbrev pub is_not_key_byte : ℕ → Bool
is_not_key_byte b = is_ascii_digit b || b == 35

-- the line has a colon, and neither a digit nor # before it, so it seems to be a key with a value
abbrev pub is_key_line : List ℕ → Bool
is_key_line line = list_any (λ b. b == 58) line && not (list_any is_not_key_byte (key_text line))

-- advice on a line that is indented or has another key; nothing for any other line
abbrev pub other_line_text : List ℕ → List ℕ
other_line_text line =
    if is_indented line then codes ": Route and Cost have to begin their lines, as they do behind: sed 's/^[[:blank:]]*//'"
    else text_if (codes ": a solution has no other keys, as it has none behind: grep -iE '^(route|cost)'") (is_key_line line)

-- the number of words after `Cost`, if the line begins with it; otherwise advice on the line
abbrev pub bad_line_text : List ℕ → Option (List ℕ) → List ℕ
bad_line_text line None = other_line_text line
bad_line_text line (Some tail) = form (codes ": 1 due behind Cost, @ found") (decimal (length (words_of tail)) ∷ [])

-- the cost has a point or an exponent
abbrev pub is_unrounded : List ℕ → Bool
is_unrounded word = list_any (λ b. (b == 46) || (b == 101) || (b == 69)) word

-- the wrong cost and its limits, with notes if it has a fraction or is not rounded
unfoldable pub cost_text : List ℕ → Bool → Bool → List ℕ
cost_text word has_fraction is_unrounded = form (codes ": the cost is @@, allowed are whole numbers in 0..18446744073709551615@") (shown_bytes word
    ∷ text_if (codes ", which has a fraction") has_fraction
    ∷ text_if (codes ". Each way is rounded to a whole number here; behind the word routes no cost is asked") is_unrounded ∷ [])

-- the word that is not the number of a customer, and the limits of such a number; nothing if there is no such
-- word
abbrev pub bad_customer_text : Option (List ℕ) → List ℕ
bad_customer_text None = []
bad_customer_text (Some word) = form (codes ": a customer is @, allowed are digits alone, at most 4294967295") (shown_bytes word ∷ [])

-- the wrong number of a line: the cost of a cost line, or else the first wrong customer of a route line
abbrev pub wrong_number_text : List ℕ → Option (List ℕ) → List ℕ
wrong_number_text line (Some tail) = let word = first_word (words_of tail) in cost_text word (is_fraction word) (is_unrounded word)
wrong_number_text line None = bad_customer_text (find is_bad_customer (words_of (value_text line)))

-- the line with number n, counted from 1, or an empty line if the file has no such line
abbrev pub faulty_line : List ℕ → ℕ → List ℕ
faulty_line text n = unwrap_or (item_at (lines_of text) n) []

-- the details of a fault of this kind on line n
abbrev pub sol_detail : List ℕ → ℕ → SolFaultKind → List ℕ
sol_detail text n BadLine = let line = faulty_line text n in bad_line_text line (cost_tail line)
sol_detail text n BadNumber = let line = faulty_line text n in wrong_number_text line (cost_tail line)
sol_detail text n NoCost = codes "; behind the word routes no cost is asked"
sol_detail text n OutOfMemory = []
