-- The numbers of a solution text, and the solution that a text spells.
use Rattle.std.specs.Prelude.{◌^◌, ℕ, List, map, find, Option, unwrap_or}
use Rattle.std.specs.List.{before_first, filter_map}
use Rattle.std.specs.Option.{option_and_then, option_map}
use Rattle.text_lines.specs.Numbers.{below, digits_of, magnitude, number_of}
use Rattle.sol_text.specs.LineShapes.{customer_words, cost_word, is_cost_line}
use Rattle.plan_types.specs.declared.solutions.Solution.{Solution}

-- the customer that a word of digits names, if it is at most 2^32 - 1
unfoldable pub customer_of : List ℕ → Option ℕ
customer_of word = below (2 ^ 32) (digits_of word)

-- the cost that a word spells, if the word is a number in 0..2^64 - 1
unfoldable pub cost_of : List ℕ → Option ℕ
cost_of word = below (2 ^ 64) (option_and_then magnitude (number_of word))

-- the customers of a route line
abbrev pub route_in_line : List ℕ → Option (List ℕ)
route_in_line line = option_map (map (λ word. unwrap_or (customer_of word) 0)) (customer_words line)

-- the cost of the first cost line
abbrev pub first_cost : List (List ℕ) → ℕ
first_cost lines = unwrap_or (option_and_then cost_of (option_and_then cost_word (find is_cost_line lines))) 0

-- the routes of the lines before the first cost line, or of all lines if there is none, in order
abbrev pub routes_in_lines : List (List ℕ) → List (List ℕ)
routes_in_lines lines = filter_map route_in_line (before_first is_cost_line lines)

-- the solution that a text without faults spells
abbrev pub solution_in_lines : List (List ℕ) → Solution
solution_in_lines lines = record { routes = routes_in_lines lines; cost = first_cost lines }
