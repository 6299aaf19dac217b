-- Reading as a function of the lines: the routes and the cost, or the first fault of the routes.
use Rattle.std.specs.Prelude.{◌≡◌, ◌⊎◌, ℕ, ◌+◌, Bool, false, List, [], ◌∷◌, ◌++◌, Option, Some, None, Result, Ok, Err, if◌then◌else◌}
use Rattle.std.specs.Option.{option_and_then, option_map}
use Rattle.text_lines.specs.Words.{is_blank_line, words_of}
use Rattle.sol_text.specs.LineShapes.{route_tail, cost_word}
use Rattle.sol_text.specs.Values.{customer_of, cost_of}
use Rattle.sol_text.specs.Faults.{out_of_memory}
use Rattle.sol_text.specs.declared.faults.SolFault.{SolFault}
use Rattle.sol_text.specs.declared.faults.SolFaultKind.TheVariants.{BadLine, BadNumber, NoCost}
use Rattle.sol_text.specs.declared.lines.Line.{Line}
use Rattle.sol_text.specs.declared.lines.Line.TheVariants.{Skipped, Route, Cost}
use Rattle.sol_text.specs.declared.read.PrintedRoutes.{PrintedRoutes}
use Rattle.plan_types.specs.declared.solutions.Solution.{Solution}

-- a function returned the wanted value, unless memory ran out
abbrev pub Returns : {X : Type 0} → Result X SolFault → Result X SolFault → Type 0
Returns (Ok x) wanted = wanted ≡ Ok x
Returns (Err f) wanted = (f ≡ out_of_memory) ⊎ (wanted ≡ Err f)

-- the customers that the words name, if each word is a customer
abbrev pub customers_of : List (List ℕ) → Option (List ℕ)
customers_of [] = Some []
customers_of (w ∷ ws) = option_and_then (λ n. option_map (λ ns. n ∷ ns) (customers_of ws)) (customer_of w)

abbrev pub or_bad_number : {X Y : Type 0} → (X → Y) → ℕ → Option X → Result Y SolFault
or_bad_number f number None = Err (record { line = number; kind = BadNumber })
or_bad_number f number (Some x) = Ok (f x)

-- a line that is neither blank nor a route line; in a head, every such line except a cost line is skipped
abbrev pub cost_line : Bool → ℕ → Option (List ℕ) → Result Line SolFault
cost_line in_head number None = if in_head then Ok Skipped else Err (record { line = number; kind = BadLine })
cost_line in_head number (Some word) = Ok (Cost (or_bad_number (λ cost. cost) number (cost_of word)))

abbrev pub nonblank_line : Bool → ℕ → Option (List ℕ) → Option (List ℕ) → Result Line SolFault
nonblank_line in_head number None word = cost_line in_head number word
nonblank_line in_head number (Some tail) word = or_bad_number Route number (customers_of (words_of tail))

-- the meaning of the line with this number
unfoldable pub line_of : Bool → ℕ → List ℕ → Result Line SolFault
line_of in_head number line = if is_blank_line line then Ok Skipped else nonblank_line in_head number (route_tail line) (cost_word line)

-- a text with these routes before its own
abbrev pub with_routes : List (List ℕ) → Result PrintedRoutes SolFault → Result PrintedRoutes SolFault
with_routes rs (Ok p) = Ok (record p { routes = rs ++ p.routes })
with_routes rs (Err f) = Err f

-- the result of a line followed by other lines, whose result depends on whether they are in the head
abbrev pub prepend_line : Result Line SolFault → Bool → (Bool → Result PrintedRoutes SolFault) → Result PrintedRoutes SolFault
prepend_line (Err f) in_head rest = Err f
prepend_line (Ok Skipped) in_head rest = rest in_head
prepend_line (Ok (Route r)) in_head rest = with_routes (r ∷ []) (rest false)
prepend_line (Ok (Cost c)) in_head rest = Ok (record { routes = []; cost = c })

-- the result of reading these lines; `number` is the number of the line before them
unfoldable pub reading : Bool → ℕ → List (List ℕ) → Result PrintedRoutes SolFault
reading in_head number [] = Ok (record { routes = []; cost = Err (record { line = number + 1; kind = NoCost }) })
reading in_head number (line ∷ lines) = prepend_line (line_of in_head (number + 1) line) in_head (λ still. reading still (number + 1) lines)

abbrev pub with_cost : List (List ℕ) → Result ℕ SolFault → Result Solution SolFault
with_cost routes (Ok cost) = Ok (record { routes = routes; cost = cost })
with_cost routes (Err f) = Err f

-- the solution, or the first fault of the routes or of the cost
abbrev pub solution_of : Result PrintedRoutes SolFault → Result Solution SolFault
solution_of (Ok p) = with_cost p.routes p.cost
solution_of (Err f) = Err f

-- the routes, whatever the cost line has
abbrev pub routes_of : Result PrintedRoutes SolFault → Result (List (List ℕ)) SolFault
routes_of (Ok p) = Ok p.routes
routes_of (Err f) = Err f
