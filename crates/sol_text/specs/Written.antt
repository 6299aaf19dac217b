-- The text of a solution.
use Rattle.std.specs.Prelude.{ℕ, ◌+◌, List, [], ◌∷◌, ◌++◌, codes}
use Rattle.std.specs.Fmt.{decimal}
use Rattle.std.specs.List.{flat_map}

-- each customer with a space before it
abbrev pub customers_text : List ℕ → List ℕ
customers_text route = flat_map (λ n. 32 ∷ decimal n) route

-- the line of a route, for example `Route #1: 21 31 19`
unfoldable pub route_text : ℕ → List ℕ → List ℕ
route_text number route = codes "Route #" ++ (decimal number ++ (58 ∷ customers_text route))

-- the lines of the routes, numbered from this number on
abbrev pub routes_text : ℕ → List (List ℕ) → List ℕ
routes_text number [] = []
routes_text number (route ∷ routes) = route_text number route ++ (10 ∷ routes_text (number + 1) routes)

-- the cost line, for example `Cost 784`
unfoldable pub cost_text : ℕ → List ℕ
cost_text cost = codes "Cost " ++ decimal cost

abbrev pub solution_text : List (List ℕ) → ℕ → List ℕ
solution_text routes cost = routes_text 1 routes ++ (cost_text cost ++ 10 ∷ [])
