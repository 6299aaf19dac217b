-- The first position of a stop. Routes and places count from 1.
use Rattle.std.specs.Prelude.{ℕ, ◌+◌, List, [], ◌∷◌, Option, None}
use Rattle.std.specs.Option.{option_map, option_or}
use Rattle.plan_audit.specs.FirstFault.{place_of}
use Rattle.rule_violations.specs.declared.positions.PrintedPosition.{PrintedPosition}

-- the first position of stop n in the routes, with routes counted from k
abbrev pub position_from : ℕ → ℕ → List (List ℕ) → Option PrintedPosition
position_from n k [] = None
position_from n k (route ∷ routes) = option_or (option_map (λ i. record { route = k; place = i }) (place_of n 1 route)) (position_from n (k + 1) routes)

abbrev pub first_position : List (List ℕ) → ℕ → Option PrintedPosition
first_position routes n = position_from n 1 routes
