-- The requests that a step removes: those with a stop in a string, which is a run of neighbouring stops of a
-- route. The strings lie around one stop, the seed (Christiaens and Vanden Berghe 2020).
use Rattle.std.specs.Prelude.{ℕ, ◌+◌, ◌-◌, ◌/◌, ◌^◌, min, nat_lt, nat_le, ◌==◌, ◌&&◌, Bool, false, List, [], ◌∷◌, ◌++◌, length, Option, Some, None, unwrap_or, slice_index, if◌then◌else◌}
use Rattle.std.specs.List.{concat, slice_range}
use Rattle.std.specs.Option.{option_map_or, option_and_then, option_to_list}
use Rattle.plan_types.specs.Instance.{Instance, stop_at, name_at, partner_at}
use Rattle.plan_types.specs.declared.requests.Stop.{Stop}
use Rattle.route_sched.specs.Cost.{used_count}
use Rattle.move_ops.specs.Insertion.{route_of}
use Rattle.move_ops.specs.Moves.{is_movable_name}
use Rattle.seeded_search.specs.Steps.{picked, movable_names}
use Rattle.anneal_search.specs.Draws.{pick, rest}
use Rattle.anneal_search.specs.NearestRoutes.{nearest_routes}
use Rattle.anneal_search.specs.declared.routes.NearStop.{NearStop}
use Rattle.anneal_search.specs.declared.strings.Cut.{Cut}

-- The greatest number of stops that a string removes: 10, or the mean length of the used routes, rounded down,
-- if that is smaller. One more stop may stay inside.
abbrev pub longest : List (List ℕ) → ℕ
longest routes = min 10 (length (concat routes) / used_count routes)

-- The number of routes to cut: 1 to 12, the fewer the longer the strings are
abbrev pub route_count : ℕ → ℕ → ℕ
route_count most w = min 12 (1 + pick w (39 - most) / (1 + most))

-- The position of a string that removes this many stops in a route of n stops and contains place q, drawn from
-- all places at which it can begin
abbrev pub placed_cut : ℕ → ℕ → ℕ → ℕ → Bool → Cut
placed_cut w n q taken keeps =
    let count = if keeps then taken + 1 else taken in
    let low = q + 1 - count in
    let places = min q (n - count) - low + 1 in
    let first = low + pick w places in
    record { first = first; end = first + count; kept = if keeps then Some (first + 1 + pick (rest w places) (taken - 1)) else None }

-- The position of the string that a word draws around place q. A string that removes two stops or more, and not
-- the whole route, may keep a stop inside.
abbrev pub cut_of : ℕ → ℕ → ℕ → ℕ → Cut
cut_of most w n q =
    let lengths = min n most in
    let taken = 1 + pick w lengths in
    let w = rest w lengths in
    if nat_le 2 taken && nat_lt taken n then placed_cut (rest w 2) n q taken (pick w 2 == 1) else placed_cut w n q taken false

-- The stops of a string, except the one that stays
abbrev pub cut_stops : List ℕ → Cut → List ℕ
cut_stops route cut = option_map_or (λ kept. slice_range route cut.first kept ++ slice_range route (kept + 1) cut.end) cut.kept (slice_range route cut.first cut.end)

-- The stops of the strings in these routes. Word 4 + t draws the string of the t-th route.
abbrev pub strings_of : List (List ℕ) → List ℕ → ℕ → ℕ → List NearStop → List ℕ
strings_of routes words most t [] = []
strings_of routes words most t (near ∷ nears) =
    let route = route_of routes near.vehicle in
    cut_stops route (cut_of most (slice_index words (4 + t)) (length route) near.place) ++ strings_of routes words most (t + 1) nears

module _ (p : Instance) where
  -- The stop of the drawn request: the single stop, or the pickup or the delivery as the rest of the word says
  abbrev pub drawn_stop : ℕ → ℕ → Option Stop
  drawn_stop name left = stop_at p (if nat_lt left (2 ^ 31) then name else unwrap_or (partner_at p name) name)

  -- The seed: a stop of one of these requests, if there are any
  abbrev pub seed : List ℕ → ℕ → Option Stop
  seed names w = option_and_then (λ name. drawn_stop name (rest w (length names))) (picked w names)

module _ (p : Instance) (pins : List (List ℕ)) where
  -- The movable request of a stop
  abbrev pub movable_at : List (List ℕ) → ℕ → Option ℕ
  movable_at routes n = option_and_then (λ name. if is_movable_name p pins routes name then Some name else None) (name_at p n)

  -- The movable requests of several stops, once for each stop
  abbrev pub movable_of : List (List ℕ) → List ℕ → List ℕ
  movable_of routes [] = []
  movable_of routes (n ∷ ns) = option_to_list (movable_at routes n) ++ movable_of routes ns

  -- The movable requests of the stops in the strings around a stop
  abbrev pub ruined_around : List (List ℕ) → List ℕ → Stop → List ℕ
  ruined_around routes words center =
      let most = longest routes in
      movable_of routes (strings_of routes words most 0 (nearest_routes p center routes (route_count most (slice_index words 1))))

  -- The names of the requests that the words of a step remove
  abbrev pub ruined_names : List (List ℕ) → List ℕ → List ℕ
  ruined_names routes words = option_map_or (ruined_around routes words) (seed p (movable_names p pins routes) (slice_index words 0)) []
