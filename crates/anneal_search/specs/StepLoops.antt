-- The loops of a step, and what annealing preserves of its plans from step to step
use Rattle.std.specs.Prelude.{◌≡◌, ℕ, ◌+◌, ◌-◌, ◌==◌, nat_lt, ◌<◌, ◌≤◌, Bool, true, List, [], ◌∷◌, All, Option, Some, None, IfSome, IsTrue, length, slice_get, if◌then◌else◌}
use Rattle.std.specs.Option.{option_or}
use Rattle.plan_types.specs.Cost.{cost_at_most}
use Rattle.plan_types.specs.Instance.{Instance}
use Rattle.plan_types.specs.declared.requests.Stop.{Stop}
use Rattle.route_sched.specs.Cost.{cost_of, has_stop}
use Rattle.move_ops.specs.Drafts.{base_of, draft_of}
use Rattle.move_ops.specs.Insertion.{route_of}
use Rattle.move_ops.specs.Moves.{removed}
use Rattle.seeded_search.specs.SearchStates.{KeepsSearchState, IsSearchState}
use Rattle.seeded_search.specs.declared.search_state.SearchState.{SearchState}
use Rattle.anneal_search.specs.NearestRoutes.{is_nearer, near}
use Rattle.anneal_search.specs.Strings.{ruined_names}
use Rattle.anneal_search.specs.declared.routes.NearStop.{NearStop}
use Rattle.anneal_search.specs.declared.strings.Cut.{Cut}
use Rattle.anneal_search.specs.declared.search.Annealing.{Annealing}

-- The last stop of the list, if the list is full
abbrev pub limit_of : ℕ → List NearStop → Option NearStop
limit_of count nears = if nat_lt (length nears) count then None else slice_get nears (length nears - 1)

-- The stop if it is nearer than the limit
abbrev pub within : Option NearStop → NearStop → Option NearStop
within None a = Some a
within (Some limit) a = if is_nearer a limit then Some a else None

-- The stop that was found, if it is nearer than the limit
abbrev pub found_within : Option NearStop → Option NearStop → Option NearStop
found_within limit None = None
found_within limit (Some a) = within limit a

-- The greatest distance that a stop nearer than the limit can have
abbrev pub reach_of : Option NearStop → Option ℕ
reach_of None = None
reach_of (Some a) = Some a.distance

-- The distance is greater than the reach, if there is one
abbrev pub IsBeyond : Option ℕ → ℕ → Type 0
IsBeyond None d = ⊥
IsBeyond (Some reach) d = reach < d

-- The nearest stop among the stop found so far and those of the stops from a place on that are nearer than the
-- limit
abbrev pub found_from : Instance → Stop → ℕ → Option NearStop → Option NearStop → ℕ → List ℕ → Option NearStop
found_from p center vehicle limit found place [] = found
found_from p center vehicle limit found place (n ∷ ns) =
    found_from p center vehicle limit (option_or (within (option_or found limit) (near p center vehicle place n)) found) (place + 1) ns

-- The stop is in the route of its vehicle
abbrev pub IsInRoute : List (List ℕ) → NearStop → Type 0
IsInRoute routes near = near.place < length (route_of routes near.vehicle)

-- Each of these stops is in the plan
abbrev pub ArePlanned : List (List ℕ) → List ℕ → Type 0
ArePlanned routes stops = All (λ n. has_stop routes n ≡ true) stops

-- The string lies in a route of n stops, and a stop that stays lies in the string
pub record IsCutOf (n : ℕ) (cut : Cut) : Type 0 where
  pub ordered : cut.first ≤ cut.end
  pub within : cut.end ≤ n
  pub kept : IfSome cut.kept (λ kept. (cut.first ≤ kept) × (kept < cut.end))

-- The plan without the requests that the words remove, if there are any
abbrev pub ruined : Instance → List (List ℕ) → List (List ℕ) → List ℕ → Option (List (List ℕ))
ruined p pins routes words = let names = ruined_names p pins routes words in if length names == 0 then None else removed p pins routes names

-- The candidate became the incumbent if it costs no more, and `improved` says whether it did
pub record HasImproved (p : Instance) (pins : List (List ℕ)) (old new : SearchState) (improved : Bool) : Type 0 where
  pub keeps : KeepsSearchState p pins new
  pub draft : new.draft ≡ old.draft
  pub incumbent : new.incumbent.routes ≡ (if cost_at_most (cost_of p (draft_of old.draft)) (cost_of p old.incumbent.routes) then draft_of old.draft else old.incumbent.routes)
  pub at : IsTrue improved → new.incumbent.routes ≡ draft_of old.draft

-- The invariant while there is a candidate
pub record KeepsAnnealing (p : Instance) (pins : List (List ℕ)) (a : Annealing) : Type 0 where
  pub search_state : KeepsSearchState p pins a.search_state
  pub work : a.work ≡ cost_of p (base_of a.search_state.draft)

-- The invariant between two steps
pub record IsAnnealing (p : Instance) (pins : List (List ℕ)) (a : Annealing) : Type 0 where
  pub search_state : IsSearchState p pins a.search_state
  pub work : a.work ≡ cost_of p (base_of a.search_state.draft)
