-- One step of a search, and many: a random move, and record-to-record travel (Dueck 1993), which may continue
-- from a plan that is a little worse than the incumbent. A step depends only on the plans, the deviation, the
-- seed and its number.
use Rattle.std.specs.Prelude.{
  ℕ,
  zero,
  suc,
  ◌+◌,
  ◌-◌,
  nat_lt,
  nat_le,
  ◌==◌,
  ◌&&◌,
  ◌||◌,
  not,
  Bool,
  List,
  [],
  ◌∷◌,
  ◌++◌,
  length,
  take,
  drop,
  map,
  filter,
  fold,
  slice_get,
  slice_index,
  remove,
  Option,
  Some,
  None,
  if◌then◌else◌,
}
use Rattle.std.specs.List.{range_with_len}
use Rattle.std.specs.Option.{option_map, option_and_then}
use Rattle.plan_types.specs.Cost.{cost_at_most}
use Rattle.plan_types.specs.Instance.{Instance}
use Rattle.plan_types.specs.declared.plans.Cost.{Cost}
use Rattle.route_sched.specs.Cost.{is_planned, cost_of}
use Rattle.move_ops.specs.Drafts.{placed}
use Rattle.move_ops.specs.Insertion.{route_of}
use Rattle.move_ops.specs.Moves.{is_movable, removed, exchanged, crossed}
use Rattle.seeded_search.specs.Words.{pick, step_words}

-- the item that a word picks from a list, or `None` if the list is empty
abbrev pub picked : ℕ → List ℕ → Option ℕ
picked w xs = slice_get xs (pick w (length xs))

-- the items that several words draw from a list, one after another without repetition; fewer if the list is too
-- short
abbrev pub drawn : List ℕ → List ℕ → List ℕ
drawn [] left = []
drawn (w ∷ ws) [] = []
drawn (w ∷ ws) (x ∷ xs) = slice_index (x ∷ xs) (pick w (length (x ∷ xs))) ∷ drawn ws (remove (x ∷ xs) (pick w (length (x ∷ xs))))

-- the names of the unplanned requests, in ascending order
abbrev pub unplanned_names : Instance → List (List ℕ) → List ℕ
unplanned_names p routes = map (λ e. e.0) (filter (λ e. not (is_planned routes e.1)) p.requests)

-- the used vehicles, in ascending order
abbrev pub used_vehicles : List (List ℕ) → List ℕ
used_vehicles routes = filter (λ v. not (length (route_of routes v) == 0)) (range_with_len 1 (length routes))

-- a cut of a vehicle's route after its pin
abbrev pub cut_by : List (List ℕ) → List (List ℕ) → ℕ → ℕ → ℕ
cut_by pins routes v w = length (route_of pins v) + pick w (length (route_of routes v) - length (route_of pins v) + 1)

module _ (p : Instance) (pins : List (List ℕ)) where
  -- the names of the planned requests without a pinned stop, in ascending order
  abbrev pub movable_names : List (List ℕ) → List ℕ
  movable_names routes = map (λ e. e.0) (filter (λ e. is_movable pins routes e.1) p.requests)

  -- the plan with several requests inserted one after another, each at its best insertion, or left out if it has
  -- none
  abbrev pub placed_all : List (List ℕ) → List ℕ → List (List ℕ)
  placed_all routes names = fold (placed p pins) routes names

  -- relocate: one request is removed and inserted at its best insertion
  abbrev pub relocated : List (List ℕ) → ℕ → Option (List (List ℕ))
  relocated routes w = option_and_then (λ name. option_map (λ left. placed p pins left name) (removed p pins routes (name ∷ []))) (picked w (movable_names routes))

  -- exchange: two requests take one another's places
  abbrev pub exchanged_by : List (List ℕ) → ℕ → ℕ → Option (List (List ℕ))
  exchanged_by routes w v = option_and_then (λ a. option_and_then (λ b. exchanged p pins routes a b) (picked v (movable_names routes))) (picked w (movable_names routes))

  -- 2-opt*: two routes exchange the stops after their cuts
  abbrev pub crossed_by : List (List ℕ) → List ℕ → Option (List (List ℕ))
  crossed_by routes words =
      option_and_then (λ a. option_and_then
      (λ b. crossed p pins routes a (cut_by pins routes a (slice_index words 3)) b (cut_by pins routes b (slice_index words 4)))
      (picked (slice_index words 2) (used_vehicles routes)))
      (picked (slice_index words 1) (used_vehicles routes))

  -- the requests to remove: one to eight, as word 1 picks, drawn by the words after it
  abbrev pub ruined_names : List (List ℕ) → List ℕ → List ℕ
  ruined_names routes words = drawn (take (1 + pick (slice_index words 1) 8) (drop 2 words)) (movable_names routes)

  -- ruin and recreate: the requests of `ruined_names` are removed, all at once; then each of them, in the order
  -- drawn, and each that was unplanned before, in ascending order of name, is put at its best insertion or
  -- stays unplanned
  abbrev pub recreated_by : List (List ℕ) → List ℕ → Option (List (List ℕ))
  recreated_by routes words =
      let names = ruined_names routes words in
      if length names == 0 then None else option_map (λ left. placed_all left (names ++ unplanned_names p routes)) (removed p pins routes names)

  -- the candidate that the words make from a plan, if there is one
  unfoldable pub candidate : List (List ℕ) → List ℕ → Option (List (List ℕ))
  candidate routes words =
      let operator = pick (slice_index words 0) 4 in
      if operator == 0 then relocated routes (slice_index words 1)
      else if operator == 1 then exchanged_by routes (slice_index words 1) (slice_index words 2)
      else if operator == 2 then crossed_by routes words
      else recreated_by routes words

-- the best plan so far, and the plan from which the search continues
pub record SearchPlans : Type 0 where
  pub incumbent : List (List ℕ)
  pub working : List (List ℕ)

abbrev pub search_plans : List (List ℕ) → List (List ℕ) → SearchPlans
search_plans incumbent working = record { incumbent = incumbent; working = working }

-- a has fewer unplanned requests than b; or equally many, and fewer vehicles
abbrev pub has_lower_counts : Cost → Cost → Bool
has_lower_counts a b = nat_lt a.unplanned b.unplanned || ((a.unplanned == b.unplanned) && nat_lt a.vehicles b.vehicles)

-- a and b have equally many unplanned requests and equally many vehicles
abbrev pub has_equal_counts : Cost → Cost → Bool
has_equal_counts a b = (a.unplanned == b.unplanned) && (a.vehicles == b.vehicles)

-- a plan of cost a may become the working plan when the incumbent costs b: it has fewer unplanned requests; or
-- equally many, and fewer vehicles; or equally many of both, and its distance is greater by at most the
-- deviation
abbrev pub is_near : ℕ → Cost → Cost → Bool
is_near deviation a b = has_lower_counts a b || (has_equal_counts a b && nat_le a.distance (b.distance + deviation))

-- both plans after a candidate: it becomes the working plan if it is near the incumbent, and the incumbent too
-- if it costs no more
abbrev pub after_candidate : Instance → ℕ → SearchPlans → List (List ℕ) → SearchPlans
after_candidate p deviation s c = record {
  incumbent = if cost_at_most (cost_of p c) (cost_of p s.incumbent) then c else s.incumbent;
  working = if is_near deviation (cost_of p c) (cost_of p s.incumbent) then c else s.working;
}

-- both plans after a candidate, if there is one; without a candidate nothing changes
abbrev pub after_candidate_if_any : Instance → ℕ → SearchPlans → Option (List (List ℕ)) → SearchPlans
after_candidate_if_any p deviation s None = s
after_candidate_if_any p deviation s (Some c) = after_candidate p deviation s c

-- both plans after step n
unfoldable pub step : Instance → List (List ℕ) → ℕ → ℕ → ℕ → SearchPlans → SearchPlans
step p pins deviation seed n s = after_candidate_if_any p deviation s (candidate p pins s.working (step_words seed n))

-- both plans after `count` steps of some kind, one after another, from number n on
abbrev pub many : (ℕ → SearchPlans → SearchPlans) → ℕ → ℕ → SearchPlans → SearchPlans
many one n zero s = s
many one n (suc count) s = many one (n + 1) count (one n s)

-- both plans after `count` steps, from number n on
unfoldable pub steps : Instance → List (List ℕ) → ℕ → ℕ → ℕ → ℕ → SearchPlans → SearchPlans
steps p pins deviation seed n count s = many (step p pins deviation seed) n count s
