-- One annealing step, and many. Strings of neighbouring stops are removed and their requests inserted again
-- (Christiaens and Vanden Berghe 2020), with threshold accepting relative to the working plan (Dueck and Scheuer
-- 1990). A step depends only on the problem, the pins, the plans, the deviation, the seed and its number.
use Rattle.std.specs.Prelude.{ℕ, ◌==◌, List, length, Option, Some, None, slice_index, if◌then◌else◌}
use Rattle.std.specs.Option.{option_map}
use Rattle.plan_types.specs.Cost.{cost_at_most}
use Rattle.plan_types.specs.Instance.{Instance}
use Rattle.route_sched.specs.Cost.{cost_of}
use Rattle.move_ops.specs.Moves.{removed}
use Rattle.seeded_search.specs.Words.{step_words}
use Rattle.seeded_search.specs.Steps.{unplanned_names, placed_all, is_near, many}
pub use Rattle.seeded_search.specs.Steps.{SearchPlans, search_plans}
use Rattle.anneal_search.specs.Orders.{ordered}
use Rattle.anneal_search.specs.Strings.{ruined_names}

module _ (p : Instance) (pins : List (List ℕ)) where
  -- The plan after inserting each unplanned request at its best place, in the order that the word picks
  abbrev pub recreated : ℕ → List (List ℕ) → List (List ℕ)
  recreated w left = placed_all p pins left (ordered p w (unplanned_names p left))

  -- The candidate that the words make of a plan, if there is one: the requests of the strings are removed all at
  -- once, and then all unplanned requests are inserted
  unfoldable pub candidate : List (List ℕ) → List ℕ → Option (List (List ℕ))
  candidate routes words =
      let names = ruined_names p pins routes words in
      if length names == 0 then None else option_map (recreated (slice_index words 2)) (removed p pins routes names)

-- The plans after a candidate is accepted: it becomes the working plan and, if it costs no more than the
-- incumbent, the incumbent, too
abbrev pub accepted : Instance → SearchPlans → List (List ℕ) → SearchPlans
accepted p s c = search_plans (if cost_at_most (cost_of p c) (cost_of p s.incumbent) then c else s.incumbent) c

-- The plans after a candidate: it is accepted if it is near the working plan
abbrev pub annealed : Instance → ℕ → SearchPlans → List (List ℕ) → SearchPlans
annealed p deviation s c = if is_near deviation (cost_of p c) (cost_of p s.working) then accepted p s c else s

-- The plans after a candidate, if there is one; without a candidate nothing changes
abbrev pub annealed_by : Instance → ℕ → SearchPlans → Option (List (List ℕ)) → SearchPlans
annealed_by p deviation s None = s
annealed_by p deviation s (Some c) = annealed p deviation s c

-- The plans after step n
unfoldable pub anneal_step : Instance → List (List ℕ) → ℕ → ℕ → ℕ → SearchPlans → SearchPlans
anneal_step p pins deviation seed n s = annealed_by p deviation s (candidate p pins s.working (step_words seed n))

-- The plans after the given number of steps, from number n on
unfoldable pub anneal_steps : Instance → List (List ℕ) → ℕ → ℕ → ℕ → ℕ → SearchPlans → SearchPlans
anneal_steps p pins deviation seed n count s = many (anneal_step p pins deviation seed) n count s
