-- One step of an attempt to serve every request, and many steps. Such a step is an annealing step that compares
-- plans by the requests that they leave out: requests that were left out often weigh more (absence counters,
-- Christiaens and Vanden Berghe 2020). A step depends only on the problem, the pins, the plans, the counters,
-- the deviation, the seed and its number.
use Rattle.std.specs.Prelude.{ℕ, zero, suc, ◌+◌, nat_lt, nat_le, ◌==◌, ◌&&◌, ◌||◌, Bool, List, fold, sum_by, slice_set, slice_index_or, Option, Some, None, replicate, if◌then◌else◌}
use Rattle.plan_types.specs.Cost.{cost_at_most}
use Rattle.plan_types.specs.Instance.{Instance}
use Rattle.route_sched.specs.Cost.{cost_of, unplanned_count}
use Rattle.seeded_search.specs.Words.{step_words}
use Rattle.seeded_search.specs.Steps.{unplanned_names}
use Rattle.anneal_search.specs.Annealing.{candidate}

-- The absence counter of the request with this name
abbrev pub absences_of : List ℕ → ℕ → ℕ
absences_of absences name = slice_index_or absences name 0

-- The counters after one more absence
abbrev pub counted_once : List ℕ → ℕ → List ℕ
counted_once absences name = slice_set absences name (absences_of absences name + 1)

-- The counters after one more absence of each of these requests
abbrev pub counted : List ℕ → List ℕ → List ℕ
counted absences names = fold counted_once absences names

-- The sum of the absence counters of these requests
abbrev pub weight : List ℕ → List ℕ → ℕ
weight absences names = sum_by (absences_of absences) names

-- The state of an attempt: its plans, how often each request was left out, by name, and the number of its next
-- step
pub record AttemptState : Type 0 where
  pub incumbent : List (List ℕ)
  pub working : List (List ℕ)
  pub absences : List ℕ
  pub step : ℕ

-- The state before the first step: both plans are this one, and no request was left out yet
abbrev pub begun : Instance → List (List ℕ) → ℕ → AttemptState
begun p routes n = record { incumbent = routes; working = routes; absences = replicate p.next_number 0; step = n }

-- The candidate is acceptable: it leaves out fewer requests than the working plan, or the counters of the
-- requests that it leaves out have a smaller sum. If number and sum are equal, its distance may be greater by at
-- most the deviation.
abbrev pub is_acceptable : Instance → ℕ → List ℕ → List (List ℕ) → List (List ℕ) → Bool
is_acceptable p deviation absences c w =
    let a = cost_of p c in
    let b = cost_of p w in
    let lighter = weight absences (unplanned_names p c) in
    let heavier = weight absences (unplanned_names p w) in
    nat_lt a.unplanned b.unplanned || (nat_lt lighter heavier || ((a.unplanned == b.unplanned) && ((lighter == heavier) && nat_le a.distance (b.distance + deviation))))

-- The state after a candidate. If it is acceptable, it becomes the working plan and, if it costs no more, the
-- incumbent. In any case each request that it leaves out is counted once more.
abbrev pub attempt_with : Instance → ℕ → AttemptState → List (List ℕ) → AttemptState
attempt_with p deviation t c =
    let follows = is_acceptable p deviation t.absences c t.working in
    record {
      incumbent = if follows && cost_at_most (cost_of p c) (cost_of p t.incumbent) then c else t.incumbent;
      working = if follows then c else t.working;
      absences = counted t.absences (unplanned_names p c);
      step = t.step + 1;
    }

-- The state after a candidate, if there is one; without a candidate only the number of the next step changes
abbrev pub attempt_after : Instance → ℕ → AttemptState → Option (List (List ℕ)) → AttemptState
attempt_after p deviation t None = record t { step = t.step + 1 }
attempt_after p deviation t (Some c) = attempt_with p deviation t c

-- The state after the next step
unfoldable pub attempt_step : Instance → List (List ℕ) → ℕ → ℕ → AttemptState → AttemptState
attempt_step p pins deviation seed t = attempt_after p deviation t (candidate p pins t.working (step_words seed t.step))

-- The state after at most this many steps; they end once the incumbent leaves no request out
unfoldable pub attempt_steps : Instance → List (List ℕ) → ℕ → ℕ → ℕ → AttemptState → AttemptState
attempt_steps p pins deviation seed zero t = t
attempt_steps p pins deviation seed (suc left) t = if unplanned_count p t.incumbent == 0 then t else attempt_steps p pins deviation seed left (attempt_step p pins deviation seed t)
