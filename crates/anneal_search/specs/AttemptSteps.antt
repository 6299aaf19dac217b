-- The invariants of an attempt
use Rattle.std.specs.Prelude.{ℕ, ◌+◌, ◌*◌, List}
use Rattle.plan_types.specs.Instance.{Instance}
use Rattle.move_ops.specs.Drafts.{base_of}
use Rattle.anneal_search.specs.Absences.{AreAtMost}
use Rattle.anneal_search.specs.StepLoops.{KeepsAnnealing, IsAnnealing}
use Rattle.anneal_search.specs.AttemptState.{AttemptState}
use Rattle.anneal_search.specs.declared.attempts.Attempt.{Attempt}

-- The state of an attempt whose first step has this number
abbrev pub attempt_state : ℕ → Attempt → AttemptState
attempt_state first t = record { incumbent = t.annealing.search_state.incumbent.routes; working = base_of t.annealing.search_state.draft; absences = t.absences.items; step = first + t.made }

-- The invariant while there is a candidate. Each step counts every request at most once.
pub record KeepsAttempt (p : Instance) (pins : List (List ℕ)) (t : Attempt) : Type 0 where
  pub annealing : KeepsAnnealing p pins t.annealing
  pub few : AreAtMost (40001 * t.made) t.absences.items

-- The invariant between two steps
pub record IsAttempt (p : Instance) (pins : List (List ℕ)) (t : Attempt) : Type 0 where
  pub annealing : IsAnnealing p pins t.annealing
  pub few : AreAtMost (40001 * t.made) t.absences.items
