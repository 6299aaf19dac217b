-- Laws of commands, for every state and every list of commands
use Rattle.std.specs.Prelude.{◌≡◌, ℕ, ◌+◌, ◌≤◌, not, true, false, List, [], ◌∷◌, length, take, sum_by, None, IsTrue, ⊤}
use Rattle.std.specs.List.{list_all}
use Rattle.plan_types.specs.Cost.{cost_at_most}
use Rattle.route_sched.specs.Cost.{cost_of}
use Rattle.command_types.specs.Job.{JobValue}
use Rattle.command_core.specs.Effects.{searched, annealed, job_after, effect}
use Rattle.command_core.specs.Refusals.{refusal}
use Rattle.command_types.specs.Commands.{IsCommand, changes_requests, is_load, is_searching, is_annealing, steps_of, is_recorded, fits_record}
use Rattle.command_core.specs.Runs.{after, AreAccepted, last_change, assigned_by_all}
use Rattle.command_types.specs.States.{IsState}
use Rattle.command_types.specs.declared.states.State.{State}
use Rattle.command_types.specs.declared.states.State.TheVariants.{Empty, Loaded}
use Rattle.command_types.specs.declared.commands.Command.{Command}

-- Law: an accepted command keeps the invariants of states, so both plans pass and each pin is a feasible route
abbrev pub CommandsKeepInvariants : Type 0
CommandsKeepInvariants = (s : State) (c : Command) → IsState s → IsCommand c → refusal s c ≡ None → IsState (effect s c)

-- Law: a list of accepted commands keeps the invariants of states
abbrev pub RunsKeepInvariants : Type 0
RunsKeepInvariants = (s : State) (cs : List Command) → IsState s → AreAccepted s cs → IsState (after s cs)

-- The problem is unchanged, and the plan costs no more
pub record IsNoWorseJob (old new : JobValue) : Type 0 where
  pub problem : new.problem ≡ old.problem
  pub cost : IsTrue (cost_at_most (cost_of new.problem new.plan) (cost_of old.problem old.plan))

abbrev pub IsNoWorse : State → State → Type 0
IsNoWorse Empty Empty = ⊤
IsNoWorse (Loaded old) (Loaded new) = IsNoWorseJob old new
IsNoWorse _ _ = ⊥

-- Law: an accepted command that changes no request never makes the plan more expensive
abbrev pub CostsNeverRise : Type 0
CostsNeverRise = (s : State) (c : Command) → refusal s c ≡ None → changes_requests c ≡ false → IsNoWorse s (effect s c)

-- Both states have the same pins
abbrev pub HaveSamePins : State → State → Type 0
HaveSamePins Empty Empty = ⊤
HaveSamePins (Loaded old) (Loaded new) = new.pins ≡ old.pins
HaveSamePins _ _ = ⊥

-- Law: after the last change of requests or pins, both stay as they are, and the plan never costs more than at
-- any moment since that change
abbrev pub PlansNeverCostMore : Type 0
PlansNeverCostMore = (s : State) (cs : List Command) (q : ℕ) → AreAccepted s cs → last_change cs ≤ q → q ≤ length cs
    → IsNoWorse (after s (take q cs)) (after s cs) × HaveSamePins (after s (take q cs)) (after s cs)

-- Law: a search of `a` steps and then one of `b` steps lead to the same state as one search of `a + b` steps
abbrev pub SearchesAddUp : Type 0
SearchesAddUp = (j : JobValue) (a b : ℕ) → searched (searched j a) b ≡ searched j (a + b)

-- Law: searches, with or without checkpoints between them, lead to the same state as one search with the same
-- number of steps
abbrev pub RunsAreOneSearch : Type 0
RunsAreOneSearch = (j : JobValue) (cs : List Command) → list_all is_searching cs ≡ true → after (Loaded j) cs ≡ Loaded (searched j (sum_by steps_of cs))

-- Law: annealing `a` steps and then `b` steps leads to the same state as annealing `a + b` steps in one command
abbrev pub AnnealingsAddUp : Type 0
AnnealingsAddUp = (j : JobValue) (a b : ℕ) → annealed (annealed j a) b ≡ annealed j (a + b)

-- Law: annealings, with or without checkpoints between them, lead to the same state as one annealing with the
-- same number of steps
abbrev pub RunsAreOneAnnealing : Type 0
RunsAreOneAnnealing = (j : JobValue) (cs : List Command) → list_all is_annealing cs ≡ true → after (Loaded j) cs ≡ Loaded (annealed j (sum_by steps_of cs))

-- Law: only a Load lowers the next number
abbrev pub NextNumberNeverFalls : Type 0
NextNumberNeverFalls = (j : JobValue) (c : Command) → is_load c ≡ false → j.problem.next_number ≤ (job_after j c).problem.next_number

-- The numbers ascend, from n on
abbrev pub AscendFrom : ℕ → List ℕ → Type 0
AscendFrom n [] = ⊤
AscendFrom n (x ∷ xs) = (n ≤ x) × AscendFrom (x + 1) xs

-- Law: without a Load, the assigned numbers ascend from the next number on. So none was in use, and none is
-- assigned twice.
abbrev pub AssignedNumbersAreNew : Type 0
AssignedNumbersAreNew = (j : JobValue) (cs : List Command) → list_all (λ c. not (is_load c)) cs ≡ true → AscendFrom j.problem.next_number (assigned_by_all j cs)

-- Law: if an accepted command has a record, its fields fit into the record
abbrev pub AcceptedFitRecords : Type 0
AcceptedFitRecords = (s : State) (c : Command) → refusal s c ≡ None → is_recorded c ≡ true → fits_record c ≡ true
