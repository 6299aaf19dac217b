-- The states of a planner in contracts, and their invariants
use Rattle.std.specs.Prelude.{⊤}
use Rattle.command_types.specs.Job.{IsJob}
use Rattle.command_types.specs.declared.states.State.{State}
use Rattle.command_types.specs.declared.states.State.TheVariants.{Empty, Loaded}

-- The invariants of a state: an empty one has none, a loaded one has those of its job
abbrev pub IsState : State → Type 0
IsState Empty = ⊤
IsState (Loaded j) = IsJob j
