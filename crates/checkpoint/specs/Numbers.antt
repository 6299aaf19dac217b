-- The numbers of the stops that a journal adds.
use Rattle.std.specs.Prelude.{ℕ, ◌+◌, ◌≤◌, List, [], ◌∷◌}
use Rattle.command_types.specs.Commands.{stops_added}
use Rattle.command_types.specs.declared.states.State.{State}
use Rattle.command_types.specs.declared.states.State.TheVariants.{Empty, Loaded}
use Rattle.command_types.specs.declared.commands.Command.{Command}
use Rattle.state_codec.specs.declared.version.TheConstants.{MAX_STOP_NUMBER_V1}
use Rattle.state_codec.specs.declared.version.Version.{Version}
use Rattle.state_codec.specs.declared.version.Version.TheVariants.{One, Two}

-- The number of stops that commands add.
abbrev pub added_stops : List Command → ℕ
added_stops [] = 0
added_stops (command ∷ commands) = stops_added command + added_stops commands

-- The number that the next added stop of a state gets.
abbrev pub next_number_of : State → ℕ
next_number_of Empty = 1
next_number_of (Loaded job) = job.problem.next_number

-- Version 1 allows numbers up to 4,000 for the stops that these commands add to a state. For version 2 there is
-- no condition, since a state itself limits the numbers.
abbrev pub HaveValidNumbers : Version → State → List Command → Type 0
HaveValidNumbers One state commands = next_number_of state + added_stops commands ≤ MAX_STOP_NUMBER_V1 + 1
HaveValidNumbers Two state commands = Unit {0}
