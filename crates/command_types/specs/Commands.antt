-- Properties of a command that depend on no state. A command that a definition does not list falls under its
-- last line.
use Rattle.std.specs.Prelude.{ℕ, ◌+◌, ◌<◌, ◌^◌, nat_le, ◌&&◌, ◌||◌, Bool, true, false, List, [], ◌∷◌, ⊤}
use Rattle.plan_types.specs.Instance.{IsInstance}
use Rattle.plan_types.specs.declared.limits.TheConstants.{MAX_DEVIATION}
use Rattle.command_types.specs.declared.limits.TheConstants.{MAX_SEARCH_STEPS}
use Rattle.command_types.specs.Job.{JobValue}
use Rattle.command_types.specs.AddedRequests.{is_spot, is_demand}
use Rattle.command_types.specs.declared.commands.Command.{Command}
use Rattle.command_types.specs.declared.commands.Command.TheVariants.{Load, Add, Add1, Withdraw, Pin, Unpin, Build, Search, Checkpoint, Deviation, Anneal, Reduce}

-- A problem to be loaded is valid, and its seed has 64 bits
abbrev pub IsCommand : Command → Type 0
IsCommand (Load p seed) = IsInstance p × (seed < 2 ^ 64)
IsCommand _ = ⊤

-- The command starts over with another problem
abbrev pub is_load : Command → Bool
is_load (Load p seed) = true
is_load _ = false

-- The command may change the requests
abbrev pub changes_requests : Command → Bool
changes_requests (Load p seed) = true
changes_requests (Add q a b) = true
changes_requests (Add1 q s) = true
changes_requests (Withdraw name) = true
changes_requests _ = false

-- The command changes only pins
abbrev pub changes_pins : Command → Bool
changes_pins (Pin v k) = true
changes_pins (Unpin v) = true
changes_pins _ = false

-- The command may change the requests or the pins
abbrev pub is_change : Command → Bool
is_change c = changes_requests c || changes_pins c

-- The stop numbers that the command assigns
abbrev pub assigned_by : JobValue → Command → List ℕ
assigned_by j (Add q a b) = j.problem.next_number ∷ (j.problem.next_number + 1) ∷ []
assigned_by j (Add1 q s) = j.problem.next_number ∷ []
assigned_by j _ = []

abbrev pub stops_added : Command → ℕ
stops_added (Add q a b) = 2
stops_added (Add1 q s) = 1
stops_added _ = 0

-- The number of steps that the command makes
abbrev pub steps_of : Command → ℕ
steps_of (Search count) = count
steps_of (Anneal count) = count
steps_of (Reduce count) = count
steps_of _ = 0

-- The command makes steps, so that progress lines are printed
abbrev pub makes_steps : Command → Bool
makes_steps (Search count) = true
makes_steps (Anneal count) = true
makes_steps (Reduce count) = true
makes_steps _ = false

-- The command is a search or a checkpoint
abbrev pub is_searching : Command → Bool
is_searching (Search count) = true
is_searching Checkpoint = true
is_searching _ = false

-- The command is an annealing or a checkpoint
abbrev pub is_annealing : Command → Bool
is_annealing (Anneal count) = true
is_annealing Checkpoint = true
is_annealing _ = false

-- A store writes the command as a record of its journal; for any other command it writes a snapshot of the
-- resulting state
abbrev pub is_recorded : Command → Bool
is_recorded (Add q a b) = true
is_recorded (Add1 q s) = true
is_recorded (Withdraw name) = true
is_recorded (Pin v k) = true
is_recorded (Unpin v) = true
is_recorded Build = true
is_recorded (Search count) = true
is_recorded (Deviation d) = true
is_recorded _ = false

-- The fields of the command are within the limits of a record
abbrev pub fits_record : Command → Bool
fits_record (Add q a b) = is_demand q && (is_spot a && is_spot b)
fits_record (Add1 q s) = is_demand q && is_spot s
fits_record (Search count) = nat_le 1 count && nat_le count MAX_SEARCH_STEPS
fits_record (Deviation d) = nat_le d MAX_DEVIATION
fits_record _ = true
