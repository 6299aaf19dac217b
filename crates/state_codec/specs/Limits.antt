-- The values that each version can represent
use Rattle.std.specs.Prelude.{◌≡◌, ℕ, ◌<◌, ◌≤◌, ◌^◌, ◌+◌, ◌&&◌, true}
use Rattle.plan_types.specs.declared.limits.TheConstants.{MAX_DEVIATION, MAX_STOP_NUMBER}
use Rattle.command_types.specs.Job.{JobValue}
use Rattle.command_types.specs.AddedRequests.{is_spot, is_demand}
use Rattle.command_types.specs.declared.limits.TheConstants.{MAX_SEARCH_STEPS}
use Rattle.command_types.specs.declared.states.State.{State}
use Rattle.command_types.specs.declared.states.State.TheVariants.{Empty, Loaded}
use Rattle.command_types.specs.declared.commands.Command.{Command}
use Rattle.command_types.specs.declared.commands.Command.TheVariants.{Add, Add1, Withdraw, Pin, Unpin, Build, Search, Deviation}
use Rattle.state_codec.specs.declared.version.TheConstants.{MAX_STOP_NUMBER_V1}
use Rattle.state_codec.specs.declared.version.Version.{Version}
use Rattle.state_codec.specs.declared.version.Version.TheVariants.{One, Two}
use Rattle.state_codec.specs.Bytes.{width}

-- The greatest stop number and the largest fleet
abbrev pub most : Version → ℕ
most One = MAX_STOP_NUMBER_V1
most Two = MAX_STOP_NUMBER

-- The states that a version can represent. Version 1 has lower limits; its states have deviation 0, and their
-- working plan is the plan.
pub record IsOfVersionOne (j : JobValue) : Type 0 where
  pub fleet : j.problem.fleet ≤ most One
  pub next_number : j.problem.next_number ≤ most One + 1
  pub deviation : j.deviation ≡ 0
  pub work : j.work ≡ j.plan

abbrev pub IsJobOf : Version → JobValue → Type 0
IsJobOf One j = IsOfVersionOne j
IsJobOf Two j = Unit {0}

abbrev pub IsStateOf : Version → State → Type 0
IsStateOf v Empty = Unit {0}
IsStateOf v (Loaded j) = IsJobOf v j

-- The number fits into the bytes of the version
abbrev pub HasRoom : Version → ℕ → Type 0
HasRoom v n = n < 256 ^ width v

-- The version can represent this deviation. Version 1 can represent only 0
abbrev pub IsDeviationOf : Version → ℕ → Type 0
IsDeviationOf One d = ⊥
IsDeviationOf Two d = d ≤ MAX_DEVIATION

-- The commands that have a record, with fields within their limits. For other commands a store writes
-- snapshots. Numbers of requests, vehicles and places may have any value for which the version has room.
abbrev pub IsRecorded : Version → Command → Type 0
IsRecorded v (Add demand pickup delivery) = (is_demand demand && (is_spot pickup && is_spot delivery)) ≡ true
IsRecorded v (Add1 demand spot) = (is_demand demand && is_spot spot) ≡ true
IsRecorded v (Withdraw name) = HasRoom v name
IsRecorded v (Pin vehicle k) = HasRoom v vehicle × HasRoom v k
IsRecorded v (Unpin vehicle) = HasRoom v vehicle
IsRecorded v Build = Unit {0}
IsRecorded v (Search count) = (1 ≤ count) × (count ≤ MAX_SEARCH_STEPS)
IsRecorded v (Deviation deviation) = IsDeviationOf v deviation
IsRecorded v _ = ⊥
