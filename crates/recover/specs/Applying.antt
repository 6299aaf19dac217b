-- The answers of a session to commands, and their effect on the session.
use Rattle.std.specs.Prelude.{◌≡◌, ℕ, ◌+◌, ◌≤◌, Bool, true, false, not, ◌||◌, ◌&&◌, ◌==◌, List, [], ◌∷◌, Option, Some, None, Result, Ok, Err, if◌then◌else◌, ⊤}
use Rattle.std.specs.Option.{option_map, option_or}
use Rattle.sector_disk.specs.Sectors.{IsCalled, Throughout, more}
use Rattle.command_core.specs.Effects.{effect}
use Rattle.command_core.specs.Refusals.{refusal}
use Rattle.command_types.specs.Commands.{is_recorded}
use Rattle.command_core.specs.Runs.{AreAccepted}
use Rattle.command_types.specs.declared.commands.Command.{Command}
use Rattle.state_codec.specs.declared.version.Version.TheVariants.{Two}
use Rattle.checkpoint.specs.declared.places.Place.{Place}
use Rattle.checkpoint.specs.Layouts.{journal_room, last_sequence}
use Rattle.checkpoint.specs.Places.{place_after_record, place_after_snapshot}
use Rattle.checkpoint.specs.Refusals.{one_more_fault}
use Rattle.recover.specs.declared.denials.Denial.{Denial}
use Rattle.recover.specs.declared.denials.Denial.TheVariants.{Broken, Core, Spent, OutOfMemory, DeviceFault}
use Rattle.recover.specs.declared.replies.Reply.{Reply}
use Rattle.recover.specs.RecoversTo.{RecoversTo}
use Rattle.recover.specs.Moments.{RunLeaves}
use Rattle.recover.specs.Sessions.{SessionValue}

-- A snapshot is due: the command has no record, or the journal has 256 records.
abbrev pub is_snapshot_due : Place → Command → Bool
is_snapshot_due place command = not (is_recorded command) || (place.used == journal_room)

-- The number of device calls that a command finishes if it succeeds.
abbrev pub calls_of : Place → Command → ℕ
calls_of place command = if is_snapshot_due place command then 4 else 2

-- The place at which the journal continues after the command.
abbrev pub place_after : Place → Command → Place
place_after place command =
    if is_snapshot_due place command
    then place_after_snapshot place
    else place_after_record place

-- The denial Spent, if a snapshot is due and there is no sequence left for it.
abbrev pub spent_denial : Place → Command → Option Denial
spent_denial place command = if is_snapshot_due place command && (place.sequence == last_sequence) then Some Spent else None

-- The reason why a command is denied before memory is allocated and the device is called. If there are several,
-- it is the first one.
abbrev pub denial : {D : Type 0} → SessionValue D → Command → Option Denial
denial s command = if s.is_broken then Some Broken else option_or (option_map Core (refusal s.state command)) (spent_denial s.place command)

-- The answer is this denial, if there is one. Otherwise it is Ok, or memory ran out, or the device failed.
abbrev pub IsAnswer : {T : Type 0} → Option Denial → Result T Denial → Type 0
IsAnswer (Some d) answer = answer ≡ Err d
IsAnswer None (Ok done) = ⊤
IsAnswer None (Err OutOfMemory) = ⊤
IsAnswer None (Err DeviceFault) = ⊤
IsAnswer None (Err Broken) = ⊥
IsAnswer None (Err (Core refusal)) = ⊥
IsAnswer None (Err Spent) = ⊥

-- A command that was executed.
pub record IsDone {D : Type 0} (old : SessionValue D) (command : Command) (new : SessionValue D) : Type 0 where
  pub accepted : AreAccepted old.state (command ∷ [])
  pub state : new.state ≡ effect old.state command
  pub place : new.place ≡ place_after old.place command
  pub is_broken : new.is_broken ≡ false

-- A command during which the device failed.
pub record HasFailedDevice {D : Type 0} (old : SessionValue D) (command : Command) (new : SessionValue D) : Type 0 where
  pub accepted : AreAccepted old.state (command ∷ [])
  pub state : new.state ≡ old.state
  pub is_broken : new.is_broken ≡ true

-- The effect of a command with this answer on a session. A denial other than DeviceFault leaves the session and
-- its device unchanged.
abbrev pub Makes : {T D : Type 0} → Result T Denial → SessionValue D → Command → SessionValue D → Type 0
Makes (Ok done) old command new = IsDone old command new
Makes (Err DeviceFault) old command new = HasFailedDevice old command new
Makes (Err Broken) old command new = new ≡ old
Makes (Err (Core refusal)) old command new = new ≡ old
Makes (Err Spent) old command new = new ≡ old
Makes (Err OutOfMemory) old command new = new ≡ old

-- The number of failed calls after a command with this answer: one more for DeviceFault, and no more for any
-- other answer.
abbrev pub faults_after_answer : {T : Type 0} → Result T Denial → ℕ → ℕ
faults_after_answer (Ok done) faults = faults
faults_after_answer (Err DeviceFault) faults = one_more_fault faults
faults_after_answer (Err Broken) faults = faults
faults_after_answer (Err (Core refusal)) faults = faults
faults_after_answer (Err Spent) faults = faults
faults_after_answer (Err OutOfMemory) faults = faults

-- The count m lies between `from` and `to`.
abbrev pub IsBetween : ℕ → ℕ → ℕ → List ℕ → Type 0
IsBetween from to m image = (from ≤ m) × (m ≤ to)

-- The members of a device that clauses use.
module _ {D : Type 0} (len calls faults : D → ℕ) (honest : D → Type 0) (clock : D → ℕ) (since : D → ℕ → ℕ → List ℕ → Type 0) (possible : D → List ℕ → Type 0) where
  -- All guarantees of `apply` for a command and its reply.
  pub record IsApplied (old : SessionValue D) (command : Command) (reply : Reply) (new : SessionValue D) : Type 0 where
    pub answer : IsAnswer (denial old command) reply.answer
    pub makes : Makes reply.answer old command new
    pub count : reply.calls ≡ calls new.device
    pub called : IsCalled len calls faults honest (more reply.answer (calls_of old.place command)) (faults_after_answer reply.answer) old.device new.device
    pub moments : old.is_broken ≡ false → honest new.device → Throughout clock since old.device new.device (RunLeaves old.state (command ∷ []) (reply ∷ []))
    pub counts : honest new.device → Throughout clock since old.device new.device (IsBetween (calls old.device) (calls old.device + calls_of old.place command))
    pub recovers : new.is_broken ≡ false → honest new.device → (image : List ℕ) → possible new.device image → RecoversTo Two image new.state

  -- One reply for each command, each as `apply` returns it, one after another.
  abbrev pub IsRun : SessionValue D → List Command → List Reply → SessionValue D → Type 0
  IsRun old [] [] new = new ≡ old
  IsRun old (command ∷ commands) (reply ∷ replies) new = (mid : SessionValue D) × IsApplied old command reply mid × IsRun mid commands replies new
  IsRun old [] (reply ∷ replies) new = ⊥
  IsRun old (command ∷ commands) [] new = ⊥
