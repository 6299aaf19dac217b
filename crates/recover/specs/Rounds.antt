-- Rounds of a store in memory: it is opened, commands are run, and it crashes or is closed.
use Rattle.std.specs.Prelude.{◌≡◌, ℕ, ◌+◌, ◌-◌, ◌^◌, ◌<◌, Bool, true, false, List, [], ◌∷◌, length, take, count_by, Option, Some, None, Result, Ok, Err, is_ok, slice_index, ⊤}
use Rattle.sector_disk.specs.MemDevice.{memory}
use Rattle.sector_disk.specs.Memory.{len_of, seen_of, MayLeave, clock_of, MayHaveLeft, Crashes}
use Rattle.sector_disk.specs.declared.mem_device.MemDevice.{MemDevice}
use Rattle.command_types.specs.declared.states.State.{State}
use Rattle.command_types.specs.declared.commands.Command.{Command}
use Rattle.checkpoint.specs.declared.faults.StoreFault.{StoreFault}
use Rattle.checkpoint.specs.InvalidImages.{IsLoadFault, UnlessReadFailed}
use Rattle.checkpoint.specs.Refusals.{faults_of_store}
use Rattle.recover.specs.declared.denials.Denial.{Denial}
use Rattle.recover.specs.declared.denials.Denial.TheVariants.{Broken, Core, Spent, OutOfMemory, DeviceFault}
use Rattle.recover.specs.declared.replies.Reply.{Reply}
use Rattle.recover.specs.declared.replies.Run.{Run}
use Rattle.recover.specs.declared.rounds.Halt.{Halt}
use Rattle.recover.specs.declared.rounds.Round.{Round}
use Rattle.recover.specs.declared.rounds.RoundsFault.{RoundsFault}
use Rattle.recover.specs.declared.rounds.RoundsFault.TheVariants as rounds
use Rattle.state_codec.specs.declared.version.Version.TheVariants.{Two}
use Rattle.recover.specs.RecoversTo.{RecoversTo}
use Rattle.recover.specs.Replies.{kept_commands}
use Rattle.recover.specs.Moments.{RecoversToPrefix}
use Rattle.recover.specs.Opening.{RecoversToNothing, IsReplayed}
use Rattle.recover.specs.Sessions.{SessionValue}
use Rattle.recover.specs.Applying.{IsRun}

-- The bytes that reads of the device return.
abbrev pub seen_in : MemDevice → List ℕ
seen_in device = seen_of (memory device)

-- The answers of a session over a device in memory, one after another.
abbrev pub IsMemoryRun : SessionValue MemDevice → List Command → List Reply → SessionValue MemDevice → Type 0
IsMemoryRun = IsRun (λ d. len_of (memory d)) (λ d. (memory d).calls) (λ d. (memory d).faults) (λ d. Unit {0})
    (λ d. clock_of (memory d)) (λ d. MayHaveLeft (memory d)) (λ d. MayLeave (memory d))

-- The number of commands answered Ok.
abbrev pub count_ok : List Reply → ℕ
count_ok replies = count_by (λ reply. is_ok reply.answer) replies

abbrev pub is_device_fault : {T : Type 0} → Result T Denial → Bool
is_device_fault (Ok done) = false
is_device_fault (Err DeviceFault) = true
is_device_fault (Err Broken) = false
is_device_fault (Err (Core refusal)) = false
is_device_fault (Err Spent) = false
is_device_fault (Err OutOfMemory) = false

-- The number of commands answered DeviceFault.
abbrev pub count_device_faults : List Reply → ℕ
count_device_faults replies = count_by (λ reply. is_device_fault reply.answer) replies

-- The session has the state that the device recovered to. Opening took one finished call, and replayed at most
-- 65,536 search steps.
pub record IsMemoryOpened (device : MemDevice) (session : SessionValue MemDevice) : Type 0 where
  pub recovers : RecoversTo Two (seen_in device) session.state
  -- The device recovers to no other state than that of the session.
  pub alone : (state : State) → RecoversTo Two (seen_in device) state → session.state ≡ state
  pub whole : session.is_broken ≡ false
  pub calls : (memory session.device).calls ≡ (memory device).calls + 1
  pub faults : (memory session.device).faults ≡ (memory device).faults
  pub replayed : (steps : ℕ) × IsReplayed Two (seen_in device) session.state session.place steps

-- If the round ends with a crash, the device is set to fail after the calls of this crash.
abbrev pub IsSet : Option Halt → MemDevice → Type 0
IsSet None device = ⊤
IsSet (Some halt) device = (memory device).fuse ≡ Some halt.calls

-- The device is as the session left it, or it crashed with these choices and is no longer set to fail.
abbrev pub IsLeft : Option Halt → MemDevice → MemDevice → Type 0
IsLeft None closed left = left ≡ closed
IsLeft (Some halt) closed left = Crashes (λ i. slice_index halt.choices.items i) (memory closed) (memory left)

-- A round on this device: it was opened, its commands were answered one after another, and it crashed or was
-- closed.
pub record IsRound (device : MemDevice) (round : Round) (replies : List Reply) (left : MemDevice) : Type 0 where
  pub first : SessionValue MemDevice
  pub last : SessionValue MemDevice
  pub opened : IsMemoryOpened device first
  pub halt : IsSet round.stop first.device
  pub run : IsMemoryRun first round.commands.items replies last
  pub ended : IsLeft round.stop last.device left
  -- Each image recovers to the state after a prefix of the kept commands: all acknowledged ones, and at most
  -- one more.
  pub images : (image : List ℕ) → MayLeave (memory left) image
      → RecoversToPrefix first.state (kept_commands round.commands.items replies) (count_ok replies) image
  -- Each DeviceFault counts as one failed call.
  pub faults : (memory left).faults < 2 ^ 64 - 1 → (memory left).faults ≡ (memory device).faults + count_device_faults replies

-- Opening this device was refused because of this fault, and each possible image is one of those before.
pub record IsUnopened (device : MemDevice) (fault : StoreFault) (left : MemDevice) : Type 0 where
  pub cause : UnlessReadFailed (RecoversToNothing Two (seen_in device)) fault
  pub of_load : IsLoadFault fault
  pub images : (image : List ℕ) → MayLeave (memory left) image → MayLeave (memory device) image
  pub faults : (memory left).faults ≡ faults_of_store fault (memory device).faults

-- A round that did not begin.
abbrev pub IsUnbegun : MemDevice → RoundsFault → MemDevice → Type 0
IsUnbegun device (rounds.Open fault) left = IsUnopened device fault left
IsUnbegun device rounds.OutOfMemory left = left ≡ device

-- Rounds, one after another, with one run for each.
abbrev pub AreRounds : MemDevice → List Round → List Run → MemDevice → Type 0
AreRounds device [] [] left = left ≡ device
AreRounds device (round ∷ rounds) (run ∷ runs) left = (next : MemDevice) × IsRound device round run.replies.items next × AreRounds next rounds runs left
AreRounds device [] (run ∷ runs) left = ⊥
AreRounds device (round ∷ rounds) [] left = ⊥

-- All these rounds were executed, and then the device was opened once more.
pub record EndsRounds (device : MemDevice) (rounds : List Round) (runs : List Run) (session : SessionValue MemDevice) : Type 0 where
  pub left : MemDevice
  pub done : AreRounds device rounds runs left
  pub opened : IsMemoryOpened left session

-- A prefix of the rounds was executed, and the next one did not begin. Or all were executed, and the last
-- opening failed.
pub record CutsRounds (device : MemDevice) (rounds : List Round) (fault : RoundsFault) (left : MemDevice) : Type 0 where
  pub runs : List Run
  pub mid : MemDevice
  pub done : AreRounds device (take (length runs) rounds) runs mid
  pub unbegun : IsUnbegun mid fault left
