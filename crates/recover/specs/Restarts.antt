-- Restarts of a store in memory: it is opened, commands are run, and it is closed, its process is killed or its
-- device crashes. An opening may fail.
use Rattle.std.specs.Prelude.{◌≡◌, ℕ, ◌+◌, ◌^◌, ◌-◌, ◌<◌, false, List, [], ◌∷◌, length, map, take, Some, None, Result, Ok, Err, slice_index, ⊤}
use Rattle.sector_disk.specs.MemDevice.{memory}
use Rattle.sector_disk.specs.Memory.{MayLeave, IsSameDevice, KeepsCounts, Crashes}
use Rattle.sector_disk.specs.declared.mem_device.MemDevice.{MemDevice}
use Rattle.command_types.specs.declared.states.State.{State}
use Rattle.command_types.specs.declared.commands.Command.{Command}
use Rattle.checkpoint.specs.declared.faults.StoreFault.{StoreFault}
use Rattle.recover.specs.declared.replies.Reply.{Reply}
use Rattle.recover.specs.declared.replies.Run.{Run}
use Rattle.recover.specs.declared.rounds.RoundsFault.{RoundsFault}
use Rattle.recover.specs.declared.rounds.RoundsFault.TheVariants as rounds
use Rattle.recover.specs.declared.restarts.Restart.{Restart}
use Rattle.recover.specs.declared.restarts.Ending.{Ending}
use Rattle.recover.specs.declared.restarts.Ending.TheVariants.{Closed, Killed, Crashed}
use Rattle.state_codec.specs.declared.version.Version.TheVariants.{Two}
use Rattle.recover.specs.RecoversTo.{RecoversTo}
use Rattle.recover.specs.Replies.{kept_commands}
use Rattle.recover.specs.Moments.{RecoversToPrefix}
use Rattle.recover.specs.Sessions.{SessionValue}
use Rattle.recover.specs.Rounds.{seen_in, IsMemoryRun, count_ok, count_device_faults, IsMemoryOpened, IsUnopened, IsUnbegun}
use Rattle.recover.specs.Folds.{LeadsTo}
use Rattle.recover.specs.Links.{Restart as Link, AreLinked, recovered_commands_in}

-- The device was set to fail after the calls of this end, or is unchanged.
abbrev pub IsArmed : Ending → MemDevice → MemDevice → Type 0
IsArmed Closed device armed = armed ≡ device
IsArmed (Killed calls) device armed = memory armed ≡ record (memory device) { fuse = Some calls; torn = false }
IsArmed (Crashed calls choices) device armed = memory armed ≡ record (memory device) { fuse = Some calls; torn = false }

-- The device after this end of a restart. After a close it is unchanged. After a kill it is no longer set to
-- fail, and all else is unchanged. After a crash each sector has its chosen content.
abbrev pub IsEnded : Ending → MemDevice → MemDevice → Type 0
IsEnded Closed handed left = left ≡ handed
IsEnded (Killed calls) handed left = memory left ≡ record (memory handed) { fuse = None; torn = false; once = None }
IsEnded (Crashed calls choices) handed left = Crashes (λ i. slice_index choices.items i) (memory handed) (memory left)

-- The store was opened on this device, the commands were answered one after another, and the session was
-- closed.
pub record CarriesOut (device : MemDevice) (commands : List Command) (replies : List Reply) (handed : MemDevice) : Type 0 where
  pub first : SessionValue MemDevice
  pub last : SessionValue MemDevice
  pub opened : IsMemoryOpened device first
  pub run : IsMemoryRun first commands replies last
  pub closed : handed ≡ last.device
  -- Each image recovers to the state after a prefix of the kept commands: all acknowledged ones, and at most
  -- one more.
  pub images : (image : List ℕ) → MayLeave (memory handed) image → RecoversToPrefix first.state (kept_commands commands replies) (count_ok replies) image
  -- Each DeviceFault counts as one failed call.
  pub faults : (memory handed).faults < 2 ^ 64 - 1 → (memory handed).faults ≡ (memory device).faults + count_device_faults replies

-- The commands were answered, or the store was not opened because of this fault.
abbrev pub HasResult : MemDevice → List Command → Result Run StoreFault → MemDevice → Type 0
HasResult device commands (Ok run) handed = CarriesOut device commands run.replies.items handed
HasResult device commands (Err fault) handed = IsUnopened device fault handed

-- A restart: the device was set to fail, the opening and the commands had this result, and the restart ended.
pub record IsRestart (device : MemDevice) (restart : Restart) (run : Result Run StoreFault) (left : MemDevice) : Type 0 where
  pub armed : MemDevice
  pub handed : MemDevice
  pub set : IsArmed restart.ending device armed
  pub same : IsSameDevice (memory device) (memory armed)
  pub came : HasResult armed restart.commands.items run handed
  pub ended : IsEnded restart.ending handed left
  pub images : (image : List ℕ) → MayLeave (memory left) image → MayLeave (memory handed) image
  pub counts : KeepsCounts (memory handed) (memory left)

-- A restart that did not begin, since there was no memory for the answers.
abbrev pub IsNoRestart : MemDevice → RoundsFault → MemDevice → Type 0
IsNoRestart device (rounds.Open fault) left = ⊥
IsNoRestart device rounds.OutOfMemory left = left ≡ device

-- Restarts, one after another, with their results.
abbrev pub AreRestarts : MemDevice → List Restart → List (Result Run StoreFault) → MemDevice → Type 0
AreRestarts device [] [] left = left ≡ device
AreRestarts device (restart ∷ restarts) (run ∷ runs) left = (next : MemDevice) × IsRestart device restart run next × AreRestarts next restarts runs left
AreRestarts device [] (run ∷ runs) left = ⊥
AreRestarts device (restart ∷ restarts) [] left = ⊥

-- All these restarts were executed, and then the device was opened once more.
pub record EndsRestarts (device : MemDevice) (restarts : List Restart) (runs : List (Result Run StoreFault)) (session : SessionValue MemDevice) : Type 0 where
  pub left : MemDevice
  pub done : AreRestarts device restarts runs left
  pub opened : IsMemoryOpened left session

-- The kept commands and the number of acknowledged ones, for each restart whose opening succeeded.
abbrev pub kept_by : List Restart → List (Result Run StoreFault) → List (List Command × ℕ)
kept_by (restart ∷ restarts) (Ok run ∷ runs) = (kept_commands restart.commands.items run.replies.items, count_ok run.replies.items) ∷ kept_by restarts runs
kept_by (restart ∷ restarts) (Err fault ∷ runs) = kept_by restarts runs
kept_by [] runs = []
kept_by (restart ∷ restarts) [] = []

-- The first opening succeeded. If there are no restarts, this is the last opening, which succeeded.
abbrev pub IsFirstOpened : List (Result Run StoreFault) → Type 0
IsFirstOpened [] = ⊤
IsFirstOpened (Ok run ∷ runs) = ⊤
IsFirstOpened (Err fault ∷ runs) = ⊥

-- The restarts whose opening succeeded are links. The first one begins with a state that an image of the device
-- recovers to, and the recovered commands lead from there to the given state.
pub record AreJoined (device : MemDevice) (restarts : List Restart) (runs : List (Result Run StoreFault)) (given : State) : Type 0 where
  pub image : List ℕ
  pub possible : MayLeave (memory device) image
  -- If the first opening succeeded, the image is the one that reads returned.
  pub seen : IsFirstOpened runs → image ≡ seen_in device
  pub begun : State
  pub recovers : RecoversTo Two image begun
  pub links : List Link
  pub one_each : map (λ link. (link.commands, link.acknowledged)) links ≡ kept_by restarts runs
  pub linked : AreLinked begun links given
  pub leads : LeadsTo begun (recovered_commands_in begun links given linked) given

-- A prefix of the restarts was executed, and for the next one there was no memory for the answers. Or all were
-- executed, and the last opening failed.
pub record CutsRestarts (device : MemDevice) (restarts : List Restart) (fault : RoundsFault) (left : MemDevice) : Type 0 where
  pub runs : List (Result Run StoreFault)
  pub mid : MemDevice
  pub done : AreRestarts device (take (length runs) restarts) runs mid
  pub unbegun : IsUnbegun mid fault left
  pub last : (cause : StoreFault) → fault ≡ rounds.Open cause → length runs ≡ length restarts
