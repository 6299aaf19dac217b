-- Laws about the fates of attempts and the store, for every run with these replies.
use Rattle.std.specs.Prelude.{◌≡◌, ◌≤◌, ◌+◌, ◌-◌, ◌^◌, ℕ, min, Contains, List, [], ◌∷◌, length}
use Rattle.command_text.specs.Answering.{Fate, Done, NoMemory, Spent, Failed}
use Rattle.recover.specs.Composition.{IsRunOn}
use Rattle.recover.specs.Sessions.{SessionValue}
use Rattle.sector_disk.specs.declared.sectors.Sectors as sectors
use Rattle.checkpoint.specs.Layouts.{last_sequence}
use Rattle.command_server.specs.Acts.{Act, executed_of, commands_of, fates_of, replies_of}

-- The device's count of failed calls after attempts with these fates, from `faults` on: each failed attempt adds
-- one, up to 2^64-1.
abbrev pub faults_reported : List Fate → ℕ → ℕ
faults_reported [] faults = faults
faults_reported (Failed ∷ fates) faults = faults_reported fates (min (faults + 1) (2 ^ 64 - 1))
faults_reported (Done ∷ fates) faults = faults_reported fates faults
faults_reported (NoMemory ∷ fates) faults = faults_reported fates faults
faults_reported (Spent ∷ fates) faults = faults_reported fates faults

module _ {D : Type 0} (on : sectors.Ghosts D) where
  -- Law: the store is reported as full only when its sequence numbers are used up. Each executed operation takes
  -- at most one number, so at least as many operations were executed as there were numbers left.
  abbrev pub SpentOnlyAtTheLast : Type 0
  SpentOnlyAtTheLast = (old new : SessionValue D) (acts : List Act) → IsRunOn on old (commands_of acts) (replies_of acts) new → Contains (fates_of acts) Spent
      → last_sequence ≤ old.place.sequence + length (executed_of acts)

  -- Law: the device's count of failed calls grows by one for each attempt that reports a failed device, up to
  -- 2^64-1, and in no other way.
  abbrev pub FaultsAreReported : Type 0
  FaultsAreReported = (old new : SessionValue D) (acts : List Act) → IsRunOn on old (commands_of acts) (replies_of acts) new → on.faults new.device ≡ faults_reported (fates_of acts) (on.faults old.device)
