-- The effect of a refused call on the device.
use Rattle.std.specs.Prelude.{◌≡◌, ℕ, ◌+◌, ◌-◌, ◌^◌, min, Result, Ok, Err}
use Rattle.checkpoint.specs.declared.faults.FormatFault.{FormatFault}
use Rattle.checkpoint.specs.declared.faults.FormatFault.TheVariants.{TooSmall, DeviceFault, OutOfMemory}
use Rattle.checkpoint.specs.declared.faults.StoreFault.{StoreFault}
use Rattle.checkpoint.specs.declared.faults.StoreFault.TheVariants as store

-- The number of failed calls after one more of them. It never exceeds 2^64-1.
abbrev pub one_more_fault : ℕ → ℕ
one_more_fault faults = min (faults + 1) (2 ^ 64 - 1)

-- The number of failed calls after a refused format: one more for DeviceFault, and no more for any other
-- refusal, which comes before the first call.
abbrev pub faults_of_format : FormatFault → ℕ → ℕ
faults_of_format DeviceFault faults = one_more_fault faults
faults_of_format TooSmall faults = faults
faults_of_format OutOfMemory faults = faults

abbrev pub faults_after_format : {T : Type 0} → Result T FormatFault → ℕ → ℕ
faults_after_format (Ok x) faults = faults
faults_after_format (Err fault) faults = faults_of_format fault faults

abbrev pub IsKeptByFormat : {D : Type 0} → FormatFault → D → D → Type 0
IsKeptByFormat DeviceFault old new = Unit {0}
IsKeptByFormat TooSmall old new = new ≡ old
IsKeptByFormat OutOfMemory old new = new ≡ old

-- A property that must hold if the device was called.
abbrev pub OnCalls : {T : Type 0} → Result T FormatFault → Type 0 → Type 0
OnCalls (Ok x) P = P
OnCalls (Err DeviceFault) P = P
OnCalls (Err TooSmall) P = Unit {0}
OnCalls (Err OutOfMemory) P = Unit {0}

-- The number of failed calls after a call that a store refuses.
abbrev pub faults_of_store : StoreFault → ℕ → ℕ
faults_of_store store.DeviceFault faults = one_more_fault faults
faults_of_store store.NotFormatted faults = faults
faults_of_store store.BadVersion faults = faults
faults_of_store (store.Codec fault) faults = faults
faults_of_store store.Spent faults = faults
faults_of_store store.OutOfMemory faults = faults

abbrev pub faults_after_reading : {T : Type 0} → Result T StoreFault → ℕ → ℕ
faults_after_reading (Ok x) faults = faults
faults_after_reading (Err fault) faults = faults_of_store fault faults

-- A fault of reading a run of sectors.
abbrev pub IsOfReading : StoreFault → Type 0
IsOfReading store.DeviceFault = Unit {0}
IsOfReading store.OutOfMemory = Unit {0}
IsOfReading _ = ⊥

-- The fault of a snapshot's commit. Only a failed call leaves part of the snapshot on the device.
abbrev pub IsRefusedCommit : {D : Type 0} → StoreFault → D → D → Type 0
IsRefusedCommit store.DeviceFault old new = Unit {0}
IsRefusedCommit store.Spent old new = new ≡ old
IsRefusedCommit store.OutOfMemory old new = new ≡ old
IsRefusedCommit store.NotFormatted old new = ⊥
IsRefusedCommit store.BadVersion old new = ⊥
IsRefusedCommit (store.Codec fault) old new = ⊥
