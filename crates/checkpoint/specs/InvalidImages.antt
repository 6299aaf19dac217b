-- The faults of images that hold nothing.
use Rattle.std.specs.Prelude.{◌≡◌, ◌⊎◌, ℕ, List, length, Err}
use Rattle.command_types.specs.States.{IsState}
use Rattle.command_types.specs.declared.commands.Command.{Command}
use Rattle.command_types.specs.declared.states.State.{State}
use Rattle.state_codec.specs.Bytes.{state_bytes}
use Rattle.state_codec.specs.Limits.{IsStateOf}
use Rattle.state_codec.specs.DecodeResults.{Decodes}
use Rattle.state_codec.specs.declared.version.Version.{Version}
use Rattle.state_codec.specs.declared.fault.CodecFault.{CodecFault}
use Rattle.state_codec.specs.declared.fault.CodecFault.TheVariants as codec
use Rattle.checkpoint.specs.declared.layouts.Layout.{Layout}
use Rattle.checkpoint.specs.declared.headers.Header.{Header}
use Rattle.checkpoint.specs.declared.faults.StoreFault.{StoreFault}
use Rattle.checkpoint.specs.declared.faults.StoreFault.TheVariants as store
use Rattle.checkpoint.specs.Numbers.{HaveValidNumbers}
use Rattle.checkpoint.specs.Stores.{IsValid, IsOfOtherVersion, IsUnformatted, IsCurrentHeader, snapshot_in}
use Rattle.checkpoint.specs.Holds.{layout_of}
use Rattle.checkpoint.specs.Reads.{HasRecords, HasStrayFrom}

-- No header is valid, and some header sector has another version.
pub record HasUnsupportedVersion (layout : Layout) (image : List ℕ) : Type 0 where
  pub none : (header : Header) → ¬ IsValid layout image header
  pub other : IsOfOtherVersion layout image

-- The fault of an image without a valid header: `BadVersion` if some header sector has another version, else
-- `NotFormatted`.
abbrev pub HasNoHeader : Layout → List ℕ → StoreFault → Type 0
HasNoHeader layout image store.NotFormatted = IsUnformatted layout image
HasNoHeader layout image store.BadVersion = HasUnsupportedVersion layout image
HasNoHeader layout image (store.Codec fault) = ⊥
HasNoHeader layout image store.Spent = ⊥
HasNoHeader layout image store.OutOfMemory = ⊥
HasNoHeader layout image store.DeviceFault = ⊥

-- The journal of a sequence does not belong to this state: a record sector after its records begins with this
-- sequence or a greater one, or its records add a stop with a number above the last one of the version.
pub record HasBadJournal (version : Version) (image : List ℕ) (sequence : ℕ) (state : State) : Type 0 where
  pub commands : List Command
  pub records : HasRecords version image sequence commands
  pub why : HasStrayFrom (length commands) image sequence ⊎ (¬ HaveValidNumbers version state commands)

-- These bytes do not decode to a state, and this is the fault, which is never OutOfMemory.
abbrev pub IsRefusedFor : Version → List ℕ → CodecFault → Type 0
IsRefusedFor version bytes codec.Truncated = Decodes version bytes (Err codec.Truncated)
IsRefusedFor version bytes codec.BadField = Decodes version bytes (Err codec.BadField)
IsRefusedFor version bytes (codec.PlanRefused rule) = Decodes version bytes (Err (codec.PlanRefused rule))
IsRefusedFor version bytes codec.OutOfMemory = ⊥

-- There is a current header, and its snapshot encodes a state, but the journal does not belong to this state.
pub record HasMismatchedJournal (version : Version) (image : List ℕ) (header : Header) : Type 0 where
  pub state : State
  pub snapshot : snapshot_in (layout_of version) image header.sequence header.length ≡ state_bytes version state
  pub facts : IsState state
  pub reported : IsStateOf version state
  pub journal : HasBadJournal version image header.sequence state

-- The fault of an image with a current header.
abbrev pub IsBroken : Version → List ℕ → Header → CodecFault → Type 0
IsBroken version image header fault = IsRefusedFor version (snapshot_in (layout_of version) image header.sequence header.length) fault ⊎ ((fault ≡ codec.BadField) × HasMismatchedJournal version image header)

-- The image holds nothing, and this is its fault: the first one among those of the headers, the snapshot and
-- the journal.
abbrev pub HoldsNothing : Version → List ℕ → StoreFault → Type 0
HoldsNothing version image (store.Codec fault) = (header : Header) × IsCurrentHeader (layout_of version) image header × IsBroken version image header fault
HoldsNothing version image fault = HasNoHeader (layout_of version) image fault

-- A property of the fault, unless it is a failed call or out of memory.
abbrev pub UnlessReadFailed : (StoreFault → Type 0) → StoreFault → Type 0
UnlessReadFailed P store.DeviceFault = Unit {0}
UnlessReadFailed P store.OutOfMemory = Unit {0}
UnlessReadFailed P store.NotFormatted = P store.NotFormatted
UnlessReadFailed P store.BadVersion = P store.BadVersion
UnlessReadFailed P (store.Codec fault) = P (store.Codec fault)
UnlessReadFailed P store.Spent = P store.Spent

-- A fault that depends on the headers only.
abbrev pub IsHeaderFault : StoreFault → Type 0
IsHeaderFault store.NotFormatted = Unit {0}
IsHeaderFault store.BadVersion = Unit {0}
IsHeaderFault _ = ⊥

-- A fault of the journal, or out of memory.
abbrev pub IsJournalFault : StoreFault → Type 0
IsJournalFault store.OutOfMemory = Unit {0}
IsJournalFault (store.Codec codec.BadField) = Unit {0}
IsJournalFault _ = ⊥

-- A fault of the headers, out of memory, or a failed call.
abbrev pub IsHeaderOrReadFault : StoreFault → Type 0
IsHeaderOrReadFault store.NotFormatted = Unit {0}
IsHeaderOrReadFault store.BadVersion = Unit {0}
IsHeaderOrReadFault store.DeviceFault = Unit {0}
IsHeaderOrReadFault store.OutOfMemory = Unit {0}
IsHeaderOrReadFault _ = ⊥

-- A fault of the snapshot or the journal, or out of memory.
abbrev pub IsContentFault : StoreFault → Type 0
IsContentFault store.OutOfMemory = Unit {0}
IsContentFault (store.Codec codec.BadField) = Unit {0}
IsContentFault (store.Codec codec.Truncated) = Unit {0}
IsContentFault (store.Codec (codec.PlanRefused rule)) = Unit {0}
IsContentFault _ = ⊥

-- A fault of reading a store.
abbrev pub IsLoadFault : StoreFault → Type 0
IsLoadFault store.NotFormatted = Unit {0}
IsLoadFault store.BadVersion = Unit {0}
IsLoadFault (store.Codec codec.BadField) = Unit {0}
IsLoadFault (store.Codec codec.Truncated) = Unit {0}
IsLoadFault (store.Codec (codec.PlanRefused rule)) = Unit {0}
IsLoadFault (store.Codec codec.OutOfMemory) = ⊥
IsLoadFault store.Spent = ⊥
IsLoadFault store.OutOfMemory = Unit {0}
IsLoadFault store.DeviceFault = Unit {0}

-- The codec's fault as a fault of the store.
abbrev pub store_fault_of : CodecFault → StoreFault
store_fault_of codec.Truncated = store.Codec codec.Truncated
store_fault_of codec.BadField = store.Codec codec.BadField
store_fault_of (codec.PlanRefused rule) = store.Codec (codec.PlanRefused rule)
store_fault_of codec.OutOfMemory = store.OutOfMemory
