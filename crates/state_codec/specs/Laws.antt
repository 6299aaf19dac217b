-- Laws of encodings and of the answers of a decoder
use Rattle.std.specs.Prelude.{◌≡◌, ◌≢◌, ◌⊎◌, All, ℕ, ◌<◌, ◌^◌, List, ◌∷◌, ◌++◌, Result, Ok, Err}
use Rattle.command_types.specs.States.{IsState}
use Rattle.command_types.specs.declared.states.State.{State}
use Rattle.command_types.specs.declared.commands.Command.{Command}
use Rattle.state_codec.specs.declared.version.Version.{Version}
use Rattle.state_codec.specs.declared.fault.CodecFault.{CodecFault}
use Rattle.state_codec.specs.declared.fault.CodecFault.TheVariants.{Truncated, BadField, PlanRefused, OutOfMemory}
use Rattle.state_codec.specs.Bytes.{state_bytes, record_bytes}
use Rattle.state_codec.specs.Limits.{IsStateOf, IsRecorded}
use Rattle.state_codec.specs.DecodeResults.{Decodes}

-- Law: two states that satisfy their invariants and have the same bytes are equal
abbrev pub StateEncodingIsInjective : Type 0
StateEncodingIsInjective = (v : Version) (s t : State) → IsState s → IsState t → IsStateOf v s → IsStateOf v t → state_bytes v s ≡ state_bytes v t → s ≡ t

-- Law: two records with the same bytes have the same sequence, index and command
abbrev pub RecordEncodingIsInjective : Type 0
RecordEncodingIsInjective = (v : Version) (p q i k : ℕ) (c d : Command) → p < 2 ^ 64 → q < 2 ^ 64 → i < 2 ^ 32 → k < 2 ^ 32 → IsRecorded v c → IsRecorded v d
    → record_bytes v p i c ≡ record_bytes v q k d → (p ≡ q) × (i ≡ k) × (c ≡ d)

-- Law: the bytes of a state that satisfies its invariants have no fault
abbrev pub StatesHaveNoFault : Type 0
StatesHaveNoFault = (v : Version) (s : State) (fault : CodecFault) → IsState s → IsStateOf v s → Decodes v (state_bytes v s) (Err fault) → fault ≡ OutOfMemory

-- Law: bytes have at most one fault
abbrev pub FaultsAreOne : Type 0
FaultsAreOne = (v : Version) (bytes : List ℕ) (e f : CodecFault) → e ≢ OutOfMemory → f ≢ OutOfMemory → Decodes v bytes (Err e) → Decodes v bytes (Err f) → e ≡ f

-- Law: bytes are those of a state that satisfies its invariants, or have a fault
abbrev pub BytesAreDecided : Type 0
BytesAreDecided = (v : Version) (bytes : List ℕ) → All (λ b. b < 256) bytes
    → ((s : State) × IsState s × IsStateOf v s × (bytes ≡ state_bytes v s)) ⊎ ((fault : CodecFault) × (fault ≢ OutOfMemory) × Decodes v bytes (Err fault))

-- Law: a sector is the record of a command, or of none
abbrev pub RecordsAreDecided : Type 0
RecordsAreDecided = (v : Version) (sector : List ℕ) (sequence index : ℕ)
    → ((c : Command) × IsRecorded v c × (sector ≡ record_bytes v sequence index c)) ⊎ ((c : Command) → IsRecorded v c → sector ≢ record_bytes v sequence index c)

-- An answer for bytes that were read to their end: a state that satisfies its invariants, or a broken rule
abbrev pub IsWholeResult : Result State CodecFault → Type 0
IsWholeResult (Ok s) = IsState s
IsWholeResult (Err (PlanRefused rule)) = Unit {0}
IsWholeResult (Err Truncated) = ⊥
IsWholeResult (Err BadField) = ⊥
IsWholeResult (Err OutOfMemory) = ⊥

-- Law: a bad field stays one, whatever follows
abbrev pub BadFieldsPersist : Type 0
BadFieldsPersist = (v : Version) (bytes more : List ℕ) → Decodes v bytes (Err BadField) → Decodes v (bytes ++ more) (Err BadField)

-- Law: if bytes were read to their end, any byte after them is a bad field
abbrev pub ExtraBytesAreBad : Type 0
ExtraBytesAreBad = (v : Version) (bytes : List ℕ) (b : ℕ) (more : List ℕ) (r : Result State CodecFault) → IsWholeResult r → Decodes v bytes r → Decodes v (bytes ++ b ∷ more) (Err BadField)

-- Law: a proper prefix of bytes that can be read to their end is truncated
abbrev pub PrefixesAreTruncated : Type 0
PrefixesAreTruncated = (v : Version) (prefix : List ℕ) (b : ℕ) (rest : List ℕ) (r : Result State CodecFault) → IsWholeResult r → Decodes v (prefix ++ b ∷ rest) r → Decodes v prefix (Err Truncated)
