-- Laws about the content of images.
use Rattle.std.specs.Prelude.{◌≡◌, ◌⊎◌, ℕ, ◌+◌, ◌*◌, ◌<◌, ◌≤◌, true, List, length, All}
use Rattle.sector_disk.specs.Image.{Mixes, written}
use Rattle.command_types.specs.declared.states.State.{State}
use Rattle.command_types.specs.declared.commands.Command.{Command}
use Rattle.state_codec.specs.declared.version.Version.{Version}
use Rattle.state_codec.specs.declared.version.Version.TheVariants.{Two}
use Rattle.state_codec.specs.Bytes.{record_bytes}
use Rattle.state_codec.specs.Limits.{IsRecorded}
use Rattle.checkpoint.specs.declared.integrity.IntegrityWarnings.{IntegrityWarnings}
use Rattle.checkpoint.specs.declared.headers.Header.{Header}
use Rattle.checkpoint.specs.declared.places.Place.{Place}
use Rattle.checkpoint.specs.declared.faults.StoreFault.{StoreFault}
use Rattle.checkpoint.specs.Integrity.{IsConsistentUnder, AreWarnings, has_none}
use Rattle.checkpoint.specs.Holds.{Holds, HoldsAt}
use Rattle.checkpoint.specs.InvalidImages.{HoldsNothing}
use Rattle.checkpoint.specs.Layouts.{journal_room, sectors_in, version_2}
use Rattle.checkpoint.specs.DurableWrites.{IsSaved}
use Rattle.checkpoint.specs.WrittenImages.{with_zeros, first_header, with_both, with_snapshot}

-- law: an image holds at most one state, one list of commands and one place
abbrev pub HoldAtMostOne : Type 0
HoldAtMostOne = (version : Version) (image : List ℕ) (state other : State) (commands others : List Command) (place elsewhere : Place)
    → Holds version image state commands place → Holds version image other others elsewhere → (state ≡ other) × (commands ≡ others) × (place ≡ elsewhere)

-- law: an image that holds something has no fault
abbrev pub NeverBoth : Type 0
NeverBoth = (version : Version) (image : List ℕ) (state : State) (commands : List Command) (place : Place) (fault : StoreFault)
    → Holds version image state commands place → HoldsNothing version image fault → ⊥

-- law: an image has at most one fault
abbrev pub HaveOneFault : Type 0
HaveOneFault = (version : Version) (image : List ℕ) (fault other : StoreFault) → HoldsNothing version image fault → HoldsNothing version image other → fault ≡ other

-- law: every image holds something or has a fault
abbrev pub HoldOrHaveAFault : Type 0
HoldOrHaveAFault = (version : Version) (image : List ℕ) → All (λ b. b < 256) image
    → ((state : State) × (commands : List Command) × (place : Place) × Holds version image state commands place) ⊎ ((fault : StoreFault) × HoldsNothing version image fault)

-- law: an image that is consistent under the sequence of a header has no integrity warning
abbrev pub ConsistentHasNoWarning : Type 0
ConsistentHasNoWarning = (image : List ℕ) (header : Header) (warnings : IntegrityWarnings) → IsConsistentUnder header.sequence image → AreWarnings image header warnings → has_none warnings ≡ true

-- law: the write of a record by a commit keeps an image consistent
abbrev pub RecordsKeepConsistency : Type 0
RecordsKeepConsistency = (image : List ℕ) (state : State) (commands : List Command) (place : Place) (command : Command) (bytes : List ℕ)
    → HoldsAt state commands place image → IsConsistentUnder place.sequence image
    → IsRecorded Two command → place.used < journal_room → length bytes ≡ 512 → bytes ≡ record_bytes Two place.sequence place.used command
    → IsConsistentUnder place.sequence (written (2 + place.used) bytes image)

-- law: the write of the next snapshot keeps an image consistent, whichever of its sectors a crash leaves
abbrev pub SnapshotsKeepConsistency : Type 0
SnapshotsKeepConsistency = (image mixture : List ℕ) (state : State) (commands : List Command) (place : Place) (header : Header) (bytes : List ℕ)
    → HoldsAt state commands place image → IsConsistentUnder place.sequence image
    → header.sequence ≡ place.sequence + 1 → IsSaved header.length bytes → Mixes image (with_snapshot header bytes image) mixture → IsConsistentUnder place.sequence mixture

-- law: the write of a snapshot's header under the next sequence keeps an image consistent
abbrev pub HeadersKeepConsistency : Type 0
HeadersKeepConsistency = (image : List ℕ) (state : State) (commands : List Command) (place : Place) (header : Header) (bytes : List ℕ)
    → HoldsAt state commands place image → IsConsistentUnder place.sequence image
    → header.sequence ≡ place.sequence + 1 → IsSaved header.length bytes → IsConsistentUnder header.sequence (with_both header bytes image)

-- law: a new store is consistent
abbrev pub FormatsAreConsistent : Type 0
FormatsAreConsistent = (image : List ℕ) (size : ℕ) (bytes : List ℕ) → 512 * sectors_in version_2 ≤ length image → IsSaved size bytes → IsConsistentUnder 1 (with_both (first_header size) bytes (with_zeros image))
