-- The effect of reading on a device, and the prefix of an image: its headers and records.
use Rattle.std.specs.Prelude.{◌≡◌, ◌≢◌, ℕ, ◌+◌, ◌*◌, ◌%◌, ◌<◌, ◌≤◌, List, Option, Some, None, length, take, All}
use Rattle.sector_disk.specs.Image.{sector}
use Rattle.sector_disk.specs.declared.sectors.Sectors as sectors
use Rattle.sector_disk.specs.Sectors.{SameImages, Throughout, same_count}
use Rattle.sector_disk.specs.Calls.{Calls}
use Rattle.command_types.specs.States.{IsState}
use Rattle.command_types.specs.declared.states.State.{State}
use Rattle.command_types.specs.declared.commands.Command.{Command}
use Rattle.state_codec.specs.declared.version.Version.{Version}
use Rattle.state_codec.specs.Bytes.{record_bytes}
use Rattle.state_codec.specs.Limits.{IsRecorded}
use Rattle.checkpoint.specs.declared.layouts.Layout.{Layout}
use Rattle.checkpoint.specs.declared.headers.Header.{Header}
use Rattle.checkpoint.specs.declared.places.Place.{Place}
use Rattle.checkpoint.specs.Layouts.{journal_room, prefix_sectors, last_sequence, sectors_in}
use Rattle.checkpoint.specs.Stores.{IsValid, IsCurrentHeader, snapshot_in, record_sectors, leading_number}
use Rattle.checkpoint.specs.Holds.{layout_of, journal}

-- A device that was only read: reads return the same, and the possible images are the same at each moment.
pub record IsUnchanged {D : Type 0} (clock : D → ℕ) (since : D → ℕ → ℕ → List ℕ → Type 0) (possible : D → List ℕ → Type 0) (seen : D → List ℕ) (calls : D → ℕ) (old new : D) : Type 0 where
  pub reads : seen new ≡ seen old
  pub images : SameImages (possible old) (possible new)
  pub moments : Throughout clock since old new (λ m image. (m ≡ calls old) × possible old image)

module _ {D : Type 0} (on : sectors.Ghosts D) where
  -- The device was only read. `faults_then` maps the number of failed calls before the read to the number after
  -- it.
  pub record ReadsOnly (faults_then : ℕ → ℕ) (old new : D) : Type 0 where
    pub called : Calls on same_count faults_then old new
    pub kept : on.honest new → IsUnchanged on.clock on.possible_since on.possible on.seen on.calls old new

-- The guarantees of a load for any device, whether or not it answers as the model says. The device has at least
-- `least` sectors, the place is valid, and the state keeps its invariants.
pub record IsWellFormedLoad (least sectors : ℕ) (state : State) (place : Place) : Type 0 where
  pub room : least ≤ sectors
  pub first : 1 ≤ place.sequence
  pub last : place.sequence ≤ last_sequence
  pub used : place.used ≤ journal_room
  pub facts : IsState state

-- The headers and the records of an image with `sectors` sectors.
pub record IsImagePrefix (sectors : ℕ) (prefix image : List ℕ) : Type 0 where
  pub size : length image ≡ 512 * sectors
  pub room : prefix_sectors ≤ sectors
  pub is : take (512 * prefix_sectors) image ≡ prefix

-- The header's snapshot fits into a half, and the layout fits on a device with `sectors` sectors.
pub record FitsLayout (layout : Layout) (sectors : ℕ) (header : Header) : Type 0 where
  pub room : sectors_in layout ≤ sectors
  pub first : 1 ≤ header.sequence
  pub last : header.sequence ≤ last_sequence
  pub some : 1 ≤ header.length
  pub fits : header.length ≤ 512 * layout.half

-- The prefix of a device with `sectors` sectors, and a header that fits there.
pub record IsPrefixAndHeader (layout : Layout) (sectors : ℕ) (prefix : List ℕ) (header : Header) : Type 0 where
  pub long : length prefix ≡ 512 * prefix_sectors
  pub fits : FitsLayout layout sectors header

-- A header that is allowed in this sector of a device with `sectors` sectors.
pub record IsAllowed (layout : Layout) (sectors : ℕ) (header : Header) (index : ℕ) : Type 0 where
  pub room : sectors_in layout ≤ sectors
  pub parity : header.sequence % 2 ≡ index
  pub first : 1 ≤ header.sequence
  pub last : header.sequence ≤ last_sequence
  pub some : 1 ≤ header.length
  pub fits : header.length ≤ 512 * layout.half

-- The valid header in the header sector with this index, if there is one.
abbrev pub IsOfParity : Layout → List ℕ → ℕ → Option Header → Type 0
IsOfParity layout image index None = (header : Header) → header.sequence % 2 ≡ index → ¬ IsValid layout image header
IsOfParity layout image index (Some header) = (header.sequence % 2 ≡ index) × IsValid layout image header

-- The first records of a sequence are those of these commands.
pub record HasLeadingRecords (version : Version) (image : List ℕ) (sequence : ℕ) (commands : List Command) : Type 0 where
  pub records : record_sectors 0 (length commands) image ≡ journal version sequence 0 commands
  pub recorded : All (IsRecorded version) commands

-- The records of a sequence are those of these commands, and the sector after them is not a record of this
-- sequence.
pub record HasRecords (version : Version) (image : List ℕ) (sequence : ℕ) (commands : List Command) : Type 0 where
  pub led : HasLeadingRecords version image sequence commands
  pub count : length commands ≤ journal_room
  pub ends : length commands < journal_room → (command : Command) → IsRecorded version command → sector (2 + length commands) image ≢ record_bytes version sequence (length commands) command

-- From this index on no record sector begins with this sequence or a greater one.
abbrev pub IsClearFrom : ℕ → List ℕ → ℕ → Type 0
IsClearFrom used image sequence = (i : ℕ) → used ≤ i → i < journal_room → leading_number (sector (2 + i) image) < sequence

-- From this index on some record sector begins with this sequence or a greater one.
abbrev pub HasStrayFrom : ℕ → List ℕ → ℕ → Type 0
HasStrayFrom used image sequence = (i : ℕ) × (used ≤ i) × (i < journal_room) × (sequence ≤ leading_number (sector (2 + i) image))

-- The parts of an image from which a store is read: the current header, the prefix and the snapshot's bytes.
pub record HasParts (version : Version) (sectors : ℕ) (image : List ℕ) (header : Header) (prefix bytes : List ℕ) : Type 0 where
  pub whole : IsImagePrefix sectors prefix image
  pub counts : IsCurrentHeader (layout_of version) image header
  pub snapshot : bytes ≡ snapshot_in (layout_of version) image header.sequence header.length
