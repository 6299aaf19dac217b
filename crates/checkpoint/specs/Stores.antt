-- The bytes that an image stores: a sequence, a snapshot, and records.
use Rattle.std.specs.Prelude.{◌≡◌, ◌⊎◌, ℕ, zero, suc, ◌+◌, ◌*◌, ◌%◌, ◌<◌, ◌≤◌, List, [], ◌∷◌, length, take, drop}
use Rattle.byteorder.specs.Endian.{big_number}
use Rattle.sector_disk.specs.Image.{sector}
use Rattle.checkpoint.specs.declared.layouts.Layout.{Layout}
use Rattle.checkpoint.specs.declared.headers.Header.{Header}
use Rattle.checkpoint.specs.Layouts.{version_2, journal_room, last_sequence, min_sectors, sectors_in, half_at}
use Rattle.checkpoint.specs.Headers.{header_bytes, HasOtherVersion}

-- This header is valid: it is in the header sector for its sequence, and the image has room for the whole
-- layout.
pub record IsValid (layout : Layout) (image : List ℕ) (header : Header) : Type 0 where
  pub room : 512 * sectors_in layout ≤ length image
  pub bytes : sector (header.sequence % 2) image ≡ header_bytes layout.version header
  pub first : 1 ≤ header.sequence
  pub last : header.sequence ≤ last_sequence
  pub some : 1 ≤ header.length
  pub fits : header.length ≤ 512 * layout.half

-- The valid header with the greatest sequence.
pub record IsCurrentHeader (layout : Layout) (image : List ℕ) (header : Header) : Type 0 where
  pub valid : IsValid layout image header
  pub greatest : (other : Header) → IsValid layout image other → other.sequence ≤ header.sequence

-- A header sector has the magic and another version, on a device with at least the sectors of the smallest
-- store.
pub record IsOfOtherVersion (layout : Layout) (image : List ℕ) : Type 0 where
  pub room : 512 * min_sectors ≤ length image
  pub other : HasOtherVersion layout.version (sector 0 image) ⊎ HasOtherVersion layout.version (sector 1 image)

-- No header is valid, and none has another version.
pub record IsUnformatted (layout : Layout) (image : List ℕ) : Type 0 where
  pub none : (header : Header) → ¬ IsValid layout image header
  pub no_other : ¬ IsOfOtherVersion layout image

-- The given number of bytes from the start of the half for a sequence.
abbrev pub snapshot_in : Layout → List ℕ → ℕ → ℕ → List ℕ
snapshot_in layout image sequence bytes = take bytes (drop (512 * half_at layout sequence) image)

-- The n record sectors from index i on.
abbrev pub record_sectors : ℕ → ℕ → List ℕ → List (List ℕ)
record_sectors i zero image = []
record_sectors i (suc n) image = sector (2 + i) image ∷ record_sectors (suc i) n image

-- The number in the first eight bytes of a sector.
abbrev pub leading_number : List ℕ → ℕ
leading_number bytes = big_number 8 bytes

-- The current header has this sequence and the length of this snapshot, which is in the half for the sequence.
-- The first records of this sequence are the given ones, and no sector after them begins with this sequence or
-- a greater one.
pub record Stores (layout : Layout) (image : List ℕ) (sequence : ℕ) (state : List ℕ) (journal : List (List ℕ)) : Type 0 where
  pub header : IsCurrentHeader layout image (record { sequence = sequence; length = length state })
  pub snapshot : snapshot_in layout image sequence (length state) ≡ state
  pub count : length journal ≤ journal_room
  pub records : record_sectors 0 (length journal) image ≡ journal
  pub marked : (i : ℕ) → i < length journal → leading_number (sector (2 + i) image) ≡ sequence
  pub rest : (i : ℕ) → length journal ≤ i → i < journal_room → leading_number (sector (2 + i) image) < sequence

-- An image stores this sequence, snapshot and journal in the layout of the current version.
abbrev pub HasStored : ℕ → List ℕ → List (List ℕ) → List ℕ → Type 0
HasStored sequence state journal image = Stores version_2 image sequence state journal
