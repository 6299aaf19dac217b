-- The images that a crash may leave while a store is written, as bytes.
use Rattle.std.specs.Prelude.{◌≡◌, ◌⊎◌, ℕ, ◌+◌, ◌*◌, ◌%◌, ◌<◌, ◌≤◌, List, length, replicate}
use Rattle.sector_disk.specs.Image.{written}
use Rattle.sector_disk.specs.Sectors.{Reached}
use Rattle.checkpoint.specs.declared.headers.Header.{Header}
use Rattle.checkpoint.specs.Layouts.{version_2, journal_room, last_sequence, sectors_in}
use Rattle.checkpoint.specs.WrittenImages.{half_of, with_both}

-- A moment within a write of these bytes and its sync. m calls have finished in all; `calls` is their number
-- when the write began.
pub record IsInDurableWrite (first : ℕ) (bytes : List ℕ) (possible : List ℕ → Type 0) (seen : List ℕ) (calls m : ℕ) (image : List ℕ) : Type 0 where
  pub from : calls ≤ m
  pub to : m ≤ calls + 2
  pub reached : Reached first bytes possible image
  pub done : m ≡ calls + 2 → image ≡ written first bytes seen

-- A moment within the four calls that write a snapshot and its header. Until the sync of the header an image
-- may have only the snapshot, or a part of it. From the write of the header on it may have both, and after the
-- last sync it has both.
pub record IsInSnapshot (header : Header) (bytes : List ℕ) (possible : List ℕ → Type 0) (seen : List ℕ) (calls m : ℕ) (image : List ℕ) : Type 0 where
  pub from : calls ≤ m
  pub to : m ≤ calls + 4
  pub stage : ((m ≤ calls + 3) × Reached (half_of header) bytes possible image) ⊎ ((calls + 2 ≤ m) × (image ≡ with_both header bytes seen))
  pub done : m ≡ calls + 4 → image ≡ with_both header bytes seen

-- Whole sectors that fit into a half and whose first `size` bytes are a snapshot.
pub record IsSaved (size : ℕ) (bytes : List ℕ) : Type 0 where
  pub some : 1 ≤ size
  pub long : size ≤ length bytes
  pub whole : length bytes % 512 ≡ 0
  pub fits : length bytes ≤ 512 * version_2.half

-- A snapshot that can be written under this header, on a device with `sectors` sectors.
pub record IsSnapshotFor (sectors : ℕ) (header : Header) (bytes : List ℕ) : Type 0 where
  pub saved : IsSaved header.length bytes
  pub last : header.sequence ≤ last_sequence
  pub room : sectors_in version_2 ≤ sectors

-- A sector that can be written as the record after `used` records.
pub record IsRecordFor (sectors used : ℕ) (bytes : List ℕ) : Type 0 where
  pub free : used < journal_room
  pub one : length bytes ≡ 512
  pub room : sectors_in version_2 ≤ sectors

-- A list of n zeros.
pub record IsZeros (n : ℕ) (bytes : List ℕ) : Type 0 where
  pub are : bytes ≡ replicate n 0
  pub long : length bytes ≡ n
