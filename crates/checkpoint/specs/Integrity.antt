-- Signs of damage in an image with a current header. No commit leaves them, even with a crash within it.
use Rattle.std.specs.Prelude.{◌≡◌, ◌≢◌, ◌⊎◌, ◌↔◌, ℕ, ◌+◌, ◌-◌, ◌%◌, ◌<◌, ◌≤◌, Bool, true, false, not, ◌||◌, ◌==◌, List, Option, IsTrue}
use Rattle.std.specs.List.{list_all}
use Rattle.sector_disk.specs.Image.{sector}
use Rattle.command_types.specs.declared.commands.Command.{Command}
use Rattle.state_codec.specs.declared.version.Version.TheVariants.{Two}
use Rattle.state_codec.specs.Bytes.{record_bytes}
use Rattle.state_codec.specs.Limits.{IsRecorded}
use Rattle.checkpoint.specs.declared.headers.Header.{Header}
use Rattle.checkpoint.specs.declared.integrity.IntegrityWarning.{IntegrityWarning}
use Rattle.checkpoint.specs.declared.integrity.IntegrityWarning.TheVariants.{HeaderLost, HeadersApart, RecordDamaged, RecordsMixed}
use Rattle.checkpoint.specs.declared.integrity.IntegrityWarnings.{IntegrityWarnings}
use Rattle.checkpoint.specs.Layouts.{version_2, journal_room}
use Rattle.checkpoint.specs.Stores.{IsValid, IsCurrentHeader, leading_number}
use Rattle.checkpoint.specs.Reads.{IsOfParity}

-- A sector of zeros, as a format leaves it.
abbrev pub is_blank : List ℕ → Bool
is_blank bytes = list_all (λ b. b == 0) bytes

-- The valid header in the header sector that `header` is not in, if there is one.
abbrev pub IsOther : List ℕ → Header → Option Header → Type 0
IsOther image header other = IsOfParity version_2 image (1 - header.sequence % 2) other

-- The other header sector has no valid header, and the store is not new. (In a new store the other header
-- sector is blank.)
pub record IsHeaderLost (image : List ℕ) (header : Header) : Type 0 where
  pub alone : (other : Header) → IsValid version_2 image other → other.sequence % 2 ≡ header.sequence % 2
  pub old : header.sequence ≡ 1 → is_blank (sector 0 image) ≡ false

-- The other header sector has a valid header, but its sequence is not one less than that of `header`.
pub record AreHeadersApart (image : List ℕ) (header : Header) : Type 0 where
  pub other : Header
  pub valid : IsValid version_2 image other
  pub beside : other.sequence % 2 ≢ header.sequence % 2
  pub apart : other.sequence + 1 ≢ header.sequence

-- A sector is a record with this index; the sequence is that in its first bytes.
abbrev pub IsRecordAt : ℕ → List ℕ → Type 0
IsRecordAt index bytes = (command : Command) × IsRecorded Two command × (bytes ≡ record_bytes Two (leading_number bytes) index command)

-- Some record sector is neither blank nor a record at its place.
pub record HasDamagedRecord (image : List ℕ) : Type 0 where
  pub index : ℕ
  pub inside : index < journal_room
  pub padded : is_blank (sector (2 + index) image) ≡ false
  pub other : ¬ IsRecordAt index (sector (2 + index) image)

-- Some record sector begins with a greater sequence than the one before it.
pub record AreRecordsMixed (image : List ℕ) : Type 0 where
  pub index : ℕ
  pub inside : 1 + index < journal_room
  pub newer : leading_number (sector (2 + index) image) < leading_number (sector (3 + index) image)

-- The integrity warnings of an image with this header.
pub record AreWarnings (image : List ℕ) (header : Header) (warnings : IntegrityWarnings) : Type 0 where
  pub lost : IsTrue warnings.header_lost ↔ IsHeaderLost image header
  pub apart : IsTrue warnings.headers_apart ↔ AreHeadersApart image header
  pub damaged : IsTrue warnings.record_damaged ↔ HasDamagedRecord image
  pub mixed : IsTrue warnings.records_mixed ↔ AreRecordsMixed image

-- The integrity warnings of an image with its current header.
pub record AreWarningsOf (image : List ℕ) (warnings : IntegrityWarnings) : Type 0 where
  pub header : Header
  pub counts : IsCurrentHeader version_2 image header
  pub are : AreWarnings image header warnings

-- There is no warning.
abbrev pub has_none : IntegrityWarnings → Bool
has_none warnings = not (warnings.header_lost || warnings.headers_apart || warnings.record_damaged || warnings.records_mixed)

-- The warning is one of these.
abbrev pub has_warning : IntegrityWarnings → IntegrityWarning → Bool
has_warning warnings HeaderLost = warnings.header_lost
has_warning warnings HeadersApart = warnings.headers_apart
has_warning warnings RecordDamaged = warnings.record_damaged
has_warning warnings RecordsMixed = warnings.records_mixed

-- The image is consistent under this sequence. The other header has the sequence before this one, or this one
-- is the first and the other header sector is blank. Each record sector is blank or a record at its place, and
-- none begins with a greater sequence than the one before it.
pub record IsConsistentUnder (sequence : ℕ) (image : List ℕ) : Type 0 where
  pub headers : ((other : Header) × IsValid version_2 image other × (other.sequence + 1 ≡ sequence)) ⊎ ((sequence ≡ 1) × (is_blank (sector 0 image) ≡ true))
  pub records : (i : ℕ) → i < journal_room → (is_blank (sector (2 + i) image) ≡ true) ⊎ IsRecordAt i (sector (2 + i) image)
  pub order : (i : ℕ) → 1 + i < journal_room → leading_number (sector (3 + i) image) ≤ leading_number (sector (2 + i) image)
