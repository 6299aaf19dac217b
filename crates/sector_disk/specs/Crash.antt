-- The writes and syncs of a device in memory, as a crash reads them.
use Rattle.std.specs.Prelude.{◌≡◌, ℕ, ◌-◌, ◌/◌, ◌%◌, Bool, true, false, ◌&&◌, nat_lt, nat_le, List, [], ◌∷◌, length, Option, Some, None, if◌then◌else◌, slice_index_or}
use Rattle.std.specs.List.{flat_map}
use Rattle.sector_disk.specs.Image.{sector}
use Rattle.sector_disk.specs.Model.{settled, run}
use Rattle.sector_disk.specs.Memory.{Call, Wrote, Tore, Synced, events_of}

-- The part of a write from sector `first` on that goes to sector i.
abbrev pub part_of : ℕ → List ℕ → ℕ → Option (List ℕ)
part_of first bytes i = if nat_le first i && nat_lt (i - first) (length bytes / 512) then Some (sector (i - first) bytes) else None

-- The content that a call writes to sector i.
abbrev pub content_of : ℕ → Call → Option (List ℕ)
content_of i (Wrote first bytes) = part_of first bytes i
content_of i (Tore first bytes) = part_of first bytes i
content_of i Synced = None

abbrev pub is_write : Call → Bool
is_write (Wrote first bytes) = true
is_write (Tore first bytes) = true
is_write Synced = false

-- The content that a crash chooses by the number `choice`, modulo how many contents there are. Number 0 is the
-- synced content, and those written since follow.
abbrev pub chosen : List ℕ → List (List ℕ) → ℕ → List ℕ
chosen synced since choice = slice_index_or (synced ∷ since) (choice % length (synced ∷ since)) []

-- After these calls a device has one image, from any initial image: there are no calls, or the last one is a
-- sync.
abbrev pub IsSettledBy : List Call → Type 0
IsSettledBy calls = (start : List ℕ) → run (settled start) (flat_map events_of calls) ≡ settled (run (settled start) (flat_map events_of calls)).seen
