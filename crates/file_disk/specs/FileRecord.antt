-- The record of a file's calls and answers, compared with a device of the model.
use Rattle.std.specs.Prelude.{◌≡◌, ℕ, ◌*◌, ◌/◌, Bool, true, List, [], ◌∷◌, ◌++◌, length, take, drop}
use Rattle.std.specs.List.{list_all}
use Rattle.sector_disk.specs.Model.{Disk, Event, Sync, Show, run, IsImage, sectors_from}
use Rattle.sector_disk.specs.History.{History}
use Rattle.sector_disk.specs.Memory.{Call, Wrote, Tore, Synced, events_of, is_run}

-- The result of a read from this sector on, of a write or of a sync.
pub data Answer : Type 0 where
  ReadGave : ℕ → Answer
  ReadFailed : Answer
  WriteFinished : ℕ → Answer
  WriteFailed : ℕ → Answer
  SyncFinished : Answer
  SyncFailed : Answer

-- An answer with the bytes that were read or written.
abbrev pub Entry : Type 0
Entry = Answer × List ℕ

-- The effect of a call on the device of the model. After a failed write or sync, reads return the image
-- `shown`.
abbrev pub events_after : List ℕ → Answer → List ℕ → List Event
events_after shown (ReadGave first) bytes = []
events_after shown ReadFailed bytes = []
events_after shown (WriteFinished first) bytes = events_of (Wrote first bytes)
events_after shown (WriteFailed first) bytes = sectors_from first bytes (length bytes / 512) ++ Show shown ∷ []
events_after shown SyncFinished bytes = Sync ∷ []
events_after shown SyncFailed bytes = Show shown ∷ []

-- The events of a record, whose newest entry comes first. `shown n` is what reads return after a failed write
-- or sync that has n earlier entries.
abbrev pub events_in : (ℕ → List ℕ) → List Entry → List Event
events_in shown [] = []
events_in shown (entry ∷ earlier) = events_in shown earlier ++ events_after (shown (length earlier)) entry.0 entry.1

-- The history of a file of n sectors. When it was opened, its disk was `start`, and `shown` says what reads
-- return after failed calls.
abbrev pub file_history : ℕ → Disk → (ℕ → List ℕ) → List Entry → ℕ → History
file_history n start shown entries calls = record { sectors = n; start = start; events = events_in shown entries; calls = calls }

-- The device of the model may give this answer: a read returns the bytes of the image, and after a failed write
-- or sync reads return one of the possible images.
abbrev pub Agrees : ℕ → Disk → List ℕ → Answer → List ℕ → Type 0
Agrees n disk shown (ReadGave first) bytes = bytes ≡ take (length bytes) (drop (512 * first) disk.seen)
Agrees n disk shown ReadFailed bytes = Unit {0}
Agrees n disk shown (WriteFinished first) bytes = Unit {0}
Agrees n disk shown (WriteFailed first) bytes = IsImage n (run disk (sectors_from first bytes (length bytes / 512))) shown
Agrees n disk shown SyncFinished bytes = Unit {0}
Agrees n disk shown SyncFailed bytes = IsImage n disk shown

-- A file has answered as the device of the model in all calls so far. When it was opened, its disk was `start`,
-- and the image that reads returned was possible.
abbrev pub AnswersAsModel : ℕ → Disk → (ℕ → List ℕ) → List Entry → Type 0
AnswersAsModel n start shown [] = IsImage n start start.seen
AnswersAsModel n start shown (entry ∷ earlier) =
    AnswersAsModel n start shown earlier × Agrees n (run start (events_in shown earlier)) (shown (length earlier)) entry.0 entry.1

-- A write, finished or not, was a run of whole sectors inside a device of this many bytes.
abbrev pub is_inside : ℕ → Answer → List ℕ → Bool
is_inside size (ReadGave first) bytes = true
is_inside size ReadFailed bytes = true
is_inside size (WriteFinished first) bytes = is_run size first (length bytes)
is_inside size (WriteFailed first) bytes = is_run size first (length bytes)
is_inside size SyncFinished bytes = true
is_inside size SyncFailed bytes = true

abbrev pub all_inside : ℕ → List Entry → Bool
all_inside size entries = list_all (λ entry. is_inside size entry.0 entry.1) entries

-- A read returns what the model's device has, and a failed write or sync does not change what reads return.
abbrev pub ReadIsConsistent : Disk → List ℕ → Answer → List ℕ → Type 0
ReadIsConsistent disk shown (ReadGave first) bytes = bytes ≡ take (length bytes) (drop (512 * first) disk.seen)
ReadIsConsistent disk shown ReadFailed bytes = Unit {0}
ReadIsConsistent disk shown (WriteFinished first) bytes = Unit {0}
ReadIsConsistent disk shown (WriteFailed first) bytes = shown ≡ disk.seen
ReadIsConsistent disk shown SyncFinished bytes = Unit {0}
ReadIsConsistent disk shown SyncFailed bytes = shown ≡ disk.seen

-- The call as an entry in the history of a device in memory.
abbrev pub calls_of : Answer → List ℕ → List Call
calls_of (ReadGave first) bytes = []
calls_of ReadFailed bytes = []
calls_of (WriteFinished first) bytes = Wrote first bytes ∷ []
calls_of (WriteFailed first) bytes = Tore first bytes ∷ []
calls_of SyncFinished bytes = Synced ∷ []
calls_of SyncFailed bytes = []

-- Reads return what the model's device has, and a failed write or sync does not change what they return.
abbrev pub ReadsAreConsistent : Disk → (ℕ → List ℕ) → List Entry → Type 0
ReadsAreConsistent start shown [] = Unit {0}
ReadsAreConsistent start shown (entry ∷ earlier) =
    ReadsAreConsistent start shown earlier × ReadIsConsistent (run start (events_in shown earlier)) (shown (length earlier)) entry.0 entry.1

-- The writes and syncs of a record as the history of a device in memory, the oldest first.
abbrev pub calls_in : List Entry → List Call
calls_in [] = []
calls_in (entry ∷ earlier) = calls_in earlier ++ calls_of entry.0 entry.1
