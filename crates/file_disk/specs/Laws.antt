-- The laws of the record of a file.
use Rattle.std.specs.Prelude.{◌≡◌, ◌↔◌, ℕ, ◌*◌, List, IsTrue}
use Rattle.sector_disk.specs.Model.{Disk, settled, IsImage}
use Rattle.sector_disk.specs.History.{seen_in, MayLeaveIn}
use Rattle.sector_disk.specs.Memory.{Memory, len_of, seen_of, MayLeave}
use Rattle.file_disk.specs.FileRecord.{Entry, file_history, AnswersAsModel, all_inside, ReadsAreConsistent, calls_in}

-- A file is honest if its reads return what the model's device has and do not change after a failed call.
abbrev pub StaysHonest : Type 0
StaysHonest =
    (n : ℕ) (start : Disk) (shown : ℕ → List ℕ) (entries : List Entry) → IsImage n start start.seen → IsTrue (all_inside (512 * n) entries)
    → ReadsAreConsistent start shown entries → AnswersAsModel n start shown entries

-- After the same writes and syncs, a file that stays honest and a device in memory are equal: reads return the
-- same bytes, and a crash may leave the same images.
abbrev pub BehavesAsInMemory : Type 0
BehavesAsInMemory = (m : Memory) (shown : ℕ → List ℕ) (entries : List Entry) → calls_in entries ≡ m.history → ReadsAreConsistent (settled m.start) shown entries
    → (let file = file_history (len_of m) (settled m.start) shown entries m.calls in (seen_in file ≡ seen_of m)
    × ((image : List ℕ) → MayLeaveIn file image ↔ MayLeave m image))
