-- The laws of the model.
use Rattle.std.specs.Prelude.{◌≡◌, ◌↔◌, ℕ, ◌+◌, ◌*◌, ◌%◌, ◌^◌, ◌<◌, ◌≤◌, List, length, take, slice_index, All}
use Rattle.sector_disk.specs.Model.{Disk, Sync, next, run, IsImage, sectors_from}
use Rattle.sector_disk.specs.Sectors.{Reached}
use Rattle.sector_disk.specs.Memory.{Memory, len_of, disk_of, MayLeave, TakesChoices}

-- After a successful sync, if no write follows, there is one image: the one that reads return.
abbrev pub HasOneImage : Type 0
HasOneImage = (n : ℕ) (disk : Disk) (image : List ℕ) → length disk.seen ≡ 512 * n → IsImage n (next disk Sync) image ↔ (image ≡ (next disk Sync).seen)

-- A crash within a write of which j sectors have been written: each of these has its old content or the new
-- one, independently of the others, and every such image is possible.
abbrev pub HasOldOrNew : Type 0
HasOldOrNew =
    (n first j : ℕ) (disk : Disk) (bytes image : List ℕ) → length bytes % 512 ≡ 0 → 512 * first + length bytes ≤ 512 * n → 512 * j ≤ length bytes
    → IsImage n disk disk.seen
    → IsImage n (run disk (sectors_from first bytes j)) image ↔ Reached first (take (512 * j) bytes) (IsImage n disk) image

-- Every image that a crash may leave is left by a crash with some list of choices, each a 32-bit number. (A
-- sector has more contents than 32 bits can number only after that many writes without a sync.)
abbrev pub HasChoices : Type 0
HasChoices = (m : Memory) (image : List ℕ) → ((i : ℕ) → i < len_of m → length ((disk_of m).contents i) ≤ 2 ^ 32) → MayLeave m image
    → (choices : List ℕ) × All (λ choice. choice < 2 ^ 32) choices × TakesChoices (len_of m) (disk_of m) (λ i. slice_index choices i) image
