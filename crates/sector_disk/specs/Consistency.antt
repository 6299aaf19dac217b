-- The invariant of a device in memory.
use Rattle.std.specs.Prelude.{◌≡◌, ℕ, ◌%◌, List, length, map, IsTrue}
use Rattle.std.specs.List.{flat_map}
use Rattle.sector_disk.specs.declared.mem_device.Call.{Call as Kept}
use Rattle.sector_disk.specs.declared.mem_device.Call.TheVariants.{Write, Torn, Sync}
use Rattle.sector_disk.specs.Model.{settled, run}
use Rattle.sector_disk.specs.Memory.{Call, Wrote, Tore, Synced, events_of, all_fit}

-- The call that an entry of the history stands for.
abbrev pub call_of : Kept → Call
call_of (Write first bytes) = Wrote first bytes.items
call_of (Torn first bytes) = Tore first bytes.items
call_of Sync = Synced

-- The initial image consists of whole sectors, each write lies inside it, and `now` is the image that reads
-- return.
pub record IsConsistent (start now : List ℕ) (kept : List Kept) : Type 0 where
  pub whole : length start % 512 ≡ 0
  pub fit : IsTrue (all_fit (length start) (map call_of kept))
  pub reads : now ≡ (run (settled start) (flat_map events_of (map call_of kept))).seen
