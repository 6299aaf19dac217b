-- Each sector so far has its chosen content, and the others are unchanged.
use Rattle.std.proofs.Common.{◌≡◌, ◌≤◌, ◌<◌, ℕ, map}
use Rattle.std.specs.Prelude.{slice_index}
use Rattle.std.specs.List.{filter_map}
use Rattle.sector_disk.specs.Image.{sector}
use Rattle.sector_disk.specs.Consistency.{call_of}
use Rattle.sector_disk.specs.Crash.{content_of, chosen}
use Rattle.sector_disk.proofs.mem_device.choose.Given as goal

abbrev pub invariant-loop-i : goal.invariant-loop-i
invariant-loop-i l =
    ((i : ℕ) → i < l.i → sector i l.image ≡ chosen (sector i l.fn.image) (filter_map (content_of i) (map call_of l.unsynced)) (slice_index l.choices i))
    × ((i : ℕ) → l.i ≤ i → sector i l.image ≡ sector i l.fn.image)
