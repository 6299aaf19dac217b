-- The count is the number of calls so far that write to the sector.
use Rattle.std.proofs.Common.{◌≡◌, ◌≤◌, length, map, take}
use Rattle.std.specs.List.{filter_map}
use Rattle.sector_disk.specs.Consistency.{call_of}
use Rattle.sector_disk.specs.Crash.{content_of}
use Rattle.sector_disk.proofs.mem_device.count_for.Given as goal

abbrev pub invariant-loop-call : goal.invariant-loop-call
invariant-loop-call l = (l.count ≤ l.call-index) × (l.count ≡ length (filter_map (content_of l.sector) (map call_of (take l.call-index l.calls))))
