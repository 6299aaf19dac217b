-- The calls up to the last sync so far leave one possible image, and all calls after it are writes.
use Rattle.std.proofs.Common.{◌≤◌, map, take, drop, IsTrue}
use Rattle.std.specs.List.{list_all}
use Rattle.sector_disk.specs.Consistency.{call_of}
use Rattle.sector_disk.specs.Crash.{is_write, IsSettledBy}
use Rattle.sector_disk.proofs.mem_device.synced_calls.Given as goal

abbrev pub invariant-loop-i : goal.invariant-loop-i
invariant-loop-i l = (l.synced ≤ l.i)
    × IsSettledBy (map call_of (take l.synced l.calls))
    × IsTrue (list_all is_write (map call_of (drop l.synced (take l.i l.calls))))
