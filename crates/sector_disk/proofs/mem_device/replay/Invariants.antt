-- The image is what reads return after the calls so far.
use Rattle.std.proofs.Common.{◌≡◌, map, take}
use Rattle.std.specs.List.{flat_map}
use Rattle.sector_disk.specs.Model.{settled, run}
use Rattle.sector_disk.specs.Memory.{events_of}
use Rattle.sector_disk.specs.Consistency.{call_of}
use Rattle.sector_disk.proofs.mem_device.replay.Given as goal

abbrev pub invariant-loop-call : goal.invariant-loop-call
invariant-loop-call l = l.image ≡ (run (settled l.fn.image) (flat_map events_of (map call_of (take l.call-index l.calls)))).seen
