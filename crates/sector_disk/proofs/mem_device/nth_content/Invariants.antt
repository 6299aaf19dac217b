-- The content with the wanted number is among the contents that the remaining calls write, after those that are
-- still to be skipped.
use Rattle.std.proofs.Common.{◌≡◌, map, drop}
use Rattle.std.specs.Prelude.{slice_get}
use Rattle.std.specs.List.{filter_map}
use Rattle.sector_disk.specs.Consistency.{call_of}
use Rattle.sector_disk.specs.Crash.{content_of}
use Rattle.sector_disk.proofs.mem_device.nth_content.Given as goal

abbrev pub invariant-loop-call : goal.invariant-loop-call
invariant-loop-call l =
    slice_get (filter_map (content_of l.sector) (map call_of (drop l.call-index l.calls))) l.left
    ≡ slice_get (filter_map (content_of l.sector) (map call_of l.calls)) l.number
