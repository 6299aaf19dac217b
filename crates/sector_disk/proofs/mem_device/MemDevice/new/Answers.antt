-- A crash of a new device leaves one image: the one that reads return.
use Rattle.std.proofs.Common.{map, ap, rules}
use Rattle.sector_disk.specs.Consistency.{call_of}
use Rattle.sector_disk.proofs.Contents.{only_start}
use Rattle.sector_disk.proofs.mem_device.MemDevice.new.Goals as goal

pub returns-clause-only : goal.returns-clause-only
returns-clause-only c =
    let start = c.in_ok-vec.field-0.items in
    only_start start (map call_of c.new.result.items) (ap (map call_of) c.new.ensures.items) (search rules)
