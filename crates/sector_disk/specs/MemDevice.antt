-- The value of a `MemDevice` in contracts.
use Rattle.std.specs.Prelude.{map}
use Rattle.sector_disk.specs.Memory.{Memory}
use Rattle.sector_disk.specs.Consistency.{call_of}
use Rattle.sector_disk.specs.declared.mem_device.MemDevice.{MemDevice}

abbrev pub memory : MemDevice → Memory
memory d = record {
  start = d.start.items;
  history = map call_of d.history.items;
  calls = d.calls;
  faults = d.faults;
  fuse = d.fuse;
  torn = d.torn;
  once = d.once;
}
