-- A run of sectors within the device lies within its image.
use Rattle.std.proofs.Common.{length, ap, arith}
use Rattle.sector_disk.specs.MemoryLaws.{whole_sectors}
use Rattle.sector_disk.proofs.ConsistencySteps.{image_size}
use Rattle.sector_disk.proofs.mem_device.MemDevice.try_read.Goals as goal

pub get-requires : goal.get-requires
get-requires c =
    let d = c.args.self.now in
    omega (
      arith,
      c.requires,
      ap length c.deref.ensures.value,
      image_size d.start.items d.image.items d.history.items d.kept,
      whole_sectors (length d.start.items) d.kept.whole,
    )
