-- After the sync the image is still the one to which the calls lead.
use Rattle.std.proofs.Common.{refl, rules}
use Rattle.sector_disk.specs.Memory.{Synced}
use Rattle.sector_disk.proofs.ConsistencySteps.{keeps}
use Rattle.sector_disk.proofs.mem_device.MemDevice.try_sync.Goals as goal

pub invariant_of-self-2 : goal.invariant_of-self-2
invariant_of-self-2 c =
    let d = c.args.self.now in
    record { kept = keeps d.start.items d.image.items d.image.items d.history.items c.keep_sync.new.history.items Synced d.kept (search rules) refl refl }
