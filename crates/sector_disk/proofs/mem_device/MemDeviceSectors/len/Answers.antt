-- The image has as many sectors as the initial one, so its length is that of the device.
use Rattle.std.proofs.Common.{◌∙◌, ◌/◌, ap, ℕ}
use Rattle.sector_disk.proofs.ConsistencySteps.{image_size}
use Rattle.sector_disk.proofs.mem_device.MemDeviceSectors.len.Goals as goal

pub returns : goal.returns
returns c =
    let d = c.args.self.now in
    ap (λ (n : ℕ). n / 512) (c.len.ensures ∙ d.image.ok.0 ∙ image_size d.start.items d.image.items d.history.items d.kept)
