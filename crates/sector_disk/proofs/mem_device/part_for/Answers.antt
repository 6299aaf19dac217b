-- If a run reaches a sector, the 512 bytes at its place are the sector's part.
use Rattle.std.proofs.Common.{◌≡◌, ◌+◌, ◌-◌, ◌*◌, ◌/◌, ◌<◌, ℕ, length, take, drop, Some, ap, sym, ◌∙◌, arith}
use Rattle.sector_disk.proofs.Contents.{some_part}
use Rattle.sector_disk.proofs.mem_device.part_for.Goals as goal

pub returns-clause-part : goal.returns-clause-part
returns-clause-part c =
    let j = c.args.sector - c.args.first in
    let within : j < length c.args.bytes.now / 512 = omega (arith, c.if-sector-first.false, c.if-sector-first-2.false) in
    let size : j * 512 + 512 - j * 512 ≡ 512 = omega arith in
    let at : j * 512 ≡ 512 * j = omega arith in
    ap (λ (n : ℕ). Some (take n (drop (j * 512) c.args.bytes.now))) size
    ∙ ap (λ (n : ℕ). Some (take 512 (drop n c.args.bytes.now))) at
    ∙ sym (some_part c.args.first c.args.bytes.now c.args.sector c.if-sector-first.false within)
