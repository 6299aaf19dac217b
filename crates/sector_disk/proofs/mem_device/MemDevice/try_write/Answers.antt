-- A run within the device lies within its image. After a write, torn or finished, the image is still the one to
-- which the calls lead.
use Rattle.std.proofs.Common.{◌+◌, ◌*◌, ◌≤◌, length, drop, refl, rules, ap, arith, ◌∙◌}
use Rattle.std.proofs.lemmas.List.{take_at}
use Rattle.sector_disk.specs.Image.{written}
use Rattle.sector_disk.specs.Memory.{Wrote, Tore}
use Rattle.sector_disk.specs.MemoryLaws.{whole_sectors}
use Rattle.sector_disk.proofs.ConsistencySteps.{keeps, image_size, is_run_from}
use Rattle.sector_disk.proofs.mem_device.MemDevice.try_write.Goals as goal

pub invariant_of-self-then-refused-2 : goal.invariant_of-self-then-refused-2
invariant_of-self-then-refused-2 c =
    let d = c.args.self.now in
    let inside : 512 * c.args.first + length c.args.bytes.now ≤ length d.start.items =
    omega (arith, c.requires.inside, whole_sectors (length d.start.items) d.kept.whole) in
    let fit = is_run_from (length d.start.items) c.args.first (length c.args.bytes.now) c.requires.some c.requires.whole inside in
    record {
      kept = keeps d.start.items d.image.items d.image.items d.history.items c.keep_write.new.history.items (Tore c.args.first c.args.bytes.now) d.kept
          (search rules) fit refl;
    }

pub put-requires : goal.put-requires
put-requires c =
    let d = c.args.self.now in
    omega (
      arith,
      c.requires.inside,
      ap length c.deref_mut.ensures.value,
      image_size d.start.items d.image.items d.history.items d.kept,
      whole_sectors (length d.start.items) d.kept.whole,
    )

pub invariant_of-self-2 : goal.invariant_of-self-2
invariant_of-self-2 c =
    let d = c.args.self.now in
    let inside : 512 * c.args.first + length c.args.bytes.now ≤ length d.start.items =
    omega (arith, c.requires.inside, whole_sectors (length d.start.items) d.kept.whole) in
    let fit = is_run_from (length d.start.items) c.args.first (length c.args.bytes.now) c.requires.some c.requires.whole inside in
    let same =
    take_at c.put.new.image (drop (length c.put.new.image) d.image.items) d.image.len (search rules) ∙ c.put.ensures
    ∙ ap (written c.args.first c.args.bytes.now) c.deref_mut.ensures.value in
    record {
      kept = keeps d.start.items d.image.items _ d.history.items c.keep_write.new.history.items (Wrote c.args.first c.args.bytes.now) d.kept
          (search rules) fit same;
    }
