-- The image of the choices is one that a crash may leave. After the crash reads return this image, and another
-- crash can leave no other one.
use Rattle.std.proofs.Common.{◌≡◌, ◌∙◌, ◌*◌, ◌/◌, ℕ, List, ◌++◌, length, take, drop, map, ap, sym, subst, arith}
use Rattle.std.specs.Prelude.{slice_index}
use Rattle.std.specs.List.{flat_map}
use Rattle.std.proofs.lemmas.List.{take_at}
use Rattle.sector_disk.specs.Model.{settled, run, IsImage}
use Rattle.sector_disk.specs.Memory.{events_of, len_of, disk_of, TakesChoices}
use Rattle.sector_disk.specs.MemDevice.{memory}
use Rattle.sector_disk.specs.MemoryLaws.{whole_sectors, memory_reads_possible}
use Rattle.sector_disk.specs.Consistency.{call_of}
use Rattle.sector_disk.specs.declared.mem_device.Call.{Call as Kept}
use Rattle.sector_disk.proofs.ConsistencySteps.{image_size}
use Rattle.sector_disk.proofs.Contents.{disk_start, seen_start, only_start, chosen_image}
use Rattle.sector_disk.proofs.mem_device.MemDevice.crash.Goals.{After-clear}
use Rattle.sector_disk.proofs.mem_device.MemDevice.crash.Goals as goal

pub copy_from_slice-requires : goal.copy_from_slice-requires
copy_from_slice-requires c =
    let d = c.args.self.now in
    d.image.ok.0 ∙ image_size d.start.items d.image.items d.history.items d.kept ∙ sym d.start.ok.0 ∙ sym c.deref-2.ensures.len

-- the chosen image is possible, and is copied whole
left : (c : After-clear)
    → (let d = c.args.self.now in let image = c.crash_image.new.image in (take d.start.len (image ++ drop (length image) d.start.items) ≡ image)
    × IsImage (len_of (memory d)) (disk_of (memory d)) image)
left c =
    let d = c.args.self.now in
    let choices = λ (i : ℕ). slice_index c.args.choices.now i in
    let at_start =
    subst
    (λ (start : List ℕ). TakesChoices (length start / 512)
    (run (settled start) (flat_map events_of (map call_of c.deref.result.now))) choices c.crash_image.new.image)
    c.deref_mut.ensures.value c.crash_image.ensures in
    let takes : TakesChoices (len_of (memory d)) (disk_of (memory d)) choices c.crash_image.new.image =
    subst
    (λ (calls : List Kept). TakesChoices (len_of (memory d))
    (run (settled d.start.items) (flat_map events_of (map call_of calls))) choices c.crash_image.new.image)
    c.deref.ensures.value at_start in
    let size : length c.crash_image.new.image ≡ 512 * len_of (memory d) =
    omega (arith, c.crash_image.auto.image, ap length c.deref_mut.ensures.value, whole_sectors (length d.start.items) d.kept.whole) in (
      take_at c.crash_image.new.image (drop (length c.crash_image.new.image) d.start.items) d.start.len (c.crash_image.auto.image ∙ c.deref_mut.ensures.len),
      chosen_image (len_of (memory d)) (disk_of (memory d)) choices c.crash_image.new.image (memory_reads_possible (memory d) d.kept.whole d.kept.fit) size takes,
    )

pub returns-clause-crash_image : goal.returns-clause-crash_image
returns-clause-crash_image c =
    let d = c.args.self.now in
    let is = left (goal.at.returns-clause-crash_image c).After-clear in (
      _,
      subst (IsImage (len_of (memory d)) (disk_of (memory d))) (sym is.0) is.1,
      disk_start _ (map call_of c.clear.new.self.items) (ap (map call_of) c.clear.ensures.items),
    )

pub returns-clause-possible : goal.returns-clause-possible
returns-clause-possible c =
    let d = c.args.self.now in
    let is = left (goal.at.returns-clause-possible c).After-clear in
    subst (IsImage (len_of (memory d)) (disk_of (memory d)))
    (sym (seen_start _ (map call_of c.clear.new.self.items) (ap (map call_of) c.clear.ensures.items) ∙ is.0)) is.1

pub returns-clause-only : goal.returns-clause-only
returns-clause-only c =
    let same = (left (goal.at.returns-clause-only c).After-clear).0 in
    only_start _ (map call_of c.clear.new.self.items) (ap (map call_of) c.clear.ensures.items)
    (omega (arith, ap length same, c.crash_image.auto.image, ap length c.deref_mut.ensures.value, c.args.self.now.kept.whole))
