-- Laws of a device in memory whose writes were inside it.
use Rattle.std.proofs.Common.{◌≡◌, ℕ, ◌+◌, ◌*◌, ◌/◌, ◌%◌, ◌<◌, ◌≤◌, List, [], ◌∷◌, length, refl, sym, ◌∙◌, ap, subst, inl, inr, arith, ◌&&◌, ◌==◌, IsTrue}
use Rattle.std.specs.Prelude.{nat_lt, nat_le}
use Rattle.std.specs.List.{flat_map, Contains}
use Rattle.std.proofs.lemmas.Bool.{and_parts, ltb-true, leb-true, eqb-true}
use Rattle.sector_disk.specs.Image.{sector, written}
use Rattle.sector_disk.specs.ImageLaws.{length-written}
use Rattle.sector_disk.specs.Model.{Disk, Finish, settled, next, run, IsImage, sectors_from}
use Rattle.sector_disk.specs.ModelLaws.{run-append, seen-sectors_from, image_from_reached, settled_image}
use Rattle.sector_disk.specs.Memory.{Call, Wrote, Tore, Synced, Memory, events_of, is_run, fits, all_fit, len_of, seen_of, MayLeave}

pub run_parts : (size first n : ℕ) → IsTrue (is_run size first n) → (0 < n) × (n % 512 ≡ 0) × (512 * first + n ≤ size)
run_parts size first n is =
    let most = and_parts (nat_lt 0 n && (n % 512 == 0)) (nat_le (512 * first + n) size) is in
    let front = and_parts (nat_lt 0 n) (n % 512 == 0) most.0 in
    (ltb-true 0 n front.0, eqb-true (n % 512) 0 front.1, leb-true (512 * first + n) size most.1)

pub whole_sectors : (n : ℕ) → n % 512 ≡ 0 → n ≡ 512 * (n / 512)
whole_sectors n whole = omega arith

-- the sectors of a write inside a device of n sectors
pub run_inside : (n first len : ℕ) → IsTrue (is_run (512 * n) first len) → (len ≡ 512 * (len / 512)) × (first + len / 512 ≤ n)
run_inside n first len is =
    let parts = run_parts (512 * n) first len is in
    (whole_sectors len parts.1, omega (arith, parts.2, whole_sectors len parts.1))

-- if the image that reads return was possible before a call, it is possible after it
pub sound_call : (n : ℕ) (call : Call) (disk : Disk) → IsImage n disk disk.seen → IsTrue (fits (512 * n) call)
    → IsImage n (run disk (events_of call)) (run disk (events_of call)).seen
sound_call n (Wrote first bytes) disk seen fit =
    let inside = run_inside n first (length bytes) fit in
    let k = length bytes / 512 in
    let size = length-written first k bytes disk.seen inside.0 (omega (arith, inside.1, seen.size)) in
    let mid = run disk (sectors_from first bytes k) in
    let new = written first bytes disk.seen in
    let whole : IsImage n mid new =
    image_from_reached n disk first k bytes inside.0 inside.1 new (disk.seen, seen, record { size = size; each = λ i. inr refl }) in
    let same : written first bytes mid.seen ≡ new = ap (written first bytes) (seen-sectors_from disk first bytes k) in
    let at : next mid (Finish first bytes) ≡ run disk (events_of (Wrote first bytes)) =
    sym (run-append disk (sectors_from first bytes k) (Finish first bytes ∷ [])) in
    subst (λ (d : Disk). IsImage n d d.seen) at (record {
      size = ap length same ∙ whole.size;
      each = λ i h. subst (λ (image : List ℕ). Contains (mid.contents i) (sector i image)) (sym same) (whole.each i h);
    })
sound_call n (Tore first bytes) disk seen fit =
    let inside = run_inside n first (length bytes) fit in
    let k = length bytes / 512 in
    let kept = image_from_reached n disk first k bytes inside.0 inside.1 disk.seen (disk.seen, seen, record { size = refl; each = λ i. inl refl }) in
    subst (λ (image : List ℕ). IsImage n (run disk (sectors_from first bytes k)) image) (sym (seen-sectors_from disk first bytes k)) kept
sound_call n Synced disk seen fit = settled_image n disk.seen seen.size

pub sound_calls : (n : ℕ) (calls : List Call) (disk : Disk) → IsImage n disk disk.seen → IsTrue (all_fit (512 * n) calls)
    → IsImage n (run disk (flat_map events_of calls)) (run disk (flat_map events_of calls)).seen
sound_calls n [] disk seen fit = seen
sound_calls n (call ∷ calls) disk seen fit =
    let parts = and_parts (fits (512 * n) call) (all_fit (512 * n) calls) fit in
    let rest = sound_calls n calls (run disk (events_of call)) (sound_call n call disk seen parts.0) parts.1 in
    subst (λ (d : Disk). IsImage n d d.seen) (sym (run-append disk (events_of call) (flat_map events_of calls))) rest

-- the image that reads return is possible
pub memory_reads_possible : (m : Memory) → length m.start % 512 ≡ 0 → IsTrue (all_fit (length m.start) m.history) → MayLeave m (seen_of m)
memory_reads_possible m whole fit =
    let size = whole_sectors (length m.start) whole in
    sound_calls (len_of m) m.history (settled m.start) (settled_image (len_of m) m.start size) (subst (λ (n : ℕ). IsTrue (all_fit n m.history)) size fit)
