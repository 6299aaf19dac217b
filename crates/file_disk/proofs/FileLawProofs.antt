-- Proofs of the laws of files.
use Rattle.std.proofs.Common.{◌≡◌, inl, ℕ, ◌*◌, ◌/◌, List, [], ◌∷◌, length, refl, sym, ◌∙◌, ap, subst, IsTrue}
use Rattle.std.specs.List.{flat_map}
use Rattle.std.proofs.lemmas.List.{append-nil}
use Rattle.std.proofs.lemmas.List.Concat.{flat_map-append}
use Rattle.std.proofs.lemmas.Bool.{and_parts}
use Rattle.sector_disk.specs.Model.{Disk, Show, settled, run, IsImage, sectors_from}
use Rattle.sector_disk.specs.ModelLaws.{run-append, seen-sectors_from, image_from_reached}
use Rattle.sector_disk.specs.Memory.{Call, events_of, len_of}
use Rattle.sector_disk.specs.MemoryLaws.{run_inside}
use Rattle.file_disk.specs.FileRecord.{
  Answer,
  ReadGave,
  ReadFailed,
  WriteFinished,
  WriteFailed,
  SyncFinished,
  SyncFailed,
  Entry,
  events_after,
  events_in,
  Agrees,
  is_inside,
  all_inside,
  ReadIsConsistent,
  ReadsAreConsistent,
  calls_of,
  calls_in,
}
use Rattle.file_disk.specs.FileLaws.{file_reads_possible}
use Rattle.file_disk.specs.Laws.{StaysHonest, BehavesAsInMemory}

agrees : (n : ℕ) (disk : Disk) (shown : List ℕ) (answer : Answer) (bytes : List ℕ) → IsImage n disk disk.seen → IsTrue (is_inside (512 * n) answer bytes)
    → ReadIsConsistent disk shown answer bytes → Agrees n disk shown answer bytes
agrees n disk shown (ReadGave first) bytes seen inside on = on
agrees n disk shown ReadFailed bytes seen inside on = tt
agrees n disk shown (WriteFinished first) bytes seen inside on = tt
agrees n disk shown (WriteFailed first) bytes seen inside on =
    let run_is = run_inside n first (length bytes) inside in
    let k = length bytes / 512 in
    subst (IsImage n (run disk (sectors_from first bytes k))) (sym on)
    (image_from_reached n disk first k bytes run_is.0 run_is.1 disk.seen (disk.seen, seen, record { size = refl; each = λ i. inl refl }))
agrees n disk shown SyncFinished bytes seen inside on = tt
agrees n disk shown SyncFailed bytes seen inside on = subst (IsImage n disk) (sym on) seen

pub stays_honest : StaysHonest
stays_honest n start shown [] possible inside on = possible
stays_honest n start shown (entry ∷ earlier) possible inside on =
    let parts = and_parts (is_inside (512 * n) entry.0 entry.1) (all_inside (512 * n) earlier) inside in
    let before = stays_honest n start shown earlier possible parts.1 on.0 in (
      before,
      agrees n (run start (events_in shown earlier)) (shown (length earlier)) entry.0 entry.1
          (file_reads_possible n start shown earlier before parts.1) parts.0 on.1,
    )

same_call : (disk : Disk) (shown : List ℕ) (answer : Answer) (bytes : List ℕ) → ReadIsConsistent disk shown answer bytes
    → run disk (events_after shown answer bytes) ≡ run disk (flat_map events_of (calls_of answer bytes))
same_call disk shown (ReadGave first) bytes on = refl
same_call disk shown ReadFailed bytes on = refl
same_call disk shown (WriteFinished first) bytes on =
    let k = length bytes / 512 in
    ap (run disk) (sym (append-nil (events_after shown (WriteFinished first) bytes)))
same_call disk shown (WriteFailed first) bytes on =
    let sectors = sectors_from first bytes (length bytes / 512) in
    let after = run disk sectors in
    let same : shown ≡ after.seen = on ∙ sym (seen-sectors_from disk first bytes (length bytes / 512)) in
    run-append disk sectors (Show shown ∷ []) ∙ ap (λ (image : List ℕ). record after { seen = image }) same ∙ ap (run disk) (sym (append-nil sectors))
same_call disk shown SyncFinished bytes on = refl
same_call disk shown SyncFailed bytes on = ap (λ (image : List ℕ). record disk { seen = image }) on

same_calls : (start : Disk) (shown : ℕ → List ℕ) (entries : List Entry) → ReadsAreConsistent start shown entries
    → run start (events_in shown entries) ≡ run start (flat_map events_of (calls_in entries))
same_calls start shown [] on = refl
same_calls start shown (entry ∷ earlier) on =
    let image = shown (length earlier) in
    let calls = calls_of entry.0 entry.1 in
    run-append start (events_in shown earlier) (events_after image entry.0 entry.1)
    ∙ same_call (run start (events_in shown earlier)) image entry.0 entry.1 on.1
    ∙ ap (λ (d : Disk). run d (flat_map events_of calls)) (same_calls start shown earlier on.0)
    ∙ sym (run-append start (flat_map events_of (calls_in earlier)) (flat_map events_of calls))
    ∙ ap (run start) (sym (flat_map-append events_of (calls_in earlier) calls))

pub is_as_in_memory : BehavesAsInMemory
is_as_in_memory m shown entries same on =
    let disks = same_calls (settled m.start) shown entries on ∙ ap (λ (calls : List Call). run (settled m.start) (flat_map events_of calls)) same in (
      ap (λ (d : Disk). d.seen) disks,
      λ image. (subst (λ (d : Disk). IsImage (len_of m) d image) disks, subst (λ (d : Disk). IsImage (len_of m) d image) (sym disks)),
    )
