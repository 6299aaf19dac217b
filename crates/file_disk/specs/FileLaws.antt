-- Laws of a file that has answered as the model says.
use Rattle.std.proofs.Common.{ℕ, ◌*◌, ◌/◌, List, [], ◌∷◌, length, sym, subst, IsTrue}
use Rattle.std.proofs.lemmas.Bool.{and_parts}
use Rattle.sector_disk.specs.Model.{Disk, Show, run, IsImage, sectors_from}
use Rattle.sector_disk.specs.ModelLaws.{run-append, settled_image}
use Rattle.sector_disk.specs.Memory.{Wrote}
use Rattle.sector_disk.specs.MemoryLaws.{sound_call}
use Rattle.file_disk.specs.FileRecord.{
  Answer,
  ReadGave,
  ReadFailed,
  WriteFinished,
  WriteFailed,
  SyncFinished,
  SyncFailed,
  Entry,
  events_after,
  events_in,
  Agrees,
  AnswersAsModel,
  is_inside,
  all_inside,
}

sound_answer : (n : ℕ) (disk : Disk) (shown : List ℕ) (answer : Answer) (bytes : List ℕ) → IsImage n disk disk.seen → Agrees n disk shown answer bytes
    → IsTrue (is_inside (512 * n) answer bytes)
    → IsImage n (run disk (events_after shown answer bytes)) (run disk (events_after shown answer bytes)).seen
sound_answer n disk shown (ReadGave first) bytes seen agrees inside = seen
sound_answer n disk shown ReadFailed bytes seen agrees inside = seen
sound_answer n disk shown (WriteFinished first) bytes seen agrees inside = sound_call n (Wrote first bytes) disk seen inside
sound_answer n disk shown (WriteFailed first) bytes seen agrees inside =
    let sectors = sectors_from first bytes (length bytes / 512) in
    subst (λ (d : Disk). IsImage n d d.seen) (sym (run-append disk sectors (Show shown ∷ []))) (record { size = agrees.size; each = agrees.each })
sound_answer n disk shown SyncFinished bytes seen agrees inside = settled_image n disk.seen seen.size
sound_answer n disk shown SyncFailed bytes seen agrees inside = record { size = agrees.size; each = agrees.each }

-- the image that reads return is possible
pub file_reads_possible : (n : ℕ) (start : Disk) (shown : ℕ → List ℕ) (entries : List Entry) → AnswersAsModel n start shown entries
    → IsTrue (all_inside (512 * n) entries)
    → IsImage n (run start (events_in shown entries)) (run start (events_in shown entries)).seen
file_reads_possible n start shown [] honest inside = honest
file_reads_possible n start shown (entry ∷ earlier) honest inside =
    let parts = and_parts (is_inside (512 * n) entry.0 entry.1) (all_inside (512 * n) earlier) inside in
    let before = file_reads_possible n start shown earlier honest.0 parts.1 in
    let disk = run start (events_in shown earlier) in
    let image = shown (length earlier) in
    subst (λ (d : Disk). IsImage n d d.seen) (sym (run-append start (events_in shown earlier) (events_after image entry.0 entry.1)))
    (sound_answer n disk image entry.0 entry.1 before honest.1 parts.0)
