-- The effect of a file's call on its possible images.
use Rattle.std.proofs.Common.{◌≡◌, ℕ, ◌+◌, ◌*◌, ◌/◌, ◌%◌, ◌≤◌, Bool, true, false, List, [], ◌∷◌, length, refl, ap, subst, arith, if◌then◌else◌, IsTrue, Result, is_ok}
use Rattle.sector_disk.specs.Model.{Disk, Finish, Show, sectors_from}
use Rattle.sector_disk.specs.ModelLaws.{finished-append, finished-sectors_from}
use Rattle.sector_disk.specs.History.{History, MayLeaveIn, seen_in}
use Rattle.sector_disk.specs.MemoryLaws.{whole_sectors}
use Rattle.file_disk.specs.FileRecord.{Entry, events_in, file_history, AnswersAsModel, all_inside}
use Rattle.file_disk.specs.FileCalls.{write_entry, sync_entry}
use Rattle.file_disk.specs.FileLaws.{file_reads_possible}
use Rattle.sector_disk.proofs.HistorySteps.{WriteCase, SyncCase, finishes, tears, syncs, stays, quiet_show, Writes, Syncs, write_means, sync_means}

module _ (n after : ℕ) (start : Disk) (shown : ℕ → List ℕ) (old new : List Entry) (sectors : after ≡ n) where
  -- a file that is honest after one more entry was honest before it
  pub honest_before : (entry : Entry) → new ≡ entry ∷ old → AnswersAsModel after start shown new → AnswersAsModel n start shown (entry ∷ old)
  honest_before entry more honest =
      subst (λ (l : List Entry). AnswersAsModel n start shown l) more (subst (λ (m : ℕ). AnswersAsModel m start shown new) sectors honest)

  module _ (calls new_calls : ℕ) where
    pub write_goes : (ok : Bool) (first : ℕ) (bytes : List ℕ) → new ≡ write_entry ok first bytes ∷ old → new_calls ≡ (if ok then calls + 1 else calls)
        → WriteCase (file_history n start shown old calls) (file_history after start shown new new_calls) first bytes ok
    write_goes true first bytes more counted =
        let one = finished-append (sectors_from first bytes (length bytes / 512)) (Finish first bytes ∷ []) in
        finishes (record {
          sectors = sectors;
          start = refl;
          events = ap (events_in shown) more;
          calls = omega (arith, counted, one, finished-sectors_from first bytes (length bytes / 512));
        })
    write_goes false first bytes more counted =
        let image = shown (length old) in
        let none = finished-append (sectors_from first bytes (length bytes / 512)) (Show image ∷ []) in
        tears (length bytes / 512) (omega arith) (Show image ∷ []) (quiet_show image) (record {
          sectors = sectors;
          start = refl;
          events = ap (events_in shown) more;
          calls = omega (arith, counted, none, finished-sectors_from first bytes (length bytes / 512));
        })

    pub sync_goes : (ok : Bool) → new ≡ sync_entry ok ∷ old → new_calls ≡ (if ok then calls + 1 else calls)
        → SyncCase (file_history n start shown old calls) (file_history after start shown new new_calls) ok
    sync_goes true more counted = syncs (record { sectors = sectors; start = refl; events = ap (events_in shown) more; calls = omega (arith, counted) })
    sync_goes false more counted =
        stays (Show (shown (length old)) ∷ []) (quiet_show (shown (length old))) (record {
          sectors = sectors;
          start = refl;
          events = ap (events_in shown) more;
          calls = omega (arith, counted);
        })

  -- before the call, the image that reads returned was possible
  pub possible_before : (entry : Entry) (calls : ℕ) → new ≡ entry ∷ old → IsTrue (all_inside (512 * n) old) → AnswersAsModel after start shown new
      → MayLeaveIn (file_history n start shown old calls) (seen_in (file_history n start shown old calls))
  possible_before entry calls more inside honest = file_reads_possible n start shown old (honest_before entry more honest).0 inside

-- the clauses of a device hold for a write or a sync of an honest file
module _ {T E : Type 0} (n after : ℕ) (start : Disk) (shown : ℕ → List ℕ) (old new : List Entry) (sectors : after ≡ n) (calls new_calls : ℕ)
    (result : Result T E) (inside : IsTrue (all_inside (512 * n) old)) (honest : AnswersAsModel after start shown new)
    (counted : new_calls ≡ (if is_ok result then calls + 1 else calls)) where
  abbrev before : History
  before = file_history n start shown old calls

  abbrev now : History
  now = file_history after start shown new new_calls

  module _ (first : ℕ) (bytes : List ℕ) (whole : length bytes % 512 ≡ 0) (fits : 512 * first + length bytes ≤ 512 * n)
      (more : new ≡ write_entry (is_ok result) first bytes ∷ old) where
    size : length bytes ≡ 512 * (length bytes / 512)
    size = whole_sectors (length bytes) whole

    within : first + length bytes / 512 ≤ n
    within = omega (arith, size, fits)

    pub file_writes : Writes before now first bytes result
    file_writes =
        let possible = possible_before n after start shown old new sectors (write_entry (is_ok result) first bytes) calls more inside honest in
        write_means before first bytes size within possible now result
        (write_goes n after start shown old new sectors calls new_calls (is_ok result) first bytes more counted)

  pub file_syncs : new ≡ sync_entry (is_ok result) ∷ old → Syncs before now result
  file_syncs more =
      let possible = possible_before n after start shown old new sectors (sync_entry (is_ok result)) calls more inside honest in
      sync_means before now possible result (sync_goes n after start shown old new sectors calls new_calls (is_ok result) more counted)
