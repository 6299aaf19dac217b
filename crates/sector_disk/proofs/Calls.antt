-- The effect of each call of a device in memory.
use Rattle.std.proofs.Common.{inl, inr, ℕ, ◌/◌, Bool, true, false, List, [], ◌∷◌, ◌++◌, length, refl, sym, ◌∙◌, ap, arith, if◌then◌else◌, Result, is_ok}
use Rattle.std.proofs.lemmas.List.{append-nil}
use Rattle.sector_disk.specs.Model.{Event, Finish, sectors_from}
use Rattle.sector_disk.specs.ModelLaws.{finished-append, finished-sectors_from}
use Rattle.sector_disk.specs.History.{History}
use Rattle.sector_disk.specs.Memory.{Wrote, Tore, Synced, Memory, events, history_of, is_refused, tears as tears_now, failed, done, torn_by, write_of, sync_of, HasOutcomeOrNoMemory}
use Rattle.sector_disk.proofs.HistorySteps.{GoesOn, WriteCase, SyncCase, finishes, tears, syncs, stays, quiet_none}
use Rattle.sector_disk.proofs.ConsistencySteps.{events-push}

nothing : (old : History) → GoesOn old old []
nothing old = record { sectors = refl; start = refl; events = sym (append-nil old.events); calls = omega arith }

pub write_case : {T E : Type 0} (old new : Memory) (first : ℕ) (bytes : List ℕ) (result : Result T E) → HasOutcomeOrNoMemory old (write_of old first bytes) result new
    → WriteCase (history_of old) (history_of new) first bytes (is_ok result)
write_case old new first bytes result (inr refused) = rw (refused.0, refused.1) (tears 0 (omega arith) [] quiet_none (nothing (history_of old)))
write_case old new first bytes result (inl gives) = rw (gives.0, gives.1) (by_test (is_refused old) (tears_now old))
  where
    by_test : (refused torn : Bool)
        → (let to = if refused then (if torn then torn_by old (Tore first bytes) else failed old) else done old (Wrote first bytes) in
        WriteCase (history_of old) (history_of to.state) first bytes to.ok)
    by_test true true =
        let sectors = sectors_from first bytes (length bytes / 512) in
        tears (length bytes / 512) (omega arith) [] quiet_none (record {
          sectors = refl;
          start = refl;
          events = events-push old.history (Tore first bytes) ∙ ap (λ (l : List Event). events old ++ l) (sym (append-nil sectors));
          calls = omega (arith, finished-append sectors [], finished-sectors_from first bytes (length bytes / 512));
        })
    by_test true false = tears 0 (omega arith) [] quiet_none (nothing (history_of old))
    by_test false torn =
        let k = length bytes / 512 in
        finishes (record {
          sectors = refl;
          start = refl;
          events = events-push old.history (Wrote first bytes);
          calls = omega (arith, finished-append (sectors_from first bytes k) (Finish first bytes ∷ []), finished-sectors_from first bytes k);
        })

pub sync_case : {T E : Type 0} (old new : Memory) (result : Result T E) → HasOutcomeOrNoMemory old (sync_of old) result new
    → SyncCase (history_of old) (history_of new) (is_ok result)
sync_case old new result (inr refused) = rw (refused.0, refused.1) (stays [] quiet_none (nothing (history_of old)))
sync_case old new result (inl gives) = rw (gives.0, gives.1) (by_test (is_refused old))
  where
    by_test : (refused : Bool) → (let to = if refused then failed old else done old Synced in SyncCase (history_of old) (history_of to.state) to.ok)
    by_test true = stays [] quiet_none (nothing (history_of old))
    by_test false = syncs (record { sectors = refl; start = refl; events = events-push old.history Synced; calls = refl })
