-- Each call preserves the invariant of a device in memory.
use Rattle.std.proofs.Common.{◌≡◌, ℕ, ◌*◌, ◌/◌, ◌%◌, ◌+◌, ◌≤◌, ◌<◌, ◌&&◌, ◌==◌, true, List, [], ◌∷◌, ◌++◌, length, map, get_or, take, drop, take-append-drop, refl, sym, ◌∙◌, ap, subst, IsTrue}
use Rattle.std.specs.Prelude.{nat_lt, nat_le}
use Rattle.std.specs.List.{flat_map}
use Rattle.std.proofs.lemmas.Bool.{and_from, and_parts, lt-ltb, le-leb, eq-eqb}
use Rattle.std.proofs.lemmas.List.{append-nil, map-append}
use Rattle.std.proofs.lemmas.List.Concat.{flat_map-append}
use Rattle.std.proofs.lemmas.List.Folds.{list_all-append}
use Rattle.std.proofs.lemmas.List.Recursion.{and_at}
use Rattle.sector_disk.specs.Image.{written}
use Rattle.sector_disk.specs.Model.{Disk, Event, Finish, settled, run, sectors_from}
use Rattle.sector_disk.specs.ModelLaws.{run-append, seen-sectors_from, settled_image}
use Rattle.sector_disk.specs.Memory.{Call, Wrote, Tore, Synced, events_of, is_run, fits, all_fit}
use Rattle.sector_disk.specs.MemoryLaws.{whole_sectors, sound_calls}
use Rattle.sector_disk.specs.Consistency.{call_of, IsConsistent}
use Rattle.sector_disk.specs.declared.mem_device.Call.{Call as Kept}

-- the image that reads return after a call
abbrev pub seen_after : Call → List ℕ → List ℕ
seen_after (Wrote first bytes) seen = written first bytes seen
seen_after (Tore first bytes) seen = seen
seen_after Synced seen = seen

pub seen-events_of : (disk : Disk) (call : Call) → (run disk (events_of call)).seen ≡ seen_after call disk.seen
seen-events_of disk (Wrote first bytes) =
    ap (λ (d : Disk). d.seen) (run-append disk (sectors_from first bytes (length bytes / 512)) (Finish first bytes ∷ []))
    ∙ ap (written first bytes) (seen-sectors_from disk first bytes (length bytes / 512))
seen-events_of disk (Tore first bytes) = seen-sectors_from disk first bytes (length bytes / 512)
seen-events_of disk Synced = refl

-- one more call adds its events after the others
pub events-push : (calls : List Call) (call : Call) → flat_map events_of (calls ++ call ∷ []) ≡ flat_map events_of calls ++ events_of call
events-push calls call = flat_map-append events_of calls (call ∷ []) ∙ ap (λ (l : List Event). flat_map events_of calls ++ l) (append-nil (events_of call))

pub seen-push : (start : Disk) (calls : List Call) (call : Call)
    → (run start (flat_map events_of (calls ++ call ∷ []))).seen ≡ seen_after call (run start (flat_map events_of calls)).seen
seen-push start calls call =
    ap (λ (l : List Event). (run start l).seen) (events-push calls call)
    ∙ ap (λ (d : Disk). d.seen) (run-append start (flat_map events_of calls) (events_of call))
    ∙ seen-events_of (run start (flat_map events_of calls)) call

pub is_run_from : (size first n : ℕ) → 0 < n → n % 512 ≡ 0 → 512 * first + n ≤ size → IsTrue (is_run size first n)
is_run_from size first n some whole inside =
    and_from (nat_lt 0 n && (n % 512 == 0)) (nat_le (512 * first + n) size) (and_from (nat_lt 0 n) (n % 512 == 0) (lt-ltb 0 n some) (eq-eqb (n % 512) 0 whole))
    (le-leb (512 * first + n) size inside)

-- the image that reads return has the device's length
pub seen_size : (start : List ℕ) (calls : List Call) → length start % 512 ≡ 0 → IsTrue (all_fit (length start) calls)
    → length (run (settled start) (flat_map events_of calls)).seen ≡ length start
seen_size start calls whole fit =
    let size = whole_sectors (length start) whole in
    let sound =
    sound_calls (length start / 512) calls (settled start) (settled_image (length start / 512) start size)
    (subst (λ (n : ℕ). IsTrue (all_fit n calls)) size fit) in
    sound.size ∙ sym size

pub image_size : (start image : List ℕ) (kept : List Kept) → IsConsistent start image kept → length image ≡ length start
image_size start image kept is = ap length is.reads ∙ seen_size start (map call_of kept) is.whole is.fit

-- one more call preserves the invariant
pub keeps : (start image new_image : List ℕ) (kept new_kept : List Kept) (call : Call) → IsConsistent start image kept
    → map call_of new_kept ≡ map call_of kept ++ call ∷ [] → IsTrue (fits (length start) call) → new_image ≡ seen_after call image
    → IsConsistent start new_image new_kept
keeps start image new_image kept new_kept call is more fit same = record {
  whole = is.whole;
  fit = ap (all_fit (length start)) more ∙ list_all-append (fits (length start)) (map call_of kept) (call ∷ [])
      ∙ and_from (all_fit (length start) (map call_of kept)) (fits (length start) call && true) is.fit (and_from (fits (length start) call) true fit refl);
  reads = same ∙ ap (seen_after call) is.reads
      ∙ sym (ap (λ (l : List Call). (run (settled start) (flat_map events_of l)).seen) more ∙ seen-push (settled start) (map call_of kept) call);
}

-- each call of the history lies inside the device
pub fits_at : (size : ℕ) (kept : List Kept) (i : ℕ) (d : Kept) → i < length kept → IsTrue (all_fit size (map call_of kept))
    → IsTrue (fits size (call_of (get_or kept i d)))
fits_at size kept i d lt fit = and_at (λ (l : List Kept). all_fit size (map call_of l)) (λ e. fits size (call_of e)) refl (λ e l. refl) kept i d lt fit

pub calls_split : (kept : List Kept) (n : ℕ) → map call_of kept ≡ map call_of (take n kept) ++ map call_of (drop n kept)
calls_split kept n = ap (map call_of) (sym (take-append-drop n kept)) ∙ map-append call_of (take n kept) (drop n kept)

pub fit_front : (size : ℕ) (kept : List Kept) (n : ℕ) → IsTrue (all_fit size (map call_of kept)) → IsTrue (all_fit size (map call_of (take n kept)))
fit_front size kept n fit =
    let front = map call_of (take n kept) in
    let back = map call_of (drop n kept) in
    (and_parts (all_fit size front) (all_fit size back) (sym (list_all-append (fits size) front back) ∙ ap (all_fit size) (sym (calls_split kept n)) ∙ fit)).0
