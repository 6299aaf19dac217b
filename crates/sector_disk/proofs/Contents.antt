-- The possible contents of a sector, in order.
use Rattle.std.proofs.Common.{
  ◌≡◌,
  ◌≢◌,
  ◌⊎◌,
  inl,
  inr,
  ⊎_elim,
  ℕ,
  zero,
  suc,
  ◌+◌,
  ◌-◌,
  ◌*◌,
  ◌/◌,
  ◌<◌,
  ◌≤◌,
  true,
  false,
  ◌==◌,
  List,
  [],
  ◌∷◌,
  ◌++◌,
  length,
  take,
  drop,
  refl,
  sym,
  ◌∙◌,
  ap,
  subst,
  arith,
  append_assoc,
  if◌then◌else◌,
  Option,
  Some,
  None,
  IsTrue,
}
use Rattle.std.specs.Prelude.{◌%◌, nat_lt, nat_le, slice_get, slice_index_or}
use Rattle.std.specs.Option.{option_to_list}
use Rattle.std.specs.List.{flat_map, filter_map, list_all, cons_option, Contains}
use Rattle.std.proofs.lemmas.List.Elements.{Contains-get_or}
use Rattle.std.proofs.lemmas.List.{append-nil}
use Rattle.std.proofs.lemmas.List.Concat.{flat_map-append}
use Rattle.std.proofs.lemmas.Bool.{cases_lt, and_parts, and_from, and_left, and_right, lt-leb, le-leb, lt-ltb, le-ltb, false≢true}
use Rattle.std.proofs.lemmas.Bool.Decides.{eqb_tells}
use Rattle.sector_disk.specs.Image.{sector}
use Rattle.sector_disk.specs.ImageLaws.{sector_drop}
use Rattle.sector_disk.specs.Model.{Disk, Event, Sector, Finish, settled, next, run, IsImage, sectors_from}
use Rattle.sector_disk.specs.ModelLaws.{run-append, settled_only}
use Rattle.sector_disk.specs.Memory.{Call, Wrote, Tore, Synced, TakesChoices, events_of}
use Rattle.sector_disk.specs.MemoryLaws.{whole_sectors}
use Rattle.sector_disk.specs.Sectors.{Only}
use Rattle.sector_disk.specs.Crash.{part_of, content_of, is_write, chosen, IsSettledBy}

-- A sector outside a run keeps its contents, and one inside it gains its part.
run_contents : (disk : Disk) (first : ℕ) (bytes : List ℕ) (n i : ℕ)
    → (((i < first) ⊎ (first + n ≤ i)) × ((run disk (sectors_from first bytes n)).contents i ≡ disk.contents i))
    ⊎ ((j : ℕ) × (i ≡ first + j) × (j < n) × ((run disk (sectors_from first bytes n)).contents i ≡ disk.contents i ++ sector j bytes ∷ []))
run_contents disk first bytes zero i = inl (⊎_elim (λ (low : i < first). inl low) (λ (high : first ≤ i). inr (omega arith)) (cases_lt i first), refl)
run_contents disk first bytes (suc n) i =
    let rest = run_contents (next disk (Sector first (take 512 bytes))) (suc first) (drop 512 bytes) n i in ⊎_elim
    (λ (here : ((first == i) ≡ true) × (first ≡ i)). ⊎_elim
    (λ out. inr (0, omega (arith, here.1), omega arith, out.1 ∙ ap (λ b. if b then disk.contents i ++ take 512 bytes ∷ [] else disk.contents i) here.0))
    (λ within. absurd (omega (arith, here.1, within.1))) rest)
    (λ (there : ((first == i) ≡ false) × (first ≢ i)).
    let same = ap (λ b. if b then disk.contents i ++ take 512 bytes ∷ [] else disk.contents i) there.0 in
    let less : i < suc first → i < first =
    λ low. ⊎_elim (λ (less : i < first). less) (λ (from : first ≤ i). absurd (there.1 (omega (arith, low, from)))) (cases_lt i first) in
    ⊎_elim
    (λ out. inl (⊎_elim (λ (low : i < suc first). inl (less low)) (λ (high : suc first + n ≤ i). inr (omega arith)) out.0, out.1 ∙ same))
    (λ within. inr (
      suc within.0,
      omega (arith, within.1),
      omega (arith, within.2),
      within.3 ∙ ap (λ (l : List (List ℕ)). l ++ sector within.0 (drop 512 bytes) ∷ []) same
          ∙ ap (λ (x : List ℕ). disk.contents i ++ x ∷ []) (sector_drop 1 within.0 bytes ∙ ap (λ (m : ℕ). sector m bytes) (omega arith)),
    )) rest)
    (eqb_tells first i)

pub some_part : (first : ℕ) (bytes : List ℕ) (i : ℕ) → first ≤ i → i - first < length bytes / 512 → part_of first bytes i ≡ Some (sector (i - first) bytes)
some_part first bytes i from lt =
    ap (λ b. if b then Some (sector (i - first) bytes) else None)
    (and_from (nat_le first i) (nat_lt (i - first) (length bytes / 512)) (le-leb first i from) (lt-ltb (i - first) (length bytes / 512) lt))

no_part : (first : ℕ) (bytes : List ℕ) (i : ℕ) → (i < first) ⊎ (first + length bytes / 512 ≤ i) → part_of first bytes i ≡ None
no_part first bytes i out = ap (λ b. if b then Some (sector (i - first) bytes) else None) (⊎_elim
    (λ (low : i < first). and_left (nat_le first i) (nat_lt (i - first) (length bytes / 512)) (lt-leb first i low))
    (λ (high : first + length bytes / 512 ≤ i). and_right (nat_le first i) (nat_lt (i - first) (length bytes / 512))
    (le-ltb (i - first) (length bytes / 512) (omega arith))) out)

contents-sectors : (disk : Disk) (first : ℕ) (bytes : List ℕ) (i : ℕ)
    → (run disk (sectors_from first bytes (length bytes / 512))).contents i ≡ disk.contents i ++ option_to_list (part_of first bytes i)
contents-sectors disk first bytes i = ⊎_elim
    (λ out. out.1 ∙ sym (append-nil (disk.contents i)) ∙ ap (λ o. disk.contents i ++ option_to_list o) (sym (no_part first bytes i out.0)))
    (λ within. let at : i - first ≡ within.0 = omega (arith, within.1) in
    within.3 ∙ ap (λ (j : ℕ). disk.contents i ++ sector j bytes ∷ []) (sym at)
    ∙ ap (λ o. disk.contents i ++ option_to_list o) (sym (some_part first bytes i (omega (arith, within.1)) (omega (arith, at, within.2)))))
    (run_contents disk first bytes (length bytes / 512) i)

contents-call : (disk : Disk) (call : Call) (i : ℕ) → is_write call ≡ true
    → (run disk (events_of call)).contents i ≡ disk.contents i ++ option_to_list (content_of i call)
contents-call disk (Wrote first bytes) i write =
    ap (λ (d : Disk). d.contents i) (run-append disk (sectors_from first bytes (length bytes / 512)) (Finish first bytes ∷ []))
    ∙ contents-sectors disk first bytes i
contents-call disk (Tore first bytes) i write = contents-sectors disk first bytes i
contents-call disk Synced i write = absurd (false≢true write)

cons-option : (o : Option (List ℕ)) (call : Call) (calls : List Call) (i : ℕ) → content_of i call ≡ o
    → filter_map (content_of i) (call ∷ calls) ≡ option_to_list o ++ filter_map (content_of i) calls
cons-option None call calls i at = ap (λ o. cons_option o (filter_map (content_of i) calls)) at
cons-option (Some x) call calls i at = ap (λ o. cons_option o (filter_map (content_of i) calls)) at

-- After writes only, a sector has its first content and those that were written to it.
pub contents-calls : (disk : Disk) (calls : List Call) (i : ℕ) → IsTrue (list_all is_write calls)
    → (run disk (flat_map events_of calls)).contents i ≡ disk.contents i ++ filter_map (content_of i) calls
contents-calls disk [] i all = sym (append-nil (disk.contents i))
contents-calls disk (call ∷ calls) i all =
    let parts = and_parts (is_write call) (list_all is_write calls) all in
    ap (λ (d : Disk). d.contents i) (run-append disk (events_of call) (flat_map events_of calls))
    ∙ contents-calls (run disk (events_of call)) calls i parts.1
    ∙ ap (λ (l : List (List ℕ)). l ++ filter_map (content_of i) calls) (contents-call disk call i parts.0)
    ∙ append_assoc (disk.contents i) (option_to_list (content_of i call)) (filter_map (content_of i) calls)
    ∙ ap (λ (l : List (List ℕ)). disk.contents i ++ l) (sym (cons-option (content_of i call) call calls i refl))

-- After calls that settle the device and then only writes, a sector has its synced content and those written
-- since.
pub contents-stopped : (start : List ℕ) (front back : List Call) (i : ℕ) → IsSettledBy front → IsTrue (list_all is_write back)
    → (run (settled start) (flat_map events_of (front ++ back))).contents i
    ≡ sector i (run (settled start) (flat_map events_of front)).seen ∷ filter_map (content_of i) back
contents-stopped start front back i settles writes =
    ap (λ (l : List Event). (run (settled start) l).contents i) (flat_map-append events_of front back)
    ∙ ap (λ (d : Disk). d.contents i) (run-append (settled start) (flat_map events_of front) (flat_map events_of back))
    ∙ ap (λ (d : Disk). (run d (flat_map events_of back)).contents i) (settles start)
    ∙ contents-calls (settled (run (settled start) (flat_map events_of front)).seen) back i writes

index_of_get : (xs : List (List ℕ)) (n : ℕ) (x : List ℕ) → Some x ≡ slice_get xs n → slice_index_or xs n [] ≡ x
index_of_get [] n x is = cc
index_of_get (y ∷ ys) zero x is = cc
index_of_get (y ∷ ys) (suc n) x is = index_of_get ys n x is

get_within : (xs : List (List ℕ)) (n : ℕ) → n < length xs → slice_get xs n ≡ None → ⊥
get_within [] n lt is = absurd (omega arith)
get_within (y ∷ ys) zero lt is = cc
get_within (y ∷ ys) (suc n) lt is = get_within ys n (omega arith) is

-- The content that a crash chooses by the number `choice`, modulo how many contents there are.
module _ (synced : List ℕ) (since : List (List ℕ)) (choice count : ℕ) (counted : count ≡ length since) where
  number_is : choice % length (synced ∷ since) ≡ choice % (count + 1)
  number_is = let size : length (synced ∷ since) ≡ count + 1 = omega (arith, counted) in ap (λ (n : ℕ). choice % n) size

  pub chosen_later : (content : List ℕ) → 0 < choice % (count + 1) → Some content ≡ slice_get since (choice % (count + 1) - 1)
      → chosen synced since choice ≡ content
  chosen_later content later is = ap (λ (n : ℕ). slice_index_or (synced ∷ since) n []) number_is ∙ at (choice % (count + 1)) later is
    where
      at : (n : ℕ) → 0 < n → Some content ≡ slice_get since (n - 1) → slice_index_or (synced ∷ since) n [] ≡ content
      at zero later is = absurd (omega arith)
      at (suc n) later is = let less : suc n - 1 ≡ n = omega arith in index_of_get since n content (is ∙ ap (slice_get since) less)

  pub chosen_there : 0 < choice % (count + 1) → slice_get since (choice % (count + 1) - 1) ≡ None → ⊥
  chosen_there later is = get_within since (choice % (count + 1) - 1) (omega (arith, counted)) is

-- If a device has had no write since it was created or last crashed, its image is the initial one.
pub disk_start : (start : List ℕ) (calls : List Call) → calls ≡ [] → run (settled start) (flat_map events_of calls) ≡ settled start
disk_start start calls none = ap (λ (l : List Call). run (settled start) (flat_map events_of l)) none

pub seen_start : (start : List ℕ) (calls : List Call) → calls ≡ [] → (run (settled start) (flat_map events_of calls)).seen ≡ start
seen_start start calls none = ap (λ (l : List Call). (run (settled start) (flat_map events_of l)).seen) none

pub only_start : (start : List ℕ) (calls : List Call) → calls ≡ [] → length start % 512 ≡ 0
    → Only (run (settled start) (flat_map events_of calls)).seen (IsImage (length start / 512) (run (settled start) (flat_map events_of calls)))
only_start start calls none whole image is =
    settled_only (length start / 512) start image (whole_sectors (length start) whole)
    (subst (λ (l : List Call). IsImage (length start / 512) (run (settled start) (flat_map events_of l)) image) none is)
    ∙ sym (seen_start start calls none)

-- The chosen contents form a possible image.
pub chosen_image : (n : ℕ) (disk : Disk) (choices : ℕ → ℕ) (image : List ℕ) → IsImage n disk disk.seen → length image ≡ 512 * n
    → TakesChoices n disk choices image → IsImage n disk image
chosen_image n disk choices image possible size takes = record {
  size = size;
  each = λ i lt. let some : 0 < length (disk.contents i) = omega (arith, (possible.each i lt).1) in
      let within : choices i % length (disk.contents i) < length (disk.contents i) = omega arith in
      subst (λ (x : List ℕ). Contains (disk.contents i) x) (sym (takes i lt))
      (Contains-get_or (disk.contents i) (choices i % length (disk.contents i)) [] within);
}
