-- The effect of a device's call on its possible images.
use Rattle.std.proofs.Common.{
  ◌≡◌,
  ◌⊎◌,
  inl,
  inr,
  ⊎_elim,
  ℕ,
  suc,
  ◌+◌,
  ◌*◌,
  ◌/◌,
  ◌<◌,
  ◌≤◌,
  Bool,
  true,
  false,
  List,
  [],
  ◌∷◌,
  ◌++◌,
  length,
  take,
  drop,
  refl,
  sym,
  ◌∙◌,
  ap,
  subst,
  arith,
  length-append,
  Result,
  Ok,
  Err,
  is_ok,
}
use Rattle.std.proofs.lemmas.List.{take-append-le, drop-append-le, take_all, drop_all}
use Rattle.std.proofs.lemmas.Bool.{cases_lt, false≢true}
use Rattle.std.specs.Prelude.{IsOk, OnOk, OnErr}
use Rattle.std.specs.List.{Contains}
use Rattle.sector_disk.specs.Image.{sector, written}
use Rattle.sector_disk.specs.Model.{Disk, Event, Finish, Sync, Show, run, IsImage, sectors_from, finished}
use Rattle.sector_disk.specs.ModelLaws.{
  run-append,
  seen-sectors_from,
  finished-append,
  length-sectors_from,
  finished-sectors_from,
  finished-drop_sectors,
  take-sectors_from,
  image_later,
  image_reached,
  image_from_reached,
  settled_only,
  left_before,
  left_within,
  left_cases,
}
use Rattle.sector_disk.specs.Sectors.{Reached, AddsContents, Only, SameImages, Passes}
use Rattle.sector_disk.specs.History.{History, disk_in, seen_in, MayLeaveIn, clock_in, MayHaveLeftIn}

-- the history with these events appended
abbrev after : History → List Event → History
after old more = record { sectors = old.sectors; start = old.start; events = old.events ++ more; calls = old.calls + finished more }

-- the new history is the old one with these events appended
pub record GoesOn (old new : History) (more : List Event) : Type 0 where
  pub sectors : new.sectors ≡ old.sectors
  pub start : new.start ≡ old.start
  pub events : new.events ≡ old.events ++ more
  pub calls : new.calls ≡ old.calls + finished more

is_after : (old new : History) (more : List Event) → GoesOn old new more → new ≡ after old more
is_after old new more on = rw (← on.sectors, ← on.start, ← on.events, ← on.calls) refl

-- the rest of the events is empty, or one event that changes no content
pub record IsQuiet (rest : List Event) : Type 0 where
  pub few : length rest ≤ 1
  pub same : (d : Disk) (i : ℕ) → (run d rest).contents i ≡ d.contents i

pub quiet_none : IsQuiet []
quiet_none = record { few = omega arith; same = λ d i. refl }

pub quiet_show : (image : List ℕ) → IsQuiet (Show image ∷ [])
quiet_show image = record { few = omega arith; same = λ d i. refl }

with_same : (n : ℕ) (a b : Disk) (image : List ℕ) → ((i : ℕ) → a.contents i ≡ b.contents i) → IsImage n a image → IsImage n b image
with_same n a b image same is = record { size = is.size; each = λ i lt. subst (λ (xs : List (List ℕ)). Contains xs (sector i image)) (same i) (is.each i lt) }

abbrev PassesIn : History → History → (List ℕ → Type 0) → Type 0
PassesIn old new within = Passes clock_in MayHaveLeftIn (λ (c : History). c.calls) MayLeaveIn within old new

-- a call that wrote k sectors, followed by at most one more event
module _ (old : History) (first k : ℕ) (bytes : List ℕ) (rest : List Event) where
  abbrev sectors : List Event
  sectors = sectors_from first bytes k

  abbrev new : History
  new = after old (sectors_from first bytes k ++ rest)

  cut : (j : ℕ) → j ≤ k → take j (sectors ++ rest) ≡ sectors_from first bytes j
  cut j le = take-append-le j sectors rest (omega (arith, le, length-sectors_from first bytes k)) ∙ take-sectors_from first bytes k j le

  unfinished : (j : ℕ) → j ≤ k → finished (drop j (sectors ++ rest)) ≡ finished (sectors ++ rest)
  unfinished j le =
      ap finished (drop-append-le j sectors rest (omega (arith, le, length-sectors_from first bytes k)))
      ∙ omega (
        arith,
        finished-append (drop j sectors) rest,
        finished-append sectors rest,
        finished-drop_sectors first bytes k j,
        finished-sectors_from first bytes k,
      )

  -- the moments of the call are added, if every image that its sectors may leave is in `within`
  passes : length rest ≤ 1 → (within : List ℕ → Type 0) → ((image : List ℕ) → IsImage old.sectors (run (disk_in old) sectors) image → within image)
      → PassesIn old new within
  passes few within inside = record {
    later = omega (arith, length-append old.events (sectors ++ rest));
    nothing_else = λ t m image le is. ⊎_elim (λ past. inl past) (λ now. inr (at now.0 m image now.2 now.3))
        (left_cases old.sectors old.start old.events (sectors ++ rest) old.calls t m image is);
    keeps = λ t m image le past. left_before old.sectors old.start old.events (sectors ++ rest) old.calls t m image past;
  }
    where
      at : (j m : ℕ) (image : List ℕ) → m + finished (drop j (sectors ++ rest)) ≡ old.calls + finished (sectors ++ rest)
          → IsImage old.sectors (run (disk_in old) (take j (sectors ++ rest))) image
          → ((m ≡ old.calls) × within image) ⊎ ((m ≡ new.calls) × MayLeaveIn new image)
      at j m image count is = ⊎_elim
          (λ (early : j < suc k). let le : j ≤ k = omega arith in
          inl (
            omega (arith, count, unfinished j le),
            inside image
                (image_later old.sectors (disk_in old) first bytes j k image le
                (subst (λ (l : List Event). IsImage old.sectors (run (disk_in old) l) image) (cut j le) is)),
          ))
          (λ (late : suc k ≤ j). let all : length (sectors ++ rest) ≤ j = omega (arith, few, length-append sectors rest, length-sectors_from first bytes k) in
          inr (
            omega (arith, count, ap finished (drop_all j (sectors ++ rest) all)),
            subst (λ (d : Disk). IsImage old.sectors d image)
                (ap (run (disk_in old)) (take_all j (sectors ++ rest) all) ∙ sym (run-append old.start old.events (sectors ++ rest))) is,
          ))
          (cases_lt j (suc k))

  disk_is : disk_in new ≡ run (run (disk_in old) sectors) rest
  disk_is = run-append old.start old.events (sectors ++ rest) ∙ run-append (disk_in old) sectors rest

  -- every image after the call is one that the written sectors may leave
  leaves : IsQuiet rest → (image : List ℕ) → MayLeaveIn new image → IsImage old.sectors (run (disk_in old) sectors) image
  leaves quiet image is =
      with_same old.sectors (run (run (disk_in old) sectors) rest) (run (disk_in old) sectors) image (quiet.same _)
      (subst (λ (d : Disk). IsImage old.sectors d image) disk_is is)

  all_left : IsQuiet rest → (image : List ℕ) → IsImage old.sectors (run (disk_in old) sectors) image → MayLeaveIn new image
  all_left quiet image is =
      subst (λ (d : Disk). IsImage old.sectors d image) (sym disk_is)
      (with_same old.sectors (run (disk_in old) sectors) (run (run (disk_in old) sectors) rest) image (λ i. sym (quiet.same _ i)) is)

-- the cases of a write: it finished, or some of its sectors were written
pub data WriteCase (old new : History) (first : ℕ) (bytes : List ℕ) : Bool → Type 0 where
  finishes : GoesOn old new (sectors_from first bytes (length bytes / 512) ++ Finish first bytes ∷ []) → WriteCase old new first bytes true
  tears : (k : ℕ) → k ≤ length bytes / 512 → (rest : List Event) → IsQuiet rest → GoesOn old new (sectors_from first bytes k ++ rest)
      → WriteCase old new first bytes false

pub record Writes {T E : Type 0} (old new : History) (first : ℕ) (bytes : List ℕ) (result : Result T E) : Type 0 where
  pub seen : OnOk result (seen_in new ≡ written first bytes (seen_in old))
  pub contents : AddsContents result first bytes (MayLeaveIn old) (MayLeaveIn new)
  pub within : OnOk result ((t : ℕ) (image : List ℕ) → t ≤ clock_in old → Reached first bytes (MayLeaveIn old) image → MayHaveLeftIn new t old.calls image)
  pub moments : PassesIn old new (Reached first bytes (MayLeaveIn old))

-- a write of whole sectors inside the device, for which the image that reads return is possible
module _ (old : History) (first : ℕ) (bytes : List ℕ) (whole : length bytes ≡ 512 * (length bytes / 512)) (inside : first + length bytes / 512 ≤ old.sectors)
    (possible : MayLeaveIn old (seen_in old)) where
  reached : (k : ℕ) → k ≤ length bytes / 512 → (image : List ℕ) → IsImage old.sectors (run (disk_in old) (sectors_from first bytes k)) image
      → Reached first bytes (MayLeaveIn old) image
  reached k le image is =
      image_reached old.sectors (disk_in old) first (length bytes / 512) bytes whole inside possible image
      (image_later old.sectors (disk_in old) first bytes k (length bytes / 512) image le is)

  from_reached : (image : List ℕ) → Reached first bytes (MayLeaveIn old) image
      → IsImage old.sectors (run (disk_in old) (sectors_from first bytes (length bytes / 512))) image
  from_reached = image_from_reached old.sectors (disk_in old) first (length bytes / 512) bytes whole inside

  adds : {T E : Type 0} (result : Result T E) (k : ℕ) → k ≤ length bytes / 512 → (IsOk result → k ≡ length bytes / 512) → (rest : List Event) → IsQuiet rest
      → AddsContents result first bytes (MayLeaveIn old) (MayLeaveIn (after old (sectors_from first bytes k ++ rest)))
  adds result k le all rest quiet = record {
    nothing_else = λ image is. reached k le image (leaves old first k bytes rest quiet image is);
    keeps = λ image is. all_left old first k bytes rest quiet image (image_later old.sectors (disk_in old) first bytes 0 k image (omega arith) is);
    all = λ ok image is. all_left old first k bytes rest quiet image
        (image_later old.sectors (disk_in old) first bytes (length bytes / 512) k image (omega (arith, all ok)) (from_reached image is));
  }

  pub write_means : {T E : Type 0} (new : History) (result : Result T E) → WriteCase old new first bytes (is_ok result) → Writes old new first bytes result
  write_means new (Ok x) (finishes on) =
      let k = length bytes / 512 in
      let last = Finish first bytes ∷ [] in
      let sectors = sectors_from first bytes k in
      rw (is_after old new (sectors ++ last) on) (record {
        seen = ap (λ (d : Disk). d.seen) (disk_is old first k bytes last) ∙ ap (written first bytes) (seen-sectors_from (disk_in old) first bytes k);
        contents = adds (Ok x) k (omega arith) (λ ok. refl) last (record { few = omega arith; same = λ d i. refl });
        within = λ t image le is. left_within old.sectors old.start old.events (sectors ++ last) old.calls t k old.calls image le
            (omega (arith, length-append sectors last, length-sectors_from first bytes k))
            (omega (arith, unfinished old first k bytes last k (omega arith)))
            (subst (λ (l : List Event). IsImage old.sectors (run (disk_in old) l) image) (sym (cut old first k bytes last k (omega arith)))
            (from_reached image is));
        moments = passes old first k bytes last (omega arith) (Reached first bytes (MayLeaveIn old)) (reached k (omega arith));
      })
  write_means new (Err e) (tears k le rest quiet on) = rw (is_after old new (sectors_from first bytes k ++ rest) on) (record {
    seen = tt;
    contents = adds (Err e) k le (λ ok. absurd (false≢true ok)) rest quiet;
    within = tt;
    moments = passes old first k bytes rest quiet.few (Reached first bytes (MayLeaveIn old)) (reached k le);
  })

-- the cases of a sync
pub data SyncCase (old new : History) : Bool → Type 0 where
  syncs : GoesOn old new (Sync ∷ []) → SyncCase old new true
  stays : (rest : List Event) → IsQuiet rest → GoesOn old new rest → SyncCase old new false

pub record Syncs {T E : Type 0} (old new : History) (result : Result T E) : Type 0 where
  pub seen : OnOk result (seen_in new ≡ seen_in old)
  pub durable : OnOk result (Only (seen_in old) (MayLeaveIn new))
  pub contents : OnErr result (SameImages (MayLeaveIn old) (MayLeaveIn new))
  pub moments : PassesIn old new (MayLeaveIn old)

pub sync_means : {T E : Type 0} (old new : History) → MayLeaveIn old (seen_in old) → (result : Result T E) → SyncCase old new (is_ok result)
    → Syncs old new result
sync_means old new possible (Ok x) (syncs on) = rw (is_after old new (Sync ∷ []) on) (record {
  seen = ap (λ (d : Disk). d.seen) (disk_is old 0 0 [] (Sync ∷ []));
  durable = λ image is. settled_only old.sectors (seen_in old) image possible.size
      (subst (λ (d : Disk). IsImage old.sectors d image) (disk_is old 0 0 [] (Sync ∷ [])) is);
  contents = tt;
  moments = passes old 0 0 [] (Sync ∷ []) (omega arith) (MayLeaveIn old) (λ image is. is);
})
sync_means old new possible (Err e) (stays rest quiet on) = rw (is_after old new rest on) (record {
  seen = tt;
  durable = tt;
  contents = record { nothing_else = leaves old 0 0 [] rest quiet; keeps = all_left old 0 0 [] rest quiet };
  moments = passes old 0 0 [] rest quiet.few (MayLeaveIn old) (λ image is. is);
})
