-- The effect of events on the possible images of a device.
use Rattle.std.proofs.Common.{
  ◌≡◌,
  ◌≢◌,
  ◌⊎◌,
  inl,
  inr,
  ⊎_elim,
  ℕ,
  zero,
  suc,
  ◌+◌,
  ◌-◌,
  ◌*◌,
  ◌<◌,
  ◌≤◌,
  Bool,
  true,
  false,
  List,
  [],
  ◌∷◌,
  ◌++◌,
  length,
  take,
  drop,
  refl,
  sym,
  ◌∙◌,
  ap,
  subst,
  arith,
  length-append,
  if◌then◌else◌,
  ◌==◌,
}
use Rattle.std.specs.List.{Contains}
use Rattle.std.proofs.lemmas.List.{take-append-le, drop-append-le, drop_all}
use Rattle.std.proofs.lemmas.List.Elements.{Contains-append_left, Contains-push, Contains-push_cases}
use Rattle.std.proofs.Math.Seq.{take-append-add, drop-append-add}
use Rattle.std.proofs.lemmas.Bool.{cases_lt}
use Rattle.std.proofs.lemmas.Bool.Decides.{eqb_tells}
use Rattle.sector_disk.specs.Image.{sector, written}
use Rattle.sector_disk.specs.ImageLaws.{sector_drop, length-sector, sector-written_inside, sector-written_cases, same_sectors, image_of}
use Rattle.sector_disk.specs.Model.{Disk, Event, Sector, Finish, Sync, Show, settled, next, run, IsImage, sectors_from, finished, MightHaveLeft}
use Rattle.sector_disk.specs.Sectors.{Reached}

pub run-append : (disk : Disk) (xs ys : List Event) → run disk (xs ++ ys) ≡ run (run disk xs) ys
run-append disk [] ys = refl
run-append disk (x ∷ xs) ys = run-append (next disk x) xs ys

pub finished-append : (xs ys : List Event) → finished (xs ++ ys) ≡ finished xs + finished ys
finished-append [] ys = omega arith
finished-append (Sector i content ∷ xs) ys = finished-append xs ys
finished-append (Finish first bytes ∷ xs) ys = omega (arith, finished-append xs ys)
finished-append (Sync ∷ xs) ys = omega (arith, finished-append xs ys)
finished-append (Show image ∷ xs) ys = finished-append xs ys

pub length-sectors_from : (first : ℕ) (bytes : List ℕ) (n : ℕ) → length (sectors_from first bytes n) ≡ n
length-sectors_from first bytes zero = refl
length-sectors_from first bytes (suc n) = ap suc (length-sectors_from (suc first) (drop 512 bytes) n)

pub finished-sectors_from : (first : ℕ) (bytes : List ℕ) (n : ℕ) → finished (sectors_from first bytes n) ≡ 0
finished-sectors_from first bytes zero = refl
finished-sectors_from first bytes (suc n) = finished-sectors_from (suc first) (drop 512 bytes) n

pub finished-drop_sectors : (first : ℕ) (bytes : List ℕ) (n j : ℕ) → finished (drop j (sectors_from first bytes n)) ≡ 0
finished-drop_sectors first bytes zero zero = refl
finished-drop_sectors first bytes zero (suc j) = refl
finished-drop_sectors first bytes (suc n) zero = finished-sectors_from (suc first) (drop 512 bytes) n
finished-drop_sectors first bytes (suc n) (suc j) = finished-drop_sectors (suc first) (drop 512 bytes) n j

pub take-sectors_from : (first : ℕ) (bytes : List ℕ) (n j : ℕ) → j ≤ n → take j (sectors_from first bytes n) ≡ sectors_from first bytes j
take-sectors_from first bytes n zero h = refl
take-sectors_from first bytes zero (suc j) h = absurd (omega arith)
take-sectors_from first bytes (suc n) (suc j) h =
    ap (λ (l : List Event). Sector first (take 512 bytes) ∷ l) (take-sectors_from (suc first) (drop 512 bytes) n j (omega arith))

pub seen-sectors_from : (disk : Disk) (first : ℕ) (bytes : List ℕ) (n : ℕ) → (run disk (sectors_from first bytes n)).seen ≡ disk.seen
seen-sectors_from disk first bytes zero = refl
seen-sectors_from disk first bytes (suc n) = seen-sectors_from (next disk (Sector first (take 512 bytes))) (suc first) (drop 512 bytes) n

-- one sector: the contents that an event adds, and those that it keeps
gain_if : (b : Bool) (xs : List (List ℕ)) (new x : List ℕ) → Contains (if b then xs ++ new ∷ [] else xs) x → Contains xs x ⊎ ((b ≡ true) × (x ≡ new))
gain_if true xs new x h = ⊎_elim (λ old. inl old) (λ e. inr (refl, sym e)) (Contains-push_cases xs new x h)
gain_if false xs new x h = inl h

keep_if : (b : Bool) (xs : List (List ℕ)) (new x : List ℕ) → Contains xs x → Contains (if b then xs ++ new ∷ [] else xs) x
keep_if true xs new x h = Contains-append_left xs (new ∷ []) x h
keep_if false xs new x h = h

new_if : (b : Bool) (xs : List (List ℕ)) (new : List ℕ) → b ≡ true → Contains (if b then xs ++ new ∷ [] else xs) new
new_if true xs new h = Contains-push xs new
new_if false xs new h = cc

pub contents_keep : (disk : Disk) (first : ℕ) (bytes : List ℕ) (n i : ℕ) (x : List ℕ) → Contains (disk.contents i) x
    → Contains ((run disk (sectors_from first bytes n)).contents i) x
contents_keep disk first bytes zero i x h = h
contents_keep disk first bytes (suc n) i x h =
    contents_keep (next disk (Sector first (take 512 bytes))) (suc first) (drop 512 bytes) n i x (keep_if (first == i) (disk.contents i) (take 512 bytes) x h)

pub contents_gain : (disk : Disk) (first : ℕ) (bytes : List ℕ) (n i : ℕ) (x : List ℕ) → Contains ((run disk (sectors_from first bytes n)).contents i) x
    → Contains (disk.contents i) x ⊎ ((j : ℕ) × (i ≡ first + j) × (j < n) × (x ≡ sector j bytes))
contents_gain disk first bytes zero i x h = inl h
contents_gain disk first bytes (suc n) i x h = ⊎_elim
    (λ before. ⊎_elim
    (λ old. inl old)
    (λ (new : ((first == i) ≡ true) × (x ≡ take 512 bytes)). inr (0, at_first new.0, omega arith, new.1))
    (gain_if (first == i) (disk.contents i) (take 512 bytes) x before))
    (λ (later : (j : ℕ) × (i ≡ suc first + j) × (j < n) × (x ≡ sector j (drop 512 bytes))). inr
    (suc later.0, omega (arith, later.1), omega (arith, later.2), later.3 ∙ sector_drop 1 later.0 bytes ∙ ap (λ (m : ℕ). sector m bytes) (omega arith)))
    (contents_gain (next disk (Sector first (take 512 bytes))) (suc first) (drop 512 bytes) n i x h)
  where
    at_first : (first == i) ≡ true → i ≡ first + 0
    at_first t =
        ⊎_elim (λ (yes : ((first == i) ≡ true) × (first ≡ i)). omega (arith, yes.1)) (λ (no : ((first == i) ≡ false) × (first ≢ i)). cc (t, no.0))
        (eqb_tells first i)

pub contents_new : (disk : Disk) (first : ℕ) (bytes : List ℕ) (n j : ℕ) → j < n
    → Contains ((run disk (sectors_from first bytes n)).contents (first + j)) (sector j bytes)
contents_new disk first bytes zero j h = absurd (omega arith)
contents_new disk first bytes (suc n) zero h =
    let at : first ≡ first + 0 = omega arith in
    let here : (first == (first + 0)) ≡ true =
    ⊎_elim (λ (yes : ((first == (first + 0)) ≡ true) × (first ≡ first + 0)). yes.0)
    (λ (no : ((first == (first + 0)) ≡ false) × (first ≢ first + 0)). absurd (no.1 at)) (eqb_tells first (first + 0)) in
    contents_keep (next disk (Sector first (take 512 bytes))) (suc first) (drop 512 bytes) n (first + 0) (take 512 bytes)
    (new_if (first == (first + 0)) (disk.contents (first + 0)) (take 512 bytes) here)
contents_new disk first bytes (suc n) (suc j) h =
    let later = contents_new (next disk (Sector first (take 512 bytes))) (suc first) (drop 512 bytes) n j (omega arith) in
    let at : suc first + j ≡ first + suc j = omega arith in
    let same : sector j (drop 512 bytes) ≡ sector (suc j) bytes = sector_drop 1 j bytes ∙ ap (λ (m : ℕ). sector m bytes) (omega arith) in
    let all = run (next disk (Sector first (take 512 bytes))) (sectors_from (suc first) (drop 512 bytes) n) in
    subst (λ (m : ℕ). Contains (all.contents m) (sector (suc j) bytes)) at (subst (λ (x : List ℕ). Contains (all.contents (suc first + j)) x) same later)

-- every image of a crash after j sectors of a run is possible after k sectors, if j ≤ k
pub image_later : (n : ℕ) (disk : Disk) (first : ℕ) (bytes : List ℕ) (j k : ℕ) (image : List ℕ) → j ≤ k
    → IsImage n (run disk (sectors_from first bytes j)) image → IsImage n (run disk (sectors_from first bytes k)) image
image_later n disk first bytes j k image le is = record {
  size = is.size;
  each = λ i h. ⊎_elim
      (λ old. contents_keep disk first bytes k i (sector i image) old)
      (λ (new : (l : ℕ) × (i ≡ first + l) × (l < j) × (sector i image ≡ sector l bytes)). subst
      (λ (x : List ℕ). Contains ((run disk (sectors_from first bytes k)).contents i) x) (sym new.3)
      (subst (λ (m : ℕ). Contains ((run disk (sectors_from first bytes k)).contents m) (sector new.0 bytes)) (sym new.1)
      (contents_new disk first bytes k new.0 (omega (arith, new.2, le)))))
      (contents_gain disk first bytes j i (sector i image) (is.each i h));
}

-- a write of k sectors inside a device of n sectors, for which the image that reads return is possible
module _ (n : ℕ) (disk : Disk) (first k : ℕ) (bytes : List ℕ) (whole : length bytes ≡ 512 * k) (inside : first + k ≤ n) where
  -- an image that is possible after the whole write is one that a crash within the write may leave
  pub image_reached : IsImage n disk disk.seen → (image : List ℕ) → IsImage n (run disk (sectors_from first bytes k)) image
      → Reached first bytes (IsImage n disk) image
  image_reached seen image is =
      let P : ℕ → List ℕ → Type 0 =
      λ i content. Contains (disk.contents i) content
      × ((sector i image ≡ content) ⊎ ((j : ℕ) × (i ≡ first + j) × (j < k) × (sector i image ≡ sector j bytes))) in
      let made = image_of n P (λ i h. ⊎_elim
      (λ old. (sector i image, length-sector i image (omega (arith, is.size)), (old, inl refl)))
      (λ new. (sector i disk.seen, length-sector i disk.seen (omega (arith, seen.size)), (seen.each i h, inr new)))
      (contents_gain disk first bytes k i (sector i image) (is.each i h))) in
      let before = made.0 in (
        before,
        record { size = made.1; each = λ i h. (made.2 i h).0 },
        record {
          size = is.size ∙ sym made.1;
          each =
              λ i. ⊎_elim (λ within. mixed before made.1 i (made.2 i within).1)
              (λ past. inl (outside image is.size i past ∙ sym (outside before made.1 i past))) (cases_lt i n);
        },
      )
    where
      outside : (xs : List ℕ) → length xs ≡ 512 * n → (i : ℕ) → n ≤ i → sector i xs ≡ []
      outside xs size i past = ap (take 512) (drop_all (512 * i) xs (omega arith))

      mixed : (before : List ℕ) → length before ≡ 512 * n → (i : ℕ)
          → (sector i image ≡ sector i before) ⊎ ((j : ℕ) × (i ≡ first + j) × (j < k) × (sector i image ≡ sector j bytes))
          → (sector i image ≡ sector i before) ⊎ (sector i image ≡ sector i (written first bytes before))
      mixed before size i (inl same) = inl same
      mixed before size i (inr new) =
          inr (new.3
          ∙ sym (ap (λ (m : ℕ). sector m (written first bytes before)) new.1
          ∙ sector-written_inside first k bytes before whole (omega (arith, size)) new.0 new.2))

  pub image_from_reached : (image : List ℕ) → Reached first bytes (IsImage n disk) image → IsImage n (run disk (sectors_from first bytes k)) image
  image_from_reached image reached =
      let before = reached.0 in
      let was = reached.1 in
      let mix = reached.2 in record {
        size = mix.size ∙ was.size;
        each = λ i h. ⊎_elim
            (λ same. old i before image (was.each i h) same)
            (λ same. ⊎_elim
            (λ (run_sector : (j : ℕ) × (i ≡ first + j) × (j < k)). new i run_sector.0 run_sector.1 run_sector.2 before image was.size same)
            (λ kept. old i before image (was.each i h) (same ∙ kept))
            (sector-written_cases first k bytes before whole (omega (arith, was.size)) i))
            (mix.each i);
      }
    where
      old : (i : ℕ) (before image : List ℕ) → Contains (disk.contents i) (sector i before) → sector i image ≡ sector i before
          → Contains ((run disk (sectors_from first bytes k)).contents i) (sector i image)
      old i before image had same =
          subst (λ (x : List ℕ). Contains ((run disk (sectors_from first bytes k)).contents i) x) (sym same)
          (contents_keep disk first bytes k i (sector i before) had)

      new : (i j : ℕ) → i ≡ first + j → j < k → (before image : List ℕ) → length before ≡ 512 * n → sector i image ≡ sector i (written first bytes before)
          → Contains ((run disk (sectors_from first bytes k)).contents i) (sector i image)
      new i j at lt before image size same =
          let is : sector i image ≡ sector j bytes =
          same ∙ ap (λ (m : ℕ). sector m (written first bytes before)) at ∙ sector-written_inside first k bytes before whole (omega (arith, size)) j lt in
          subst (λ (x : List ℕ). Contains ((run disk (sectors_from first bytes k)).contents i) x) (sym is)
          (subst (λ (m : ℕ). Contains ((run disk (sectors_from first bytes k)).contents m) (sector j bytes)) (sym at) (contents_new disk first bytes k j lt))

-- a settled device has one image
pub settled_image : (n : ℕ) (image : List ℕ) → length image ≡ 512 * n → IsImage n (settled image) image
settled_image n image size = record { size = size; each = λ i h. Contains-push [] (sector i image) }

pub settled_only : (n : ℕ) (seen image : List ℕ) → length seen ≡ 512 * n → IsImage n (settled seen) image → image ≡ seen
settled_only n seen image size is =
    same_sectors n image seen is.size size (λ i h. same i (Contains-push_cases [] (sector i seen) (sector i image) (is.each i h)))
  where
    same : (i : ℕ) → Contains [] (sector i image) ⊎ (sector i seen ≡ sector i image) → sector i image ≡ sector i seen
    same i (inl none) = absurd (omega (arith, none.1))
    same i (inr e) = sym e

-- the moments of a history after more events are appended
module _ (n : ℕ) (start : Disk) (events more : List Event) (calls : ℕ) where
  pub left_before : (from m : ℕ) (image : List ℕ) → MightHaveLeft n start events calls from m image
      → MightHaveLeft n start (events ++ more) (calls + finished more) from m image
  left_before from m image left = record {
    moment = left.moment;
    begun = left.begun;
    reached = omega (arith, left.reached, length-append events more);
    count = ap (λ (l : List Event). m + finished l) (drop-append-le left.moment events more left.reached)
        ∙ omega (arith, left.count, finished-append (drop left.moment events) more);
    is_image = subst (λ (l : List Event). IsImage n (run start l) image) (sym (take-append-le left.moment events more left.reached)) left.is_image;
  }

  -- a moment after one of the appended events
  pub left_within : (from j m : ℕ) (image : List ℕ) → from ≤ length events → j ≤ length more → m + finished (drop j more) ≡ calls + finished more
      → IsImage n (run (run start events) (take j more)) image
      → MightHaveLeft n start (events ++ more) (calls + finished more) from m image
  left_within from j m image le lt count is = record {
    moment = length events + j;
    begun = omega (arith, le);
    reached = omega (arith, lt, length-append events more);
    count = ap (λ (l : List Event). m + finished l) (drop-append-add events more j) ∙ count;
    is_image = subst (λ (l : List Event). IsImage n (run start l) image) (sym (take-append-add events more j))
        (subst (λ (d : Disk). IsImage n d image) (sym (run-append start events (take j more))) is);
  }

  pub left_cases : (from m : ℕ) (image : List ℕ) → MightHaveLeft n start (events ++ more) (calls + finished more) from m image
      → MightHaveLeft n start events calls from m image
      ⊎ ((j : ℕ) × (j ≤ length more) × (m + finished (drop j more) ≡ calls + finished more) × IsImage n (run (run start events) (take j more)) image)
  left_cases from m image left = ⊎_elim
      (λ (early : left.moment < length events). inl (record {
        moment = left.moment;
        begun = left.begun;
        reached = omega arith;
        count = early_count early;
        is_image = subst (λ (l : List Event). IsImage n (run start l) image) (take-append-le left.moment events more (omega arith)) left.is_image;
      }))
      (λ (late : length events ≤ left.moment). let at : left.moment ≡ length events + (left.moment - length events) = omega arith in inr (
        left.moment - length events,
        omega (arith, left.reached, length-append events more),
        ap (λ (l : List Event). m + finished l) (sym (ap (λ (k : ℕ). drop k (events ++ more)) at ∙ drop-append-add events more (left.moment - length events)))
            ∙ left.count,
        subst (λ (d : Disk). IsImage n d image) (run-append start events (take (left.moment - length events) more))
            (subst (λ (l : List Event). IsImage n (run start l) image)
            (ap (λ (k : ℕ). take k (events ++ more)) at ∙ take-append-add events more (left.moment - length events)) left.is_image),
      ))
      (cases_lt left.moment (length events))
    where
      early_count : left.moment < length events → m + finished (drop left.moment events) ≡ calls
      early_count early =
          let split : finished (drop left.moment (events ++ more)) ≡ finished (drop left.moment events) + finished more =
          ap finished (drop-append-le left.moment events more (omega arith)) ∙ finished-append (drop left.moment events) more in
          omega (arith, left.count, split)
