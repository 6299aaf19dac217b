-- Lemmas about runs of sectors in images.
use Rattle.std.proofs.Common.{
  ◌≡◌,
  ◌⊎◌,
  inr,
  ℕ,
  zero,
  suc,
  ◌+◌,
  ◌*◌,
  ◌<◌,
  ◌≤◌,
  List,
  [],
  ◌∷◌,
  ◌++◌,
  length,
  take,
  drop,
  refl,
  sym,
  ◌∙◌,
  ap,
  arith,
  length-take,
  length-drop,
  take-append-drop,
  append_assoc,
}
use Rattle.std.proofs.lemmas.List.{take-append-le, take_all, drop_at}
use Rattle.sector_disk.specs.Image.{sector, written}
use Rattle.sector_disk.specs.ImageLaws.{sector_left, sector_drop, length-written, same_sectors, sector-written_inside, mixes_outside}
use Rattle.checkpoint.specs.Stores.{record_sectors}

-- a prefix of a prefix is a prefix of the list
pub take_of_take : (n m : ℕ) (xs : List ℕ) → n ≤ m → m ≤ length xs → take n (take m xs) ≡ take n xs
take_of_take n m xs h inside =
    let room : n ≤ length (take m xs) = simp length-take (omega arith) in
    sym (take-append-le n (take m xs) (drop m xs) room) ∙ ap (take n) (take-append-drop m xs)

-- each of the first k sectors of a list is the same in the prefix of k sectors
pub sector_of_take : (k j : ℕ) (xs : List ℕ) → j < k → 512 * k ≤ length xs → sector j (take (512 * k) xs) ≡ sector j xs
sector_of_take k j xs h inside =
    let room : 512 * j + 512 ≤ length (take (512 * k) xs) = simp length-take (omega arith) in
    sym (sector_left j (take (512 * k) xs) (drop (512 * k) xs) room) ∙ ap (sector j) (take-append-drop (512 * k) xs)

-- runs with the same sectors have the same bytes
pub same_run : (first k n : ℕ) (a b : List ℕ) → 512 * first + 512 * k ≤ length a → length b ≡ length a → ((j : ℕ) → j < k → sector (first + j) b ≡ sector (first + j) a) → n ≤ 512 * k
    → take n (drop (512 * first) b) ≡ take n (drop (512 * first) a)
same_run first k n a b inside size same fits =
    let room_a : 512 * k ≤ length (drop (512 * first) a) = simp length-drop (omega arith) in
    let room_b : 512 * k ≤ length (drop (512 * first) b) = simp length-drop (omega (arith, size)) in
    let long_a : length (take (512 * k) (drop (512 * first) a)) ≡ 512 * k = simp length-take (omega (arith, room_a)) in
    let long_b : length (take (512 * k) (drop (512 * first) b)) ≡ 512 * k = simp length-take (omega (arith, room_b)) in
    let one = same_sectors k (take (512 * k) (drop (512 * first) b)) (take (512 * k) (drop (512 * first) a)) long_b long_a
    (λ j h. sector_of_take k j (drop (512 * first) b) h room_b ∙ sector_drop first j b ∙ same j h ∙ sym (sector_drop first j a) ∙ sym (sector_of_take k j (drop (512 * first) a) h room_a)) in
    sym (take_of_take n (512 * k) (drop (512 * first) b) fits room_b) ∙ ap (take n) one ∙ take_of_take n (512 * k) (drop (512 * first) a) fits room_a

-- reading a run that was just written returns its bytes
pub read_written : (first n : ℕ) (bytes image : List ℕ) → 512 * first + length bytes ≤ length image → n ≤ length bytes → take n (drop (512 * first) (written first bytes image)) ≡ take n bytes
read_written first n bytes image inside fits =
    let rest = drop (512 * first + length bytes) image in
    let prefix : length (take (512 * first) image) ≡ 512 * first = simp length-take (omega arith) in
    ap (take n) (ap (drop (512 * first)) (append_assoc (take (512 * first) image) bytes rest) ∙ drop_at (take (512 * first) image) (bytes ++ rest) (512 * first) prefix)
    ∙ take-append-le n bytes rest fits

-- a sector that was just written has the written bytes
pub sector_written : (first : ℕ) (bytes image : List ℕ) → length bytes ≡ 512 → 512 * first + 512 ≤ length image → sector first (written first bytes image) ≡ bytes
sector_written first bytes image one inside =
    let whole : length bytes ≡ 512 * 1 = omega (arith, one) in
    let room : 512 * first + 512 * 1 ≤ length image = omega arith in
    let at : first + 0 ≡ first = omega arith in
    ap (λ (i : ℕ). sector i (written first bytes image)) (sym at) ∙ sector-written_inside first 1 bytes image whole room 0 (omega arith) ∙ take_all 512 bytes (omega (arith, one))

-- outside the run, a written image has the old sectors
pub written_outside : (first k : ℕ) (bytes image : List ℕ) → length bytes ≡ 512 * k → 512 * first + 512 * k ≤ length image → (i : ℕ)
    → (i < first) ⊎ (first + k ≤ i) → sector i (written first bytes image) ≡ sector i image
written_outside first k bytes image whole inside =
    mixes_outside first k bytes image (written first bytes image) whole inside (record { size = length-written first k bytes image whole inside; each = λ i. inr refl })

-- images with the same record sectors have the same records
pub same_records : (i n : ℕ) (a b : List ℕ) → ((j : ℕ) → i ≤ j → j < i + n → sector (2 + j) b ≡ sector (2 + j) a) → record_sectors i n b ≡ record_sectors i n a
same_records i zero a b same = refl
same_records i (suc n) a b same =
    let first = same i (omega arith) (omega arith) in
    let rest = same_records (suc i) n a b (λ j from to. same j (omega arith) (omega (arith, to))) in
    ap (λ (s : List ℕ). s ∷ record_sectors (suc i) n b) first ∙ ap (λ (l : List (List ℕ)). sector (2 + i) a ∷ l) rest

-- a run of n + 1 record sectors is one of n and one more sector
pub record_sectors-more : (i n : ℕ) (image : List ℕ) → record_sectors i (suc n) image ≡ record_sectors i n image ++ sector (2 + (i + n)) image ∷ []
record_sectors-more i zero image = ap (λ (j : ℕ). sector (2 + j) image ∷ []) (omega arith)
record_sectors-more i (suc n) image =
    let at : suc i + n ≡ i + suc n = omega arith in
    ap (λ (l : List (List ℕ)). sector (2 + i) image ∷ l) (record_sectors-more (suc i) n image ∙ ap (λ (j : ℕ). record_sectors (suc i) n image ++ sector (2 + j) image ∷ []) at)
