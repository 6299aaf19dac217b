-- Lemmas about the sectors of images.
use Rattle.std.proofs.Common.{
  ◌≡◌,
  ◌⊎◌,
  inl,
  inr,
  ⊎_elim,
  ℕ,
  zero,
  suc,
  ◌+◌,
  ◌-◌,
  ◌*◌,
  ◌<◌,
  ◌≤◌,
  List,
  [],
  ◌∷◌,
  ◌++◌,
  length,
  take,
  drop,
  refl,
  sym,
  ◌∙◌,
  ap,
  subst,
  arith,
  length-append,
  length-take,
  length-drop,
  take-append-drop,
}
use Rattle.std.proofs.lemmas.List.{take_at, take-append-le, drop-drop, drop-append-le, drop_at}
use Rattle.std.proofs.lemmas.Bool.{cases_lt}
use Rattle.sector_disk.specs.Image.{sector, written, Mixes}

-- If sector i is inside the first of two joined lists, it is sector i of this list.
pub sector_left : (i : ℕ) (xs ys : List ℕ) → 512 * i + 512 ≤ length xs → sector i (xs ++ ys) ≡ sector i xs
sector_left i xs ys h =
    let begins : 512 * i ≤ length xs = omega arith in
    let rest : 512 ≤ length (drop (512 * i) xs) = simp length-drop (omega arith) in
    ap (take 512) (drop-append-le (512 * i) xs ys begins) ∙ take-append-le 512 (drop (512 * i) xs) ys rest

-- If the first of two joined lists has f sectors, sector f + j of both is sector j of the second.
pub sector_right : (f j : ℕ) (xs ys : List ℕ) → length xs ≡ 512 * f → sector (f + j) (xs ++ ys) ≡ sector j ys
sector_right f j xs ys h =
    let at : 512 * (f + j) ≡ 512 * f + 512 * j = omega arith in
    ap (take 512) (ap (λ (n : ℕ). drop n (xs ++ ys)) at ∙ sym (drop-drop (512 * j) (512 * f) (xs ++ ys)) ∙ ap (drop (512 * j)) (drop_at xs ys (512 * f) h))

pub sector_drop : (f j : ℕ) (xs : List ℕ) → sector j (drop (512 * f) xs) ≡ sector (f + j) xs
sector_drop f j xs =
    let at : 512 * f + 512 * j ≡ 512 * (f + j) = omega arith in
    ap (take 512) (drop-drop (512 * j) (512 * f) xs ∙ ap (λ (n : ℕ). drop n xs) at)

pub length-sector : (i : ℕ) (xs : List ℕ) → 512 * i + 512 ≤ length xs → length (sector i xs) ≡ 512
length-sector i xs h = simp (length-take, length-drop) (omega arith)

-- A run of k sectors from sector `first` on, inside an image.
module _ (first k : ℕ) (bytes image : List ℕ) (whole : length bytes ≡ 512 * k) (inside : 512 * first + 512 * k ≤ length image) where
  front : length (take (512 * first) image) ≡ 512 * first
  front = simp length-take (omega arith)

  front_and_run : length (take (512 * first) image ++ bytes) ≡ 512 * (first + k)
  front_and_run = simp length-append (omega (arith, front, whole))

  pub length-written : length (written first bytes image) ≡ length image
  length-written =
      simp (length-append, length-drop) (omega (arith, front, whole))

  -- The content written to a sector of the run.
  pub sector-written_inside : (j : ℕ) → j < k → sector (first + j) (written first bytes image) ≡ sector j bytes
  sector-written_inside j h =
      sector_left (first + j) (take (512 * first) image ++ bytes) (drop (512 * first + length bytes) image) (omega (arith, front_and_run))
      ∙ sector_right first j (take (512 * first) image) bytes front

  pub sector-written_before : (i : ℕ) → i < first → sector i (written first bytes image) ≡ sector i image
  sector-written_before i h =
      let rest = drop (512 * first + length bytes) image in
      sector_left i (take (512 * first) image ++ bytes) rest (omega (arith, front_and_run))
      ∙ sector_left i (take (512 * first) image) bytes (omega (arith, front))
      ∙ sym (sector_left i (take (512 * first) image) (drop (512 * first) image) (omega (arith, front)))
      ∙ ap (sector i) (take-append-drop (512 * first) image)

  pub sector-written_after : (j : ℕ) → sector (first + k + j) (written first bytes image) ≡ sector (first + k + j) image
  sector-written_after j =
      let at : 512 * first + length bytes ≡ 512 * (first + k) = omega (arith, whole) in
      sector_right (first + k) j (take (512 * first) image ++ bytes) (drop (512 * first + length bytes) image) front_and_run
      ∙ ap (λ (n : ℕ). sector j (drop n image)) at
      ∙ sector_drop (first + k) j image

  -- A sector of a written image lies in the run and has its new content, or it has its old content.
  pub sector-written_cases : (i : ℕ) → ((j : ℕ) × (i ≡ first + j) × (j < k)) ⊎ (sector i (written first bytes image) ≡ sector i image)
  sector-written_cases i = ⊎_elim
      (λ (before : i < first). inr (sector-written_before i before))
      (λ (from : first ≤ i). ⊎_elim
      (λ (within : i < first + k). inl (i - first, omega arith, omega arith))
      (λ (after : first + k ≤ i). inr
      (let at : first + k + (i - (first + k))
      ≡ i = omega arith in subst (λ (n : ℕ). sector n (written first bytes image) ≡ sector n image) at (sector-written_after (i - (first + k)))))
      (cases_lt i (first + k)))
      (cases_lt i first)

-- Images with the same sectors are equal.
pub same_sectors : (n : ℕ) (xs ys : List ℕ) → length xs ≡ 512 * n → length ys ≡ 512 * n → ((i : ℕ) → i < n → sector i xs ≡ sector i ys) → xs ≡ ys
same_sectors zero [] [] hx hy same = refl
same_sectors zero [] (y ∷ ys) hx hy same = absurd (omega arith)
same_sectors zero (x ∷ xs) ys hx hy same = absurd (omega arith)
same_sectors (suc n) xs ys hx hy same =
    let rest_xs : length (drop 512 xs) ≡ 512 * n = simp length-drop (omega arith) in
    let rest_ys : length (drop 512 ys) ≡ 512 * n = simp length-drop (omega arith) in
    let rest = same_sectors n (drop 512 xs) (drop 512 ys) rest_xs rest_ys (λ i h. sector_drop 1 i xs ∙ same (1 + i) (omega arith) ∙ sym (sector_drop 1 i ys)) in
    let first : take 512 xs ≡ take 512 ys = same 0 (omega arith) in
    sym (take-append-drop 512 xs) ∙ ap (λ (l : List ℕ). l ++ drop 512 xs) first ∙ ap (λ (l : List ℕ). take 512 ys ++ l) rest ∙ take-append-drop 512 ys

-- An image built from one content for each sector.
pub image_of : (n : ℕ) (P : ℕ → List ℕ → Type 0) → ((i : ℕ) → i < n → (content : List ℕ) × (length content ≡ 512) × P i content)
    → (image : List ℕ) × (length image ≡ 512 * n) × ((i : ℕ) → i < n → P i (sector i image))
image_of zero P each = ([], refl, λ i h. absurd (omega arith))
image_of (suc n) P each =
    let first = each 0 (omega arith) in
    let rest = image_of n (λ i. P (suc i)) (λ i h. each (suc i) (omega arith)) in
    let size : length (first.0 ++ rest.0) ≡ 512 * suc n = simp length-append (omega (arith, first.1, rest.1)) in
    (first.0 ++ rest.0, size, at first.0 first.1 rest.0 first.2 rest.2)
  where
    at : (content : List ℕ) → length content ≡ 512 → (image : List ℕ) → P 0 content → ((i : ℕ) → i < n → P (suc i) (sector i image)) → (i : ℕ) → i < suc n
        → P i (sector i (content ++ image))
    at content size image p rest zero h = subst (P 0) (sym (take_at content image 512 size)) p
    at content size image p rest (suc i) h =
        let same : sector i image ≡ sector (suc i) (content ++ image) =
        sym (sector_right 1 i content image (size ∙ refl)) ∙ ap (λ (m : ℕ). sector m (content ++ image)) (omega arith) in
        subst (P (suc i)) same (rest i (omega arith))

-- Outside the run a mixture has the old content.
pub mixes_outside : (first k : ℕ) (bytes old mixture : List ℕ) → length bytes ≡ 512 * k → 512 * first + 512 * k ≤ length old
    → Mixes old (written first bytes old) mixture → (i : ℕ) → (i < first) ⊎ (first + k ≤ i)
    → sector i mixture ≡ sector i old
mixes_outside first k bytes old mixture whole inside mix i out = ⊎_elim
    (λ same. same)
    (λ new. new ∙ ⊎_elim
    (λ (within : (j : ℕ) × (i ≡ first + j) × (j < k)). absurd
    (⊎_elim (λ (low : i < first). omega (arith, within.1)) (λ (high : first + k ≤ i). omega (arith, within.1, within.2)) out))
    (λ kept. kept)
    (sector-written_cases first k bytes old whole inside i))
    (mix.each i)

-- Images that agree at one sector and at all others are equal.
same_elsewhere : (n first : ℕ) (xs ys : List ℕ) → length xs ≡ 512 * n → length ys ≡ 512 * n → sector first xs ≡ sector first ys
    → ((i : ℕ) → (i < first) ⊎ (first + 1 ≤ i) → sector i xs ≡ sector i ys) → xs ≡ ys
same_elsewhere n first xs ys long_xs long_ys here there = same_sectors n xs ys long_xs long_ys (λ i lt. ⊎_elim
    (λ (low : i < first). there i (inl low))
    (λ (from : first ≤ i). ⊎_elim
    (λ (is : i < first + 1). let at : first ≡ i = omega arith in subst (λ (m : ℕ). sector m xs ≡ sector m ys) at here)
    (λ (high : first + 1 ≤ i). there i (inr high))
    (cases_lt i (first + 1)))
    (cases_lt i first))

-- A write of one sector is either complete or absent.
pub mixes_one : (n first : ℕ) (bytes old mixture : List ℕ) → length old ≡ 512 * n → length bytes ≡ 512 → first < n → Mixes old (written first bytes old) mixture
    → (mixture ≡ old) ⊎ (mixture ≡ written first bytes old)
mixes_one n first bytes old mixture size one inside mix =
    let whole : length bytes ≡ 512 * 1 = omega (arith, one) in
    let within : 512 * first + 512 * 1 ≤ length old = omega (arith, size) in
    let new = written first bytes old in
    let long : length new ≡ length old = length-written first 1 bytes old whole within in
    let kept = mixes_outside first 1 bytes old mixture whole within mix in
    let kept_new = mixes_outside first 1 bytes old new whole within (record { size = long; each = λ i. inr refl }) in ⊎_elim
    (λ same. inl (same_elsewhere n first mixture old (mix.size ∙ size) size same kept))
    (λ changed. inr (same_elsewhere n first mixture new (mix.size ∙ size) (long ∙ size) changed (λ i out. kept i out ∙ sym (kept_new i out))))
    (mix.each first)
