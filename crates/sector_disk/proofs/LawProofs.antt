-- Proofs of the laws of the model.
use Rattle.std.proofs.Common.{◌≡◌, ◌⊎◌, inl, inr, ℕ, zero, suc, ◌+◌, ◌*◌, ◌%◌, ◌<◌, ◌≤◌, List, [], ◌∷◌, length, take, drop, refl, sym, ◌∙◌, ap, subst, arith, length-take}
use Rattle.std.specs.Prelude.{◌^◌, slice_index, slice_index_or, All}
use Rattle.std.proofs.lemmas.List.{take-take, drop-take, get_or_read}
use Rattle.std.proofs.lemmas.List.Elements.{All-nil, All-cons}
use Rattle.std.proofs.Math.Nat.{mod-eq_of_lt}
use Rattle.std.proofs.lemmas.Bool.{cases_lt}
use Rattle.sector_disk.specs.Image.{sector}
use Rattle.sector_disk.specs.Model.{Event, Sector, Sync, next, run, IsImage, sectors_from}
use Rattle.sector_disk.specs.ModelLaws.{image_reached, image_from_reached, settled_image, settled_only}
use Rattle.sector_disk.specs.Memory.{Memory, len_of, disk_of, MayLeave}
use Rattle.sector_disk.specs.Laws.{HasOneImage, HasOldOrNew, HasChoices}

pub has_one_image : HasOneImage
has_one_image n disk image size = (
  settled_only n disk.seen image size,
  λ is. subst (IsImage n (next disk Sync)) (sym is) (settled_image n disk.seen size),
)

-- the first j sectors of the bytes depend only on the first 512 * j bytes
sectors_of_front : (first : ℕ) (bytes : List ℕ) (j : ℕ) → sectors_from first (take (512 * j) bytes) j ≡ sectors_from first bytes j
sectors_of_front first bytes zero = refl
sectors_of_front first bytes (suc j) =
    let more : 512 * suc j ≡ 512 + 512 * j = omega arith in
    let here : take 512 (take (512 * suc j) bytes) ≡ take 512 bytes = take-take 512 (512 * suc j) bytes (omega arith) in
    let there : drop 512 (take (512 * suc j) bytes) ≡ take (512 * j) (drop 512 bytes) =
    ap (λ (n : ℕ). drop 512 (take n bytes)) more ∙ drop-take 512 (512 * j) bytes in
    ap (λ (content : List ℕ). Sector first content ∷ sectors_from (suc first) (drop 512 (take (512 * suc j) bytes)) j) here
    ∙ ap (λ (rest : List ℕ). Sector first (take 512 bytes) ∷ sectors_from (suc first) rest j) there
    ∙ ap (λ (events : List Event). Sector first (take 512 bytes) ∷ events) (sectors_of_front (suc first) (drop 512 bytes) j)

pub has_old_or_new : HasOldOrNew
has_old_or_new n first j disk bytes image whole inside few possible =
    let size : length (take (512 * j) bytes) ≡ 512 * j = simp length-take (omega arith) in
    let fits : first + j ≤ n = omega arith in (
      λ is. image_reached n disk first j (take (512 * j) bytes) size fits possible image
          (subst (λ (events : List Event). IsImage n (run disk events) image) (sym (sectors_of_front first bytes j)) is),
      λ reached. subst (λ (events : List Event). IsImage n (run disk events) image) (sectors_of_front first bytes j)
          (image_from_reached n disk first j (take (512 * j) bytes) size fits image reached),
    )

module _ (m : Memory) (image : List ℕ) (is : MayLeave m image) where
  choice_of : (i : ℕ) → (i < len_of m) ⊎ (len_of m ≤ i) → ℕ
  choice_of i (inl lt) = (is.each i lt).0
  choice_of i (inr past) = 0

  taken : (i : ℕ) (c : (i < len_of m) ⊎ (len_of m ≤ i)) → i < len_of m
      → sector i image ≡ slice_index_or ((disk_of m).contents i) (choice_of i c % length ((disk_of m).contents i)) []
  unfolding choice_of
  taken i (inl lt) h =
      let at = is.each i lt in
      get_or_read ((disk_of m).contents i) at.0 (sector i image) at.1 (sym at.2) []
      ∙ ap (λ (k : ℕ). slice_index_or ((disk_of m).contents i) k []) (sym (mod-eq_of_lt at.1))
  taken i (inr past) h = absurd (omega arith)

  below : (i : ℕ) (c : (i < len_of m) ⊎ (len_of m ≤ i)) → i < len_of m → choice_of i c < length ((disk_of m).contents i)
  unfolding choice_of
  below i (inl lt) h = (is.each i lt).1
  below i (inr past) h = absurd (omega arith)

-- the first n values of a function
tabulate : ℕ → (ℕ → ℕ) → List ℕ
tabulate zero f = []
tabulate (suc n) f = f 0 ∷ tabulate n (λ i. f (suc i))

slice_index-tabulate : (n : ℕ) (f : ℕ → ℕ) (i : ℕ) → i < n → slice_index (tabulate n f) i ≡ f i
unfolding tabulate
slice_index-tabulate zero f i lt = absurd (omega arith)
slice_index-tabulate (suc n) f zero lt = refl
slice_index-tabulate (suc n) f (suc i) lt = slice_index-tabulate n (λ i. f (suc i)) i (omega arith)

All-tabulate : (P : ℕ → Type 0) (n : ℕ) (f : ℕ → ℕ) → ((i : ℕ) → i < n → P (f i)) → All P (tabulate n f)
unfolding tabulate
All-tabulate P zero f each = All-nil P
All-tabulate P (suc n) f each =
    All-cons P (f 0) (tabulate n (λ i. f (suc i))) (each 0 (omega arith)) (All-tabulate P n (λ i. f (suc i)) (λ i lt. each (suc i) (omega arith)))

pub has_choices : HasChoices
has_choices m image few is =
    let f = λ (i : ℕ). choice_of m image is i (cases_lt i (len_of m)) in
    let n = len_of m in (
      tabulate n f,
      All-tabulate (λ c. c < 2 ^ 32) n f (λ i lt. omega (arith, below m image is i (cases_lt i n) lt, few i lt)),
      λ i lt. taken m image is i (cases_lt i n) lt
          ∙ ap (λ (k : ℕ). slice_index_or ((disk_of m).contents i) (k % length ((disk_of m).contents i)) []) (sym (slice_index-tabulate n f i lt)),
    )
