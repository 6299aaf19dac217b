-- An image with zeros in the headers and the records has no store.
use Rattle.std.proofs.Common.{◌≡◌, ⊎_elim, ℕ, ◌+◌, ◌-◌, ◌*◌, ◌%◌, ◌<◌, ◌≤◌, List, length, take, replicate, refl, sym, ◌∙◌, ap, arith}
use Rattle.std.proofs.lemmas.List.{drop-replicate, take-replicate}
use Rattle.sector_disk.specs.Image.{sector, written}
use Rattle.sector_disk.specs.ImageLaws.{length-written, sector-written_inside}
use Rattle.checkpoint.specs.DurableWrites.{IsZeros}
use Rattle.checkpoint.specs.WrittenImages.{prefix_size}
use Rattle.checkpoint.specs.declared.layouts.Layout.{Layout}
use Rattle.checkpoint.specs.declared.headers.Header.{Header}
use Rattle.checkpoint.specs.Headers.{header_bytes, HasOtherVersion, magic}
use Rattle.checkpoint.specs.Stores.{IsValid, IsUnformatted, leading_number}
use Rattle.checkpoint.proofs.HeaderWrites.{Below}

-- the headers and the records are zeros
pub record IsCleared (image : List ℕ) : Type 0 where
  pub zeros : (i : ℕ) → i < 258 → sector i image ≡ replicate 512 0

-- a sector of zeros does not begin with the magic
not_magic : take 8 (replicate 512 0) ≡ magic → ⊥
not_magic same = cc

missing_header_fault : (layout : Layout) (image : List ℕ) → IsCleared image → (header : Header) → IsValid layout image header → ⊥
missing_header_fault layout image cleared header valid =
    let same : replicate 512 0 ≡ header_bytes layout.version header = sym (cleared.zeros (header.sequence % 2) (omega arith)) ∙ valid.bytes in
    not_magic (ap (λ (bytes : List ℕ). take 8 bytes) same)

no_other : (version : ℕ) (bytes : List ℕ) → bytes ≡ replicate 512 0 → HasOtherVersion version bytes → ⊥
no_other version bytes zeros other = not_magic (ap (λ (b : List ℕ). take 8 b) (sym zeros) ∙ other.0)

pub cleared_unformatted : (layout : Layout) (image : List ℕ) → IsCleared image → IsUnformatted layout image
cleared_unformatted layout image cleared = record {
  none = λ header valid. missing_header_fault layout image cleared header valid;
  no_other = λ is. ⊎_elim
      (λ first. no_other layout.version (sector 0 image) (cleared.zeros 0 (omega arith)) first)
      (λ second. no_other layout.version (sector 1 image) (cleared.zeros 1 (omega arith)) second)
      is.other;
}

pub cleared_below : (layout : Layout) (image : List ℕ) → IsCleared image → Below layout 0 image
cleared_below layout image cleared = record {
  headers = λ other valid. absurd (missing_header_fault layout image cleared other valid);
  records = λ i below. let none : leading_number (sector (2 + i) image) ≡ leading_number (replicate 512 0) = ap leading_number (cleared.zeros (2 + i) (omega arith)) in omega (arith, none);
}

-- writing zeros over the headers and the records clears them
pub clears : (n : ℕ) (zeros image : List ℕ) → IsZeros n zeros → n ≡ 512 * 258 → 512 * 258 ≤ length image → IsCleared (written 0 zeros image)
clears n zeros image is long room = record {
  zeros = λ i below.
      let whole : length zeros ≡ 512 * 258 = is.long ∙ long in
      let inside : 512 * 0 + 512 * 258 ≤ length image = omega (arith, room) in
      let at : 0 + i ≡ i = omega arith in
      ap (λ (k : ℕ). sector k (written 0 zeros image)) (sym at) ∙ sector-written_inside 0 258 zeros image whole inside i below
      ∙ ap (sector i) is.are ∙ ap (take 512) (drop-replicate (512 * i) n 0) ∙ take-replicate 512 (n - 512 * i) 0 (omega (arith, long));
}

pub length_cleared : (n : ℕ) (zeros image : List ℕ) → IsZeros n zeros → n ≡ 512 * 258 → 512 * 258 ≤ length image → length (written 0 zeros image) ≡ length image
length_cleared n zeros image is long room =
    let whole : length zeros ≡ 512 * 258 = is.long ∙ long in
    length-written 0 258 zeros image whole (omega (arith, room))

-- the prefix has 132,096 bytes
pub size_is : 132096 ≡ prefix_size
unfolding prefix_size
size_is = refl

pub prefix_zeros : (zeros : List ℕ) → IsZeros 132096 zeros → zeros ≡ replicate prefix_size 0
prefix_zeros zeros is = is.are ∙ ap (λ (n : ℕ). replicate n 0) size_is
