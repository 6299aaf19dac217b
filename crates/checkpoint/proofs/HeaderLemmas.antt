-- The headers of an image, read from its prefix.
use Rattle.std.proofs.Common.{◌≡◌, ◌⊎◌, ⊎_elim, inl, inr, ℕ, ◌%◌, ◌^◌, ◌<◌, ◌≤◌, List, Some, None, sym, ◌∙◌, ap, subst, arith}
use Rattle.sector_disk.specs.Image.{sector}
use Rattle.checkpoint.specs.declared.layouts.Layout.{Layout}
use Rattle.checkpoint.specs.declared.headers.Header.{Header}
use Rattle.checkpoint.specs.declared.faults.StoreFault.TheVariants as store
use Rattle.checkpoint.specs.Headers.{header_bytes, HasOtherVersion}
use Rattle.checkpoint.specs.Stores.{IsValid, IsCurrentHeader}
use Rattle.checkpoint.specs.Reads.{IsImagePrefix, IsAllowed, IsOfParity}
use Rattle.checkpoint.specs.InvalidImages.{HasNoHeader}
use Rattle.checkpoint.proofs.Runs.{sector_of_take}
use Rattle.checkpoint.proofs.Preservation.{parity}
use Rattle.checkpoint.proofs.HeaderBytes.{same_sequence}

-- a sector of the prefix is that of the image
pub sector_in_prefix : (sectors : ℕ) (prefix image : List ℕ) → IsImagePrefix sectors prefix image → (i : ℕ) → i < 258 → sector i prefix ≡ sector i image
sector_in_prefix sectors prefix image whole i below =
    ap (sector i) (sym whole.is) ∙ sector_of_take 258 i image below (omega (arith, whole.size, whole.room))

module _ (layout : Layout) (sectors : ℕ) (prefix image : List ℕ) (whole : IsImagePrefix sectors prefix image) (index : ℕ) (low : index < 2) (bytes : List ℕ) (is : bytes ≡ sector index prefix) where
  at : bytes ≡ sector index image
  at = is ∙ sector_in_prefix sectors prefix image whole index (omega (arith, low))

  pub valid_there : (header : Header) → bytes ≡ header_bytes layout.version header → IsAllowed layout sectors header index → (header.sequence % 2 ≡ index) × IsValid layout image header
  valid_there header read allowed = (
    allowed.parity,
    record {
      room = omega (arith, allowed.room, whole.size);
      bytes = ap (λ (i : ℕ). sector i image) allowed.parity ∙ sym at ∙ read;
      first = allowed.first;
      last = allowed.last;
      some = allowed.some;
      fits = allowed.fits;
    },
  )

  pub read_of_valid : (header : Header) → header.sequence % 2 ≡ index → IsValid layout image header → bytes ≡ header_bytes layout.version header
  read_of_valid header of valid = at ∙ ap (λ (i : ℕ). sector i image) (sym of) ∙ valid.bytes

  pub allowed_of_valid : (header : Header) → header.sequence % 2 ≡ index → IsValid layout image header → IsAllowed layout sectors header index
  allowed_of_valid header of valid = record { room = omega (arith, valid.room, whole.size); parity = of; first = valid.first; last = valid.last; some = valid.some; fits = valid.fits }

  -- no header was decoded from the sector
  pub none_there : ((header : Header) → header.sequence < 2 ^ 64 → header.length < 2 ^ 64 → bytes ≡ header_bytes layout.version header → None ≡ Some header) → layout.half < 2 ^ 32
      → IsOfParity layout image index None
  none_there all half header of valid =
      let some : None ≡ Some header = all header (omega (arith, valid.last)) (omega (arith, valid.fits, half)) (read_of_valid header of valid) in cc

  -- the header in a sector was decoded, but is not allowed there
  pub not_there : (read : Header) → ((header : Header) → header.sequence < 2 ^ 64 → header.length < 2 ^ 64 → bytes ≡ header_bytes layout.version header
      → Some read ≡ Some header) → layout.half < 2 ^ 32
      → ¬ IsAllowed layout sectors read index → IsOfParity layout image index None
  not_there read all half not header of valid =
      let same : Some read ≡ Some header = all header (omega (arith, valid.last)) (omega (arith, valid.fits, half)) (read_of_valid header of valid) in
      let is : header ≡ read = cc in
      not (subst (λ (h : Header). IsAllowed layout sectors h index) is (allowed_of_valid header of valid))

-- the current header is determined by the two header sectors
module _ (layout : Layout) (image : List ℕ) where
  pub same_sector : (a b : Header) → a.sequence % 2 ≡ b.sequence % 2 → IsValid layout image a → IsValid layout image b → a.sequence ≡ b.sequence
  same_sector a b of valid_a valid_b = same_sequence layout.version a b (omega (arith, valid_a.last)) (omega (arith, valid_b.last))
      (sym valid_a.bytes ∙ ap (λ (i : ℕ). sector i image) of ∙ valid_b.bytes)

  pub counts_both : (first second : Header) → IsOfParity layout image 0 (Some first) → IsOfParity layout image 1 (Some second) → (other : Header)
      → IsValid layout image other → (other.sequence ≡ first.sequence) ⊎ (other.sequence ≡ second.sequence)
  counts_both first second zeroth next other valid = ⊎_elim
      (λ even. inl (same_sector other first (even ∙ sym zeroth.0) valid zeroth.1))
      (λ odd. inr (same_sector other second (odd ∙ sym next.0) valid next.1))
      (parity other.sequence)

  pub counts_second : (first second : Header) → IsOfParity layout image 0 (Some first) → IsOfParity layout image 1 (Some second) → first.sequence < second.sequence → IsCurrentHeader layout image second
  counts_second first second zeroth next less = record {
    valid = next.1;
    greatest = λ other valid. ⊎_elim (λ is. omega (arith, is, less)) (λ is. omega (arith, is))
        (counts_both first second zeroth next other valid);
  }

  pub counts_first : (first second : Header) → IsOfParity layout image 0 (Some first) → IsOfParity layout image 1 (Some second) → second.sequence ≤ first.sequence → IsCurrentHeader layout image first
  counts_first first second zeroth next less = record {
    valid = zeroth.1;
    greatest = λ other valid. ⊎_elim (λ is. omega (arith, is)) (λ is. omega (arith, is, less))
        (counts_both first second zeroth next other valid);
  }

  pub counts_zeroth : (first : Header) → IsOfParity layout image 0 (Some first) → IsOfParity layout image 1 None → IsCurrentHeader layout image first
  counts_zeroth first zeroth none = record {
    valid = zeroth.1;
    greatest = λ other valid. ⊎_elim
        (λ even. let is = same_sector other first (even ∙ sym zeroth.0) valid zeroth.1 in omega (arith, is))
        (λ odd. absurd (none other odd valid)) (parity other.sequence);
  }

  pub counts_next : (second : Header) → IsOfParity layout image 0 None → IsOfParity layout image 1 (Some second) → IsCurrentHeader layout image second
  counts_next second none next = record {
    valid = next.1;
    greatest = λ other valid. ⊎_elim
        (λ even. absurd (none other even valid))
        (λ odd. let is = same_sector other second (odd ∙ sym next.0) valid next.1 in omega (arith, is)) (parity other.sequence);
  }

  pub none_valid : IsOfParity layout image 0 None → IsOfParity layout image 1 None → (header : Header) → ¬ IsValid layout image header
  none_valid zeroth next header valid = ⊎_elim (λ even. zeroth header even valid) (λ odd. next header odd valid) (parity header.sequence)

-- the two cases of the fault: another version, or no header at all
module _ (layout : Layout) (sectors : ℕ) (prefix image : List ℕ) (whole : IsImagePrefix sectors prefix image) (room : 802 ≤ sectors) (none : (header : Header) → ¬ IsValid layout image header) where
  pub foreign : (index : ℕ) → (index ≡ 0) ⊎ (index ≡ 1) → HasOtherVersion layout.version (sector index prefix) → HasNoHeader layout image store.BadVersion
  foreign index which other = record {
    none = none;
    other = record {
      room = omega (arith, whole.size, room);
      other = ⊎_elim
          (λ (is : index ≡ 0). inl (subst (λ (i : ℕ). HasOtherVersion layout.version (sector i image)) is (there index which other)))
          (λ (is : index ≡ 1). inr (subst (λ (i : ℕ). HasOtherVersion layout.version (sector i image)) is (there index which other))) which;
    };
  }
    where
      there : (index : ℕ) → (index ≡ 0) ⊎ (index ≡ 1) → HasOtherVersion layout.version (sector index prefix) → HasOtherVersion layout.version (sector index image)
      there index which other = subst (HasOtherVersion layout.version)
          (sector_in_prefix sectors prefix image whole index (⊎_elim (λ (is : index ≡ 0). omega (arith, is)) (λ (is : index ≡ 1). omega (arith, is)) which)) other

  pub unformatted : ¬ HasOtherVersion layout.version (sector 0 prefix) → ¬ HasOtherVersion layout.version (sector 1 prefix) → HasNoHeader layout image store.NotFormatted
  unformatted zeroth next = record {
    none = none;
    no_other = λ is. ⊎_elim
        (λ first. zeroth (subst (HasOtherVersion layout.version) (sym (sector_in_prefix sectors prefix image whole 0 (omega arith))) first))
        (λ second. next (subst (HasOtherVersion layout.version) (sym (sector_in_prefix sectors prefix image whole 1 (omega arith))) second)) is.other;
  }
