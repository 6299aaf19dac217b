-- The integrity warnings of an image, from the parts that are read.
use Rattle.std.proofs.Common.{◌≡◌, ◌≢◌, ⊎_elim, ℕ, ◌+◌, ◌-◌, ◌%◌, ◌<◌, ◌↔◌, Bool, true, false, not, ◌==◌, List, IsTrue, refl, sym, ◌∙◌, ap, subst, arith}
use Rattle.std.proofs.lemmas.Bool.{eq-eqb, ne_eqb}
use Rattle.sector_disk.specs.Image.{sector}
use Rattle.checkpoint.specs.declared.headers.Header.{Header}
use Rattle.checkpoint.specs.Layouts.{version_2}
use Rattle.checkpoint.specs.Stores.{IsValid, leading_number}
use Rattle.checkpoint.specs.Reads.{IsImagePrefix}
use Rattle.checkpoint.specs.Integrity.{is_blank, IsRecordAt, IsHeaderLost, AreHeadersApart, HasDamagedRecord, AreRecordsMixed}
use Rattle.checkpoint.proofs.Preservation.{parity}
use Rattle.checkpoint.proofs.HeaderLemmas.{sector_in_prefix, same_sector}

not_yes : (b : Bool) → IsTrue (not b) → b ≡ false
not_yes true h = sym h
not_yes false h = refl

yes_not : (b : Bool) → b ≡ false → IsTrue (not b)
yes_not b e = rw e refl

other_numbers : (a b : ℕ) → IsTrue (not (a == b)) → a ≢ b
other_numbers a b h same =
    let yes : (a == b) ≡ true = eq-eqb a b same in
    let no : (a == b) ≡ false = not_yes (a == b) h in
    cc (yes, no)

unlike : (a b : ℕ) → a ≢ b → IsTrue (not (a == b))
unlike a b other = yes_not (a == b) (ne_eqb a b other)

module _ (image : List ℕ) (header : Header) where
  -- no other header of the image is valid
  abbrev IsAlone : Type 0
  IsAlone = (other : Header) → other.sequence % 2 ≡ 1 - header.sequence % 2 → ¬ IsValid version_2 image other

  alone : IsAlone → (other : Header) → IsValid version_2 image other → other.sequence % 2 ≡ header.sequence % 2
  alone none other valid = ⊎_elim
      (λ (even : other.sequence % 2 ≡ 0). ⊎_elim
      (λ (same : header.sequence % 2 ≡ 0). even ∙ sym same)
      (λ (odd : header.sequence % 2 ≡ 1). absurd (none other (omega (arith, even, odd)) valid))
      (parity header.sequence))
      (λ (odd : other.sequence % 2 ≡ 1). ⊎_elim
      (λ (even : header.sequence % 2 ≡ 0). absurd (none other (omega (arith, even, odd)) valid))
      (λ (same : header.sequence % 2 ≡ 1). odd ∙ sym same)
      (parity header.sequence))
      (parity other.sequence)

  pub lost_where_old : IsAlone → header.sequence ≢ 1 → IsTrue (not (header.sequence == 1)) ↔ IsHeaderLost image header
  lost_where_old none old = (λ yes. record { alone = alone none; old = λ first. absurd (old first) }, λ lost. unlike header.sequence 1 old)

  pub lost_where_filled : IsAlone → header.sequence ≡ 1 → (blank : Bool) → blank ≡ is_blank (sector 0 image) → IsTrue (not blank) ↔ IsHeaderLost image header
  lost_where_filled none first blank is = (
    λ padded. record { alone = alone none; old = λ same. sym is ∙ not_yes blank padded },
    λ lost. yes_not blank (is ∙ lost.old first),
  )

  -- the case that another header is valid
  module _ (other : Header) (beside : other.sequence % 2 ≡ 1 - header.sequence % 2) (valid : IsValid version_2 image other) where
    pub not_lost : IsTrue false ↔ IsHeaderLost image header
    not_lost = (λ no. absurd cc, λ lost. absurd (let same = lost.alone other valid in omega (arith, same, beside)))

    in_one_sector : (third : Header) → third.sequence % 2 ≢ header.sequence % 2 → third.sequence % 2 ≡ other.sequence % 2
    in_one_sector third differs = ⊎_elim
        (λ (even : third.sequence % 2 ≡ 0). ⊎_elim
        (λ (same : header.sequence % 2 ≡ 0). absurd (differs (even ∙ sym same)))
        (λ (odd : header.sequence % 2 ≡ 1). omega (arith, even, odd, beside))
        (parity header.sequence))
        (λ (odd : third.sequence % 2 ≡ 1). ⊎_elim
        (λ (even : header.sequence % 2 ≡ 0). omega (arith, even, odd, beside))
        (λ (same : header.sequence % 2 ≡ 1). absurd (differs (odd ∙ sym same)))
        (parity header.sequence))
        (parity third.sequence)

    pub apart : IsTrue (not (other.sequence + 1 == header.sequence)) ↔ AreHeadersApart image header
    apart = (
      λ differ. record {
        other = other;
        valid = valid;
        beside = λ same. omega (arith, same, beside);
        apart = other_numbers (other.sequence + 1) header.sequence differ;
      },
      λ found. unlike (other.sequence + 1) header.sequence (λ next.
          let is : found.other.sequence ≡ other.sequence = same_sector version_2 image found.other other (in_one_sector found.other found.beside) found.valid valid in
          found.apart (ap (λ (n : ℕ). n + 1) is ∙ next)),
    )

-- the record sectors of a prefix are those of its image
module _ (sectors : ℕ) (prefix image : List ℕ) (whole : IsImagePrefix sectors prefix image) where
  same : (i : ℕ) → i < 258 → sector i prefix ≡ sector i image
  same i below = sector_in_prefix sectors prefix image whole i below

  pub damaged_there : (b : Bool) → IsTrue b ↔ HasDamagedRecord prefix → IsTrue b ↔ HasDamagedRecord image
  damaged_there b reported = (
    λ yes.
        let d = reported.0 yes in
        let e = same (2 + d.index) (omega (arith, d.inside)) in
        record { index = d.index; inside = d.inside; padded = ap is_blank (sym e) ∙ d.padded; other = λ r. d.other (subst (IsRecordAt d.index) (sym e) r) },
    λ d.
        let e = same (2 + d.index) (omega (arith, d.inside)) in
        reported.1 (record { index = d.index; inside = d.inside; padded = ap is_blank e ∙ d.padded; other = λ r. d.other (subst (IsRecordAt d.index) e r) }),
  )

  pub mixed_there : (b : Bool) → IsTrue b ↔ AreRecordsMixed prefix → IsTrue b ↔ AreRecordsMixed image
  mixed_there b reported = (
    λ yes.
        let m = reported.0 yes in
        let one = ap leading_number (same (2 + m.index) (omega (arith, m.inside))) in
        let two = ap leading_number (same (3 + m.index) (omega (arith, m.inside))) in
        record { index = m.index; inside = m.inside; newer = omega (arith, m.newer, one, two) },
    λ m.
        let one = ap leading_number (same (2 + m.index) (omega (arith, m.inside))) in
        let two = ap leading_number (same (3 + m.index) (omega (arith, m.inside))) in
        reported.1 (record { index = m.index; inside = m.inside; newer = omega (arith, m.newer, one, two) }),
  )
