-- The content of an image depends on its headers, its records and one half. So changes of other sectors
-- preserve it.
use Rattle.std.proofs.Common.{◌≡◌, ◌⊎◌, inl, inr, ⊎_elim, ℕ, zero, suc, ◌+◌, ◌%◌, ◌<◌, ◌≤◌, List, length, refl, sym, ◌∙◌, ap, subst, arith}
use Rattle.sector_disk.specs.Image.{sector}
use Rattle.checkpoint.specs.declared.layouts.Layout.{Layout}
use Rattle.checkpoint.specs.declared.headers.Header.{Header}
use Rattle.checkpoint.specs.Layouts.{sectors_in, half_at}
use Rattle.checkpoint.specs.Stores.{IsValid, Stores, leading_number}
use Rattle.checkpoint.proofs.Runs.{same_run, same_records}

-- every number is even or odd
pub parity : (n : ℕ) → (n % 2 ≡ 0) ⊎ (n % 2 ≡ 1)
parity n = elim (n % 2) as (λ r. r < 2 → (r ≡ 0) ⊎ (r ≡ 1)) [ zero ↦ λ h. inl refl | suc r ↦ λ h. inr (omega arith) ] (omega arith)

-- a half is inside the layout
pub half_inside : (layout : Layout) (sequence : ℕ) → half_at layout sequence + layout.half ≤ sectors_in layout
half_inside layout sequence = ⊎_elim
    (λ (even : sequence % 2 ≡ 0). rw even (omega arith))
    (λ (odd : sequence % 2 ≡ 1). rw odd (omega arith))
    (parity sequence)

module _ (layout : Layout) (a b : List ℕ) (size : length b ≡ length a) where
  -- a valid header stays valid if its sector is unchanged
  pub same_valid : (header : Header) → sector (header.sequence % 2) b ≡ sector (header.sequence % 2) a → IsValid layout a header → IsValid layout b header
  same_valid header same valid = record { room = omega (arith, valid.room, size); bytes = same ∙ valid.bytes; first = valid.first; last = valid.last; some = valid.some; fits = valid.fits }

  -- two images with the same record sectors and the same half
  module _ (sequence : ℕ) (same : (i : ℕ) → i < 258 → sector i b ≡ sector i a)
      (half : (j : ℕ) → j < layout.half → sector (half_at layout sequence + j) b ≡ sector (half_at layout sequence + j) a) where
    pub carried : (state : List ℕ) (journal : List (List ℕ)) → Stores layout a sequence state journal → Stores layout b sequence state journal
    carried state journal stored = record {
      header = record {
        valid = same_valid (record { sequence = sequence; length = length state }) (same (sequence % 2) (omega arith)) stored.header.valid;
        greatest = λ other valid. stored.header.greatest other (back other valid);
      };
      snapshot = same_run (half_at layout sequence) layout.half (length state) a b
          (omega (arith, half_inside layout sequence, stored.header.valid.room)) size half stored.header.valid.fits ∙ stored.snapshot;
      count = stored.count;
      records = same_records 0 (length journal) a b (λ j from to. same (2 + j) (omega (arith, stored.count))) ∙ stored.records;
      marked = λ i below. ap leading_number (same (2 + i) (omega (arith, stored.count))) ∙ stored.marked i below;
      rest = λ i from to. subst (λ (s : List ℕ). leading_number s < sequence) (sym (same (2 + i) (omega arith))) (stored.rest i from to);
    }
      where
        back : (other : Header) → IsValid layout b other → IsValid layout a other
        back other valid = record {
          room = omega (arith, valid.room, size);
          bytes = sym (same (other.sequence % 2) (omega arith))
              ∙ valid.bytes;
          first = valid.first;
          last = valid.last;
          some = valid.some;
          fits = valid.fits;
        }
