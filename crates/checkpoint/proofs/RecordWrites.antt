-- After a record is written at the end of the journal, it is one of the journal's records.
use Rattle.std.proofs.Common.{◌≡◌, ◌⊎◌, inl, inr, ⊎_elim, ℕ, suc, ◌+◌, ◌*◌, ◌%◌, ◌<◌, ◌≤◌, List, [], ◌∷◌, ◌++◌, length, sym, ◌∙◌, ap, subst, arith, length-append}
use Rattle.std.proofs.lemmas.Bool.{cases_lt}
use Rattle.sector_disk.specs.Image.{sector, written}
use Rattle.sector_disk.specs.ImageLaws.{length-written}
use Rattle.checkpoint.specs.declared.layouts.Layout.{Layout}
use Rattle.checkpoint.specs.Layouts.{half_at}
use Rattle.checkpoint.specs.Stores.{Stores, record_sectors, leading_number}
use Rattle.checkpoint.proofs.Runs.{same_run, same_records, record_sectors-more, sector_written, written_outside}
use Rattle.checkpoint.proofs.Preservation.{half_inside, same_valid}

module _ (layout : Layout) (image : List ℕ) (sequence : ℕ) (state : List ℕ) (journal : List (List ℕ)) (bytes : List ℕ)
    (stored : Stores layout image sequence state journal) (one : length bytes ≡ 512) (mark : leading_number bytes ≡ sequence) (free : length journal < 256) where
  abbrev with_record : List ℕ
  with_record = written (2 + length journal) bytes image

  inside : 512 * (2 + length journal) + 512 * 1 ≤ length image
  inside = omega (arith, stored.header.valid.room, free)

  whole : length bytes ≡ 512 * 1
  whole = omega (arith, one)

  size : length with_record ≡ length image
  size = length-written (2 + length journal) 1 bytes image whole inside

  back : length image ≡ length with_record
  back = sym size

  outside : (i : ℕ) → (i < 2 + length journal) ⊎ (2 + length journal + 1 ≤ i) → sector i with_record ≡ sector i image
  outside i out = written_outside (2 + length journal) 1 bytes image whole inside i out

  here : sector (2 + length journal) with_record ≡ bytes
  here = sector_written (2 + length journal) bytes image one (omega (arith, inside))

  more : length (journal ++ bytes ∷ []) ≡ suc (length journal)
  more = omega (arith, length-append journal (bytes ∷ []))

  marks : (i : ℕ) → i < suc (length journal) → leading_number (sector (2 + i) with_record) ≡ sequence
  marks i below = ⊎_elim
      (λ (old : i < length journal). ap leading_number (outside (2 + i) (inl (omega (arith, old)))) ∙ stored.marked i old)
      (λ (from : length journal ≤ i). let at : i ≡ length journal = omega (arith, below, from) in
      ap (λ (k : ℕ). leading_number (sector (2 + k) with_record)) at ∙ ap leading_number here ∙ mark)
      (cases_lt i (length journal))

  pub added : Stores layout with_record sequence state (journal ++ bytes ∷ [])
  added = record {
    header = record {
      valid = same_valid layout image with_record size (record { sequence = sequence; length = length state }) (outside (sequence % 2) (inl (omega arith))) stored.header.valid;
      greatest = λ other valid. stored.header.greatest other (same_valid layout with_record image back other (sym (outside (other.sequence % 2) (inl (omega arith)))) valid);
    };
    snapshot = same_run (half_at layout sequence) layout.half (length state) image with_record (omega (arith, half_inside layout sequence, stored.header.valid.room)) size
        (λ j within. outside (half_at layout sequence + j) (inr (omega (arith, free)))) stored.header.valid.fits ∙ stored.snapshot;
    count = omega (arith, more, free);
    records = ap (λ (n : ℕ). record_sectors 0 n with_record) more ∙ record_sectors-more 0 (length journal) with_record
        ∙ ap (λ (l : List (List ℕ)). l ++ sector (2 + (0 + length journal)) with_record ∷ [])
        (same_records 0 (length journal) image with_record (λ j from to. outside (2 + j) (inl (omega (arith, to)))) ∙ stored.records)
        ∙ ap (λ (s : List ℕ). journal ++ s ∷ []) (ap (λ (k : ℕ). sector (2 + k) with_record) (omega arith) ∙ here);
    marked = λ i below. marks i (omega (arith, below, more));
    rest = λ i from to. subst (λ (s : List ℕ). leading_number s < sequence) (sym (outside (2 + i) (inr (omega (arith, from, more))))) (stored.rest i (omega (arith, from, more)) to);
  }
