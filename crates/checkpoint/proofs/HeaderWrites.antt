-- After a header is written, the snapshot in its half is the current one.
use Rattle.std.proofs.Common.{◌≡◌, inr, ⊎_elim, ℕ, ◌+◌, ◌*◌, ◌%◌, ◌^◌, ◌<◌, ◌≤◌, List, [], length, refl, sym, ◌∙◌, ap, subst, arith}
use Rattle.std.proofs.lemmas.Bool.{cases_lt}
use Rattle.sector_disk.specs.Image.{sector, written}
use Rattle.sector_disk.specs.ImageLaws.{length-written, sector-written_cases}
use Rattle.checkpoint.specs.declared.layouts.Layout.{Layout}
use Rattle.checkpoint.specs.declared.headers.Header.{Header}
use Rattle.checkpoint.specs.Layouts.{sectors_in, half_at}
use Rattle.checkpoint.specs.Headers.{header_bytes}
use Rattle.checkpoint.specs.Stores.{IsValid, Stores, snapshot_in, leading_number}
use Rattle.checkpoint.proofs.Runs.{same_run, sector_written, written_outside}
use Rattle.checkpoint.proofs.Preservation.{half_inside}
use Rattle.checkpoint.proofs.HeaderBytes.{same_sequence}

-- no valid header and no record has a greater sequence
pub record Below (layout : Layout) (sequence : ℕ) (image : List ℕ) : Type 0 where
  pub headers : (other : Header) → IsValid layout image other → other.sequence ≤ sequence
  pub records : (i : ℕ) → i < 256 → leading_number (sector (2 + i) image) ≤ sequence

pub stored_below : (layout : Layout) (image : List ℕ) (sequence : ℕ) (state : List ℕ) (journal : List (List ℕ)) → Stores layout image sequence state journal → Below layout sequence image
stored_below layout image sequence state journal stored = record {
  headers = stored.header.greatest;
  records = λ i below. ⊎_elim
      (λ (within : i < length journal). omega (arith, stored.marked i within))
      (λ (after : length journal ≤ i). omega (arith, stored.rest i after below))
      (cases_lt i (length journal));
}

module _ (layout : Layout) (sequence : ℕ) (image state : List ℕ) (room : 512 * sectors_in layout ≤ length image) where
  abbrev pub with_header : List ℕ
  with_header = written ((sequence + 1) % 2) (header_bytes layout.version (record { sequence = sequence + 1; length = length state })) image

  size : length with_header ≡ length image
  size = length-written ((sequence + 1) % 2) 1 (header_bytes layout.version (record { sequence = sequence + 1; length = length state })) image refl (omega (arith, room))

  outside : (i : ℕ) → 2 ≤ i → sector i with_header ≡ sector i image
  outside i from = written_outside ((sequence + 1) % 2) 1 (header_bytes layout.version (record { sequence = sequence + 1; length = length state })) image refl
      (omega (arith, room)) i (inr (omega (arith, from)))

  here : sector ((sequence + 1) % 2) with_header ≡ header_bytes layout.version (record { sequence = sequence + 1; length = length state })
  here = sector_written ((sequence + 1) % 2) (header_bytes layout.version (record { sequence = sequence + 1; length = length state })) image refl (omega (arith, room))

  greatest : sequence + 1 ≤ 2 ^ 60 → Below layout sequence image → (other : Header) → IsValid layout with_header other → other.sequence ≤ sequence + 1
  greatest last below other valid = ⊎_elim
      (λ (run : (j : ℕ) × (other.sequence % 2 ≡ (sequence + 1) % 2 + j) × (j < 1)).
      let at : other.sequence % 2 ≡ (sequence + 1) % 2 = omega (arith, run.1, run.2) in
      let same = sym valid.bytes ∙ ap (λ (i : ℕ). sector i with_header) at ∙ here in
      let is = same_sequence layout.version other (record { sequence = sequence + 1; length = length state }) (omega (arith, valid.last)) (omega (arith, last)) same in
      omega (arith, is))
      (λ (kept : sector (other.sequence % 2) with_header ≡ sector (other.sequence % 2) image).
      let before : IsValid layout image other = record { room = room; bytes = sym kept ∙ valid.bytes; first = valid.first; last = valid.last; some = valid.some; fits = valid.fits } in
      omega (arith, below.headers other before))
      (sector-written_cases ((sequence + 1) % 2) 1 (header_bytes layout.version (record { sequence = sequence + 1; length = length state })) image refl (omega (arith, room)) (other.sequence % 2))

  pub advanced : sequence + 1 ≤ 2 ^ 60 → Below layout sequence image → 1 ≤ length state → length state ≤ 512 * layout.half → snapshot_in layout image (sequence + 1) (length state) ≡ state
      → Stores layout with_header (sequence + 1) state []
  advanced last below some fits snapshot = record {
    header = record {
      valid = record { room = omega (arith, room, size); bytes = here; first = omega arith; last = last; some = some; fits = fits };
      greatest = greatest last below;
    };
    snapshot = same_run (half_at layout (sequence + 1)) layout.half (length state) image with_header (omega (arith, half_inside layout (sequence + 1), room)) size
        (λ j within. outside (half_at layout (sequence + 1) + j) (omega arith)) fits ∙ snapshot;
    count = omega arith;
    records = refl;
    marked = λ i none. absurd (omega (arith, none));
    rest = λ i from to. subst (λ (s : List ℕ). leading_number s < sequence + 1) (sym (outside (2 + i) (omega arith))) (omega (arith, below.records i to));
  }
