-- The calls that write a snapshot, and their effect on images that store something.
use Rattle.std.proofs.Common.{◌≡◌, ◌⊎◌, inl, inr, ⊎_elim, ℕ, ◌+◌, ◌*◌, ◌/◌, ◌%◌, ◌^◌, ◌<◌, ◌≤◌, List, [], length, take, drop, refl, sym, ◌∙◌, ap, subst, arith, length-take}
use Rattle.sector_disk.specs.Image.{sector, written, Mixes}
use Rattle.sector_disk.specs.ImageLaws.{length-written, mixes_outside}
use Rattle.sector_disk.specs.Sectors.{Reached}
use Rattle.sector_disk.specs.Calls.{IsInCommit}
use Rattle.checkpoint.specs.declared.headers.Header.{Header}
use Rattle.checkpoint.specs.Headers.{header_bytes}
use Rattle.checkpoint.specs.Layouts.{half_at, version_2}
use Rattle.checkpoint.specs.Stores.{Stores, HasStored, snapshot_in, leading_number}
use Rattle.checkpoint.specs.DurableWrites.{IsInSnapshot}
use Rattle.checkpoint.specs.WrittenImages.{half_of, with_snapshot, with_both}
use Rattle.checkpoint.proofs.Runs.{read_written}
use Rattle.checkpoint.proofs.Preservation.{parity, half_inside, carried}
use Rattle.checkpoint.proofs.HeaderWrites.{Below, stored_below, advanced}

-- A write of the snapshot, as whole sectors, into the half for the next sequence.
module _ (header : Header) (bytes : List ℕ) (sequence : ℕ) (next : header.sequence ≡ sequence + 1) (whole : length bytes % 512 ≡ 0) (fits : length bytes ≤ 512 * 4096) where
  sectors : length bytes ≡ 512 * (length bytes / 512)
  sectors = omega (arith, whole)

  few : length bytes / 512 ≤ 4096
  few = omega (arith, whole, fits)

  inside : (before : List ℕ) → 512 * 8450 ≤ length before → 512 * half_of header + 512 * (length bytes / 512) ≤ length before
  inside before room = omega (arith, half_inside version_2 header.sequence, few, room)

  -- Each sector of the half for the current sequence is outside the new snapshot.
  apart : (j : ℕ) → j < 4096 → (half_at version_2 sequence + j < half_of header) ⊎ (half_of header + length bytes / 512 ≤ half_at version_2 sequence + j)
  apart j within = ⊎_elim
      (λ (even : sequence % 2 ≡ 0). inl (omega (arith, next, even, within)))
      (λ (odd : sequence % 2 ≡ 1). inr (omega (arith, next, odd, few)))
      (parity sequence)

  low : (i : ℕ) → i < 258 → i < half_of header
  low i below = omega (arith, below)

  -- A mixture of the old image and this write has the old headers and records.
  pub prefix_stays : (before image : List ℕ) → 512 * 8450 ≤ length before → Mixes before (written (half_of header) bytes before) image → (i : ℕ) → i < 258 → sector i image ≡ sector i before
  prefix_stays before image room mix i below = mixes_outside (half_of header) (length bytes / 512) bytes before image sectors (inside before room) mix i (inl (low i below))

  pub stays : (before image : List ℕ) (state : List ℕ) (journal : List (List ℕ)) → Mixes before (written (half_of header) bytes before) image
      → Stores version_2 before sequence state journal → Stores version_2 image sequence state journal
  stays before image state journal mix stored =
      let room : 512 * 8450 ≤ length before = stored.header.valid.room in
      carried version_2 before image mix.size sequence (prefix_stays before image room mix)
      (λ j within. mixes_outside (half_of header) (length bytes / 512) bytes before image sectors (inside before room) mix (half_at version_2 sequence + j) (apart j within))
      state journal stored

  pub whole_mix : (before : List ℕ) → 512 * 8450 ≤ length before → Mixes before (written (half_of header) bytes before) (written (half_of header) bytes before)
  whole_mix before room = record { size = length-written (half_of header) (length bytes / 512) bytes before sectors (inside before room); each = λ i. inr refl }

  -- After the write, too, no valid header and no record has a greater sequence than the current one.
  pub below_stays : (before : List ℕ) → 512 * 8450 ≤ length before → Below version_2 sequence before → Below version_2 sequence (with_snapshot header bytes before)
  below_stays before room below =
      let mix = whole_mix before room in
      let same = prefix_stays before (with_snapshot header bytes before) room mix in
      record {
        headers = λ other valid. below.headers other (record {
          room = omega (arith, valid.room, mix.size);
          bytes = sym (same (other.sequence % 2) (omega arith))
              ∙ valid.bytes;
          first = valid.first;
          last = valid.last;
          some = valid.some;
          fits = valid.fits;
        });
        records = λ i within. subst (λ (s : List ℕ). leading_number s ≤ sequence) (sym (same (2 + i) (omega arith))) (below.records i within);
      }

  -- When the header is written too, the image stores the snapshot under the next sequence.
  pub becomes : (before : List ℕ) → 512 * 8450 ≤ length before → Below version_2 sequence before → header.sequence ≤ 2 ^ 60 → 1 ≤ header.length → header.length ≤ length bytes
      → Stores version_2 (with_both header bytes before) header.sequence (take header.length bytes) []
  becomes before room below last some long =
      let mix = whole_mix before room in
      let state = take header.length bytes in
      let counted : length state ≡ header.length = simp length-take (omega arith) in
      let read : take (length state) (drop (512 * half_of header) (with_snapshot header bytes before))
      ≡ state = ap (λ (n : ℕ). take n (drop (512 * half_of header) (with_snapshot header bytes before))) counted
      ∙ read_written (half_of header) header.length bytes before (omega (arith, inside before room, sectors)) long in
      let kept = subst (λ (q : ℕ). snapshot_in version_2 (with_snapshot header bytes before) q (length state) ≡ state) next read in
      let new = advanced version_2 sequence (with_snapshot header bytes before) state (omega (arith, room, mix.size)) (omega (arith, last, next)) (below_stays before room below)
      (omega (arith, counted, some)) (omega (arith, counted, long, fits)) kept in
      subst (λ (l : ℕ). Stores version_2 (written (header.sequence % 2) (header_bytes 2 (record { sequence = header.sequence; length = l }))
      (with_snapshot header bytes before)) header.sequence state []) counted
      (subst (λ (q : ℕ). Stores version_2 (written (q % 2) (header_bytes 2 (record { sequence = q; length = length state })) (with_snapshot header bytes before)) q state []) (sym next) new)

  -- Each moment of the four calls, if each image before them stores something under the current sequence.
  module _ (state : List ℕ) (journal : List (List ℕ)) (possible : List ℕ → Type 0) (seen : List ℕ) (here : possible seen)
      (stored : (image : List ℕ) → possible image → Stores version_2 image sequence state journal) (last : header.sequence ≤ 2 ^ 60) (some : 1 ≤ header.length)
      (long : header.length ≤ length bytes) where
    pub now : Stores version_2 (with_both header bytes seen) header.sequence (take header.length bytes) []
    now = becomes seen (stored seen here).header.valid.room (stored_below version_2 seen sequence state journal (stored seen here)) last some long

    pub in_commit : (calls m : ℕ) (image : List ℕ) → IsInSnapshot header bytes possible seen calls m image
        → IsInCommit (HasStored sequence state journal) (HasStored header.sequence (take header.length bytes) []) 4 2 calls m image
    in_commit calls m image write_and_sync = record {
      from = write_and_sync.from;
      to = write_and_sync.to;
      early = λ before. ⊎_elim
          (λ old. reached old.1)
          (λ new. absurd (omega (arith, before, new.0)))
          write_and_sync.stage;
      either = ⊎_elim (λ old. inl (reached old.1)) (λ new. inr (is_now new.1)) write_and_sync.stage;
      done = λ end. is_now (write_and_sync.done end);
    }
      where
        reached : Reached (half_of header) bytes possible image → Stores version_2 image sequence state journal
        reached r = stays r.0 image state journal r.2 (stored r.0 r.1)

        is_now : image ≡ with_both header bytes seen → Stores version_2 image header.sequence (take header.length bytes) []
        is_now is = subst (λ (i : List ℕ). Stores version_2 i header.sequence (take header.length bytes) []) (sym is) now
