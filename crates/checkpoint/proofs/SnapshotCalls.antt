-- The calls of the two durable writes: that of a snapshot and that of its header.
use Rattle.std.proofs.Common.{◌≡◌, inl, inr, ⊎_elim, ℕ, ◌+◌, ◌*◌, ◌/◌, ◌%◌, ◌<◌, ◌≤◌, List, Result, Ok, Err, OnOk, length, refl, sym, ◌∙◌, ap, subst, arith}
use Rattle.std.proofs.lemmas.Bool.{cases_lt}
use Rattle.sector_disk.specs.Image.{written, Mixes}
use Rattle.sector_disk.specs.ImageLaws.{length-written, mixes_one}
use Rattle.sector_disk.specs.Sectors.{Reached, Only}
use Rattle.checkpoint.specs.declared.headers.Header.{Header}
use Rattle.checkpoint.specs.Headers.{header_bytes}
use Rattle.checkpoint.specs.Layouts.{version_2}
use Rattle.checkpoint.specs.DurableWrites.{IsInDurableWrite, IsInSnapshot}
use Rattle.checkpoint.specs.WrittenImages.{half_of, with_snapshot, with_both}
use Rattle.checkpoint.proofs.Preservation.{half_inside}

module _ (header : Header) (bytes : List ℕ) (possible : List ℕ → Type 0) (seen : List ℕ) (calls half : ℕ) (head : List ℕ) (half_is : half ≡ half_of header)
    (head_is : head ≡ header_bytes 2 header) where
  -- during the first durable write an image may have the snapshot, but not yet the header
  pub in_first : (m : ℕ) (image : List ℕ) → IsInDurableWrite half bytes possible seen calls m image → IsInSnapshot header bytes possible seen calls m image
  in_first m image write_and_sync = record {
    from = write_and_sync.from;
    to = omega (arith, write_and_sync.to);
    stage = inl (omega (arith, write_and_sync.to), subst (λ (h : ℕ). Reached h bytes possible image) half_is write_and_sync.reached);
    done = λ all. absurd (omega (arith, write_and_sync.to, all));
  }

  module _ (n : ℕ) (whole : length bytes % 512 ≡ 0) (fits : length bytes ≤ 512 * 4096) (room : 8450 ≤ n) (here : possible seen) (size : length seen ≡ 512 * n)
      (mid : List ℕ → Type 0) (mid_seen : List ℕ) (mid_calls : ℕ) (two : mid_calls ≡ calls + 2) (mid_is : mid_seen ≡ written half bytes seen) (only : Only (written half bytes seen) mid) where
    inside : 512 * half + 512 * (length bytes / 512) ≤ length seen
    inside = omega (arith, half_is, half_inside version_2 header.sequence, fits, room, size)

    sectors : length bytes ≡ 512 * (length bytes / 512)
    sectors = omega (arith, whole)

    long : length (written half bytes seen) ≡ length seen
    long = length-written half (length bytes / 512) bytes seen sectors inside

    both : with_both header bytes seen ≡ written (header.sequence % 2) head (written half bytes seen)
    both = ap (λ (b : List ℕ). written (header.sequence % 2) b (with_snapshot header bytes seen)) (sym head_is)
        ∙ ap (λ (h : ℕ). written (header.sequence % 2) head (written h bytes seen)) (sym half_is)

    new : (m : ℕ) (image : List ℕ) → IsInDurableWrite (header.sequence % 2) head mid mid_seen mid_calls m image → image ≡ with_both header bytes seen → IsInSnapshot header bytes possible seen calls m image
    new m image write_and_sync is = record {
      from = omega (arith, write_and_sync.from, two);
      to = omega (arith, write_and_sync.to, two);
      stage = inr (omega (arith, write_and_sync.from, two), is);
      done = λ all. is;
    }

    old : (m : ℕ) (image : List ℕ) → IsInDurableWrite (header.sequence % 2) head mid mid_seen mid_calls m image → image ≡ written half bytes seen → IsInSnapshot header bytes possible seen calls m image
    old m image write_and_sync is = ⊎_elim
        (λ (open_ : m < calls + 4).
        let mix : Mixes seen (written half bytes seen) (written half bytes seen) = record { size = long; each = λ i. inr refl } in
        let reached : Reached half bytes possible (written half bytes seen) = (seen, here, mix) in
        record {
          from = omega (arith, write_and_sync.from, two);
          to = omega (arith, write_and_sync.to, two);
          stage = inl (omega arith, subst (λ (i : List ℕ). Reached (half_of header) bytes possible i) (sym is) (subst (λ (h : ℕ). Reached h bytes possible (written half bytes seen)) half_is reached));
          done = λ all. absurd (omega (arith, all));
        })
        (λ (end : calls + 4 ≤ m). new m image write_and_sync (write_and_sync.done (omega (arith, end, write_and_sync.to, two)) ∙ ap (λ (i : List ℕ). written (header.sequence % 2) head i) mid_is ∙ sym both))
        (cases_lt m (calls + 4))

    pub in_second : (m : ℕ) (image : List ℕ) → IsInDurableWrite (header.sequence % 2) head mid mid_seen mid_calls m image → IsInSnapshot header bytes possible seen calls m image
    in_second m image write_and_sync =
        let before = write_and_sync.reached in
        let mix : Mixes (written half bytes seen) (written (header.sequence % 2) head (written half bytes seen)) image =
        subst (λ (b : List ℕ). Mixes b (written (header.sequence % 2) head b) image) (only before.0 before.1) before.2 in
        let one : length head ≡ 512 = ap length head_is in
        ⊎_elim
        (λ is. old m image write_and_sync is)
        (λ is. new m image write_and_sync (is ∙ sym both))
        (mixes_one n (header.sequence % 2) head (written half bytes seen) image (long ∙ size) one (omega (arith, room)) mix)

    -- after Ok the only possible image has the snapshot and the header
    pub left_at_last : {T E : Type 0} (result : Result T E) (last : List ℕ → Type 0) → OnOk result (Only (written (header.sequence % 2) head mid_seen) last)
        → OnOk result (Only (with_both header bytes seen) last)
    left_at_last (Ok x) last all = λ image left. all image left ∙ ap (λ (i : List ℕ). written (header.sequence % 2) head i) mid_is ∙ sym both
    left_at_last (Err e) last all = all
