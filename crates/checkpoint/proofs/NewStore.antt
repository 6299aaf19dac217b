-- The calls that create a new store, and the images that they leave.
use Rattle.std.proofs.Common.{◌≡◌, inl, inr, ⊎_elim, ℕ, ◌+◌, ◌*◌, ◌%◌, ◌≤◌, List, [], length, take, refl, sym, ◌∙◌, ap, subst, arith}
use Rattle.sector_disk.specs.Image.{written}
use Rattle.sector_disk.specs.Sectors.{Reached, Only}
use Rattle.checkpoint.specs.Layouts.{version_2}
use Rattle.checkpoint.specs.Stores.{Stores, HasStored, IsUnformatted}
use Rattle.checkpoint.specs.Moments.{IsInFormat}
use Rattle.checkpoint.specs.DurableWrites.{IsInDurableWrite, IsInSnapshot}
use Rattle.checkpoint.specs.WrittenImages.{first_header, half_of, with_both}
use Rattle.checkpoint.proofs.BlankPrefixes.{IsCleared, cleared_unformatted, cleared_below}
use Rattle.checkpoint.proofs.Commits.{prefix_stays, becomes}

abbrev pub IsMaking : List ℕ → ℕ → ℕ → ℕ → List ℕ → Type 0
IsMaking bytes size = IsInFormat (IsUnformatted version_2) (HasStored 1 (take size bytes) [])

module _ (bytes : List ℕ) (size : ℕ) (zeros seen : List ℕ) (cleared : IsCleared (written 0 zeros seen)) (calls : ℕ) where
  pub in_zeros : (possible : List ℕ → Type 0) (m : ℕ) (image : List ℕ) → IsInDurableWrite 0 zeros possible seen calls m image → IsMaking bytes size calls m image
  in_zeros possible m image write_and_sync = record {
    from = write_and_sync.from;
    to = omega (arith, write_and_sync.to);
    cleared = λ from to. clean from;
    either = λ from. inl (clean from);
    done = λ end. absurd (omega (arith, end, write_and_sync.to));
  }
    where
      clean : calls + 2 ≤ m → IsUnformatted version_2 image
      clean from = cleared_unformatted version_2 image (subst IsCleared (sym (write_and_sync.done (omega (arith, from, write_and_sync.to)))) cleared)

  module _ (whole : length bytes % 512 ≡ 0) (fits : length bytes ≤ 512 * 4096) (some : 1 ≤ size) (long : size ≤ length bytes) (room : 512 * 8450 ≤ length (written 0 zeros seen))
      (mid : List ℕ → Type 0) (mid_seen : List ℕ) (mid_calls : ℕ) (two : mid_calls ≡ calls + 2) (mid_is : mid_seen ≡ written 0 zeros seen) (only : Only (written 0 zeros seen) mid) where
    pub in_snapshot : (m : ℕ) (image : List ℕ) → IsInSnapshot (first_header size) bytes mid mid_seen mid_calls m image → IsMaking bytes size calls m image
    in_snapshot m image write_and_sync = record {
      from = omega (arith, write_and_sync.from, two);
      to = omega (arith, write_and_sync.to, two);
      cleared = λ from to. ⊎_elim (λ old. clean old.1) (λ new. absurd (omega (arith, to, new.0, two))) write_and_sync.stage;
      either = λ from. ⊎_elim (λ old. inl (clean old.1)) (λ new. inr (stored new.1)) write_and_sync.stage;
      done = λ end. stored (write_and_sync.done (omega (arith, end, two)));
    }
      where
        clean : Reached (half_of (first_header size)) bytes mid image → IsUnformatted version_2 image
        clean reached =
            let start : reached.0 ≡ written 0 zeros seen = only reached.0 reached.1 in
            let is_room : 512 * 8450 ≤ length reached.0 = subst (λ (b : List ℕ). 512 * 8450 ≤ length b) (sym start) room in
            let same = prefix_stays (first_header size) bytes 0 refl whole fits reached.0 image is_room reached.2 in
            cleared_unformatted version_2 image (record { zeros = λ i below. same i below ∙ (subst IsCleared (sym start) cleared).zeros i below })

        stored : image ≡ with_both (first_header size) bytes mid_seen → Stores version_2 image 1 (take size bytes) []
        stored is = subst (λ (i : List ℕ). Stores version_2 i 1 (take size bytes) []) (sym (is ∙ ap (with_both (first_header size) bytes) mid_is))
            (becomes (first_header size) bytes 0 refl whole fits (written 0 zeros seen) room (cleared_below version_2 (written 0 zeros seen) cleared) (omega arith) some long)
