-- Extending a property of every moment over the calls of a device.
use Rattle.std.proofs.Common.{◌≡◌, ◌⊎◌, inl, inr, ⊎_elim, ℕ, List, arith, subst, sym}
use Rattle.sector_disk.specs.Sectors.{Elapses, Throughout}

module _ {D : Type 0} (clock : D → ℕ) (since : D → ℕ → ℕ → List ℕ → Type 0) where
  -- The property holds before the first call.
  pub started : (d : D) (P : ℕ → List ℕ → Type 0) → ((m : ℕ) (image : List ℕ) → since d (clock d) m image → P m image) → Throughout clock since d d P
  started d P here = record { later = omega arith; each = here; before = λ t m image le left. inl left }

  -- One more call: a crash within it leaves images that have P with the old count, and after it the possible
  -- images have P with the new one.
  pub extended : (old mid new : D) (P : ℕ → List ℕ → Type 0) (old_calls new_calls : ℕ) (within possible : List ℕ → Type 0) → Throughout clock since old mid P
      → Elapses (clock mid) (clock new) (since mid) (since new) old_calls new_calls within possible
      → ((image : List ℕ) → within image → P old_calls image) → ((image : List ℕ) → possible image → P new_calls image) → Throughout clock since old new P
  extended old mid new P old_calls new_calls within possible so_far time in_it after = record {
    later = omega (arith, so_far.later, time.later);
    each = λ m image left. ⊎_elim (so_far.each m image) (called m image) (time.nothing_else (clock old) m image so_far.later left);
    before = λ t m image le left. ⊎_elim (so_far.before t m image le) (λ now. inr (called m image now))
        (time.nothing_else t m image (omega (arith, le, so_far.later)) left);
  }
    where
      called : (m : ℕ) (image : List ℕ) → ((m ≡ old_calls) × within image) ⊎ ((m ≡ new_calls) × possible image) → P m image
      called m image (inl now) = subst (λ (c : ℕ). P c image) (sym now.0) (in_it image now.1)
      called m image (inr now) = subst (λ (c : ℕ). P c image) (sym now.0) (after image now.1)

  -- Two sequences of calls, one after the other.
  pub joined : (old mid new : D) (P : ℕ → List ℕ → Type 0) → Throughout clock since old mid P → Throughout clock since mid new P
      → Throughout clock since old new P
  joined old mid new P first second = record {
    later = omega (arith, first.later, second.later);
    each = λ m image left. ⊎_elim (first.each m image) (λ now. now) (second.before (clock old) m image first.later left);
    before = λ t m image le left. ⊎_elim (first.before t m image le) (λ now. inr now) (second.before t m image (omega (arith, le, first.later)) left);
  }

  pub weakened : (old new : D) (P Q : ℕ → List ℕ → Type 0) → ((m : ℕ) (image : List ℕ) → P m image → Q m image) → Throughout clock since old new P
      → Throughout clock since old new Q
  weakened old new P Q weaker all = record {
    later = all.later;
    each = λ m image left. weaker m image (all.each m image left);
    before = λ t m image le left. ⊎_elim (λ past. inl past) (λ now. inr (weaker m image now)) (all.before t m image le left);
  }
