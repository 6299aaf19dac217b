-- The calls of a durable write: the images that a crash may leave within the write, between the calls and after
-- the sync.
use Rattle.std.proofs.Common.{◌≡◌, ◌+◌, ◌≤◌, ℕ, List, Result, Ok, Err, OnOk, OnErr, inl, refl, sym, ◌∙◌, subst, arith}
use Rattle.sector_disk.specs.Image.{written, Mixes}
use Rattle.sector_disk.specs.Sectors.{Reached, Elapses, Throughout, SameImages, Only, calls_after}
use Rattle.sector_disk.specs.Throughout.{started, extended}
use Rattle.checkpoint.specs.DurableWrites.{IsInDurableWrite}

-- an image is a mixture of itself with any other
pub unmixed : (image whole : List ℕ) → Mixes image whole image
unmixed image whole = record { size = refl; each = λ i. inl refl }

pub not_reached : (first : ℕ) (bytes : List ℕ) (possible : List ℕ → Type 0) (image : List ℕ) → possible image → Reached first bytes possible image
not_reached first bytes possible image here = (image, here, unmixed image (written first bytes image))

module _ (first : ℕ) (bytes : List ℕ) (possible : List ℕ → Type 0) (seen : List ℕ) (calls : ℕ) where
  -- a moment when at most one of the two calls has finished
  pub early : (m : ℕ) (image : List ℕ) → calls ≤ m → m ≤ calls + 1 → Reached first bytes possible image → IsInDurableWrite first bytes possible seen calls m image
  early m image from to reached = record { from = from; to = omega (arith, to); reached = reached; done = λ all. absurd (omega (arith, to, all)) }

  pub late : (m : ℕ) (image : List ℕ) → calls ≤ m → m ≤ calls + 2 → Reached first bytes possible image → image ≡ written first bytes seen → IsInDurableWrite first bytes possible seen calls m image
  late m image from to reached done = record { from = from; to = to; reached = reached; done = λ all. done }

  module _ {D : Type 0} (clock : D → ℕ) (since : D → ℕ → ℕ → List ℕ → Type 0) (old mid new : D) (after_write after_sync : List ℕ → Type 0) (calls_mid calls_new : ℕ)
      (now : (m : ℕ) (image : List ℕ) → since old (clock old) m image → (m ≡ calls) × possible image) where
    pub in_write : Elapses (clock old) (clock mid) (since old) (since mid) calls calls_mid (Reached first bytes possible) after_write
        → ((image : List ℕ) → after_write image → Reached first bytes possible image) → calls ≤ calls_mid → calls_mid ≤ calls + 1
        → Throughout clock since old mid (IsInDurableWrite first bytes possible seen calls)
    in_write time left from to = extended clock since old old mid (IsInDurableWrite first bytes possible seen calls) calls calls_mid (Reached first bytes possible) after_write
        (started clock since old (IsInDurableWrite first bytes possible seen calls)
        (λ m image here. let is = now m image here in early m image (omega (arith, is.0)) (omega (arith, is.0))
        (not_reached first bytes possible image is.1)))
        time
        (λ image reached. early calls image (omega arith) (omega arith) reached)
        (λ image here. early calls_mid image from to (left image here))

    pub in_sync : Throughout clock since old mid (IsInDurableWrite first bytes possible seen calls)
        → Elapses (clock mid) (clock new) (since mid) (since new) calls_mid calls_new after_write after_sync
        → ((image : List ℕ) → after_write image → Reached first bytes possible image) → calls_mid ≡ calls + 1
        → ((image : List ℕ) → after_sync image → IsInDurableWrite first bytes possible seen calls calls_new image)
        → Throughout clock since old new (IsInDurableWrite first bytes possible seen calls)
    in_sync so_far time left one ends = extended clock since old mid new (IsInDurableWrite first bytes possible seen calls) calls_mid calls_new after_write after_sync so_far time
        (λ image here. early calls_mid image (omega (arith, one)) (omega (arith, one)) (left image here))
        ends

  -- the images that are possible after a sync, whether it succeeds or fails
  pub after_sync_call : {T E : Type 0} (result : Result T E) (mid_seen : List ℕ) (after_write after_sync : List ℕ → Type 0) (calls_new : ℕ) → calls_new ≡ calls_after result (calls + 1)
      → mid_seen ≡ written first bytes seen → after_write mid_seen → ((image : List ℕ) → after_write image → Reached first bytes possible image)
      → OnOk result (Only mid_seen after_sync) → OnErr result (SameImages after_write after_sync) → (image : List ℕ) → after_sync image → IsInDurableWrite first bytes possible seen calls calls_new image
  after_sync_call (Ok x) mid_seen after_write after_sync calls_new finished is mid left durable contents image here =
      let same : image ≡ mid_seen = durable image here in
      late calls_new image (omega (arith, finished)) (omega (arith, finished)) (subst (Reached first bytes possible) (sym same) (left mid_seen mid)) (same ∙ is)
  after_sync_call (Err e) mid_seen after_write after_sync calls_new finished is mid left durable contents image here =
      early calls_new image (omega (arith, finished)) (omega (arith, finished)) (left image (contents.nothing_else image here))
