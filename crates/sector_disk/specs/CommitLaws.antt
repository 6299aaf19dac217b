-- Laws of commits.
use Rattle.std.proofs.Common.{◌≡◌, ⊎_elim, inl, inr, ℕ, ◌+◌, ◌≤◌, List, Result, Ok, Err, OnOk, arith}
use Rattle.std.proofs.lemmas.Result.{on_ok_weaker}
use Rattle.sector_disk.specs.declared.sectors.Sectors as sectors
use Rattle.sector_disk.specs.Throughout.{weakened}
use Rattle.sector_disk.specs.Calls.{IsInCommit, During, Each, Commits}

-- X and Y may be replaced by weaker properties
module _ (X Y Z W : List ℕ → Type 0) (x : (image : List ℕ) → X image → Z image) (y : (image : List ℕ) → Y image → W image) where
  pub within_by : (steps quiet calls m : ℕ) (image : List ℕ) → IsInCommit X Y steps quiet calls m image → IsInCommit Z W steps quiet calls m image
  within_by steps quiet calls m image within = record {
    from = within.from;
    to = within.to;
    early = λ before. x image (within.early before);
    either = ⊎_elim (λ old. inl (x image old)) (λ new. inr (y image new)) within.either;
    done = λ all. y image (within.done all);
  }

  module _ {D : Type 0} (on : sectors.Ghosts D) where
    pub commits_by : {T E : Type 0} (result : Result T E) (steps quiet : ℕ) (old new : D) → Commits on result steps quiet X Y old new
        → Commits on result steps quiet Z W old new
    commits_by result steps quiet old new is = record {
      moments = weakened on.clock on.possible_since old new _ _ (within_by steps quiet (on.calls old)) is.moments;
      after = on_ok_weaker result (λ each image left. y image (each image left)) is.after;
    }

-- the claim about the first `quiet` calls can be dropped
pub unquiet : (X Y : List ℕ → Type 0) (steps quiet calls m : ℕ) (image : List ℕ) → IsInCommit X Y steps quiet calls m image
    → IsInCommit X Y steps 0 calls m image
unquiet X Y steps quiet calls m image within = record {
  from = within.from;
  to = within.to;
  early = λ before. absurd (omega (arith, before, within.from));
  either = within.either;
  done = within.done;
}

module _ {D : Type 0} (on : sectors.Ghosts D) where
  at_last : {T E : Type 0} (result : Result T E) (steps quiet : ℕ) (X Y : List ℕ → Type 0) (old new : D)
      → ((t : ℕ) (image : List ℕ) → t ≤ on.clock new → on.possible new image → on.possible_since new t (on.calls new) image)
      → OnOk result (on.calls new ≡ on.calls old + steps) → During on old new (IsInCommit X Y steps quiet) → OnOk result (Each on new Y)
  at_last (Ok v) steps quiet X Y old new counts finished all =
      λ image left. (all.each (on.calls new) image (counts (on.clock old) image all.later left)).done finished
  at_last (Err e) steps quiet X Y old new counts finished all = finished

  -- a commit, from its guarantee for each moment: an image that is possible after Ok belongs to the last moment
  pub commits : {T E : Type 0} (result : Result T E) (steps quiet : ℕ) (X Y : List ℕ → Type 0) (old new : D)
      → ((t : ℕ) (image : List ℕ) → t ≤ on.clock new → on.possible new image → on.possible_since new t (on.calls new) image)
      → OnOk result (on.calls new ≡ on.calls old + steps) → During on old new (IsInCommit X Y steps quiet) → Commits on result steps quiet X Y old new
  commits result steps quiet X Y old new counts finished all = record {
    moments = all;
    after = at_last result steps quiet X Y old new counts finished all;
  }
