-- A device that was read, and then read again, was at most read.
use Rattle.std.proofs.Common.{◌≡◌, ◌∙◌, ℕ, List, refl}
use Rattle.checkpoint.specs.Reads.{IsUnchanged}
use Rattle.planner_cli.specs.StoreDevices.{IsReadAtMost}
use Rattle.sector_disk.specs.Sectors.{IsCalled, Passes, SameImages, same_count}
use Rattle.sector_disk.specs.Throughout.{extended, joined, started, weakened}
use Rattle.sector_disk.specs.declared.sectors.Sectors as sectors

module _ {D : Type 0} (on : sectors.Ghosts D) where
  -- The only moment since the present one is the present one itself.
  abbrev OnlyNow : Type 0
  OnlyNow = (d : D) (m : ℕ) (image : List ℕ) → on.honest d → on.possible_since d (on.clock d) m image → (m ≡ on.calls d) × on.possible d image

  -- The image was possible on the old device, and no other call has finished since.
  abbrev Still : D → ℕ → List ℕ → Type 0
  Still old m image = (m ≡ on.calls old) × on.possible old image

  -- A device that is not called is at most read.
  pub not_read : OnlyNow → (device : D) → IsReadAtMost on device device
  not_read only_now device = record {
    same_len = refl;
    calls = refl;
    honest = λ honest. honest;
    kept = λ honest. record {
      reads = refl;
      images = record { nothing_else = λ image at. at; keeps = λ image at. at };
      moments = started on.clock on.possible_since device (Still device) (λ m image since. only_now device m image honest since);
    };
  }

  -- A device that is read once is at most read.
  pub read_once : OnlyNow → (old new : D) (faults_then : ℕ → ℕ) → IsCalled on.len on.calls on.faults on.honest same_count faults_then old new
      → (on.honest new → on.seen new ≡ on.seen old) → (on.honest new → SameImages (on.possible old) (on.possible new))
      → (on.honest new → Passes on.clock on.possible_since on.calls on.possible (on.possible old) old new) → IsReadAtMost on old new
  read_once only_now old new faults_then called reads images moments = record {
    same_len = called.same_len;
    calls = called.finished;
    honest = called.honest_before;
    kept = λ honest. record {
      reads = reads honest;
      images = images honest;
      moments = extended on.clock on.possible_since old old new (Still old) (on.calls old) (on.calls new) (on.possible old) (on.possible new)
          (started on.clock on.possible_since old (Still old) (λ m image since. only_now old m image (called.honest_before honest) since)) (moments honest)
          (λ image at. (refl, at)) (λ image at. (called.finished, (images honest).nothing_else image at));
    };
  }

  -- Two steps that leave a device unchanged leave it unchanged together.
  pub unchanged_again : (old mid new : D) → on.calls mid ≡ on.calls old → IsUnchanged on.clock on.possible_since on.possible on.seen on.calls old mid
      → IsUnchanged on.clock on.possible_since on.possible on.seen on.calls mid new → IsUnchanged on.clock on.possible_since on.possible on.seen on.calls old new
  unchanged_again old mid new same first second = record {
    reads = second.reads ∙ first.reads;
    images = record {
      nothing_else = λ image at. first.images.nothing_else image (second.images.nothing_else image at);
      keeps = λ image at. second.images.keeps image (first.images.keeps image at);
    };
    moments = joined on.clock on.possible_since old mid new (Still old) first.moments
        (weakened on.clock on.possible_since mid new (Still mid) (Still old) (λ m image at. (at.0 ∙ same, first.images.nothing_else image at.1)) second.moments);
  }

  pub read_again : (old mid new : D) → IsReadAtMost on old mid → IsReadAtMost on mid new → IsReadAtMost on old new
  read_again old mid new first second = record {
    same_len = second.same_len ∙ first.same_len;
    calls = second.calls ∙ first.calls;
    honest = λ honest. first.honest (second.honest honest);
    kept = λ honest. unchanged_again old mid new first.calls (first.kept (second.honest honest)) (second.kept honest);
  }
