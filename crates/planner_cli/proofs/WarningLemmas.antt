-- A store is opened after its integrity was checked. The contract of opening the device that was read also
-- holds for the device as it was before.
use Rattle.std.proofs.Common.{◌≡◌, inl, inr, ℕ, List, Option, Result, Ok, Err, None, refl, ap, subst}
use Rattle.std.proofs.KnownBytes.{Appends-nil}
use Rattle.std.specs.Prelude.{◌<◌, ◌⊎◌, IsErrOf, MatchResult, OnOk, ⊤}
use Rattle.std.specs.Io.KnownBytes.{Appends}
use Rattle.checkpoint.specs.Integrity.{AreWarningsOf}
use Rattle.checkpoint.specs.InvalidImages.{HasNoHeader, HoldsNothing, IsHeaderOrReadFault, IsLoadFault, UnlessReadFailed}
use Rattle.checkpoint.specs.Laws.{NeverBoth}
use Rattle.checkpoint.specs.Layouts.{min_sectors, version_2}
use Rattle.checkpoint.specs.Reads.{ReadsOnly}
use Rattle.checkpoint.specs.Refusals.{faults_after_reading}
use Rattle.checkpoint.specs.declared.integrity.IntegrityWarnings.{IntegrityWarnings}
use Rattle.checkpoint.specs.declared.faults.StoreFault.{StoreFault}
use Rattle.checkpoint.specs.declared.faults.StoreFault.TheVariants.{NotFormatted, BadVersion, Codec, Spent, OutOfMemory, DeviceFault}
use Rattle.planner_cli.proofs.OpenLemmas.{failed_first, found, unread}
use Rattle.planner_cli.specs.WarnedOpening.{IsWarningOfImage, IsFirstWarning, IsWarned, warning_line, first_warning}
use Rattle.planner_cli.specs.ReplayNotice.{AnnouncesReplay, IsStepsOfImage}
use Rattle.recover.specs.Opening.{IsOnlyRead, IsOpened, IsRefused, IsStepsToReplay}
use Rattle.recover.specs.declared.opening.Opened.{Opened}
use Rattle.sector_disk.specs.declared.sectors.Sectors as sectors
use Rattle.state_codec.specs.declared.version.Version.TheVariants.{Two}

-- An image without a valid header holds nothing.
holds_nothing : (image : List ℕ) (fault : StoreFault) → UnlessReadFailed (HasNoHeader version_2 image) fault → UnlessReadFailed (HoldsNothing Two image) fault
holds_nothing image DeviceFault none = tt
holds_nothing image OutOfMemory none = tt
holds_nothing image NotFormatted none = none
holds_nothing image BadVersion none = none
holds_nothing image (Codec fault) none = absurd none
holds_nothing image Spent none = none

of_load : (fault : StoreFault) → IsHeaderOrReadFault fault → IsLoadFault fault
of_load DeviceFault is = tt
of_load OutOfMemory is = tt
of_load NotFormatted is = tt
of_load BadVersion is = tt
of_load (Codec fault) is = absurd is
of_load Spent is = absurd is

abbrev checked : IntegrityWarnings → Result IntegrityWarnings StoreFault
checked doubts = Ok doubts

abbrev unchecked : StoreFault → Result IntegrityWarnings StoreFault
unchecked fault = Err fault

not_unchecked : (answer : Result IntegrityWarnings StoreFault) (doubts : IntegrityWarnings) (fault : StoreFault) → answer ≡ Ok doubts → answer ≡ Err fault → ⊥
not_unchecked answer doubts fault is reported = absurd cc

same_cause : (answer : Result IntegrityWarnings StoreFault) (fault cause : StoreFault) → answer ≡ Err fault → answer ≡ Err cause → fault ≡ cause
same_cause answer fault cause is reported = cc

-- A successful print met its guarantee.
pub at_ok : {E P : Type 0} (reported : Result ⊤ E) → reported ≡ Ok tt → OnOk reported P → P
at_ok {P = P} reported is holds = subst (λ (r : Result ⊤ _). OnOk r P) is holds

module _ {D : Type 0} (on : sectors.Ghosts D) (old read : D) where
  -- After a successful integrity check, the device was only read.
  pub only_read : (doubts : IntegrityWarnings) → ReadsOnly on (faults_after_reading (checked doubts)) old read
      → (on.len old < min_sectors → (read ≡ old) × IsErrOf (checked doubts) NotFormatted) → IsOnlyRead on (found 0) old read
  only_read doubts reads small = record {
    read = reads;
    small = λ short. (small short).0;
    reported = λ short. absurd (not_unchecked (checked doubts) doubts NotFormatted refl (small short).1);
  }

  only_unread : (fault : StoreFault) → ReadsOnly on (faults_after_reading (unchecked fault)) old read
      → (on.len old < min_sectors → (read ≡ old) × IsErrOf (unchecked fault) NotFormatted) → IsOnlyRead on (unread fault) old read
  only_unread fault reads small = record {
    read = reads;
    small = λ short. (small short).0;
    reported = λ short. ap unread (same_cause (unchecked fault) fault NotFormatted refl (small short).1);
  }

  -- If the check was refused, opening is refused, too.
  pub refused_first : NeverBoth → (fault : StoreFault) → ReadsOnly on (faults_after_reading (unchecked fault)) old read
      → (on.len old < min_sectors → (read ≡ old) × IsErrOf (unchecked fault) NotFormatted) → IsHeaderOrReadFault fault
      → (on.honest read → UnlessReadFailed (HasNoHeader version_2 (on.seen old)) fault) → (on.honest old → on.possible old (on.seen old)) → IsRefused on old read fault
  refused_first never fault reads small fails none here =
      failed_first on old read never fault (only_unread fault reads small) (of_load fault fails) (λ honest. holds_nothing (on.seen old) fault (none honest)) here

  -- If the check was refused, no warning was printed.
  pub unwarned : (store : List ℕ) (fault : StoreFault) (before : Option (List ℕ)) → (on.honest read → UnlessReadFailed (HasNoHeader version_2 (on.seen old)) fault)
      → IsWarned on read store (IsWarningOfImage (on.seen old) fault) (IsStepsOfImage on old fault) before before
  unwarned store fault before none = record {
    warning = None;
    warned = before;
    reported = Appends-nil before;
    first = λ honest. inr (refl, none honest);
    foretold = record { steps = 0; reported = Appends-nil before; counts = λ honest. inr (refl, holds_nothing (on.seen old) fault (none honest)) };
  }

  of_image : (fault : StoreFault) (steps : ℕ) → on.seen read ≡ on.seen old → IsStepsOfImage on read fault steps → IsStepsOfImage on old fault steps
  of_image fault steps same is = subst (λ (image : List ℕ). IsStepsToReplay Two image steps ⊎ ((steps ≡ 0) × UnlessReadFailed (HoldsNothing Two image) fault)) same is

  -- The lines that are printed before the opening: the first warning, then the number of steps to replay.
  module _ (store : List ℕ) (doubts : IntegrityWarnings) (before warned later : Option (List ℕ)) (are : on.honest read → AreWarningsOf (on.seen old) doubts)
      (same : on.honest read → on.seen read ≡ on.seen old) (reported : Appends before warned (warning_line store (first_warning doubts))) where
    pub warned_before : (opening : Result (Opened D) (StoreFault × D))
        → MatchResult opening (λ o. IsOpened on read o.session o.replayed) (λ r. IsRefused on read r.1 r.0)
        → MatchResult opening (λ o. AnnouncesReplay on o.session.device (λ steps. o.replayed ≡ steps) warned later) (λ r. AnnouncesReplay on r.1 (IsStepsOfImage on read r.0) warned later)
        → MatchResult opening (λ o. IsWarned on o.session.device store (IsFirstWarning (on.seen old)) (λ steps. o.replayed ≡ steps) before later)
        (λ r. IsWarned on r.1 store (IsWarningOfImage (on.seen old) r.0) (IsStepsOfImage on old r.0) before later)
    warned_before (Ok o) is foretold = record {
      warning = first_warning doubts;
      warned = warned;
      reported = reported;
      first = λ honest. (doubts, are (is.honest honest), refl);
      foretold = foretold;
    }
    warned_before (Err r) is foretold = record {
      warning = first_warning doubts;
      warned = warned;
      reported = reported;
      first = λ honest. inl (doubts, are (is.honest honest), refl);
      foretold = record {
        steps = foretold.steps;
        reported = foretold.reported;
        counts = λ honest. of_image r.0 foretold.steps (same (is.honest honest)) (foretold.counts honest);
      };
    }
