-- If a device is first read and then opened or read again, the contract of the second call also holds for the
-- device as it was before the first.
use Rattle.std.proofs.Common.{◌≡◌, ◌+◌, ◌≤◌, ◌∙◌, inl, ℕ, List, Result, Ok, Err, refl, sym, ap, subst, arith}
use Rattle.std.specs.Prelude.{MatchResult}
use Rattle.checkpoint.specs.InvalidImages.{HoldsNothing, IsLoadFault, UnlessReadFailed}
use Rattle.checkpoint.specs.Layouts.{min_sectors}
use Rattle.checkpoint.specs.Laws.{NeverBoth}
use Rattle.checkpoint.specs.Reads.{IsUnchanged}
use Rattle.checkpoint.specs.Refusals.{faults_after_reading, faults_of_store}
use Rattle.checkpoint.specs.declared.faults.StoreFault.{StoreFault}
use Rattle.checkpoint.specs.declared.faults.StoreFault.TheVariants.{NotFormatted, BadVersion, Codec, Spent, OutOfMemory, DeviceFault}
use Rattle.planner_cli.proofs.ReadLemmas.{unchanged_again}
use Rattle.planner_cli.specs.ReadOnly.{LoadsState}
use Rattle.command_types.specs.declared.states.State.{State}
use Rattle.recover.specs.Applying.{IsBetween}
use Rattle.recover.specs.Opening.{IsOnlyRead, IsOpened, IsRefused, IsReplayed, Opens, ReadsAfter, RecoversToNothing}
use Rattle.recover.specs.Sessions.{SessionValue}
use Rattle.recover.specs.RecoversTo.{RecoversTo}
use Rattle.sector_disk.specs.Sectors.{Throughout}
use Rattle.sector_disk.specs.Throughout.{joined, weakened}
use Rattle.sector_disk.specs.declared.sectors.Sectors as sectors
use Rattle.state_codec.specs.declared.version.Version.TheVariants.{Two}

-- An image that holds nothing recovers to no state.
stands_for_none : (image : List ℕ) (fault : StoreFault) → UnlessReadFailed (HoldsNothing Two image) fault → UnlessReadFailed (RecoversToNothing Two image) fault
stands_for_none image DeviceFault nothing = tt
stands_for_none image OutOfMemory nothing = tt
stands_for_none image NotFormatted nothing = inl nothing
stands_for_none image BadVersion nothing = inl nothing
stands_for_none image (Codec fault) nothing = inl nothing
stands_for_none image Spent nothing = inl nothing

-- Opening an image that holds nothing does not return a state.
opens_none : NeverBoth → (image : List ℕ) (fault : StoreFault) → UnlessReadFailed (HoldsNothing Two image) fault → Opens Two image (Err fault)
opens_none never image DeviceFault nothing state recovers = tt
opens_none never image OutOfMemory nothing state recovers = tt
opens_none never image NotFormatted nothing state recovers = never Two image recovers.snapshot recovers.commands recovers.place NotFormatted recovers.holds nothing
opens_none never image BadVersion nothing state recovers = never Two image recovers.snapshot recovers.commands recovers.place BadVersion recovers.holds nothing
opens_none never image (Codec fault) nothing state recovers = never Two image recovers.snapshot recovers.commands recovers.place (Codec fault) recovers.holds nothing
opens_none never image Spent nothing state recovers = never Two image recovers.snapshot recovers.commands recovers.place Spent recovers.holds nothing

abbrev pub unread : StoreFault → Result ℕ StoreFault
unread fault = Err fault

abbrev refused_state : StoreFault → Result State StoreFault
refused_state fault = Err fault

abbrev pub found : ℕ → Result ℕ StoreFault
found steps = Ok steps

-- If two equal results are faults, the faults are equal.
same_fault : (answer other : Result ℕ StoreFault) (fault cause : StoreFault) → answer ≡ Err fault → other ≡ Err cause → answer ≡ other → fault ≡ cause
same_fault answer other fault cause is reported same = cc

not_refused : (answer : Result ℕ StoreFault) (steps : ℕ) (fault : StoreFault) → answer ≡ Ok steps → answer ≡ Err fault → ⊥
not_refused answer steps fault is reported = absurd cc

-- After a read, reads return the same as before, which was possible then.
reads_again : (fault : StoreFault) (possible : List ℕ → Type 0) (before after : List ℕ) → possible before → after ≡ before → ReadsAfter fault possible before after
reads_again DeviceFault possible before after here same = subst possible (sym same) here
reads_again NotFormatted possible before after here same = same
reads_again BadVersion possible before after here same = same
reads_again (Codec fault) possible before after here same = same
reads_again Spent possible before after here same = same
reads_again OutOfMemory possible before after here same = same

-- If a first call has changed neither the bytes that reads return nor added a possible image, the guarantee of
-- the second call holds for both calls together.
reads_after : (fault : StoreFault) (possible now : List ℕ → Type 0) (before between after : List ℕ) → ((image : List ℕ) → now image → possible image)
    → between ≡ before → ReadsAfter fault now between after → ReadsAfter fault possible before after
reads_after DeviceFault possible now before between after each same is = each after is
reads_after NotFormatted possible now before between after each same is = is ∙ same
reads_after BadVersion possible now before between after each same is = is ∙ same
reads_after (Codec fault) possible now before between after each same is = is ∙ same
reads_after Spent possible now before between after each same is = is ∙ same
reads_after OutOfMemory possible now before between after each same is = is ∙ same

module _ {D : Type 0} (on : sectors.Ghosts D) (old read : D) where
  -- If reading the number of steps was refused, opening is refused, too.
  pub failed_first : NeverBoth → (fault : StoreFault) → IsOnlyRead on (unread fault) old read → IsLoadFault fault
      → (on.honest read → UnlessReadFailed (HoldsNothing Two (on.seen old)) fault) → (on.honest old → on.possible old (on.seen old)) → IsRefused on old read fault
  failed_first never fault only fails nothing here = record {
    refused = λ honest. stands_for_none (on.seen old) fault (nothing honest);
    opens = λ honest. opens_none never (on.seen old) fault (nothing honest);
    fails = fails;
    small = λ short. (same_fault (unread fault) (unread NotFormatted) fault NotFormatted refl refl (only.reported short), only.small short);
    reads = λ honest. reads_again fault (on.possible old) (on.seen old) (on.seen read) (here (only.read.called.honest_before honest)) (only.read.kept honest).reads;
    moments = λ honest. weakened on.clock on.possible_since old read _ _ (λ m image at. ((omega (arith, at.0), omega (arith, at.0)), at.1)) (only.read.kept honest).moments;
    honest = only.read.called.honest_before;
    faults = only.read.called.fault;
    same_len = only.read.called.same_len;
  }

  -- If reading the number of steps was refused, opening for reading only is refused, too.
  pub unlooked : (fault : StoreFault) → IsOnlyRead on (unread fault) old read → IsLoadFault fault
      → (on.honest read → UnlessReadFailed (HoldsNothing Two (on.seen old)) fault) → LoadsState on old (refused_state fault) read
  unlooked fault only fails nothing = record {
    given = λ honest. stands_for_none (on.seen old) fault (nothing honest);
    facts = tt;
    fails = fails;
    reads = record {
      read = only.read;
      small = only.small;
      reported = λ short. ap refused_state (same_fault (unread fault) (unread NotFormatted) fault NotFormatted refl refl (only.reported short));
    };
  }

  -- The device was read, and then read again or opened.
  module _ (steps : ℕ) (only : IsOnlyRead on (found steps) old read) where
    kept : on.honest read → IsUnchanged on.clock on.possible_since on.possible on.seen on.calls old read
    kept = only.read.kept

    -- A moment of the opening is a moment since the read began, and its image was possible before the read.
    within : (m : ℕ) (image : List ℕ) → on.honest read → IsBetween (on.calls read) (on.calls read + 1) m image × on.possible read image
        → IsBetween (on.calls old) (on.calls old + 1) m image × on.possible old image
    within m image honest at = (subst (λ (n : ℕ). IsBetween n (n + 1) m image) only.read.called.finished at.0, (kept honest).images.nothing_else image at.1)

    -- A moment of the read is one of the whole opening, and its image was possible before the read.
    before : (m : ℕ) (image : List ℕ) → (m ≡ on.calls old) × on.possible old image → IsBetween (on.calls old) (on.calls old + 1) m image × on.possible old image
    before m image at = ((omega (arith, at.0), omega (arith, at.0)), at.1)

    -- Two reads, one after the other, count as one read.
    read_after : {T : Type 0} (answer : Result T StoreFault) (after : D) → IsOnlyRead on answer read after → IsOnlyRead on answer old after
    read_after answer after again = record {
      read = record {
        called = record {
          same_len = again.read.called.same_len ∙ only.read.called.same_len;
          finished = again.read.called.finished ∙ only.read.called.finished;
          fault = again.read.called.fault ∙ ap (faults_after_reading answer) only.read.called.fault;
          honest_before = λ honest. only.read.called.honest_before (again.read.called.honest_before honest);
        };
        kept = λ honest. unchanged_again on old read after only.read.called.finished (kept (again.read.called.honest_before honest)) (again.read.kept honest);
      };
      small = λ short. absurd (not_refused (found steps) steps NotFormatted refl (only.reported short));
      reported = λ short. absurd (not_refused (found steps) steps NotFormatted refl (only.reported short));
    }

    pub looked_after : (answer : Result State StoreFault) (after : D) → LoadsState on read answer after → LoadsState on old answer after
    looked_after answer after again = record {
      given = λ honest. subst (λ (image : List ℕ). MatchResult answer (RecoversTo Two image) (UnlessReadFailed (RecoversToNothing Two image)))
          (kept (again.reads.read.called.honest_before honest)).reads (again.given honest);
      facts = again.facts;
      fails = again.fails;
      reads = read_after answer after again.reads;
    }

    moments : (after : D) → on.honest read → Throughout on.clock on.possible_since read after (λ m image. IsBetween (on.calls read) (on.calls read + 1) m image × on.possible read image)
        → Throughout on.clock on.possible_since old after (λ m image. IsBetween (on.calls old) (on.calls old + 1) m image × on.possible old image)
    moments after honest following =
        joined on.clock on.possible_since old read after _
        (weakened on.clock on.possible_since old read _ _ (λ m image at. before m image at) (kept honest).moments)
        (weakened on.clock on.possible_since read after _ _ (λ m image at. within m image honest at) following)

    pub refused_after : (after : D) (fault : StoreFault) → IsRefused on read after fault → IsRefused on old after fault
    refused_after after fault following = record {
      refused = λ honest. subst (λ (image : List ℕ). UnlessReadFailed (RecoversToNothing Two image) fault) (kept (following.honest honest)).reads (following.refused honest);
      opens = λ honest. subst (λ (image : List ℕ). Opens Two image (Err fault)) (kept (following.honest honest)).reads (following.opens honest);
      fails = following.fails;
      small = λ short. absurd (not_refused (found steps) steps NotFormatted refl (only.reported short));
      reads = λ honest.
          (let same = kept (following.honest honest) in
          reads_after fault (on.possible old) (on.possible read) (on.seen old) (on.seen read) (on.seen after) same.images.nothing_else same.reads (following.reads honest));
      moments = λ honest. moments after (following.honest honest) (following.moments honest);
      honest = λ honest. only.read.called.honest_before (following.honest honest);
      faults = following.faults ∙ ap (faults_of_store fault) only.read.called.fault;
      same_len = following.same_len ∙ only.read.called.same_len;
    }

    pub opened_after : (session : SessionValue D) (replayed : ℕ) → IsOpened on read session replayed → IsOpened on old session replayed
    opened_after session replayed following =
        let same : on.honest session.device → on.seen read ≡ on.seen old = λ honest. (kept (following.honest honest)).reads in
        record {
          room = subst (λ (n : ℕ). min_sectors ≤ n) only.read.called.same_len following.room;
          given = λ honest. subst (λ (image : List ℕ). RecoversTo Two image session.state) (same honest) (following.given honest);
          opens = λ honest. subst (λ (image : List ℕ). Opens Two image (Ok session.state)) (same honest) (following.opens honest);
          replays = λ honest. subst (λ (image : List ℕ). IsReplayed Two image session.state session.place replayed) (same honest) (following.replays honest);
          recovers = following.recovers;
          reads = λ honest. following.reads honest ∙ same honest;
          moments = λ honest. moments session.device (following.honest honest) (following.moments honest);
          honest = λ honest. only.read.called.honest_before (following.honest honest);
          facts = following.facts;
          whole = following.whole;
          finished = following.finished ∙ ap (λ (n : ℕ). n + 1) only.read.called.finished;
          faults = following.faults ∙ only.read.called.fault;
          same_len = following.same_len ∙ only.read.called.same_len;
        }
