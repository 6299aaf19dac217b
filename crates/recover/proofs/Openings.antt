-- Reading a device and replaying its commands satisfies the contract of opening.
use Rattle.std.proofs.Common.{◌≡◌, ⊎_elim, ℕ, List, sym, ◌∙◌, ap, subst}
use Rattle.std.specs.Prelude.{Result, Ok, Err, MatchResult}
use Rattle.command_core.specs.Runs.{after, AreAccepted}
use Rattle.command_types.specs.declared.states.State.{State}
use Rattle.state_codec.specs.declared.version.Version.{Version}
use Rattle.checkpoint.specs.declared.faults.StoreFault.{StoreFault}
use Rattle.checkpoint.specs.declared.faults.StoreFault.TheVariants.{NotFormatted, BadVersion, Codec, Spent, OutOfMemory, DeviceFault}
use Rattle.checkpoint.specs.declared.places.Place.{Place}
use Rattle.checkpoint.specs.InvalidImages.{UnlessReadFailed}
use Rattle.checkpoint.specs.Laws.{HoldAtMostOne, NeverBoth}
use Rattle.recover.specs.RecoversTo.{RecoversTo}
use Rattle.recover.specs.Opening.{Opens, RecoversToNothing}
use Rattle.recover.specs.Replaying.{IsReplayedImage}

module _ (version : Version) where
  -- if the image was replayed, the replayed state is the one that the image recovers to
  module _ (image : List ℕ) (state : State) (place : Place) (replayed : ℕ) (found : IsReplayedImage version image state place replayed) where
    pub recovers : RecoversTo version image state
    recovers = record { snapshot = found.snapshot; commands = found.commands; place = place; holds = found.holds; accepted = found.accepted; leads = found.leads }

  module _ (one : HoldAtMostOne) (never : NeverBoth) (image : List ℕ) where
    -- an image recovers to at most one state
    same_state : (state other : State) → RecoversTo version image state → RecoversTo version image other → state ≡ other
    same_state state other a b =
        let same = one version image a.snapshot b.snapshot a.commands b.commands a.place b.place a.holds b.holds in
        sym a.leads ∙ ap (λ (s : State). after s a.commands) same.0 ∙ ap (after b.snapshot) same.1 ∙ b.leads

    -- an image that recovers to a state has no fault
    recovers_without_fault : (state : State) (fault : StoreFault) → RecoversTo version image state → RecoversToNothing version image fault → ⊥
    recovers_without_fault state fault recovers none = ⊎_elim
        (never version image recovers.snapshot recovers.commands recovers.place fault recovers.holds)
        (λ broken. let r = broken.1 in
        let same = one version image recovers.snapshot r.snapshot recovers.commands r.commands recovers.place r.place recovers.holds r.holds in
        r.refused (subst (λ (s : State). AreAccepted s r.commands) same.0 (subst (AreAccepted recovers.snapshot) same.1 recovers.accepted)))
        none

    pub opens : (outcome : Result State StoreFault) → MatchResult outcome (RecoversTo version image) (UnlessReadFailed (RecoversToNothing version image)) → Opens version image outcome
    opens (Ok given) known state saved = same_state given state known saved
    opens (Err DeviceFault) known state saved = tt
    opens (Err OutOfMemory) known state saved = tt
    opens (Err NotFormatted) known state saved = recovers_without_fault state NotFormatted saved known
    opens (Err BadVersion) known state saved = recovers_without_fault state BadVersion saved known
    opens (Err (Codec fault)) known state saved = recovers_without_fault state (Codec fault) saved known
    opens (Err Spent) known state saved = recovers_without_fault state Spent saved known
