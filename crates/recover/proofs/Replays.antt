-- The commands of records add search steps, and none of them resets the count.
use Rattle.std.proofs.Common.{◌≡◌, ℕ, ◌+◌, ◌-◌, ◌*◌, ◌^◌, ◌<◌, ◌≤◌, List, [], ◌∷◌, length, sym, ◌∙◌, ap, subst, arith}
use Rattle.std.specs.Prelude.{sum_by, None}
use Rattle.std.proofs.lemmas.List.Elements.{recursion_from_All}
use Rattle.std.proofs.lemmas.List.Sums.{sum_by-cons}
use Rattle.std.specs.List.{AllByRecursion}
use Rattle.command_core.specs.Effects.{effect}
use Rattle.command_core.specs.Refusals.{refusal}
use Rattle.command_types.specs.Commands.{steps_of}
use Rattle.command_core.specs.Runs.{after, AreAccepted}
use Rattle.command_types.specs.declared.states.State.{State}
use Rattle.command_types.specs.declared.states.State.TheVariants.{Empty, Loaded}
use Rattle.command_types.specs.declared.commands.Command.{Command}
use Rattle.command_types.specs.declared.commands.Command.TheVariants.{Load}
use Rattle.command_core.proofs.NumberLemmas.{few_recorded, recorded_no_load, steps_counted}
use Rattle.state_codec.specs.declared.version.Version.{Version}
use Rattle.state_codec.specs.Limits.{IsRecorded}
use Rattle.state_codec.proofs.RecordLaws.{recorded_fits}
use Rattle.checkpoint.specs.declared.places.Place.{Place}
use Rattle.checkpoint.specs.Holds.{Holds}
use Rattle.checkpoint.specs.Laws.{HoldAtMostOne}
use Rattle.recover.specs.Opening.{steps_of_state, IsStepsToReplay}
use Rattle.recover.specs.Replaying.{IsReplayedImage}

module _ (version : Version) where
  -- The steps that an accepted command with a record adds to a state are the steps of the command.
  adds_one : (s : State) (c : Command) → IsRecorded version c → refusal s c ≡ None → steps_of_state (effect s c) ≡ steps_of_state s + steps_of c
  adds_one Empty (Load p seed) recorded accepted = elim recorded [ ]
  adds_one Empty c recorded accepted = cc accepted
  adds_one (Loaded j) c recorded accepted = steps_counted j c (recorded_no_load c (recorded_fits version c recorded).0)

  adds : (s : State) (cs : List Command) → AllByRecursion (IsRecorded version) cs → AreAccepted s cs → steps_of_state (after s cs) ≡ steps_of_state s + sum_by steps_of cs
  adds s [] recorded accepted = omega arith
  adds s (c ∷ cs) recorded accepted =
      let first = adds_one s c recorded.0 accepted.1 in
      let rest = adds (effect s c) cs recorded.1 accepted.2 in
      subst (λ (n : ℕ). steps_of_state (after (effect s c) cs) ≡ steps_of_state s + n) (sym (sum_by-cons steps_of c cs)) (omega (arith, first, rest))

  -- A record has at most 256 steps.
  few_of : (c : Command) → IsRecorded version c → steps_of c ≤ 256
  few_of c recorded = let both = recorded_fits version c recorded in few_recorded c both.0 both.1

  few : (cs : List Command) → AllByRecursion (IsRecorded version) cs → sum_by steps_of cs ≤ 256 * length cs
  few [] recorded = omega arith
  few (c ∷ cs) recorded =
      let first = few_of c recorded.0 in
      let rest = few cs recorded.1 in
      subst (λ (n : ℕ). n ≤ 256 * length (c ∷ cs)) (sym (sum_by-cons steps_of c cs)) (omega (arith, first, rest))

  module _ (image : List ℕ) (snapshot : State) (commands : List Command) (place : Place) (holds : Holds version image snapshot commands place) (room : place.used ≤ 256) where
    all_recorded : AllByRecursion (IsRecorded version) commands
    all_recorded = recursion_from_All (IsRecorded version) commands holds.recorded

    -- So the commands of a store have at most 65,536 steps in all.
    few_held : sum_by steps_of commands ≤ 65536
    few_held = omega (arith, few commands all_recorded, holds.used, room)

    -- If the commands of an image are replayed, the steps of the state beyond those of the snapshot are the
    -- steps of the commands.
    pub replay_records : AreAccepted snapshot commands → (state : State) → after snapshot commands ≡ state → IsReplayedImage version image state place (steps_of_state state - steps_of_state snapshot)
    replay_records accepted state leads =
        let now : steps_of_state state ≡ steps_of_state snapshot + sum_by steps_of commands = ap steps_of_state (sym leads) ∙ adds snapshot commands all_recorded accepted in
        record {
          snapshot = snapshot;
          commands = commands;
          holds = holds;
          accepted = accepted;
          leads = leads;
          steps = omega (arith, now);
          searched = omega (arith, now);
          most = omega (arith, now, few_held);
        }

    -- The number of steps counted before opening is the number that opening replays, since an image holds only
    -- one list of commands.
    pub to_repeat : HoldAtMostOne → (steps : ℕ) → (sum_by steps_of commands < 2 ^ 64 → steps ≡ sum_by steps_of commands) → IsStepsToReplay version image steps
    to_repeat one steps counted =
        let now : steps ≡ sum_by steps_of commands = counted (omega (arith, few_held)) in
        record {
          snapshot = snapshot;
          commands = commands;
          place = place;
          holds = holds;
          searched = now;
          most = omega (arith, now, few_held);
          agrees = λ state other replayed opened.
              let same = one version image opened.snapshot snapshot opened.commands commands other place opened.holds holds in
              opened.searched ∙ ap (λ (cs : List Command). sum_by steps_of cs) same.1 ∙ sym now;
        }
