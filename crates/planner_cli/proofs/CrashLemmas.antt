-- Recovery after a crash of a run. A crash within the opening leaves an image that was possible before. A crash
-- after it leaves a prefix of the commands, with all that were acknowledged by then.
use Rattle.std.proofs.Common.{◌≡◌, ◌∙◌, ℕ, ◌+◌, ◌≤◌, ◌⊎◌, inl, inr, Bool, true, false, ◌&&◌, cond, List, [], ◌∷◌, ◌++◌, refl, sym, ap, subst, arith, append-nil}
use Rattle.std.specs.Prelude.{Result, Ok, Err, Option, Some, is_ok, nat_le, if◌then◌else◌}
use Rattle.std.proofs.lemmas.Bool.{lt-leb}
use Rattle.std.proofs.lemmas.List.Sums.{sum_by-cons}
use Rattle.checkpoint.specs.declared.faults.StoreFault.{StoreFault}
use Rattle.checkpoint.specs.declared.places.Place.{Place}
use Rattle.command_types.specs.declared.commands.Command.{Command}
use Rattle.command_types.specs.declared.states.State.{State}
use Rattle.command_server.specs.Acts.{Act, commands_of, kept_of, replies_of}
use Rattle.command_server.specs.ServeSteps.{IsAppliedOn}
use Rattle.command_server.specs.CrashRecovery.{IsRunOfInput, ServedHeadline, ServingsAreRuns}
use Rattle.command_server.specs.Streams.{rest_after, text_given, put_by}
use Rattle.command_server.specs.AnswerOrder.{AnswersComeAfter, ReportsAcknowledged}
use Rattle.command_server.proofs.ActLemmas.{honest_before}
use Rattle.command_server.proofs.CrashRecoveryLemmas.{weaker}
use Rattle.command_text.specs.Readings.{IsReading, Reading}
use Rattle.planner_cli.specs.RunRecovery.{EveryReadingHasAnInput, RecoversPrefix, KeepsPrintedAnswers, KeepsAnswersSince, Run}
use Rattle.planner_cli.specs.RunRecovery.{RunRecovers, RunKeepsAnswers, RunsAreLinked, RunsOver, OpenedRunRecovers, OpenedRunKeepsAnswers, acts_in}
use Rattle.recover.specs.Opening.{IsOpened}
use Rattle.recover.specs.Applying.{IsAnswer, IsBetween, Makes, calls_of, denial, is_snapshot_due}
use Rattle.recover.specs.Headline.{OpensToImageState, Headline, IsRecovered, LeavesPrefix}
use Rattle.recover.specs.Composition.{IsRunOn}
use Rattle.recover.specs.Moments.{RunLeaves, RecoversToPrefix}
use Rattle.recover.specs.Replies.{acknowledged_count, is_acknowledged, kept_commands}
use Rattle.recover.specs.Sessions.{SessionValue}
use Rattle.recover.specs.RecoversTo.{RecoversTo}
use Rattle.recover.specs.declared.denials.Denial.{Denial}
use Rattle.recover.specs.declared.denials.Denial.TheVariants.{Broken, Core, DeviceFault, OutOfMemory, Spent}
use Rattle.recover.specs.declared.replies.Reply.{Reply}
use Rattle.sector_disk.specs.Sectors.{Throughout}
use Rattle.sector_disk.specs.declared.sectors.Sectors as sectors
use Rattle.state_codec.specs.declared.version.Version.TheVariants.{Two}

-- ---- Acknowledged commands before a run has made a call

unacknowledged : (m : ℕ) (reply : Reply) (replies : List Reply) → is_acknowledged m reply ≡ false → acknowledged_count m replies ≡ 0 → acknowledged_count m (reply ∷ replies) ≡ 0
unacknowledged m reply replies not_yet none =
    sum_by-cons (λ r. cond (is_acknowledged m r) 1 0) reply replies ∙ ap (λ (b : Bool). cond b 1 0 + acknowledged_count m replies) not_yet ∙ ap (λ (k : ℕ). 0 + k) none

some_calls : (place : Place) (command : Command) → 1 ≤ calls_of place command
some_calls place command = elim (is_snapshot_due place command) as (λ b. 1 ≤ (if b then 4 else 2)) [ true ↦ omega arith | false ↦ omega arith ]

abbrev answers : Result (Unit {0}) Denial → ℕ → Reply
answers answer n = record { answer = answer; calls = n }

module _ {D : Type 0} (on : sectors.Ghosts D) where
  -- A broken session acknowledges nothing.
  none_of_broken : (commands : List Command) (replies : List Reply) (old new : SessionValue D) → old.is_broken ≡ true → IsRunOn on old commands replies new → (m : ℕ) → acknowledged_count m replies ≡ 0
  none_of_broken [] [] old new broken run m = refl
  none_of_broken (command ∷ commands) (reply ∷ replies) old new broken run m =
      let applied : IsAppliedOn on old command reply run.0 = run.1 in
      let why : denial old command ≡ Some Broken = rw broken refl in
      let reported : reply.answer ≡ Err Broken = subst (λ (o : Option Denial). IsAnswer o reply.answer) why applied.answer in
      let same : run.0 ≡ old = subst (λ (a : Result (Unit {0}) Denial). Makes a old command run.0) reported applied.makes in
      unacknowledged m reply replies (ap (λ (a : Result (Unit {0}) Denial). is_ok a && nat_le reply.calls m) reported)
      (none_of_broken commands replies run.0 new (ap (λ (s : SessionValue D). s.is_broken) same ∙ broken) run.2 m)
  none_of_broken [] (reply ∷ replies) old new broken run m = elim run [ ]
  none_of_broken (command ∷ commands) [] old new broken run m = elim run [ ]

  none_yet : (commands : List Command) (replies : List Reply) (old new : SessionValue D) → IsRunOn on old commands replies new → (m : ℕ) → m ≤ on.calls old.device → acknowledged_count m replies ≡ 0
  none_yet [] [] old new run m le = refl
  none_yet (command ∷ commands) (reply ∷ replies) old new run m le =
      first reply.answer reply.calls run.1 (none_yet commands replies run.0 new run.2 m) (λ broken. none_of_broken commands replies run.0 new broken run.2 m)
    where
      kept_calls : run.0 ≡ old → m ≤ on.calls run.0.device
      kept_calls same = subst (λ (s : SessionValue D). m ≤ on.calls s.device) (sym same) le

      first : (answer : Result (Unit {0}) Denial) (n : ℕ) → IsAppliedOn on old command (answers answer n) run.0 → (m ≤ on.calls run.0.device → acknowledged_count m replies ≡ 0)
          → (run.0.is_broken ≡ true → acknowledged_count m replies ≡ 0) → acknowledged_count m (answers answer n ∷ replies) ≡ 0
      first (Ok done) n applied later broken =
          let calls : on.calls run.0.device ≡ on.calls old.device + calls_of old.place command = applied.called.finished in
          let below : nat_le n m ≡ false = lt-leb n m (omega (arith, le, calls, some_calls old.place command, applied.count)) in
          unacknowledged m (answers (Ok done) n) replies below (later (omega (arith, le, calls)))
      first (Err DeviceFault) n applied later broken = unacknowledged m (answers (Err DeviceFault) n) replies refl (broken applied.makes.is_broken)
      first (Err Broken) n applied later broken = unacknowledged m (answers (Err Broken) n) replies refl (later (kept_calls applied.makes))
      first (Err (Core r)) n applied later broken = unacknowledged m (answers (Err (Core r)) n) replies refl (later (kept_calls applied.makes))
      first (Err Spent) n applied later broken = unacknowledged m (answers (Err Spent) n) replies refl (later (kept_calls applied.makes))
      first (Err OutOfMemory) n applied later broken = unacknowledged m (answers (Err OutOfMemory) n) replies refl (later (kept_calls applied.makes))
  none_yet [] (reply ∷ replies) old new run m le = elim run [ ]
  none_yet (command ∷ commands) [] old new run m le = elim run [ ]

  -- If nothing is acknowledged, an image that recovers to the first state recovers to a prefix of the commands,
  -- the empty one.
  begun_recovers : (state : State) (commands : List Command) (acknowledged : ℕ) (image : List ℕ) → acknowledged ≡ 0 → RecoversTo Two image state → RecoversToPrefix state commands acknowledged image
  begun_recovers state commands acknowledged image none recovers = record {
    count = 0;
    all_acknowledged = omega (arith, none);
    one_more = omega arith;
    within = omega arith;
    accepted = tt;
    recovers = recovers;
  }

  -- The moments of a run since its device was passed to the opening: a crash at any of them leaves a prefix of
  -- the commands, as for a run that begins after the opening.
  pub from_before : (device : D) (session new : SessionValue D) (replayed : ℕ) (commands : List Command) (replies : List Reply)
      → IsOpened on device session replayed → IsRunOn on session commands replies new
      → (on.honest new.device → Throughout on.clock on.possible_since session.device new.device (RunLeaves session.state commands replies))
      → ((image : List ℕ) → on.possible device image → RecoversTo Two image session.state) → LeavesPrefix on (record session { device = device }) commands replies new
  from_before device session new replayed commands replies opened run moments recovered_before whole honest m image stop =
      let opening = opened.moments (honest_before on commands replies session new run honest) in
      at opening ((moments honest).before (on.clock device) m image opening.later stop)
    where
      at : Throughout on.clock on.possible_since device session.device (λ n i. IsBetween (on.calls device) (on.calls device + 1) n i × on.possible device i)
          → on.possible_since session.device (on.clock device) m image ⊎ RunLeaves session.state commands replies m image → RunLeaves session.state commands replies m image
      at opening (inl early) =
          let left = opening.each m image early in
          begun_recovers session.state (kept_commands commands replies) (acknowledged_count m replies) image
          (none_yet commands replies session new run m (omega (arith, left.0.1, opened.finished))) (recovered_before image left.1)
      at opening (inr some) = some

pub run_headline : {D E : Type 0} (on : sectors.Ghosts D) (again : sectors.Ghosts E) (reading : Reading) (reads : IsReading reading) → Headline on again
    → ServingsAreRuns on → RunRecovers on again reading reads
run_headline on again reading reads law runs run device m image other left outcome is honest recovered_before stop given settled opens =
    let acts : List Act = acts_in on reading reads run device is in
    let session = is.session in
    let new = is.new in
    let done : IsRunOfInput on reading session run.input acts new =
    runs reading session new run.input is.runs.opened is.runs.answered is.runs.served ((is.runs.ends.serves run.input is.is_input).serves reading reads) in
    let leaves = from_before on device session new is.replayed (commands_of acts) (replies_of acts) is.opened done.run
    (is.runs.ends.moments (commands_of acts) (replies_of acts) done.run is.opened.whole) recovered_before in (
      done.requests_kept,
      law (record session { device = device }) new (commands_of acts) (replies_of acts) m image other left outcome is.opened.whole honest leaves stop given settled opens,
    )

pub served_run_headline : {D E : Type 0} (on : sectors.Ghosts D) (again : sectors.Ghosts E) (reading : Reading) (reads : IsReading reading)
    → ServedHeadline on again → OpenedRunRecovers on again reading reads
served_run_headline on again reading reads law run device m image other left outcome is honest stop given settled opens =
    law reading is.session is.new run.input is.runs.opened is.runs.answered is.runs.served m image other left outcome ((is.runs.ends.serves run.input is.is_input).serves reading reads)
    is.opened.whole honest is.runs.ends.moments stop given settled opens

-- If a run crashed, the state that the next opening returns is one that the law about crashed runs describes.
pub runs_are_linked : {D E : Type 0} (on : sectors.Ghosts D) (again : sectors.Ghosts E) (reading : Reading) (reads : IsReading reading)
    → OpenedRunRecovers on again reading reads → RunsAreLinked on again reading reads
runs_are_linked on again reading reads law run device m image next session replayed is honest stop given opened settled =
    let part = law run device m image next session.device (Ok session.state) is honest stop given settled opened.opens in
    (part.0, (part.1, refl))

-- For any results of reads, there is an input that begins with the bytes that they returned.
pub input_read : EveryReadingHasAnInput
input_read given =
    let text = text_given given.after in
    (rest_after given.before text, inr (text, record { rest = []; whole = sym (append-nil text); end = λ ended. refl }, refl))

-- The conclusion of the main law, for each crash at a moment from number `since` on.
abbrev GivesFirstPartSince : {D E : Type 0} (on : sectors.Ghosts D) (again : sectors.Ghosts E) (reading : Reading) (reads : IsReading reading) → ℕ
    → (run : Run) (device : D) → RunsOver on run device → Type 0
GivesFirstPartSince {D} {E} on again reading reads since run device is = (m : ℕ) (image : List ℕ) (other left : E) (outcome : Result State StoreFault)
    → on.possible_since is.new.device since m image → again.seen other ≡ image → again.honest left → OpensToImageState again other outcome left
    → RecoversPrefix on again reading reads run device is m outcome

keeps_answers : {D E : Type 0} (on : sectors.Ghosts D) (again : sectors.Ghosts E) (reading : Reading) (reads : IsReading reading) → AnswersComeAfter on
    → (since : ℕ) (run : Run) (device : D) (is : RunsOver on run device) → GivesFirstPartSince on again reading reads since run device is
    → KeepsAnswersSince on again reading reads since run device is
keeps_answers on again reading reads reported_law since run device is law m image other left outcome events others stop done timely given settled opens =
    let acts : List Act = acts_in on reading reads run device is in
    let runs = is.runs in
    let noted : runs.answered.events ≡ runs.opened.events ++ (events ++ others) =
    sym runs.noted ∙ done ∙ ap (λ l. l ++ (events ++ others)) (sym (append-nil run.before.events) ∙ sym runs.prints_opened.noted) in
    let reported : ReportsAcknowledged reading is.session run.input acts m (put_by events) =
    reported_law reading is.session is.new run.input runs.opened runs.answered runs.served m events others ((runs.ends.serves run.input is.is_input).serves reading reads) noted timely in
    let part = law m image other left outcome stop given settled opens in
    weaker (IsRecovered is.session.state (kept_of acts) (acknowledged_count m (replies_of acts))) (KeepsPrintedAnswers on again reading reads run device is m (put_by events))
    (λ given found. record { reported = reported; requests = part.0; recovered = found; holds = omega (arith, reported.acknowledged, found.all_acknowledged) }) outcome part.1

pub run_keeps_answers : {D E : Type 0} (on : sectors.Ghosts D) (again : sectors.Ghosts E) (reading : Reading) (reads : IsReading reading)
    → AnswersComeAfter on → RunRecovers on again reading reads → RunKeepsAnswers on again reading reads
run_keeps_answers on again reading reads reported_law law run device is honest recovered_before =
    keeps_answers on again reading reads reported_law (on.clock device) run device is
    (λ m image other left outcome stop given settled opens. law run device m image other left outcome is honest recovered_before stop given settled opens)

pub served_run_keeps_answers : {D E : Type 0} (on : sectors.Ghosts D) (again : sectors.Ghosts E) (reading : Reading) (reads : IsReading reading)
    → AnswersComeAfter on → OpenedRunRecovers on again reading reads → OpenedRunKeepsAnswers on again reading reads
served_run_keeps_answers on again reading reads reported_law law run device is honest =
    keeps_answers on again reading reads reported_law (on.clock is.session.device) run device is
    (λ m image other left outcome stop given settled opens. law run device m image other left outcome is honest stop given settled opens)
