-- The images that a round leaves, from the guarantee of a run for each moment.
use Rattle.std.proofs.Common.{◌≡◌, ℕ, suc, ◌+◌, ◌-◌, ◌^◌, ◌<◌, ◌≤◌, cond, List, [], ◌∷◌, ◌++◌, length, take, refl, sym, ◌∙◌, ap, subst, arith}
use Rattle.std.specs.Prelude.{Result, Ok, Err, is_ok, IsErrAnd, IfErr}
use Rattle.std.proofs.lemmas.Bool.{le-leb}
use Rattle.std.proofs.Math.Seq.{take-append_seam}
use Rattle.std.proofs.lemmas.List.Sums.{sum_by-cons}
use Rattle.sector_disk.specs.Sectors.{Throughout}
use Rattle.sector_disk.specs.MemDevice.{memory}
use Rattle.sector_disk.specs.Memory.{len_of, MayLeave, clock_of, MayHaveLeft, history_of, IsSameDevice}
use Rattle.sector_disk.specs.MemoryLaws.{memory_reads_possible}
use Rattle.sector_disk.specs.HistoryLaws.{history_counts_now, history_only_now}
use Rattle.sector_disk.specs.declared.mem_device.MemDevice.{MemDevice}
use Rattle.command_types.specs.declared.states.State.{State}
use Rattle.command_types.specs.declared.commands.Command.{Command}
use Rattle.checkpoint.specs.declared.places.Place.{Place}
use Rattle.recover.specs.declared.denials.Denial.{Denial}
use Rattle.recover.specs.declared.denials.Denial.TheVariants.{Broken, Core, Spent, OutOfMemory, DeviceFault}
use Rattle.recover.specs.declared.replies.Reply.{Reply}
use Rattle.recover.specs.declared.replies.Run.{Run}
use Rattle.recover.specs.declared.rounds.Round.{Round}
use Rattle.recover.specs.declared.rounds.RoundsFault.{RoundsFault}
use Rattle.state_codec.specs.declared.version.Version.TheVariants.{Two}
use Rattle.recover.specs.RecoversTo.{RecoversTo}
use Rattle.recover.specs.Replies.{kept_commands, acknowledged_count}
use Rattle.recover.specs.Moments.{RecoversToPrefix, RunLeaves}
use Rattle.recover.specs.Opening.{IsReplayed}
use Rattle.recover.specs.Sessions.{SessionValue}
use Rattle.recover.specs.Applying.{faults_after_answer}
use Rattle.recover.specs.Rounds.{seen_in, IsMemoryRun, count_ok, is_device_fault, count_device_faults, IsMemoryOpened, IsSet, IsLeft, IsRound, IsUnbegun, AreRounds, CutsRounds}
use Rattle.recover.specs.Restarts.{CarriesOut}
use Rattle.recover.proofs.RunLemmas.{unacknowledged, one_acknowledged, counted_from}

-- The image that reads return is possible.
pub reads_possible : (device : MemDevice) → MayLeave (memory device) (seen_in device)
reads_possible device = memory_reads_possible (memory device) device.kept.whole device.kept.fit

-- A possible image belongs to the present moment, which is one of the moments since any earlier one.
pub counts_now : (device : MemDevice) (t : ℕ) (image : List ℕ) → t ≤ clock_of (memory device) → MayLeave (memory device) image → MayHaveLeft (memory device) t (memory device).calls image
counts_now device t image le possible = history_counts_now (history_of (memory device)) t image le possible

-- The number of finished calls never decreases.
calls_rise : (commands : List Command) (replies : List Reply) (old new : SessionValue MemDevice) → IsMemoryRun old commands replies new → (memory old.device).calls ≤ (memory new.device).calls
calls_rise commands replies old new run =
    let all = counted_from (λ d. len_of (memory d)) (λ d. (memory d).calls) (λ d. (memory d).faults) (λ d. Unit {0}) (λ d. clock_of (memory d)) (λ d. MayHaveLeft (memory d)) (λ d. MayLeave (memory d))
    (λ d m image h left. history_only_now (history_of (memory d)) m image left) commands replies old new run tt in
    all.each (memory new.device).calls (seen_in new.device) (counts_now new.device (clock_of (memory old.device)) (seen_in new.device) all.later (reads_possible new.device))

ok-cons : (reply : Reply) (replies : List Reply) → count_ok (reply ∷ replies) ≡ cond (is_ok reply.answer) 1 0 + count_ok replies
ok-cons reply replies = sum_by-cons (λ r. cond (is_ok r.answer) 1 0) reply replies

faults-cons : (reply : Reply) (replies : List Reply) → count_device_faults (reply ∷ replies) ≡ cond (is_device_fault reply.answer) 1 0 + count_device_faults replies
faults-cons reply replies = sum_by-cons (λ r. cond (is_device_fault r.answer) 1 0) reply replies

-- At the end of a run each command that was answered Ok is acknowledged.
pub all_acknowledged_counted : (commands : List Command) (replies : List Reply) (old new : SessionValue MemDevice) → IsMemoryRun old commands replies new → acknowledged_count (memory new.device).calls replies ≡ count_ok replies
all_acknowledged_counted [] [] old new run = refl
all_acknowledged_counted (command ∷ commands) (reply ∷ replies) old new run =
    first reply.answer reply.calls run.1.count (all_acknowledged_counted commands replies run.0 new run.2) (calls_rise commands replies run.0 new run.2)
  where
    first : (answer : Result (Unit {0}) Denial) (n : ℕ) → n ≡ (memory run.0.device).calls → acknowledged_count (memory new.device).calls replies ≡ count_ok replies
        → (memory run.0.device).calls ≤ (memory new.device).calls
        → acknowledged_count (memory new.device).calls (record { answer = answer; calls = n } ∷ replies) ≡ count_ok (record { answer = answer; calls = n } ∷ replies)
    first (Ok done) n count rest le =
        let one : Reply = record { answer = Ok done; calls = n } in
        let now = one_acknowledged (memory new.device).calls one replies (le-leb n (memory new.device).calls (omega (arith, count, le))) in
        let counted = ok-cons one replies in omega (arith, now, counted, rest)
    first (Err denial) n count rest le =
        let one : Reply = record { answer = Err denial; calls = n } in
        let now = unacknowledged (memory new.device).calls one replies refl in
        let counted = ok-cons one replies in omega (arith, now, counted, rest)
all_acknowledged_counted [] (reply ∷ replies) old new run = elim run [ ]
all_acknowledged_counted (command ∷ commands) [] old new run = elim run [ ]

-- Below 2^64-1 failed calls, each DeviceFault counts as one failed call.
pub all_faults : (commands : List Command) (replies : List Reply) (old new : SessionValue MemDevice) → IsMemoryRun old commands replies new
    → (memory new.device).faults < 2 ^ 64 - 1 → (memory new.device).faults ≡ (memory old.device).faults + count_device_faults replies
all_faults [] [] old new run below = let same = ap (λ (s : SessionValue MemDevice). (memory s.device).faults) run in omega (arith, same)
all_faults (command ∷ commands) (reply ∷ replies) old new run below =
    first reply.answer reply.calls run.1.called.fault (all_faults commands replies run.0 new run.2 below)
  where
    first : (answer : Result (Unit {0}) Denial) (n : ℕ) → (memory run.0.device).faults ≡ faults_after_answer answer (memory old.device).faults
        → (memory new.device).faults ≡ (memory run.0.device).faults + count_device_faults replies
        → (memory new.device).faults ≡ (memory old.device).faults + count_device_faults (record { answer = answer; calls = n } ∷ replies)
    first (Ok done) n fault rest = let counted = faults-cons (record { answer = Ok done; calls = n }) replies in omega (arith, fault, rest, counted)
    first (Err DeviceFault) n fault rest = let counted = faults-cons (record { answer = Err DeviceFault; calls = n }) replies in omega (arith, fault, rest, counted, below)
    first (Err Broken) n fault rest = let counted = faults-cons (record { answer = Err Broken; calls = n }) replies in omega (arith, fault, rest, counted)
    first (Err (Core r)) n fault rest = let counted = faults-cons (record { answer = Err (Core r); calls = n }) replies in omega (arith, fault, rest, counted)
    first (Err Spent) n fault rest = let counted = faults-cons (record { answer = Err Spent; calls = n }) replies in omega (arith, fault, rest, counted)
    first (Err OutOfMemory) n fault rest = let counted = faults-cons (record { answer = Err OutOfMemory; calls = n }) replies in omega (arith, fault, rest, counted)
all_faults [] (reply ∷ replies) old new run below = elim run [ ]
all_faults (command ∷ commands) [] old new run below = elim run [ ]

-- Each image that a crash at the end of a run may leave recovers to a state with all acknowledged commands.
pub images_at_the_end : (commands : List Command) (replies : List Reply) (old new : SessionValue MemDevice) → IsMemoryRun old commands replies new
    → Throughout (λ d. clock_of (memory d)) (λ d. MayHaveLeft (memory d)) old.device new.device (RunLeaves old.state commands replies)
    → (image : List ℕ) → MayLeave (memory new.device) image → RecoversToPrefix old.state (kept_commands commands replies) (count_ok replies) image
images_at_the_end commands replies old new run moments image possible =
    subst (λ (n : ℕ). RecoversToPrefix old.state (kept_commands commands replies) n image) (all_acknowledged_counted commands replies old new run)
    (moments.each (memory new.device).calls image (counts_now new.device (clock_of (memory old.device)) image moments.later possible))

-- If a session was opened from a device, so was a session that differs from it only in the failures that are
-- set.
still_opened : (device : MemDevice) (old new : SessionValue MemDevice) → IsSameDevice (memory old.device) (memory new.device) → new.state ≡ old.state → new.place ≡ old.place
    → new.is_broken ≡ old.is_broken → IsMemoryOpened device old → IsMemoryOpened device new
still_opened device old new same state place broken opened = record {
  recovers = subst (λ (s : State). RecoversTo Two (seen_in device) s) (sym state) opened.recovers;
  alone = λ other recovers. state ∙ opened.alone other recovers;
  whole = broken ∙ opened.whole;
  calls = same.calls ∙ opened.calls;
  faults = same.faults ∙ opened.faults;
  replayed = subst (λ (s : State). (n : ℕ) × IsReplayed Two (seen_in device) s new.place n) (sym state)
      (subst (λ (p : Place). (n : ℕ) × IsReplayed Two (seen_in device) old.state p n) (sym place) opened.replayed);
}

-- An opened session, a crash that was set, a run, and the end of the device are a round.
module _ (device : MemDevice) (round : Round) (replies : List Reply) (session first last : SessionValue MemDevice) (left : MemDevice) where
  pub is_round : IsMemoryOpened device session → IsSameDevice (memory session.device) (memory first.device) → first.state ≡ session.state → first.place ≡ session.place
      → first.is_broken ≡ session.is_broken → IsSet round.stop first.device → IsMemoryRun first round.commands.items replies last
      → Throughout (λ d. clock_of (memory d)) (λ d. MayHaveLeft (memory d)) first.device last.device (RunLeaves first.state round.commands.items replies)
      → IsLeft round.stop last.device left × ((image : List ℕ) → MayLeave (memory left) image → MayLeave (memory last.device) image) × ((memory left).faults ≡ (memory last.device).faults)
      → IsRound device round replies left
  is_round opened same state place broken set run moments ended =
      let begun = still_opened device session first same state place broken opened in
      let counted : (memory left).faults ≡ (memory last.device).faults = ended.2 in record {
        first = first;
        last = last;
        opened = begun;
        halt = set;
        run = run;
        ended = ended.0;
        images = λ image possible. images_at_the_end round.commands.items replies first last run moments image (ended.1 image possible);
        faults = λ below. let all = all_faults round.commands.items replies first last run (omega (arith, below, counted)) in
            let now = begun.faults in omega (arith, all, counted, now);
      }

-- An opened session that runs commands and is closed carries them out.
pub carries_out : (device : MemDevice) (commands : List Command) (replies : List Reply) (first last : SessionValue MemDevice) (handed : MemDevice)
    → IsMemoryOpened device first → IsMemoryRun first commands replies last
    → Throughout (λ d. clock_of (memory d)) (λ d. MayHaveLeft (memory d)) first.device last.device (RunLeaves first.state commands replies)
    → handed ≡ last.device → CarriesOut device commands replies handed
carries_out device commands replies first last handed opened run moments closed = record {
  first = first;
  last = last;
  opened = opened;
  run = run;
  closed = closed;
  images = λ image possible. images_at_the_end commands replies first last run moments image (subst (λ (d : MemDevice). MayLeave (memory d) image) closed possible);
  faults = λ below. let counted = ap (λ (d : MemDevice). (memory d).faults) closed in
      let all = all_faults commands replies first last run (omega (arith, below, counted)) in
      let now = opened.faults in omega (arith, all, counted, now);
}

-- Rounds and one more are a longer list of rounds.
pub rounds_more : (rounds : List Round) (runs : List Run) (device mid left : MemDevice) (round : Round) (run : Run) → AreRounds device rounds runs mid → IsRound mid round run.replies.items left
    → AreRounds device (rounds ++ round ∷ []) (runs ++ run ∷ []) left
rounds_more [] [] device mid left round run are more = (left, subst (λ (d : MemDevice). IsRound d round run.replies.items left) are more, refl)
rounds_more (r ∷ rounds) (x ∷ runs) device mid left round run are more = (are.0, are.1, rounds_more rounds runs are.0 mid left round run are.2 more)
rounds_more [] (x ∷ runs) device mid left round run are more = elim are [ ]
rounds_more (r ∷ rounds) [] device mid left round run are more = elim are [ ]

-- Rounds have one run each.
pub one_run_each : (rounds : List Round) (runs : List Run) (device left : MemDevice) → AreRounds device rounds runs left → length runs ≡ length rounds
one_run_each [] [] device left are = refl
one_run_each (r ∷ rounds) (x ∷ runs) device left are = ap suc (one_run_each rounds runs are.0 left are.2)
one_run_each [] (x ∷ runs) device left are = elim are [ ]
one_run_each (r ∷ rounds) [] device left are = elim are [ ]

-- If a prefix of the rounds was executed and the next round did not begin, the whole list was cut there.
pub cuts_rounds : (rounds before more : List Round) (runs : List Run) (device mid left : MemDevice) (fault : RoundsFault) → before ++ more ≡ rounds → AreRounds device before runs mid
    → IsUnbegun mid fault left → CutsRounds device rounds fault left
cuts_rounds rounds before more runs device mid left fault all are unbegun = record {
  runs = runs;
  mid = mid;
  done = subst (λ (r : List Round). AreRounds device r runs mid)
      (sym (take-append_seam before more) ∙ ap (λ (n : ℕ). take n (before ++ more)) (sym (one_run_each before runs device mid are)) ∙ ap (take (length runs)) all) are;
  unbegun = unbegun;
}

-- `?` returns a refusal unchanged
pub passed_up : {T : Type 0} (result : Result T (RoundsFault × MemDevice)) (refused : RoundsFault × MemDevice) → IsErrAnd result (λ e. e ≡ refused)
    → (P : RoundsFault × MemDevice → Type 0) → P refused → IfErr result P
passed_up (Ok x) refused is P h = absurd is
passed_up (Err e) refused is P h = subst P (sym is) h
