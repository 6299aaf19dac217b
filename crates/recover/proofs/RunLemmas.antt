-- The guarantees of single commands, one after another, imply that of a run.
use Rattle.std.proofs.Common.{◌≡◌, inl, inr, ⊎_elim, ℕ, suc, ◌+◌, ◌≤◌, Bool, true, false, ◌&&◌, cond, List, [], ◌∷◌, ◌++◌, take, refl, sym, ◌∙◌, ap, subst, arith}
use Rattle.std.specs.Prelude.{Result, Ok, Err, Option, Some, is_ok, nat_le, if◌then◌else◌}
use Rattle.std.proofs.lemmas.Bool.{le-leb, lt-leb}
use Rattle.std.proofs.lemmas.List.{take-append-le}
use Rattle.std.proofs.lemmas.List.Sums.{sum_by-cons}
use Rattle.sector_disk.specs.Sectors.{Throughout}
use Rattle.sector_disk.specs.Throughout as through
use Rattle.command_core.specs.Effects.{effect}
use Rattle.command_core.specs.Runs.{after, AreAccepted}
use Rattle.command_types.specs.declared.states.State.{State}
use Rattle.command_types.specs.declared.commands.Command.{Command}
use Rattle.state_codec.specs.declared.version.Version.TheVariants.{Two}
use Rattle.checkpoint.specs.declared.places.Place.{Place}
use Rattle.recover.specs.declared.denials.Denial.{Denial}
use Rattle.recover.specs.declared.denials.Denial.TheVariants.{Broken, Core, Spent, OutOfMemory, DeviceFault}
use Rattle.recover.specs.declared.replies.Reply.{Reply}
use Rattle.recover.specs.RecoversTo.{RecoversTo}
use Rattle.recover.specs.Replies.{kept_commands, acknowledged_count, is_acknowledged}
use Rattle.recover.specs.Moments.{RecoversToPrefix, RunLeaves}
use Rattle.recover.specs.Sessions.{SessionValue}
use Rattle.recover.specs.Applying.{IsBetween, IsAnswer, Makes, denial, calls_of, is_snapshot_due, IsApplied, IsRun}

-- The number of acknowledged commands is that of the other replies, plus one if the first reply is acknowledged.
acknowledged_count-cons : (m : ℕ) (reply : Reply) (replies : List Reply) → acknowledged_count m (reply ∷ replies) ≡ cond (is_acknowledged m reply) 1 0 + acknowledged_count m replies
acknowledged_count-cons m reply replies = sum_by-cons (λ r. cond (is_acknowledged m r) 1 0) reply replies

pub unacknowledged : (m : ℕ) (reply : Reply) (replies : List Reply) → is_acknowledged m reply ≡ false → acknowledged_count m (reply ∷ replies) ≡ acknowledged_count m replies
unacknowledged m reply replies not_yet =
    let same : 0 + acknowledged_count m replies ≡ acknowledged_count m replies = omega arith in acknowledged_count-cons m reply replies ∙ ap (λ (b : Bool). cond b 1 0 + acknowledged_count m replies) not_yet ∙ same

pub one_acknowledged : (m : ℕ) (reply : Reply) (replies : List Reply) → is_acknowledged m reply ≡ true → acknowledged_count m (reply ∷ replies) ≡ 1 + acknowledged_count m replies
one_acknowledged m reply replies is = acknowledged_count-cons m reply replies ∙ ap (λ (b : Bool). cond b 1 0 + acknowledged_count m replies) is

some_calls : (place : Place) (command : Command) → 1 ≤ calls_of place command
some_calls place command = elim (is_snapshot_due place command) as (λ b. 1 ≤ (if b then 4 else 2)) [ true ↦ omega arith | false ↦ omega arith ]

-- An image that recovers to a prefix of the first command recovers to a prefix of all commands.
early : (begun : State) (command : Command) (more : List Command) (few all : ℕ) (image : List ℕ) → all ≡ few
    → RecoversToPrefix begun (command ∷ []) few image → RecoversToPrefix begun (command ∷ more) all image
early begun command more few all image same some =
    let prefix : take some.count (command ∷ more) ≡ take some.count (command ∷ []) = take-append-le some.count (command ∷ []) more some.within in
    let within : some.count ≤ 1 = some.within in record {
      count = some.count;
      all_acknowledged = omega (arith, same, some.all_acknowledged);
      one_more = omega (arith, same, some.one_more);
      within = omega (arith, within);
      accepted = subst (λ (l : List Command). AreAccepted begun l) (sym prefix) some.accepted;
      recovers = subst (λ (l : List Command). RecoversTo Two image (after begun l)) (sym prefix) some.recovers;
    }

-- The first command and a prefix of the others are a prefix of all commands.
late : (begun : State) (command : Command) (more : List Command) (few all : ℕ) (image : List ℕ) → all ≡ 1 + few → AreAccepted begun (command ∷ [])
    → RecoversToPrefix (effect begun command) more few image → RecoversToPrefix begun (command ∷ more) all image
late begun command more few all image same accepted some = record {
  count = suc some.count;
  all_acknowledged = omega (arith, same, some.all_acknowledged);
  one_more = omega (arith, same, some.one_more);
  within = omega (arith, some.within);
  accepted = (accepted.0, accepted.1, some.accepted);
  recovers = some.recovers;
}

module _ {D : Type 0} (len calls faults : D → ℕ) (honest : D → Type 0) (clock : D → ℕ) (since : D → ℕ → ℕ → List ℕ → Type 0) (possible : D → List ℕ → Type 0) where
  abbrev Applied : SessionValue D → Command → Reply → SessionValue D → Type 0
  Applied old command reply new = IsApplied len calls faults honest clock since possible old command reply new

  abbrev Run : SessionValue D → List Command → List Reply → SessionValue D → Type 0
  Run old commands replies new = IsRun len calls faults honest clock since possible old commands replies new

  abbrev All : D → D → (ℕ → List ℕ → Type 0) → Type 0
  All old new P = Throughout clock since old new P

  -- A run and one more command are a longer run.
  pub run_more : (commands : List Command) (replies : List Reply) (old mid new : SessionValue D) (command : Command) (reply : Reply) → Run old commands replies mid → Applied mid command reply new
      → Run old (commands ++ command ∷ []) (replies ++ reply ∷ []) new
  run_more [] [] old mid new command reply run applied = (new, subst (λ (s : SessionValue D). Applied s command reply new) run applied, refl)
  run_more (c ∷ commands) (r ∷ replies) old mid new command reply run applied = (run.0, run.1, run_more commands replies run.0 mid new command reply run.2 applied)
  run_more [] (r ∷ replies) old mid new command reply run applied = elim run [ ]
  run_more (c ∷ commands) [] old mid new command reply run applied = elim run [ ]

  both : (old new : D) (P Q : ℕ → List ℕ → Type 0) → All old new P → All old new Q → All old new (λ m image. P m image × Q m image)
  both old new P Q p q = record {
    later = p.later;
    each = λ m image left. (p.each m image left, q.each m image left);
    before = λ t m image le left. ⊎_elim (λ past. inl past) (λ x. ⊎_elim (λ past. inl past) (λ y. inr (x, y)) (q.before t m image le left)) (p.before t m image le left);
  }

  -- A broken session answers only Broken.
  broken_stays : (commands : List Command) (replies : List Reply) (old new : SessionValue D) → old.is_broken ≡ true → Run old commands replies new → (new ≡ old) × ((m : ℕ) → acknowledged_count m replies ≡ 0)
  broken_stays [] [] old new broken run = (run, λ m. refl)
  broken_stays (command ∷ commands) (reply ∷ replies) old new broken run =
      let mid = run.0 in
      let applied : Applied old command reply mid = run.1 in
      let why : denial old command ≡ Some Broken = rw broken refl in
      let reported : reply.answer ≡ Err Broken = subst (λ (o : Option Denial). IsAnswer o reply.answer) why applied.answer in
      let same : mid ≡ old = subst (λ (a : Result (Unit {0}) Denial). Makes a old command mid) reported applied.makes in
      let rest = broken_stays commands replies mid new (ap (λ (s : SessionValue D). s.is_broken) same ∙ broken) run.2 in (
        rest.0 ∙ same,
        λ m. unacknowledged m reply replies (ap (λ (a : Result (Unit {0}) Denial). is_ok a && nat_le reply.calls m) reported) ∙ rest.1 m,
      )
  broken_stays [] (reply ∷ replies) old new broken run = elim run [ ]
  broken_stays (command ∷ commands) [] old new broken run = elim run [ ]

  pub honest_back : (commands : List Command) (replies : List Reply) (old new : SessionValue D) → Run old commands replies new → honest new.device → honest old.device
  honest_back [] [] old new run h = subst (λ (s : SessionValue D). honest s.device) run h
  honest_back (command ∷ commands) (reply ∷ replies) old new run h =
      let applied : Applied old command reply run.0 = run.1 in applied.called.honest_before (honest_back commands replies run.0 new run.2 h)
  honest_back [] (reply ∷ replies) old new run h = elim run [ ]
  honest_back (command ∷ commands) [] old new run h = elim run [ ]

  -- If no call has finished since a run began, none of its commands is acknowledged.
  none_yet : (commands : List Command) (replies : List Reply) (old new : SessionValue D) → Run old commands replies new → (m : ℕ) → m ≤ calls old.device → acknowledged_count m replies ≡ 0
  none_yet [] [] old new run m le = refl
  none_yet (command ∷ commands) (reply ∷ replies) old new run m le = first reply.answer reply.calls run.1 (λ later. none_yet commands replies run.0 new run.2 m later)
    where
      first : (answer : Result (Unit {0}) Denial) (n : ℕ) → Applied old command (record { answer = answer; calls = n }) run.0 → (m ≤ calls run.0.device → acknowledged_count m replies ≡ 0)
          → acknowledged_count m (record { answer = answer; calls = n } ∷ replies) ≡ 0
      first (Ok done) n applied again =
          let later : calls run.0.device ≡ calls old.device + calls_of old.place command = applied.called.finished in
          let some = some_calls old.place command in
          let below : nat_le n m ≡ false = lt-leb n m (omega (arith, le, later, some, applied.count)) in
          unacknowledged m (record { answer = Ok done; calls = n }) replies below ∙ again (omega (arith, le, later))
      first (Err DeviceFault) n applied again = unacknowledged m (record { answer = Err DeviceFault; calls = n }) replies refl ∙ (broken_stays commands replies run.0 new applied.makes.is_broken run.2).1 m
      first (Err Broken) n applied again = unacknowledged m (record { answer = Err Broken; calls = n }) replies refl ∙ again (subst (λ (s : SessionValue D). m ≤ calls s.device) (sym applied.makes) le)
      first (Err (Core r)) n applied again = unacknowledged m (record { answer = Err (Core r); calls = n }) replies refl ∙ again (subst (λ (s : SessionValue D). m ≤ calls s.device) (sym applied.makes) le)
      first (Err Spent) n applied again = unacknowledged m (record { answer = Err Spent; calls = n }) replies refl ∙ again (subst (λ (s : SessionValue D). m ≤ calls s.device) (sym applied.makes) le)
      first (Err OutOfMemory) n applied again = unacknowledged m (record { answer = Err OutOfMemory; calls = n }) replies refl
          ∙ again (subst (λ (s : SessionValue D). m ≤ calls s.device) (sym applied.makes) le)
  none_yet [] (reply ∷ replies) old new run m le = elim run [ ]
  none_yet (command ∷ commands) [] old new run m le = elim run [ ]

  module _ (only_now : (d : D) (m : ℕ) (image : List ℕ) → honest d → since d (clock d) m image → (m ≡ calls d) × possible d image) where
    -- At least as many calls have finished as on the device of this session.
    abbrev from : SessionValue D → ℕ → List ℕ → Type 0
    from s m image = calls s.device ≤ m

    -- Within a run no moment has fewer finished calls than its beginning.
    pub counted_from : (commands : List Command) (replies : List Reply) (old new : SessionValue D) → Run old commands replies new → honest new.device
        → All old.device new.device (λ m image. calls old.device ≤ m)
    counted_from [] [] old new run h =
        subst (λ (s : SessionValue D). All old.device s.device (λ m image. calls old.device ≤ m)) (sym run)
        (through.started clock since old.device (λ m image. calls old.device ≤ m)
        (λ m image left. omega (arith, (only_now old.device m image (subst (λ (s : SessionValue D). honest s.device) run h) left).0)))
    counted_from (command ∷ commands) (reply ∷ replies) old new run h = first reply.answer reply.calls run.1 (counted_from commands replies run.0 new run.2 h)
      where
        first : (answer : Result (Unit {0}) Denial) (n : ℕ) → Applied old command (record { answer = answer; calls = n }) run.0
            → All run.0.device new.device (from run.0) → All old.device new.device (from old)
        first (Ok done) n applied rest =
            let later : calls run.0.device ≡ calls old.device + calls_of old.place command = applied.called.finished in
            through.joined clock since old.device run.0.device new.device (from old)
            (through.weakened clock since old.device run.0.device (IsBetween (calls old.device) (calls old.device + calls_of old.place command)) (from old)
            (λ m image between. between.0) (applied.counts (honest_back commands replies run.0 new run.2 h)))
            (through.weakened clock since run.0.device new.device (from run.0) (from old) (λ m image le. omega (arith, le, later)) rest)
        first (Err DeviceFault) n applied rest =
            subst (λ (s : SessionValue D). All old.device s.device (from old)) (sym (broken_stays commands replies run.0 new applied.makes.is_broken run.2).0)
            (through.weakened clock since old.device run.0.device (IsBetween (calls old.device) (calls old.device + calls_of old.place command)) (from old)
            (λ m image between. between.0) (applied.counts (honest_back commands replies run.0 new run.2 h)))
        first (Err Broken) n applied rest = subst (λ (s : SessionValue D). All s.device new.device (from s)) applied.makes rest
        first (Err (Core r)) n applied rest = subst (λ (s : SessionValue D). All s.device new.device (from s)) applied.makes rest
        first (Err Spent) n applied rest = subst (λ (s : SessionValue D). All s.device new.device (from s)) applied.makes rest
        first (Err OutOfMemory) n applied rest = subst (λ (s : SessionValue D). All s.device new.device (from s)) applied.makes rest
    counted_from [] (reply ∷ replies) old new run h = elim run [ ]
    counted_from (command ∷ commands) [] old new run h = elim run [ ]

    -- Each image of a session recovers to its state.
    abbrev Recovers : SessionValue D → Type 0
    Recovers s = (image : List ℕ) → possible s.device image → RecoversTo Two image s.state

    -- If the first command is refused, the images of the run are those of the remaining commands.
    refused : (command : Command) (commands : List Command) (replies : List Reply) (old mid new : SessionValue D) (answer : Result (Unit {0}) Denial) (n : ℕ)
        → is_ok answer ≡ false → kept_commands (command ∷ commands) (record { answer = answer; calls = n } ∷ replies) ≡ kept_commands commands replies → mid ≡ old → old.is_broken ≡ false → Recovers old
        → (mid.is_broken ≡ false → Recovers mid → All mid.device new.device (RunLeaves mid.state commands replies))
        → All old.device new.device (RunLeaves old.state (command ∷ commands) (record { answer = answer; calls = n } ∷ replies))
    refused command commands replies old mid new answer n bad same_kept same whole recovers rest =
        let reply : Reply = record { answer = answer; calls = n } in
        let here : All old.device new.device (RunLeaves old.state commands replies) =
        subst (λ (s : SessionValue D). All s.device new.device (RunLeaves s.state commands replies)) same
        (rest (ap (λ (s : SessionValue D). s.is_broken) same ∙ whole) (subst (λ (s : SessionValue D). Recovers s) (sym same) recovers)) in
        through.weakened clock since old.device new.device (RunLeaves old.state commands replies) (RunLeaves old.state (command ∷ commands) (reply ∷ replies))
        (λ m image some. subst (λ (l : List Command). RecoversToPrefix old.state l (acknowledged_count m (reply ∷ replies)) image) (sym same_kept)
        (subst (λ (k : ℕ). RecoversToPrefix old.state (kept_commands commands replies) k image) (sym (unacknowledged m reply replies (ap (λ (b : Bool). b && nat_le n m) bad))) some)) here

    -- At each moment of a run each image recovers to the state after a prefix of the kept commands, with all
    -- acknowledged ones.
    pub run_leaves : (commands : List Command) (replies : List Reply) (old new : SessionValue D) → Run old commands replies new → old.is_broken ≡ false → Recovers old → honest new.device
        → All old.device new.device (RunLeaves old.state commands replies)
    run_leaves [] [] old new run whole recovers h =
        subst (λ (s : SessionValue D). All old.device s.device (RunLeaves old.state [] [])) (sym run)
        (through.started clock since old.device (RunLeaves old.state [] []) (λ m image left. record {
          count = 0;
          all_acknowledged = omega arith;
          one_more = omega arith;
          within = omega arith;
          accepted = tt;
          recovers = recovers image (only_now old.device m image (subst (λ (s : SessionValue D). honest s.device) run h) left).1;
        }))
    run_leaves (command ∷ commands) (reply ∷ replies) old new run whole recovers h =
        first reply.answer reply.calls run.1 (λ mid_whole mid_recovers. run_leaves commands replies run.0 new run.2 mid_whole mid_recovers h)
      where
        mid_honest : honest run.0.device
        mid_honest = honest_back commands replies run.0 new run.2 h

        first : (answer : Result (Unit {0}) Denial) (n : ℕ) → Applied old command (record { answer = answer; calls = n }) run.0
            → (run.0.is_broken ≡ false → Recovers run.0 → All run.0.device new.device (RunLeaves run.0.state commands replies))
            → All old.device new.device (RunLeaves old.state (command ∷ commands) (record { answer = answer; calls = n } ∷ replies))
        first (Ok done) n applied rest =
            let reply : Reply = record { answer = Ok done; calls = n } in
            let done_so = applied.makes in
            let counted : calls run.0.device ≡ calls old.device + calls_of old.place command = applied.called.finished in
            let own = both old.device run.0.device (RunLeaves old.state (command ∷ []) (reply ∷ []))
            (IsBetween (calls old.device) (calls old.device + calls_of old.place command)) (applied.moments whole mid_honest) (applied.counts mid_honest) in
            let following = both run.0.device new.device (RunLeaves run.0.state commands replies) (λ m image. calls run.0.device ≤ m)
            (rest done_so.is_broken (applied.recovers done_so.is_broken mid_honest)) (counted_from commands replies run.0 new run.2 h) in
            through.joined clock since old.device run.0.device new.device (RunLeaves old.state (command ∷ commands) (reply ∷ replies))
            (through.weakened clock since old.device run.0.device
            (λ m image. RunLeaves old.state (command ∷ []) (reply ∷ []) m image
            × IsBetween (calls old.device) (calls old.device + calls_of old.place command) m image)
            (RunLeaves old.state (command ∷ commands) (reply ∷ replies))
            (λ m image all. early old.state command (kept_commands commands replies) (acknowledged_count m (reply ∷ [])) (acknowledged_count m (reply ∷ replies)) image
            (acknowledged_count-cons m reply replies ∙ ap (λ (k : ℕ). cond (is_acknowledged m reply) 1 0 + k)
            (none_yet commands replies run.0 new run.2 m (omega (arith, all.1.1, counted))) ∙ sym (acknowledged_count-cons m reply []))
            all.0) own)
            (through.weakened clock since run.0.device new.device (λ m image. RunLeaves run.0.state commands replies m image × (calls run.0.device ≤ m))
            (RunLeaves old.state (command ∷ commands) (reply ∷ replies))
            (λ m image all. late old.state command (kept_commands commands replies) (acknowledged_count m replies) (acknowledged_count m (reply ∷ replies)) image
            (one_acknowledged m reply replies (le-leb n m (omega (arith, applied.count, all.1))))
            done_so.accepted
            (subst (λ (s : State). RecoversToPrefix s (kept_commands commands replies) (acknowledged_count m replies) image) done_so.state all.0)) following)
        first (Err DeviceFault) n applied rest =
            let reply : Reply = record { answer = Err DeviceFault; calls = n } in
            let stays = broken_stays commands replies run.0 new applied.makes.is_broken run.2 in
            subst (λ (s : SessionValue D). All old.device s.device (RunLeaves old.state (command ∷ commands) (reply ∷ replies))) (sym stays.0)
            (through.weakened clock since old.device run.0.device (RunLeaves old.state (command ∷ []) (reply ∷ [])) (RunLeaves old.state (command ∷ commands) (reply ∷ replies))
            (λ m image all. early old.state command [] (acknowledged_count m (reply ∷ [])) (acknowledged_count m (reply ∷ replies)) image
            (unacknowledged m reply replies refl ∙ stays.1 m ∙ sym (unacknowledged m reply [] refl)) all)
            (applied.moments whole mid_honest))
        first (Err Broken) n applied rest = refused command commands replies old run.0 new (Err Broken) n refl refl applied.makes whole recovers rest
        first (Err (Core r)) n applied rest = refused command commands replies old run.0 new (Err (Core r)) n refl refl applied.makes whole recovers rest
        first (Err Spent) n applied rest = refused command commands replies old run.0 new (Err Spent) n refl refl applied.makes whole recovers rest
        first (Err OutOfMemory) n applied rest = refused command commands replies old run.0 new (Err OutOfMemory) n refl refl applied.makes whole recovers rest
    run_leaves [] (reply ∷ replies) old new run whole recovers h = elim run [ ]
    run_leaves (command ∷ commands) [] old new run whole recovers h = elim run [ ]
