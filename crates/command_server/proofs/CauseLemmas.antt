-- The causes of fates, shown act by act.
use Rattle.std.proofs.Common.{
  ◌≡◌,
  ◌∙◌,
  ℕ,
  suc,
  zero,
  ◌+◌,
  ◌≤◌,
  ◌<◌,
  Bool,
  true,
  false,
  List,
  [],
  ◌∷◌,
  ◌⊎◌,
  inl,
  inr,
  Option,
  Some,
  None,
  Result,
  Ok,
  Err,
  Contains,
  length,
  refl,
  ap,
  slice_index_or,
  subst,
  arith,
}
use Rattle.std.specs.Prelude.{◌^◌, ◌==◌, ◌&&◌, if◌then◌else◌}
use Rattle.std.specs.Option.{option_map, option_or}
use Rattle.std.proofs.lemmas.Bool.{eqb-true}
use Rattle.std.proofs.lemmas.List.Elements.{Contains-append_cases}
use Rattle.sector_disk.specs.declared.sectors.Sectors as sectors
use Rattle.command_core.specs.Refusals.{refusal}
use Rattle.command_types.specs.declared.commands.Command.{Command}
use Rattle.command_types.specs.declared.refusals.Refusal.{Refusal}
use Rattle.command_text.specs.Answering.{Fate, Done, NoMemory, Failed}
use Rattle.command_text.specs.Answering.{Spent as SpentFate}
use Rattle.checkpoint.specs.declared.places.Place.{Place}
use Rattle.recover.specs.Applying.{IsAnswer, Makes, denial, is_snapshot_due, place_after}
use Rattle.recover.specs.Composition.{IsRunOn}
use Rattle.recover.specs.Sessions.{SessionValue}
use Rattle.recover.specs.declared.denials.Denial.{Denial}
use Rattle.recover.specs.declared.denials.Denial.TheVariants.{Broken, Core, DeviceFault, OutOfMemory, Spent}
use Rattle.command_server.specs.Acts.{Act, Applied, Text, executed_of, commands_of, fates_of, replies_of}
use Rattle.command_server.specs.Causes.{FaultsAreReported, SpentOnlyAtTheLast, faults_reported}
use Rattle.command_server.specs.ServeSteps.{IsAppliedOn}
use Rattle.command_server.proofs.ServeLemmas.{answers_so}

-- ---- no room

only_one : (fate : Fate) (k : ℕ) → k < length (fate ∷ []) → slice_index_or (fate ∷ []) k SpentFate ≡ SpentFate → fate ≡ SpentFate
only_one fate zero less is = is
only_one fate (suc k) less is = absurd (omega (arith, less))

-- a fate other than the first one is among the later ones
following : (fate : Fate) (fates : List Fate) → (fate ≡ SpentFate → ⊥) → Contains (fate ∷ fates) SpentFate → Contains fates SpentFate
following fate fates other is = at (Contains-append_cases (fate ∷ []) fates SpentFate is)
  where
    at : Contains (fate ∷ []) SpentFate ⊎ Contains fates SpentFate → Contains fates SpentFate
    at (inl first) = absurd (other (only_one fate first.0 first.1 first.2))
    at (inr more) = more

none_of_none : Contains {X = Fate} [] SpentFate → ⊥
none_of_none is = omega (arith, is.1)

-- an operation takes at most one sequence number
one_sequence : (place : Place) (command : Command) → (place_after place command).sequence ≤ place.sequence + 1
one_sequence place command = at (is_snapshot_due place command)
  where
    at : (b : Bool) → (if◌then◌else◌ {A = Place} b (record { sequence = place.sequence + 1; used = 0 }) (record { sequence = place.sequence; used = place.used + 1 })).sequence ≤ place.sequence + 1
    at true = omega arith
    at false = omega arith

at_the_last : (due : Bool) (n : ℕ) → IsAnswer {T = Unit {0}} (if due && (n == 2 ^ 60) then Some Spent else None) (Err Spent) → n ≡ 2 ^ 60
at_the_last true n h = at (n == 2 ^ 60) refl h
  where
    at : (b : Bool) → (n == 2 ^ 60) ≡ b → IsAnswer {T = Unit {0}} (if b then Some Spent else None) (Err Spent) → n ≡ 2 ^ 60
    at true e h = eqb-true n (2 ^ 60) e
    at false e h = absurd h
at_the_last false n h = absurd h

reported_spent : (b : Bool) (r : Option Refusal) (due : Bool) (n : ℕ)
    → IsAnswer {T = Unit {0}} (if b then Some Broken else option_or (option_map Core r) (if due && (n == 2 ^ 60) then Some Spent else None)) (Err Spent) → n ≡ 2 ^ 60
reported_spent true r due n h = absurd cc
reported_spent false (Some r) due n h = absurd cc
reported_spent false None due n h = at_the_last due n h

module _ {D : Type 0} (on : sectors.Ghosts D) where
  -- a broken session stays broken and never answers `Spent`
  none_broken : (acts : List Act) (old new : SessionValue D) → old.is_broken ≡ true → IsRunOn on old (commands_of acts) (replies_of acts) new → Contains (fates_of acts) SpentFate → ⊥
  none_broken [] old new broken run is = none_of_none is
  none_broken (Text true ∷ acts) old new broken run is = none_broken acts old new broken run (following Done (fates_of acts) (λ e. cc) is)
  none_broken (Text false ∷ acts) old new broken run is = none_broken acts old new broken run (following NoMemory (fates_of acts) (λ e. cc) is)
  none_broken (Applied command reply ∷ acts) old new broken run is =
      by_answer reply.answer reply.calls run.1 is (λ mid_broken. none_broken acts run.0 new mid_broken run.2)
    where
      by_answer : (answer : Result (Unit {0}) Denial) (n : ℕ) → IsAppliedOn on old command (answers_so answer n) run.0 → Contains (fates_of (Applied command (answers_so answer n) ∷ acts)) SpentFate
          → (run.0.is_broken ≡ true → Contains (fates_of acts) SpentFate → ⊥) → ⊥
      by_answer answer n applied is more =
          let why : denial old command ≡ Some Broken = rw broken refl in
          let reported : answer ≡ Err Broken = subst (λ (o : Option Denial). IsAnswer o answer) why applied.answer in
          let same : run.0 ≡ old = subst (λ (a : Result (Unit {0}) Denial). Makes a old command run.0) reported applied.makes in
          more (ap (λ (s : SessionValue D). s.is_broken) same ∙ broken)
          (subst (λ (a : Result (Unit {0}) Denial). Contains (fates_of (Applied command (answers_so a n) ∷ acts)) SpentFate) reported is)

  pub spent_at_the_last : SpentOnlyAtTheLast on
  spent_at_the_last old new [] run is = absurd (none_of_none is)
  spent_at_the_last old new (Text true ∷ acts) run is = spent_at_the_last old new acts run (following Done (fates_of acts) (λ e. cc) is)
  spent_at_the_last old new (Text false ∷ acts) run is = spent_at_the_last old new acts run (following NoMemory (fates_of acts) (λ e. cc) is)
  spent_at_the_last old new (Applied command reply ∷ acts) run is = by_answer reply.answer reply.calls run.1 is (spent_at_the_last run.0 new acts run.2)
    where
      kept_on : run.0 ≡ old → (2 ^ 60 ≤ run.0.place.sequence + length (executed_of acts)) → 2 ^ 60 ≤ old.place.sequence + length (executed_of acts)
      kept_on same most = subst (λ (s : SessionValue D). 2 ^ 60 ≤ s.place.sequence + length (executed_of acts)) same most

      by_answer : (answer : Result (Unit {0}) Denial) (n : ℕ) → IsAppliedOn on old command (answers_so answer n) run.0 → Contains (fates_of (Applied command (answers_so answer n) ∷ acts)) SpentFate
          → (Contains (fates_of acts) SpentFate → 2 ^ 60 ≤ run.0.place.sequence + length (executed_of acts))
          → 2 ^ 60 ≤ old.place.sequence + length (executed_of (Applied command (answers_so answer n) ∷ acts))
      by_answer (Ok done) n applied is more =
          let most = more (following Done (fates_of acts) (λ e. cc) is) in
          let place : run.0.place.sequence ≡ (place_after old.place command).sequence = ap (λ (p : Place). p.sequence) applied.makes.place in
          omega (arith, most, place, one_sequence old.place command)
      by_answer (Err Spent) n applied is more =
          let last : old.place.sequence ≡ 2 ^ 60 = reported_spent old.is_broken (refusal old.state command) (is_snapshot_due old.place command) old.place.sequence applied.answer in
          omega (arith, last)
      by_answer (Err DeviceFault) n applied is more = absurd (none_broken acts run.0 new applied.makes.is_broken run.2 (following Failed (fates_of acts) (λ e. cc) is))
      by_answer (Err OutOfMemory) n applied is more = kept_on applied.makes (more (following NoMemory (fates_of acts) (λ e. cc) is))
      by_answer (Err Broken) n applied is more = kept_on applied.makes (more is)
      by_answer (Err (Core r)) n applied is more = kept_on applied.makes (more is)

  -- ---- a failed device

  pub faults_are_reported : FaultsAreReported on
  faults_are_reported old new [] run = ap (λ (s : SessionValue D). on.faults s.device) run
  faults_are_reported old new (Text true ∷ acts) run = faults_are_reported old new acts run
  faults_are_reported old new (Text false ∷ acts) run = faults_are_reported old new acts run
  faults_are_reported old new (Applied command reply ∷ acts) run = by_answer reply.answer reply.calls run.1 (faults_are_reported run.0 new acts run.2)
    where
      by_answer : (answer : Result (Unit {0}) Denial) (n : ℕ) → IsAppliedOn on old command (answers_so answer n) run.0 → on.faults new.device ≡ faults_reported (fates_of acts) (on.faults run.0.device)
          → on.faults new.device ≡ faults_reported (fates_of (Applied command (answers_so answer n) ∷ acts)) (on.faults old.device)
      by_answer (Ok done) n applied more = more ∙ ap (faults_reported (fates_of acts)) applied.called.fault
      by_answer (Err DeviceFault) n applied more = more ∙ ap (faults_reported (fates_of acts)) applied.called.fault
      by_answer (Err Spent) n applied more = more ∙ ap (faults_reported (fates_of acts)) applied.called.fault
      by_answer (Err OutOfMemory) n applied more = more ∙ ap (faults_reported (fates_of acts)) applied.called.fault
      by_answer (Err Broken) n applied more = more ∙ ap (faults_reported (fates_of acts)) applied.called.fault
      by_answer (Err (Core r)) n applied more = more ∙ ap (faults_reported (fates_of acts)) applied.called.fault
