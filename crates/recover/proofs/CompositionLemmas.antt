-- Runs that are joined, and openings that crashed.
use Rattle.std.proofs.Common.{◌≡◌, ℕ, ◌≤◌, List, [], ◌∷◌, ◌++◌, refl, subst}
use Rattle.std.specs.Prelude.{Result}
use Rattle.plan_audit.specs.Locality.{PassesDecidesTheVerdict}
use Rattle.sector_disk.specs.declared.sectors.Sectors as sectors
use Rattle.command_core.specs.RunLaws.{RunsKeepInvariants, PlansNeverCostMore}
use Rattle.command_types.specs.declared.states.State.{State}
use Rattle.state_codec.specs.declared.version.Version.TheVariants.{Two}
use Rattle.checkpoint.specs.declared.faults.StoreFault.{StoreFault}
use Rattle.checkpoint.specs.declared.faults.StoreFault.TheVariants.{NotFormatted, BadVersion, Codec, Spent, OutOfMemory, DeviceFault}
use Rattle.recover.specs.Replies.{kept_commands, acknowledged_count}
use Rattle.recover.specs.Sessions.{SessionValue}
use Rattle.recover.specs.Opening.{Opens}
use Rattle.recover.specs.Composition.{IsRunOn, AppliesAreRuns, RunsConcatenate, RunsCompose, IsCrashedOpening, RefusedCountAsCrashed, RefusedCanBeRetried, CrashedLeaveSameImages, HoldsAfterCrashedOpenings}
use Rattle.recover.proofs.Headlines.{gives}
use Rattle.recover.proofs.RunLemmas.{run_leaves}

module _ {D : Type 0} (on : sectors.Ghosts D) where
  pub applies_are_runs : AppliesAreRuns on
  applies_are_runs old new command reply applied = (new, applied, refl)

  pub runs_join : RunsConcatenate on
  runs_join old mid new [] more [] later first second = subst (λ (s : SessionValue D). IsRunOn on s more later new) first second
  runs_join old mid new (command ∷ commands) more (reply ∷ replies) later first second =
      (first.0, first.1, runs_join first.0 mid new commands more replies later first.2 second)
  runs_join old mid new [] more (reply ∷ replies) later first second = elim first [ ]
  runs_join old mid new (command ∷ commands) more [] later first second = elim first [ ]

  pub runs_compose : ((d : D) (m : ℕ) (image : List ℕ) → on.honest d → on.possible_since d (on.clock d) m image → (m ≡ on.calls d) × on.possible d image) → RunsCompose on
  runs_compose only_now old mid new commands more replies later first second whole honest recovers =
      run_leaves on.len on.calls on.faults on.honest on.clock on.possible_since on.possible only_now (commands ++ more) (replies ++ later) old new
      (runs_join old mid new commands more replies later first second) whole recovers honest

  pub refused_are_stopped : ((d : D) (t : ℕ) (image : List ℕ) → on.honest d → t ≤ on.clock d → on.possible d image → on.possible_since d t (on.calls d) image) → RefusedCountAsCrashed on
  refused_are_stopped counts_now device later honest moments = record {
    honest = honest;
    moments = moments;
    left = λ image possible. (on.calls later, counts_now later (on.clock device) image honest (moments honest).later possible);
  }

  -- an image with the same bytes opens with the same result
  opens_as : (before again : List ℕ) (outcome : Result State StoreFault) → again ≡ before → Opens Two again outcome → Opens Two before outcome
  opens_as before again outcome same opens = subst (λ (image : List ℕ). Opens Two image outcome) same opens

  pub refused_are_repeated : RefusedCanBeRetried on
  refused_are_repeated device later left NotFormatted outcome reads other honest opens = opens_as (on.seen device) (on.seen later) outcome reads (opens honest)
  refused_are_repeated device later left BadVersion outcome reads other honest opens = opens_as (on.seen device) (on.seen later) outcome reads (opens honest)
  refused_are_repeated device later left (Codec fault) outcome reads other honest opens = opens_as (on.seen device) (on.seen later) outcome reads (opens honest)
  refused_are_repeated device later left Spent outcome reads other honest opens = opens_as (on.seen device) (on.seen later) outcome reads (opens honest)
  refused_are_repeated device later left OutOfMemory outcome reads other honest opens = opens_as (on.seen device) (on.seen later) outcome reads (opens honest)
  refused_are_repeated device later left DeviceFault outcome reads other honest opens = absurd (other refl)

  pub stopped_leave_the_same : CrashedLeaveSameImages on
  stopped_leave_the_same first last [] stops image left = subst (λ (d : D). on.possible d image) stops left
  stopped_leave_the_same first last (later ∷ laters) stops image left =
      let opening : IsCrashedOpening on first later stops.0 = stops.1 in
      let moment = opening.left image (stopped_leave_the_same stops.0 last laters stops.2 image left) in
      ((opening.moments opening.honest).each moment.0 image moment.1).1

module _ {D E : Type 0} (on : sectors.Ghosts D) (again : sectors.Ghosts E) (keep : RunsKeepInvariants) (never_more : PlansNeverCostMore) (say : PassesDecidesTheVerdict) where
  pub holds_over_stops : ((d : E) → again.honest d → again.possible d (again.seen d)) → HoldsAfterCrashedOpenings on again
  holds_over_stops reads_possible old new commands replies m first last left laters outcome whole honest leaves met stops here settled opens =
      let image = again.seen last in
      let recovered_before = stopped_leave_the_same again first last laters stops image (reads_possible last here) in
      gives keep never_more say old.state (kept_commands commands replies) (acknowledged_count m replies) image (leaves whole honest m image (met image recovered_before)) outcome (opens settled)
