-- Recovery returns the state that the image recovers to, which is the state after a prefix of the commands.
use Rattle.std.proofs.Common.{◌≡◌, ℕ, ◌≤◌, List, take, sym, subst}
use Rattle.std.specs.Prelude.{Result, Ok, Err}
use Rattle.std.proofs.lemmas.List.{take-take, length-take-le}
use Rattle.sector_disk.specs.declared.sectors.Sectors as sectors
use Rattle.plan_audit.specs.Locality.{PassesDecidesTheVerdict}
use Rattle.command_core.specs.Runs.{after, last_change}
use Rattle.command_types.specs.States.{IsState}
use Rattle.command_core.specs.RunLaws.{RunsKeepInvariants, PlansNeverCostMore, IsNoWorse}
use Rattle.command_types.specs.declared.states.State.{State}
use Rattle.command_types.specs.declared.states.State.TheVariants.{Empty, Loaded}
use Rattle.command_types.specs.declared.commands.Command.{Command}
use Rattle.state_codec.specs.declared.version.Version.TheVariants.{Two}
use Rattle.checkpoint.specs.declared.faults.StoreFault.{StoreFault}
use Rattle.checkpoint.specs.declared.faults.StoreFault.TheVariants.{NotFormatted, BadVersion, Codec, Spent, OutOfMemory, DeviceFault}
use Rattle.recover.specs.RecoversTo.{RecoversTo}
use Rattle.recover.specs.Replies.{kept_commands, acknowledged_count}
use Rattle.recover.specs.Moments.{RecoversToPrefix}
use Rattle.recover.specs.Opening.{ReturnsUnlessFailed, Opens}
use Rattle.recover.specs.Headline.{HasPassingPlan, IsRecovered, Headline}

-- the test in the invariant of a job agrees with the auditor's verdict
pub passing : PassesDecidesTheVerdict → (state : State) → IsState state → HasPassingPlan state
passing say Empty h = tt
passing say (Loaded job) h = (_, (say job.problem job.pins job.plan).0 h.plan)

weaker : (P Q : State → Type 0) → ((state : State) → P state → Q state) → (outcome : Result State StoreFault) → ReturnsUnlessFailed P outcome → ReturnsUnlessFailed Q outcome
weaker P Q so (Ok state) h = so state h
weaker P Q so (Err OutOfMemory) h = tt
weaker P Q so (Err DeviceFault) h = tt
weaker P Q so (Err NotFormatted) h = elim h [ ]
weaker P Q so (Err BadVersion) h = elim h [ ]
weaker P Q so (Err (Codec _)) h = elim h [ ]
weaker P Q so (Err Spent) h = elim h [ ]

module _ (keep : RunsKeepInvariants) (never_more : PlansNeverCostMore) (say : PassesDecidesTheVerdict) where
  -- a state that an image recovers to keeps its invariants
  pub recovered_is_state : (image : List ℕ) (state : State) → RecoversTo Two image state → IsState state
  recovered_is_state image state recovers = subst IsState recovers.leads (keep recovers.snapshot recovers.commands recovers.holds.facts recovers.accepted)

  pub recovered : (begun : State) (commands : List Command) (acknowledged : ℕ) (image : List ℕ) → (stop : RecoversToPrefix begun commands acknowledged image)
      → (given : State) → given ≡ after begun (take stop.count commands) → IsRecovered begun commands acknowledged given
  recovered begun commands acknowledged image stop given same = record {
    count = stop.count;
    all_acknowledged = stop.all_acknowledged;
    one_more = stop.one_more;
    within = stop.within;
    accepted = stop.accepted;
    state = same;
    plan = passing say given (subst IsState (sym same) (recovered_is_state image (after begun (take stop.count commands)) stop.recovers));
    cost = λ q from to. costs q from to;
  }
    where
      costs : (q : ℕ) → last_change (take stop.count commands) ≤ q → q ≤ stop.count → IsNoWorse (after begun (take q commands)) given
      costs q from to =
          let now = never_more begun (take stop.count commands) q stop.accepted from (subst (λ (n : ℕ). q ≤ n) (sym (length-take-le stop.count commands stop.within)) to) in
          subst (λ (cs : List Command). IsNoWorse (after begun cs) given) (take-take q stop.count commands to)
          (subst (λ (s : State). IsNoWorse (after begun (take q (take stop.count commands))) s) (sym same) now.0)

  -- opening an image that a crash may leave returns a state as the headline describes it
  pub gives : (begun : State) (commands : List Command) (acknowledged : ℕ) (image : List ℕ) → RecoversToPrefix begun commands acknowledged image
      → (outcome : Result State StoreFault) → Opens Two image outcome → ReturnsUnlessFailed (IsRecovered begun commands acknowledged) outcome
  gives begun commands acknowledged image stop outcome opens =
      weaker (λ given. given ≡ after begun (take stop.count commands)) (IsRecovered begun commands acknowledged)
      (recovered begun commands acknowledged image stop)
      outcome (opens (after begun (take stop.count commands)) stop.recovers)

  pub headline : {D E : Type 0} (on : sectors.Ghosts D) (again : sectors.Ghosts E) → Headline on again
  headline on again old new commands replies m image device left outcome whole honest leaves stopped reads settled opens =
      gives old.state (kept_commands commands replies) (acknowledged_count m replies) (again.seen device)
      (subst (RecoversToPrefix old.state (kept_commands commands replies) (acknowledged_count m replies)) (sym reads) (leaves whole honest m image stopped))
      outcome (opens settled)
