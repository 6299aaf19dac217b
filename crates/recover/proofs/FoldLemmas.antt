-- The result of rounds, one after another, is a fold over states.
use Rattle.std.proofs.Common.{◌≡◌, ℕ, List, [], ◌∷◌, take, sym, ◌∙◌, ap, subst}
use Rattle.sector_disk.specs.declared.mem_device.MemDevice.{MemDevice}
use Rattle.plan_audit.specs.Locality.{PassesDecidesTheVerdict}
use Rattle.command_core.specs.Runs.{after, AreAccepted}
use Rattle.command_types.specs.States.{IsState}
use Rattle.command_core.specs.RunLaws.{RunsKeepInvariants, PlansNeverCostMore, RunsAreOneSearch, RunsAreOneAnnealing, IsNoWorse}
use Rattle.command_types.specs.declared.states.State.{State}
use Rattle.command_types.specs.declared.commands.Command.{Command}
use Rattle.recover.specs.declared.replies.Run.{Run}
use Rattle.recover.specs.declared.rounds.Round.{Round}
use Rattle.state_codec.specs.declared.version.Version.TheVariants.{Two}
use Rattle.recover.specs.RecoversTo.{RecoversTo}
use Rattle.recover.specs.Replies.{kept_commands}
use Rattle.recover.specs.Sessions.{SessionValue}
use Rattle.recover.specs.Rounds.{seen_in, AreRounds, IsMemoryOpened, EndsRounds}
use Rattle.recover.specs.Folds.{AreCounts, recovered_commands, LeadsTo, IsFold}
use Rattle.recover.proofs.Headlines.{passing, recovered_is_state}
use Rattle.recover.proofs.StepLemmas.{after-append, accepted-append}
use Rattle.recover.proofs.RoundLemmas.{reads_possible}

-- the recovered commands of the rounds lead from the state `begun` to the state that the device `left` recovers
-- to
record Folds (begun : State) (rounds : List Round) (runs : List Run) (left : MemDevice) : Type 0 where
  pub counts : List ℕ
  pub one_each : AreCounts rounds runs counts
  pub accepted : AreAccepted begun (recovered_commands rounds runs counts)
  pub recovers : RecoversTo Two (seen_in left) (after begun (recovered_commands rounds runs counts))

folds : (rounds : List Round) (runs : List Run) (device left : MemDevice) (begun : State) → AreRounds device rounds runs left → RecoversTo Two (seen_in device) begun → Folds begun rounds runs left
folds [] [] device left begun are recovers = record { counts = []; one_each = tt; accepted = tt; recovers = subst (λ (d : MemDevice). RecoversTo Two (seen_in d) begun) (sym are) recovers }
folds (round ∷ rounds) (run ∷ runs) device left begun are recovers =
    let here = are.1 in
    let some = here.images (seen_in are.0) (reads_possible are.0) in
    let mine : List Command = take some.count (kept_commands round.commands.items run.replies.items) in
    let same : here.first.state ≡ begun = here.opened.alone begun recovers in
    let rest = folds rounds runs are.0 left (after begun mine) are.2 (subst (λ (s : State). RecoversTo Two (seen_in are.0) (after s mine)) same some.recovers) in
    let more : List Command = recovered_commands rounds runs rest.counts in record {
      counts = some.count ∷ rest.counts;
      one_each = (record { all_acknowledged = some.all_acknowledged; one_more = some.one_more; within = some.within }, rest.one_each);
      accepted = accepted-append begun mine more (subst (λ (s : State). AreAccepted s mine) same some.accepted) rest.accepted;
      recovers = subst (λ (s : State). RecoversTo Two (seen_in left) s) (sym (after-append begun mine more)) rest.recovers;
    }
folds [] (run ∷ runs) device left begun are recovers = elim are [ ]
folds (round ∷ rounds) [] device left begun are recovers = elim are [ ]

-- the state that the device recovered to before the rounds
record Begins (device : MemDevice) : Type 0 where
  pub begun : State
  pub recovers : RecoversTo Two (seen_in device) begun

begins : (rounds : List Round) (runs : List Run) (device left : MemDevice) (session : SessionValue MemDevice) → AreRounds device rounds runs left → IsMemoryOpened left session → Begins device
begins [] [] device left session are opened = record { begun = session.state; recovers = subst (λ (d : MemDevice). RecoversTo Two (seen_in d) session.state) are opened.recovers }
begins (round ∷ rounds) (run ∷ runs) device left session are opened = record { begun = are.1.first.state; recovers = are.1.opened.recovers }
begins [] (run ∷ runs) device left session are opened = elim are [ ]
begins (round ∷ rounds) [] device left session are opened = elim are [ ]

module _ (keep : RunsKeepInvariants) (never_more : PlansNeverCostMore) (one_search : RunsAreOneSearch) (one_annealing : RunsAreOneAnnealing) (say : PassesDecidesTheVerdict) where
  -- a state that keeps its invariants leads to the state after accepted commands
  pub leads_to : (begun : State) (commands : List Command) (given : State) → IsState given → AreAccepted begun commands → given ≡ after begun commands → LeadsTo begun commands given
  leads_to begun commands given facts accepted same = record {
    accepted = accepted;
    state = same;
    plan = passing say given facts;
    cost = λ q from to. subst (λ (s : State). IsNoWorse (after begun (take q commands)) s) (sym same) (never_more begun commands q accepted from to).0;
    search = λ before searches job split all reached.
        same ∙ sym (ap (after begun) split) ∙ after-append begun before searches ∙ ap (λ (s : State). after s searches) reached ∙ one_search job searches all;
    annealing = λ before annealings job split all reached.
        same ∙ sym (ap (after begun) split) ∙ after-append begun before annealings ∙ ap (λ (s : State). after s annealings) reached ∙ one_annealing job annealings all;
  }

  pub is_fold : (device : MemDevice) (rounds : List Round) (runs : List Run) (session : SessionValue MemDevice) → EndsRounds device rounds runs session
      → IsFold (seen_in device) rounds runs session.state
  is_fold device rounds runs session ends =
      let at = begins rounds runs device ends.left session ends.done ends.opened in
      let all = folds rounds runs device ends.left at.begun ends.done at.recovers in record {
        begun = at.begun;
        recovers = at.recovers;
        counts = all.counts;
        one_each = all.one_each;
        leads = leads_to at.begun (recovered_commands rounds runs all.counts) session.state
            (recovered_is_state keep never_more say (seen_in ends.left) session.state ends.opened.recovers) all.accepted (ends.opened.alone _ all.recovers);
      }
