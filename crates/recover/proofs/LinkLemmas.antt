-- Consecutive links are one list of commands.
use Rattle.std.proofs.Common.{◌≡◌, ◌∙◌, List, [], ◌∷◌, take, sym, ap, subst}
use Rattle.plan_audit.specs.Locality.{PassesDecidesTheVerdict}
use Rattle.command_core.specs.Runs.{after, AreAccepted}
use Rattle.command_types.specs.States.{IsState}
use Rattle.command_core.specs.RunLaws.{RunsKeepInvariants, PlansNeverCostMore, RunsAreOneSearch, RunsAreOneAnnealing}
use Rattle.command_types.specs.declared.states.State.{State}
use Rattle.command_types.specs.declared.commands.Command.{Command}
use Rattle.recover.specs.Links.{Restart, AreLinked, LinksCompose, recovered_commands_in}
use Rattle.recover.proofs.FoldLemmas.{leads_to}
use Rattle.recover.proofs.StepLemmas.{after-append, accepted-append}

-- each command is accepted, and the commands lead to the last state
record IsJoined (first : State) (commands : List Command) (last : State) : Type 0 where
  pub accepted : AreAccepted first commands
  pub state : last ≡ after first commands

joined : (first last : State) (restarts : List Restart) (linked : AreLinked first restarts last) → IsJoined first (recovered_commands_in first restarts last linked) last
joined first last [] linked = record { accepted = tt; state = linked }
joined first last (restart ∷ restarts) linked =
    let link = linked.0 in
    let mine : List Command = take link.count restart.commands in
    let more : List Command = recovered_commands_in restart.given restarts last linked.1 in
    let rest = joined restart.given last restarts linked.1 in record {
      accepted = accepted-append first mine more link.accepted (subst (λ (s : State). AreAccepted s more) link.state rest.accepted);
      state = rest.state ∙ ap (λ (s : State). after s more) link.state ∙ sym (after-append first mine more);
    }

pub links_lead_on : RunsKeepInvariants → PlansNeverCostMore → RunsAreOneSearch → RunsAreOneAnnealing → PassesDecidesTheVerdict → LinksCompose
links_lead_on keep never_more one_search one_annealing say first last restarts facts linked =
    let commands : List Command = recovered_commands_in first restarts last linked in
    let all = joined first last restarts linked in
    leads_to keep never_more one_search one_annealing say first commands last (subst IsState (sym all.state) (keep first commands facts all.accepted)) all.accepted all.state
