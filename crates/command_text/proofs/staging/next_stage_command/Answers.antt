-- The next operation sets a deviation, or else makes the next steps.
use Rattle.std.proofs.Common.{rules, ◌≡◌, ◌∷◌, List, [], None, sym, subst}
use Rattle.std.specs.Prelude.{MatchOption}
use Rattle.command_core.specs.Effects.{effect}
use Rattle.command_types.specs.declared.commands.Command.{Command}
use Rattle.command_types.specs.declared.states.State.TheVariants.{Loaded}
use Rattle.command_text.specs.Answering.{commands_of}
use Rattle.command_text.specs.Staging.{next_deviation}
use Rattle.command_text.proofs.StagingLemmas.{next_set, none_set}
use Rattle.command_text.proofs.staging.next_stage_command.Goals as goal

pub returns-in-Some : goal.returns-in-Some
returns-in-Some c =
    let a = c.args in
    next_set a.from a.to a.job.now c.in-Some.deviation (search rules)

pub returns-in-None : goal.returns-in-None
returns-in-None c =
    let a = c.args in
    let job = a.job.now in
    let none : next_deviation a.from a.to job ≡ None = search rules in
    subst (λ (cs : List Command). MatchOption c.next_in_stage.result (cs ≡ []) (λ x. cs ≡ x.0 ∷ commands_of x.1 (effect (Loaded job) x.0)))
    (sym (none_set a.from a.to job none)) c.next_in_stage.ensures
