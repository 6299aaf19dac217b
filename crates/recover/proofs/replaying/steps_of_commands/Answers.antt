-- The steps of one more command are added. The sum fits if the total does.
use Rattle.std.proofs.Common.{◌≡◌, ◌∙◌, ◌+◌, get_or, ap, arith}
use Rattle.std.proofs.lemmas.List.{get_or_read}
use Rattle.std.proofs.lemmas.List.Sums.{sum_by_more, sum_by-take-le}
use Rattle.command_types.specs.Commands.{steps_of}
use Rattle.command_types.specs.declared.commands.Command.TheVariants.{Build}
use Rattle.recover.proofs.replaying.steps_of_commands.Goals as goal

pub loop-command-preserved : goal.loop-command-preserved
loop-command-preserved c small =
    let i = c.loop-command.command-index in
    let commands = c.args.commands.now in
    let here = sum_by_more steps_of commands i Build c.loop-command-test.true in
    let made : c.steps.result ≡ steps_of (get_or commands i Build) = c.steps.ensures ∙ ap steps_of (get_or_read commands i c.command-item.result c.loop-command-test.true c.command-item.is Build) in
    omega (arith, c.saturating_add-steps.ensures, c.loop-command.invariant small, here, made, sum_by-take-le steps_of commands (i + 1), small)
