-- The next operation is the first of all operations, and the cursor stands for the others.
use Rattle.std.proofs.Common.{rules, ◌≡◌, Some}
use Rattle.command_text.specs.Staging.{next_steps}
use Rattle.command_text.proofs.StagingLemmas.{next_made}
use Rattle.command_text.proofs.staging.next_in_stage.Goals as goal

pub returns : goal.returns
returns c =
    let a = c.args in
    let found : next_steps a.from a.to a.job.now ≡ Some c.in_ok-command.command = search rules in
    next_made a.from a.to a.job.now c.in_ok-command.command found
