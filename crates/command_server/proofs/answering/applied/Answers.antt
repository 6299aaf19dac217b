-- The session's answer is the one that the reply to the operation defines.
use Rattle.std.proofs.Common.{subst, sym}
use Rattle.command_text.specs.Answering.{plain}
use Rattle.command_text.specs.Answers.{answer_text, line}
use Rattle.command_server.specs.ServeContract.{Reports}
use Rattle.command_server.specs.ServeSteps.{silent}
use Rattle.command_server.proofs.ServeLemmas.{plain_err, plain_ok}
use Rattle.command_server.proofs.answering.applied.Goals as goal

pub returns-in-Ok : goal.returns-in-Ok
returns-in-Ok g c = plain_ok g.D.Sectors c.args.session.now c.apply.new.session c.args.command c.apply.result c.apply.ensures c.in-Ok.field-0 c.in-Ok.is

pub returns-in-Err : goal.returns-in-Err
returns-in-Err g c =
    subst (λ a. Reports g.D.Sectors c.args.session.now (λ s. plain s c.args.command) (line (answer_text a)) c.apply.new.session silent) (sym c.answer_to_denial.ensures)
    (plain_err g.D.Sectors c.args.session.now c.apply.new.session c.args.command c.apply.result c.apply.ensures c.in-Err.denial c.in-Err.is)
