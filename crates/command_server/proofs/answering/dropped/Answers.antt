-- The cases of the purpose of the text.
use Rattle.std.proofs.Common.{subst, sym}
use Rattle.command_text.specs.Answers.{answer_text, line}
use Rattle.command_server.specs.ServeContract.{Reports}
use Rattle.command_server.specs.ServeSteps.{bytes_reply, silent}
use Rattle.command_server.proofs.answering.dropped.Goals as goal

pub returns-in-Load : goal.returns-in-Load
returns-in-Load g c = λ reading bytes.
    let session = c.args.session.now in
    subst (λ p. Reports g.D.Sectors session (bytes_reply reading p bytes) (line (answer_text c.answer_to_unread_load.result)) session silent) (sym c.in-Load.is) (c.answer_to_unread_load.ensures reading _ _ bytes)

pub returns-in-Adopt : goal.returns-in-Adopt
returns-in-Adopt g c = λ reading bytes.
    let session = c.args.session.now in
    subst (λ p. Reports g.D.Sectors session (bytes_reply reading p bytes) (line (answer_text c.answer_to_unread_adopt.result)) session silent) (sym c.in-Adopt.is) (c.answer_to_unread_adopt.ensures reading bytes)
