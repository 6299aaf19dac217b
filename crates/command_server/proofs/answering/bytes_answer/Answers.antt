-- The cases of the purpose of the text.
use Rattle.std.proofs.Common.{subst, sym}
use Rattle.command_text.specs.Answers.{answer_text, line}
use Rattle.command_server.specs.ServeContract.{Reports}
use Rattle.command_server.specs.ServeSteps.{bytes_reply, silent}
use Rattle.command_server.proofs.answering.bytes_answer.Goals as goal

pub returns-in-Load : goal.returns-in-Load
returns-in-Load g c = λ reading is.
    subst (λ p. Reports g.D.Sectors c.args.session.now (bytes_reply reading p c.args.text.now) (line (answer_text c.loaded.result)) c.loaded.new.session silent) (sym c.in-Load.is)
    (c.loaded.ensures reading is)

pub returns-in-Adopt : goal.returns-in-Adopt
returns-in-Adopt g c = λ reading is.
    subst (λ p. Reports g.D.Sectors c.args.session.now (bytes_reply reading p c.args.text.now) (line (answer_text c.adopted.result)) c.adopted.new.session silent) (sym c.in-Adopt.is)
    (c.adopted.ensures reading is)
