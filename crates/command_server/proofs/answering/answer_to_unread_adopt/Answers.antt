-- If memory runs out for an attempt, the reply is out of memory.
use Rattle.std.proofs.Common.{refl}
use Rattle.command_text.specs.Answering.{adopt_on}
use Rattle.command_server.proofs.ReplyLemmas.{adopt_dropped, reports_none}
use Rattle.command_server.proofs.answering.answer_to_unread_adopt.Goals as goal

pub returns-in-Ok : goal.returns-in-Ok
returns-in-Ok g c = λ reading bytes. adopt_dropped reading bytes c.args.session.now c.in-Ok.field-0.now c.in-Ok.ensures.job.0 c.in-Ok.ensures.job.1

pub returns-in-Err : goal.returns-in-Err
returns-in-Err g c = λ reading bytes. reports_none (adopt_on reading bytes) c.args.session.now c.in-Err.answer (λ t. refl) c.in-Err.ensures.none
