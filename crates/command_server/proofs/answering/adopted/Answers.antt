-- The cases of the result of reading the text, unless memory ran out.
use Rattle.std.proofs.Common.{refl}
use Rattle.command_text.specs.Answering.{adopt_on}
use Rattle.command_server.proofs.ReplyLemmas.{adopt_read, adopt_unread, reports_none}
use Rattle.command_server.proofs.answering.adopted.Goals as goal

pub returns-in-Err : goal.returns-in-Err
returns-in-Err g c = λ reading is. reports_none (adopt_on reading c.args.text.now) c.args.session.now c.in-Err.answer (λ t. refl) c.in-Err.ensures.none

pub returns-in-Ok-read_plan : goal.returns-in-Ok-read_plan
returns-in-Ok-read_plan g c = λ reading is.
    adopt_read reading c.args.text.now c.args.session.now c.in-Ok.job.now c.in-Ok.ensures.job.0 c.in-Ok.ensures.job.1 c.in-Ok-read_plan.plan
    c.applied.new.session _ (c.in-Ok-read_plan.ensures reading is) c.applied.ensures

pub returns-in-Err-read_plan : goal.returns-in-Err-read_plan
returns-in-Err-read_plan g c = λ reading is.
    adopt_unread reading c.args.text.now c.args.session.now c.in-Ok.job.now c.in-Ok.ensures.job.0 c.in-Ok.ensures.job.1 c.in-Err-read_plan.why (c.in-Err-read_plan.ensures reading is)
