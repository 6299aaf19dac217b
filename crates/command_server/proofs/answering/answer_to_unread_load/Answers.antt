-- If memory runs out for an attempt, the reply is out of memory.
use Rattle.std.proofs.Common.{◌≡◌, ◌∙◌, false, true, sym}
use Rattle.command_server.proofs.ReplyLemmas.{load_broken, load_dropped}
use Rattle.command_server.proofs.answering.answer_to_unread_load.Goals as goal

pub returns-then-is_broken : goal.returns-then-is_broken
returns-then-is_broken g c = λ reading format seed bytes.
    let session = c.args.session.now in
    let broken : session.is_broken ≡ true = sym c.is_broken.ensures.broken ∙ c.if-is_broken.true in
    load_broken session seed (reading.instance format bytes) broken

pub returns-else-is_broken : goal.returns-else-is_broken
returns-else-is_broken g c = λ reading format seed bytes.
    let session = c.args.session.now in
    let whole : session.is_broken ≡ false = sym c.is_broken.ensures.broken ∙ c.if-is_broken.false in
    load_dropped session seed (reading.instance format bytes) whole
