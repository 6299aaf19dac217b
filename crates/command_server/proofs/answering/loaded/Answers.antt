-- The cases of the result of reading the text, unless memory ran out.
use Rattle.std.proofs.Common.{◌≡◌, ◌∙◌, false, true, sym}
use Rattle.command_server.proofs.ReplyLemmas.{load_broken, loaded_err, loaded_ok}
use Rattle.command_server.proofs.answering.loaded.Goals as goal

pub returns-then-is_broken : goal.returns-then-is_broken
returns-then-is_broken g c = λ reading is.
    let session = c.args.session.now in
    let broken : session.is_broken ≡ true = sym c.is_broken.ensures.broken ∙ c.if-is_broken.true in
    load_broken session c.args.seed (reading.instance c.args.format c.args.text.now) broken

pub returns-in-Ok : goal.returns-in-Ok
returns-in-Ok g c = λ reading is.
    let session = c.args.session.now in
    let whole : session.is_broken ≡ false = sym c.is_broken.ensures.broken ∙ c.if-is_broken.false in
    loaded_ok session c.applied.new.session c.in-Ok.problem c.args.seed _ (reading.instance c.args.format c.args.text.now) whole (c.in-Ok.ensures reading is) c.applied.ensures

pub returns-in-Err : goal.returns-in-Err
returns-in-Err g c = λ reading is.
    let session = c.args.session.now in
    let whole : session.is_broken ≡ false = sym c.is_broken.ensures.broken ∙ c.if-is_broken.false in
    loaded_err session c.args.seed c.in-Err.fault (reading.instance c.args.format c.args.text.now) whole (c.in-Err.ensures reading is)
