-- The two cases: the command is refused, or the session makes its steps.
use Rattle.std.proofs.Common.{◌≡◌, ◌∙◌, false, true, sym, ap, Ok, Err}
use Rattle.command_text.specs.Answering.{steps_to_make}
use Rattle.command_server.proofs.ServeLemmas.{answers_reported, steps_begun, steps_broken, steps_refused}
use Rattle.command_server.proofs.answering.serve_steps.Goals as goal

pub returns-then-is_broken-clause-answers : goal.returns-then-is_broken-clause-answers
returns-then-is_broken-clause-answers g c =
    let session = c.args.session.now in
    let broken : session.is_broken ≡ true = sym c.is_broken.ensures.broken ∙ c.if-is_broken.true in
    answers_reported c.write_answer.result _ _ (steps_broken c.args.goal session broken) c.write_answer.ensures.reported

pub returns-in-Ok-clause-answers : goal.returns-in-Ok-clause-answers
returns-in-Ok-clause-answers g c =
    let session = c.args.session.now in
    let whole : session.is_broken ≡ false = sym c.is_broken.ensures.broken ∙ c.if-is_broken.false in
    let is : steps_to_make session.state c.args.goal ≡ Ok c.in-Ok.steps =
    ap (λ state. steps_to_make state c.args.goal) (sym c.state.ensures.state) ∙ sym c.steps_to_make.ensures ∙ c.in-Ok.is in
    steps_begun g.D.Sectors c.make_steps.result c.args.goal session c.make_steps.new.session c.in-Ok.steps (g.W.Sink.stream c.args.writer.now)
    (g.W.Sink.stream c.make_steps.new.writer) whole is c.make_steps.ensures.answers

pub returns-in-Err-clause-answers : goal.returns-in-Err-clause-answers
returns-in-Err-clause-answers g c =
    let session = c.args.session.now in
    let whole : session.is_broken ≡ false = sym c.is_broken.ensures.broken ∙ c.if-is_broken.false in
    let is : steps_to_make session.state c.args.goal ≡ Err c.in-Err.answer =
    ap (λ state. steps_to_make state c.args.goal) (sym c.state.ensures.state) ∙ sym c.steps_to_make.ensures ∙ c.in-Err.is in
    answers_reported c.write_answer-in-Err.result _ _ (steps_refused c.args.goal session c.in-Err.answer whole is) c.write_answer-in-Err.ensures.reported
