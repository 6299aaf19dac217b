-- After each operation, the rest of the reply is the reply to the steps that are left.
use Rattle.std.proofs.Common.{rules, ◌≡◌, ◌∙◌, [], refl, subst, sym, Err, None, Some}
use Rattle.std.specs.Prelude.{⊤}
use Rattle.std.proofs.lemmas.Result.{err_from_is_err_and}
use Rattle.command_text.specs.Answering.{operations_reply, commands_of}
use Rattle.command_server.specs.ServeSteps.{Answers, silent}
use Rattle.command_server.proofs.ServeLemmas.{all_done, answers_after, serves_further, serves_nothing, step_denied, step_done}
use Rattle.command_server.proofs.answering.make_steps.Goals as goal

pub loop-command-init : goal.loop-command-init
loop-command-init g c = (serves_nothing c.args.session.now (λ s. operations_reply s (commands_of c.args.steps c.args.session.now.state)) (g.W.Sink.stream c.args.writer.now), refl)

pub returns-in-Err-clause-answers : goal.returns-in-Err-clause-answers
returns-in-Err-clause-answers g c =
    let reports = step_denied c.loop-command.session c.apply.new.session c.loop-command.left c.in-Some.rest c.in-Some.command c.apply.result c.state.ensures.state
    c.in-Some.ensures c.apply.ensures c.answer_to_denial.result c.in-Err.denial c.answer_to_denial.ensures c.in-Err.is in
    answers_after c.write_answer.result None (commands_of c.loop-command.left c.loop-command.session.state) _ c.loop-command.invariant.0 reports c.write_answer.ensures.reported

pub loop-command-preserved : goal.loop-command-preserved
loop-command-preserved g c =
    let reports = step_done c.loop-command.session c.apply.new.session c.loop-command.left c.in-Some.rest c.in-Some.command c.apply.result c.state.ensures.state
    c.in-Some.ensures c.apply.ensures c.progress_after-progress.result c.in_default-answer.field-0
    c.progress_after-progress.ensures c.in_default-answer.is in
    (serves_further c.loop-command.invariant.0 reports c.in_ok-write_progress.ensures.reported, c.write_progress.ensures.origin ∙ c.loop-command.invariant.1)

pub returns-clause-answers : goal.returns-clause-answers
returns-clause-answers g c =
    let mid = c.loop-command.session in
    let left = commands_of c.loop-command.left mid.state in
    let none : left ≡ [] = search rules in
    answers_after c.write_answer-2.result None left _ c.loop-command.invariant.0 (all_done mid left none) c.write_answer-2.ensures.reported

pub returns-in_err-write_progress-clause-answers : goal.returns-in_err-write_progress-clause-answers
returns-in_err-write_progress-clause-answers g c =
    let old = c.args.session.now in
    let new = c.apply.new.session in
    let first = commands_of c.args.steps old.state in
    let before = g.W.Sink.stream c.args.writer.now in
    let after = g.W.Sink.stream c.write_progress.new.writer in
    let reported = err_from_is_err_and c.from_residual.result c.from_residual.ensures.1 in
    let reports = step_done c.loop-command.session new c.loop-command.left c.in-Some.rest c.in-Some.command c.apply.result c.state.ensures.state c.in-Some.ensures
    c.apply.ensures c.progress_after-progress.result c.in_default-answer.field-0
    c.progress_after-progress.ensures c.in_default-answer.is in
    subst (λ r. Answers g.D.Sectors r old (λ s. operations_reply s first) before after new silent) (sym reported.1)
    (answers_after {T = ⊤} (Err reported.0) (Some (commands_of c.in-Some.rest new.state))
    (commands_of c.loop-command.left c.loop-command.session.state) after c.loop-command.invariant.0 reports c.in_err-write_progress.ensures.reported)
