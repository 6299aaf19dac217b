-- The cases of the parsed command.
use Rattle.std.proofs.Common.{◌++◌, ap, false, refl, subst, sym}
use Rattle.std.proofs.lemmas.Result.{err_from_is_err_and}
use Rattle.command_types.specs.declared.refusals.Refusal.TheVariants as core
use Rattle.command_text.specs.Answering.{answer_reply, line_then_ok}
use Rattle.command_text.specs.Answers.{answer_text, help_text, line}
use Rattle.command_text.specs.Cutting.{announced_len, is_end}
use Rattle.command_text.specs.Laws.{cut_at}
use Rattle.command_text.specs.declared.answers.Answer.TheVariants as answer
use Rattle.command_server.specs.Input.{left_of}
use Rattle.command_server.specs.Streams.{WritesAndFlushes}
use Rattle.command_server.specs.ServeSteps.{ContinuesOrIsCut, ServesPieces}
use Rattle.command_server.specs.declared.answering.Flow.TheVariants.{Continue}
use Rattle.command_server.proofs.CommandLemmas.{cut_at_once, line_ends, line_on, text_on, nothing_on}
use Rattle.command_server.proofs.ReplyLemmas.{reports_stated}
use Rattle.command_server.proofs.ServeLemmas.{answers_reported, reports_same}
use Rattle.command_server.proofs.TakeLemmas.{line_takes, told_text, reported_on, reported_to_end}
use Rattle.command_server.proofs.answering.serve_command.Goals as goal

pub returns-in-BadText-clause-serves : goal.returns-in-BadText-clause-serves
returns-in-BadText-clause-serves g c = λ reading rest how is fits known.
    line_ends g.D.Sectors c.args.session.now _ _ _ _ reading rest c.in-BadText.is c.write_answer-in-BadText.result c.flow_or_fault-in-BadText.ensures refl known
    (answers_reported c.write_answer-in-BadText.result _ _ (reports_same c.args.session.now (λ s. answer_reply s answer.BadLine) answer.BadLine (λ fates. refl))
    c.write_answer-in-BadText.ensures.reported)

pub returns-in-TextRange-clause-serves : goal.returns-in-TextRange-clause-serves
returns-in-TextRange-clause-serves g c = λ reading rest how is fits known.
    line_ends g.D.Sectors c.args.session.now _ _ _ _ reading rest c.in-TextRange.is c.write_answer-in-TextRange.result c.flow_or_fault-in-TextRange.ensures refl known
    (answers_reported c.write_answer-in-TextRange.result _ _ (reports_same c.args.session.now (λ s. answer_reply s (answer.Refused core.Range)) (answer.Refused core.Range)
    (λ fates. refl)) c.write_answer-in-TextRange.ensures.reported)

pub returns-in-BadLine-clause-serves : goal.returns-in-BadLine-clause-serves
returns-in-BadLine-clause-serves g c = λ reading rest how is fits known.
    line_on g.D.Sectors c.args.session.now _ _ _ _ reading rest c.in-BadLine.is c.write_answer-in-BadLine.result c.flow_or_fault-in-BadLine.ensures refl known
    (answers_reported c.write_answer-in-BadLine.result _ _ (reports_same c.args.session.now (λ s. answer_reply s answer.BadLine) answer.BadLine (λ fates. refl))
    c.write_answer-in-BadLine.ensures.reported)

pub returns-in-Refused-clause-serves : goal.returns-in-Refused-clause-serves
returns-in-Refused-clause-serves g c = λ reading rest how is fits known.
    line_on g.D.Sectors c.args.session.now _ _ _ _ reading rest c.in-Refused.is c.write_answer-in-Refused.result c.flow_or_fault-in-Refused.ensures refl known
    (answers_reported c.write_answer-in-Refused.result _ _ c.refused.ensures c.write_answer-in-Refused.ensures.reported)

pub returns-in-Plain-clause-serves : goal.returns-in-Plain-clause-serves
returns-in-Plain-clause-serves g c = λ reading rest how is fits known.
    line_on g.D.Sectors c.args.session.now _ _ _ _ reading rest c.in-Plain.is c.write_answer-in-Plain.result c.flow_or_fault-in-Plain.ensures refl known
    (answers_reported c.write_answer-in-Plain.result _ _ c.applied_with_hint-answer.ensures c.write_answer-in-Plain.ensures.reported)

pub returns-in-Steps-clause-serves : goal.returns-in-Steps-clause-serves
returns-in-Steps-clause-serves g c = λ reading rest how is fits known.
    line_on g.D.Sectors c.args.session.now _ _ _ _ reading rest c.in-Steps.is c.serve_steps.result c.flow_or_fault-in-Steps.ensures refl known c.serve_steps.ensures.answers

pub returns-in-Print-clause-serves : goal.returns-in-Print-clause-serves
returns-in-Print-clause-serves g c = λ reading rest how is fits known.
    line_on g.D.Sectors c.args.session.now _ _ _ _ reading rest c.in-Print.is c.write_text_or_answer.result c.flow_or_fault-in-Print.ensures refl known
    (answers_reported c.write_text_or_answer.result _ _ c.print_reply.ensures c.write_text_or_answer.ensures.reported)

pub returns-in-PrintInstance-clause-serves : goal.returns-in-PrintInstance-clause-serves
returns-in-PrintInstance-clause-serves g c = λ reading rest how is fits known.
    line_on g.D.Sectors c.args.session.now _ _ _ _ reading rest c.in-PrintInstance.is c.write_text_or_answer-in-PrintInstance.result c.flow_or_fault-in-PrintInstance.ensures refl
    known (answers_reported c.write_text_or_answer-in-PrintInstance.result _ _ c.instance_reply.ensures c.write_text_or_answer-in-PrintInstance.ensures.reported)

pub returns-in-Show-clause-serves : goal.returns-in-Show-clause-serves
returns-in-Show-clause-serves g c = λ reading rest how is fits known.
    line_on g.D.Sectors c.args.session.now _ _ _ _ reading rest c.in-Show.is c.write_text_or_answer-in-Show.result c.flow_or_fault-in-Show.ensures refl known
    (answers_reported c.write_text_or_answer-in-Show.result _ _ c.show_reply.ensures c.write_text_or_answer-in-Show.ensures.reported)

pub returns-in-Ask-clause-serves : goal.returns-in-Ask-clause-serves
returns-in-Ask-clause-serves g c = λ reading rest how is fits known.
    line_on g.D.Sectors c.args.session.now _ _ _ _ reading rest c.in-Ask.is c.write_text_or_answer-in-Ask.result c.flow_or_fault-in-Ask.ensures refl known
    (answers_reported c.write_text_or_answer-in-Ask.result _ _ c.question_reply-made.ensures c.write_text_or_answer-in-Ask.ensures.reported)

pub returns-in-Next-clause-serves : goal.returns-in-Next-clause-serves
returns-in-Next-clause-serves g c = λ reading rest how is fits known.
    line_on g.D.Sectors c.args.session.now _ _ _ _ reading rest c.in-Next.is c.serve_next.result c.flow_or_fault-in-Next.ensures refl known c.serve_next.ensures.answers

pub returns-in-Help-clause-serves : goal.returns-in-Help-clause-serves
returns-in-Help-clause-serves g c = λ reading rest how is fits known.
    let old = c.args.session.now in
    let before = g.W.Sink.stream c.args.writer.now in
    let after = g.W.Sink.stream c.write_line_and_ok.new.writer in
    let reported = subst (λ t. WritesAndFlushes before after c.write_line_and_ok.result (g.D.Sectors.calls old.device) (line t ++ line (answer_text answer.Ok))) c.help_lines.ensures c.write_line_and_ok.ensures.reported in
    line_on g.D.Sectors c.args.session.now _ _ _ _ reading rest c.in-Help.is c.write_line_and_ok.result c.flow_or_fault-in-Help.ensures refl known
    (answers_reported c.write_line_and_ok.result _ _ (reports_stated old (λ s. line_then_ok s help_text) help_text (λ later. refl)) reported)

pub returns-in-Nothing-clause-serves : goal.returns-in-Nothing-clause-serves
returns-in-Nothing-clause-serves g c = λ reading rest how is fits known.
    let old = c.args.session.now in
    let before = g.W.Sink.stream c.args.writer.now in
    let left = left_of g.R.Source how c.args.input.now c.args.reader.now in
    subst (λ a. ServesPieces g.D.Sectors reading old (cut_at a rest) before before old Continue left) (sym c.in-Nothing.is) (nothing_on reading rest old before left known)

pub returns-in_err-text-in-Text-clause-serves : goal.returns-in_err-text-in-Text-clause-serves
returns-in_err-text-in-Text-clause-serves g c = λ reading rest how is fits known.
    let old = c.args.session.now in
    let before = g.W.Sink.stream c.args.writer.now in
    let left = left_of g.R.Source how c.announced_text.new.self c.announced_text.new.reader in
    let reported = err_from_is_err_and c.from_residual.result c.from_residual.ensures.1 in
    subst (λ r. ContinuesOrIsCut g.D.Sectors r reading old (cut_at c.args.requested rest) before before old left) (sym reported.1) (cut_at_once reading old (cut_at c.args.requested rest) before)

pub returns-in_ok-text-in-Text-clause-serves : goal.returns-in_ok-text-in-Text-clause-serves
returns-in_ok-text-in-Text-clause-serves g c = λ reading rest how is fits known.
    let old = c.args.session.now in
    let new = c.text_answer-answer.new.session in
    let before = g.W.Sink.stream c.args.writer.now in
    let after = g.W.Sink.stream c.write_answer.new.writer in
    let first = left_of g.R.Source how c.args.input.now c.args.reader.now in
    let left = left_of g.R.Source how c.announced_text.new.self c.announced_text.new.reader in
    subst (λ a. ContinuesOrIsCut g.D.Sectors c.flow_or_fault.result reading old (cut_at a rest) before after new left) (sym c.in-Text.is)
    (text_on g.D.Sectors reading c.in-Text.purpose c.in-Text.len old new before after c.flow_or_fault.result c.write_answer.result rest c.in_ok-text-in-Text.text
    c.flow_after-goes.result first left known (c.in_ok-text-in-Text.ensures.takes how fits)
    c.flow_after-goes.ensures c.flow_or_fault.ensures (λ bytes. answers_reported c.write_answer.result before after (c.text_answer-answer.ensures reading bytes is) c.write_answer.ensures.reported))

pub returns-in-BadText-clause-taken : goal.returns-in-BadText-clause-taken
returns-in-BadText-clause-taken g c = reported_to_end g.R.Source _ c.args.input.now c.args.reader.now c.in-BadText.is c.write_answer-in-BadText.result c.flow_or_fault-in-BadText.ensures refl

pub returns-in-TextRange-clause-taken : goal.returns-in-TextRange-clause-taken
returns-in-TextRange-clause-taken g c = reported_to_end g.R.Source _ c.args.input.now c.args.reader.now c.in-TextRange.is c.write_answer-in-TextRange.result c.flow_or_fault-in-TextRange.ensures refl

pub returns-in-BadLine-clause-taken : goal.returns-in-BadLine-clause-taken
returns-in-BadLine-clause-taken g c = reported_on g.R.Source _ c.args.input.now c.args.reader.now c.in-BadLine.is c.write_answer-in-BadLine.result c.flow_or_fault-in-BadLine.ensures refl refl

pub returns-in-Refused-clause-taken : goal.returns-in-Refused-clause-taken
returns-in-Refused-clause-taken g c = reported_on g.R.Source _ c.args.input.now c.args.reader.now c.in-Refused.is c.write_answer-in-Refused.result c.flow_or_fault-in-Refused.ensures refl refl

pub returns-in-Plain-clause-taken : goal.returns-in-Plain-clause-taken
returns-in-Plain-clause-taken g c = reported_on g.R.Source _ c.args.input.now c.args.reader.now c.in-Plain.is c.write_answer-in-Plain.result c.flow_or_fault-in-Plain.ensures refl refl

pub returns-in-Steps-clause-taken : goal.returns-in-Steps-clause-taken
returns-in-Steps-clause-taken g c = reported_on g.R.Source _ c.args.input.now c.args.reader.now c.in-Steps.is c.serve_steps.result c.flow_or_fault-in-Steps.ensures refl refl

pub returns-in-Print-clause-taken : goal.returns-in-Print-clause-taken
returns-in-Print-clause-taken g c = reported_on g.R.Source _ c.args.input.now c.args.reader.now c.in-Print.is c.write_text_or_answer.result c.flow_or_fault-in-Print.ensures refl refl

pub returns-in-PrintInstance-clause-taken : goal.returns-in-PrintInstance-clause-taken
returns-in-PrintInstance-clause-taken g c = reported_on g.R.Source _ c.args.input.now c.args.reader.now c.in-PrintInstance.is c.write_text_or_answer-in-PrintInstance.result c.flow_or_fault-in-PrintInstance.ensures refl refl

pub returns-in-Show-clause-taken : goal.returns-in-Show-clause-taken
returns-in-Show-clause-taken g c = reported_on g.R.Source _ c.args.input.now c.args.reader.now c.in-Show.is c.write_text_or_answer-in-Show.result c.flow_or_fault-in-Show.ensures refl refl

pub returns-in-Ask-clause-taken : goal.returns-in-Ask-clause-taken
returns-in-Ask-clause-taken g c = reported_on g.R.Source _ c.args.input.now c.args.reader.now c.in-Ask.is c.write_text_or_answer-in-Ask.result c.flow_or_fault-in-Ask.ensures refl refl

pub returns-in-Next-clause-taken : goal.returns-in-Next-clause-taken
returns-in-Next-clause-taken g c = reported_on g.R.Source _ c.args.input.now c.args.reader.now c.in-Next.is c.serve_next.result c.flow_or_fault-in-Next.ensures refl refl

pub returns-in-Help-clause-taken : goal.returns-in-Help-clause-taken
returns-in-Help-clause-taken g c = reported_on g.R.Source _ c.args.input.now c.args.reader.now c.in-Help.is c.write_line_and_ok.result c.flow_or_fault-in-Help.ensures refl refl

pub returns-in-Nothing-clause-taken : goal.returns-in-Nothing-clause-taken
returns-in-Nothing-clause-taken g c = line_takes g.R.Source c.args.requested c.args.input.now c.args.reader.now (ap announced_len c.in-Nothing.is) (ap (λ a. is_end a false) c.in-Nothing.is)

pub returns-in_ok-text-in-Text-clause-taken : goal.returns-in_ok-text-in-Text-clause-taken
returns-in_ok-text-in-Text-clause-taken g c =
    told_text g.R.Source c.write_answer.result c.flow_or_fault.result c.in-Text.purpose c.in-Text.len c.in_ok-text-in-Text.text c.flow_after-goes.result c.args.requested
    c.args.input.now c.announced_text.new.self c.args.reader.now
    c.announced_text.new.reader c.flow_or_fault.ensures c.flow_after-goes.ensures c.in-Text.is c.announced_text.ensures.less c.in_ok-text-in-Text.ensures.exact c.in_ok-text-in-Text.ensures.takes
