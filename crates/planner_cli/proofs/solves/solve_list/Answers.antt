-- Either the list was read and its lines are processed, or it could not be read.
use Rattle.std.proofs.Common.{◌≡◌, ◌∙◌, [], ap, inl, inr, subst, Ok, Err, refl}
use Rattle.std.specs.IoError.{error_kind}
use Rattle.std.proofs.lemmas.Result.{IfOk-weaker}
use Rattle.text_lines.specs.Lines.{lines_of}
use Rattle.command_line.specs.Invocations.{tasks_of}
use Rattle.auditor_cli.specs.Reads.{IsGrown}
use Rattle.planner_cli.specs.Solves.{IsSolvedLine}
use Rattle.auditor_cli.specs.Messages.{PrintsReadFailure}
use Rattle.auditor_cli.proofs.ListLemmas.{lines_as, read_as}
use Rattle.planner_cli.proofs.SolvesLemmas.{done_as, the_done}
use Rattle.planner_cli.proofs.solves.solve_list.Goals as goal

pub returns-in-Ok-clause-reads : goal.returns-in-Ok-clause-reads
returns-in-Ok-clause-reads g c =
    let now = g.F.ReadFiles.reads c.solve_lines.new.files in
    (Ok c.in-Ok.text.items, subst (λ x. IsGrown x now) c.in-Ok.ensures c.solve_lines.ensures.does.kept.0)

pub returns-in-Ok-clause-reported : goal.returns-in-Ok-clause-reported
returns-in-Ok-clause-reported g c =
    let tasks = tasks_of c.args.tasks in
    let before = g.W.Write.contents c.args.output.now in
    let after = g.W.Write.contents c.solve_lines.new.output in
    let was = g.F.ReadFiles.reads c.args.files.now in
    let mid = g.F.ReadFiles.reads c.read.new.self in
    let now = the_done (g.F.ReadFiles.reads c.solve_lines.new.files) (g.N.WriteFiles.writes c.solve_lines.new.new_files) (g.E.Write.contents c.solve_lines.new.errors) in
    let made = g.N.WriteFiles.writes c.args.new_files.now in
    let errors = g.E.Write.contents c.args.errors.now in
    let text = c.in-Ok.text.items in
    let e = done_as was mid made errors (c.args.tasks.list.now, Ok text) c.in-Ok.ensures in
    let are : c.new.result ≡ lines_of text = c.new.ensures.lines ∙ ap lines_of c.deref.ensures.value in
    IfOk-weaker c.solve_lines.result _ _
    (λ status reported. inl (
      text,
      read_as (IsSolvedLine tasks) (lines_of text) (the_done mid made errors) _ now before after status e
          (lines_as (IsSolvedLine tasks) c.new.result (lines_of text) (the_done mid made errors) now before after status are reported),
    ))
    c.solve_lines.ensures.does.reported

pub returns-in-Err-clause-reads : goal.returns-in-Err-clause-reads
returns-in-Err-clause-reads g c = (Err (error_kind c.in-Err.error), ([], c.in-Err.ensures))

pub returns-in-Err-clause-makes : goal.returns-in-Err-clause-makes
returns-in-Err-clause-makes g c = ([], refl)

pub returns-in-Err-clause-reported : goal.returns-in-Err-clause-reported
returns-in-Err-clause-reported g c =
    let before = g.W.Write.contents c.args.output.now in
    let after = g.W.Write.contents c.print_read_failure.new.output in
    let was = g.F.ReadFiles.reads c.args.files.now in
    let now = g.F.ReadFiles.reads c.read.new.self in
    let made = g.N.WriteFiles.writes c.args.new_files.now in
    let error = error_kind c.in-Err.error in
    let path = c.args.tasks.list.now in
    IfOk-weaker c.print_read_failure.result _ _
    (λ status reported. inr (
      error,
      done_as was now made (g.E.Write.contents c.args.errors.now) (path, Err error) c.in-Err.ensures,
      subst (λ kind. PrintsReadFailure path kind before after status) c.kind.ensures reported,
    )) c.print_read_failure.ensures
