-- Either no new file can be made at the path, or the instance is solved.
use Rattle.std.proofs.Common.{[], ◌∷◌, Err, inl, refl, subst}
use Rattle.std.specs.IoError.{error_kind}
use Rattle.std.proofs.lemmas.Result.{IfOk-weaker}
use Rattle.command_line.specs.Invocations.{tasks_of}
use Rattle.auditor_cli.specs.Reads.{IsGrown}
use Rattle.planner_cli.specs.Solves.{PrintsTask, file_effects}
use Rattle.auditor_cli.specs.Messages.{write_failure_line}
use Rattle.planner_cli.proofs.SolvesLemmas.{the_done, unwritten}
use Rattle.planner_cli.proofs.solves.Solver.solve_into.Goals as goal

pub returns-in-Ok-clause-does : goal.returns-in-Ok-clause-does
returns-in-Ok-clause-does g c =
    let tasks = tasks_of c.args.self.now.tasks in
    let reads = g.F.ReadFiles.reads c.args.files.now in
    let errors = g.E.Write.contents c.args.errors.now in
    let now = file_effects g.F.ReadFiles.reads g.N.WriteFiles.writes g.E.Write.contents c.solve_file.new.files c.solve_file.new.new_files c.solve_file.new.errors in
    let before = g.W.Write.contents c.args.output.now in
    let after = g.W.Write.contents c.solve_file.new.output in
    let does = c.solve_file.ensures.does in
    record {
      kept = (does.kept.0, subst (λ made. IsGrown made (g.N.WriteFiles.writes c.solve_file.new.new_files)) c.in-Ok.ensures does.kept.1);
      reported = IfOk-weaker c.solve_file.result _ _
          (λ status reported. subst (λ made. PrintsTask tasks c.args.instance.now c.args.path.now (the_done reads made errors) now before after status) c.in-Ok.ensures reported) does.reported;
    }

pub returns-in-Err-clause-does : goal.returns-in-Err-clause-does
returns-in-Err-clause-does g c =
    let path = c.args.path.now in
    let error = error_kind c.in-Err.error in
    record {
      kept = (([], refl), ((path, Err error) ∷ [], c.in-Err.ensures));
      reported = IfOk-weaker c.print_write_failure.result _ _
          (λ status reported.
          let so = unwritten path _ c.kind.result _ _ _ _ status c.kind.ensures c.in-Err.ensures reported in
          (write_failure_line path error, inl (record { same = refl; silent = refl; unwritten = so.0 }), so.1))
          c.print_write_failure.ensures.reported;
    }
