-- Either the instance was read and the result is written, or it could not be read.
use Rattle.std.proofs.Common.{[], ◌∷◌, Ok, Err, inl, inr, refl, rules, subst}
use Rattle.std.specs.IoError.{error_kind}
use Rattle.std.specs.Io.KnownBytes.{Appends}
use Rattle.std.proofs.lemmas.Result.{IfOk-weaker}
use Rattle.command_line.specs.Invocations.{tasks_of}
use Rattle.planner_cli.specs.Solves.{Finds, IsPlaced}
use Rattle.auditor_cli.specs.IgnoredLines.{ignored_limit_note}
use Rattle.auditor_cli.specs.Messages.{PrintsReadFailure, read_failure_line}
use Rattle.planner_cli.proofs.solves.Solver.solve_file.Goals as goal

pub returns-in-Err-clause-does : goal.returns-in-Err-clause-does
returns-in-Err-clause-does g c =
    let instance = c.args.instance.now in
    let error = error_kind c.in-Err.error in
    let before = g.W.Write.contents c.args.output.now in
    let after = g.W.Write.contents c.print_read_failure.new.output in
    record {
      kept = (((instance, Err error) ∷ [], c.in-Err.ensures), ([], refl));
      reported = IfOk-weaker c.print_read_failure.result _ _
          (λ status reported.
          let so = subst (λ kind. PrintsReadFailure instance kind before after status) c.kind.ensures reported in
          (read_failure_line instance error, inr (inl (record { error = error; noted = c.in-Err.ensures; same = refl; silent = refl; line = refl; status_is = so.0 })), so.1))
          c.print_read_failure.ensures;
    }

pub returns-in_err-print_ignored_limit-clause-does : goal.returns-in_err-print_ignored_limit-clause-does
returns-in_err-print_ignored_limit-clause-does g c = record { kept = (((c.args.instance.now, Ok c.in-Ok.text.items) ∷ [], c.in-Ok.ensures), ([], refl)); reported = search rules }

pub returns-clause-does : goal.returns-clause-does
returns-clause-does g c =
    let tasks = tasks_of c.args.self.now.tasks in
    let instance = c.args.instance.now in
    let x = c.in-Ok.text.items in
    let found = c.find-found.result in
    let made = g.N.WriteFiles.writes c.args.new_files.now in
    let left = g.N.WriteFiles.writes c.place-reported.new.new_files in
    let finds = subst (λ t. Finds tasks t found) c.deref-2.ensures.value c.find-found.ensures in
    let errors = g.E.Write.contents c.args.errors.now in
    let noted = g.E.Write.contents c.print_ignored_limit.new.errors in
    let limit = subst (λ t. Appends errors noted (ignored_limit_note tasks.format instance t)) c.deref.ensures.value c.in_ok-print_ignored_limit.ensures in
    record {
      kept = (((instance, Ok x) ∷ [], c.in-Ok.ensures), c.place-reported.ensures.does.kept);
      reported = IfOk-weaker c.place-reported.result _ _
          (λ status reported. (
            reported.0,
            inr (inr (record {
              x = x;
              noted = c.in-Ok.ensures;
              limit = limit;
              found = found;
              finds = finds;
              placed = subst (λ t. IsPlaced tasks.format t c.args.path.now found made left reported.0 status) c.deref-3.ensures.value reported.1;
            })),
            reported.2,
          )) c.place-reported.ensures.does.reported;
    }
