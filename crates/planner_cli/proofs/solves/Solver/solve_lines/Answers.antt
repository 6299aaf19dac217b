-- Each line adds its own result. After the last line, everything is printed.
use Rattle.std.proofs.Common.{◌≡◌, ◌∷◌, [], refl, rules, arith}
use Rattle.command_line.specs.Invocations.{tasks_of}
use Rattle.planner_cli.specs.Solves.{IsSolvedLine, file_effects}
use Rattle.auditor_cli.proofs.ListLemmas.{all_reported, left_as, line_reported, nothing_reported, status_as}
use Rattle.planner_cli.proofs.SolvesLemmas.{all_grown}
use Rattle.planner_cli.proofs.solves.Solver.solve_lines.Goals as goal

pub loop-line-init : goal.loop-line-init
loop-line-init g c =
    let before = g.W.Write.contents c.args.output.now in
    let was = file_effects g.F.ReadFiles.reads g.N.WriteFiles.writes g.E.Write.contents c.args.files.now c.args.new_files.now c.args.errors.now in
    let same : c.args.lines ≡ c.into_iter-line-iterator.result = search rules in (
      left_as _ _ _ _ was before c.args.lines c.into_iter-line-iterator.result 0 same (nothing_reported (IsSolvedLine (tasks_of c.args.self.now.tasks)) c.args.lines was before),
      omega arith,
      (([], refl), ([], refl)),
    )

pub loop-line-preserved : goal.loop-line-preserved
loop-line-preserved g c =
    let does = IsSolvedLine (tasks_of c.args.self.now.tasks) in
    let at = file_effects g.F.ReadFiles.reads g.N.WriteFiles.writes g.E.Write.contents in
    let before = g.W.Write.contents c.args.output.now in
    let now = g.W.Write.contents c.loop-line.output in
    let after = g.W.Write.contents c.solve_line.new.output in
    let was = at c.args.files.now c.args.new_files.now c.args.errors.now in
    let next = at c.loop-line.files c.loop-line.new_files c.loop-line.errors in
    let later = at c.solve_line.new.files c.solve_line.new.new_files c.solve_line.new.errors in
    let rest = c.next.new.self in
    let line = c.in-Some.line.now in
    let status = c.in_ok-status.status in
    let greatest = c.loop-line.greatest in
    let step : c.loop-line.line-iterator ≡ line ∷ rest = search rules in (
      status_as _ _ _ _ later after rest _ c.worse_status-greatest.result c.worse_status-greatest.ensures.value
          (line_reported does c.args.lines was before next later now after line rest greatest status
          (left_as _ _ _ _ next now c.loop-line.line-iterator (line ∷ rest) greatest step c.loop-line.invariant.0) c.in_ok-status.ensures.does.reported),
      c.worse_status-greatest.ensures.bound,
      all_grown was next later c.loop-line.invariant.2 c.solve_line.ensures.does.kept,
    )

pub returns-in_err-status-clause-does : goal.returns-in_err-status-clause-does
returns-in_err-status-clause-does g c =
    let at = file_effects g.F.ReadFiles.reads g.N.WriteFiles.writes g.E.Write.contents in
    record {
      kept = all_grown (at c.args.files.now c.args.new_files.now c.args.errors.now) (at c.loop-line.files c.loop-line.new_files c.loop-line.errors)
          (at c.solve_line.new.files c.solve_line.new.new_files c.solve_line.new.errors) c.loop-line.invariant.2 c.solve_line.ensures.does.kept;
      reported = search rules;
    }

pub returns-clause-does : goal.returns-clause-does
returns-clause-does g c =
    let now = g.W.Write.contents c.loop-line.output in
    let next = file_effects g.F.ReadFiles.reads g.N.WriteFiles.writes g.E.Write.contents c.loop-line.files c.loop-line.new_files c.loop-line.errors in
    let none_left : c.loop-line.line-iterator ≡ [] = search rules in
    record {
      kept = c.loop-line.invariant.2;
      reported = all_reported _ _ _ _ next now c.loop-line.greatest (left_as _ _ _ _ next now c.loop-line.line-iterator [] c.loop-line.greatest none_left c.loop-line.invariant.0);
    }
