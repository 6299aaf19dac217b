-- The results of the lines so far were printed.
use Rattle.std.proofs.Common.{◌≤◌}
use Rattle.command_line.specs.Invocations.{tasks_of}
use Rattle.planner_cli.specs.Solves.{AreGrown, IsSolvedLine, file_effects}
use Rattle.auditor_cli.proofs.ListLemmas.{IsSoFar}
use Rattle.planner_cli.proofs.solves.Solver.solve_lines.Given as goal

abbrev pub invariant-loop-line : goal.invariant-loop-line
invariant-loop-line g l =
    let was = file_effects g.F.ReadFiles.reads g.N.WriteFiles.writes g.E.Write.contents l.fn.files l.fn.new_files l.fn.errors in
    let now = file_effects g.F.ReadFiles.reads g.N.WriteFiles.writes g.E.Write.contents l.files l.new_files l.errors in
    IsSoFar (IsSolvedLine (tasks_of l.fn.self.tasks)) l.fn.lines was (g.W.Write.contents l.fn.output) now (g.W.Write.contents l.output) l.line-iterator l.greatest
    × (l.greatest ≤ 4)
    × AreGrown was now
