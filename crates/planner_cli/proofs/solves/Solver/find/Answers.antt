-- The progress lines are discarded.
use Rattle.std.proofs.Common.{None}
use Rattle.planner_cli.proofs.solves.Solver.find.Goals as goal

pub returns : goal.returns
returns c = record { before = None; later = None; solves = c.solve.ensures }
