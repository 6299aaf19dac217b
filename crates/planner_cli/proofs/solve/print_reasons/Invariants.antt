-- The reasons for the names so far were written.
use Rattle.std.proofs.Common.{take}
use Rattle.std.specs.Io.KnownBytes.{Appends}
use Rattle.planner_cli.specs.Solve.{reasons_text}
use Rattle.planner_cli.proofs.solve.print_reasons.Given as goal

abbrev pub invariant-loop-name : goal.invariant-loop-name
invariant-loop-name g l = Appends (g.E.Write.contents l.fn.errors) (g.E.Write.contents l.errors) (reasons_text l.job (take l.name-index l.names))
