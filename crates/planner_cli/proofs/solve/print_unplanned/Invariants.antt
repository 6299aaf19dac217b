-- The names so far were written.
use Rattle.std.proofs.Common.{◌++◌, length, take, codes}
use Rattle.std.specs.Prelude.{decimal}
use Rattle.std.specs.Io.KnownBytes.{Appends}
use Rattle.sol_text.specs.Written.{customers_text}
use Rattle.planner_cli.proofs.solve.print_unplanned.Given as goal

abbrev pub invariant-loop-name : goal.invariant-loop-name
invariant-loop-name g l =
    Appends (g.E.Write.contents l.fn.errors) (g.E.Write.contents l.errors) (codes "unplanned " ++ decimal (length l.names) ++ codes ":" ++ customers_text (take l.name-index l.names))
