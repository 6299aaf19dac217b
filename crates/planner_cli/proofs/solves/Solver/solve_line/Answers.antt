-- A flush does not change the bytes that were written.
use Rattle.auditor_cli.proofs.ListLemmas.{flushed}
use Rattle.planner_cli.proofs.solves.Solver.solve_line.Goals as goal

pub returns-clause-does : goal.returns-clause-does
returns-clause-does g c =
    let does = c.in_ok-status.ensures.does in
    record {
      kept = does.kept;
      reported = (
        does.reported.0,
        does.reported.1,
        flushed (g.W.Write.contents c.args.output.now) (g.W.Write.contents c.solve_named.new.output) (g.W.Write.contents c.flush.new.self) does.reported.0 does.reported.2 c.in_ok-flush.ensures.bytes,
      );
    }
