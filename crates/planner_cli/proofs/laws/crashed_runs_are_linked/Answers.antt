-- This follows from the law about crashes after the opening.
use Rattle.planner_cli.proofs.CrashLemmas.{runs_are_linked}
use Rattle.planner_cli.proofs.laws.crashed_runs_are_linked.Goals as goal

pub returns : goal.returns
returns g c = let law = c.crashed_runs_recover.ensures.following in (law.0, law.1, runs_are_linked g.D.Sectors g.E.Sectors law.0 law.1 law.2)
