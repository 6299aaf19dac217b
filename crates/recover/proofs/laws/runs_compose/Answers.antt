-- `apply` is a run of one command, and two runs of a session are one run of the joined lists.
use Rattle.recover.proofs.CompositionLemmas.{applies_are_runs, runs_join, runs_compose}
use Rattle.recover.proofs.laws.runs_compose.Goals as goal

pub returns-clause-applied : goal.returns-clause-applied
returns-clause-applied g c = applies_are_runs g.D.Sectors

pub returns-clause-joined : goal.returns-clause-joined
returns-clause-joined g c = runs_join g.D.Sectors

pub returns-clause-moments : goal.returns-clause-moments
returns-clause-moments g c = runs_compose g.D.Sectors g.met.D.Sectors.only_now
