-- Openings that crash or are refused leave only images that were possible before them.
use Rattle.recover.proofs.CompositionLemmas.{holds_over_stops, stopped_leave_the_same, refused_are_stopped, refused_are_repeated}
use Rattle.recover.proofs.laws.crashed_openings_can_be_retried.Goals as goal

pub returns-clause-over : goal.returns-clause-over
returns-clause-over g c =
    holds_over_stops g.D.Sectors g.E.Sectors c.commands_keep_invariants.ensures.many c.plans_never_cost_more.ensures c.passes_decides_the_verdict.ensures g.met.E.Sectors.reads_possible

pub returns-clause-same : goal.returns-clause-same
returns-clause-same g c = stopped_leave_the_same g.E.Sectors

pub returns-clause-refused : goal.returns-clause-refused
returns-clause-refused g c = refused_are_stopped g.E.Sectors g.met.E.Sectors.counts_now

pub returns-clause-retried : goal.returns-clause-retried
returns-clause-retried g c = refused_are_repeated g.E.Sectors
