-- The visits so far keep the limits.
use Rattle.test_plan.proofs.TableLemmas.{KeepTo}
use Rattle.test_plan.proofs.tests.tables.all_keep.Given as goal

abbrev pub invariant-loop-visit : goal.invariant-loop-visit
invariant-loop-visit l = KeepTo l.kind l.capacity l.visits l.visit-index
