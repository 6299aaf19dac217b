-- One more visit keeps the limits.
use Rattle.test_plan.proofs.TableLemmas.{keep-more}
use Rattle.test_plan.proofs.tests.tables.all_keep.Goals as goal

pub loop-visit-preserved : goal.loop-visit-preserved
loop-visit-preserved c = keep-more c.args.kind c.args.capacity c.args.visits.now c.loop-visit.visit-index _ c.loop-visit.invariant c.loop-visit-test.true (c.keeps.ensures c.if-keeps.true)
