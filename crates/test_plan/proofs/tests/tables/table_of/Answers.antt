-- The table that is built is that of the route.
use Rattle.test_plan.proofs.TableLemmas.{built-is}
use Rattle.test_plan.proofs.tests.tables.table_of.Goals as goal

pub returns : goal.returns
returns c = built-is c.args.problem.now _ _ c.in_ok-table.ensures.course c.in_ok-table.ensures.route
