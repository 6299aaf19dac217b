-- The places of a table are those of its course. Their distances grow by the legs, and they have the prefixes
-- and stops of each problem with this course.
use Rattle.std.proofs.Common.{subst, sym}
use Rattle.slack_tables.specs.TableFields.{AreKnown}
use Rattle.slack_tables.proofs.BestLemmas.{linked}
use Rattle.slack_tables.proofs.PrefixLemmas.{knows-prefixes, knows-stops}
use Rattle.slack_tables.proofs.table.RouteTable.rows.Goals as goal

pub returns-clause-known : goal.returns-clause-known
returns-clause-known c =
    subst (λ xs. AreKnown c.args.self.now xs) (sym c.as_slice.ensures.value)
    (subst (λ q. AreKnown q c.self.inside.places.items) c.self.view_is c.self.invariant.0)

pub returns-clause-linked : goal.returns-clause-linked
returns-clause-linked c = linked c.args.self.now _ (returns-clause-known c)

pub returns-clause-prefixes : goal.returns-clause-prefixes
returns-clause-prefixes c = λ p is. knows-prefixes p c.args.self.now _ (returns-clause-known c) is

pub returns-clause-stops : goal.returns-clause-stops
returns-clause-stops c = λ p is. knows-stops p c.args.self.now _ (returns-clause-known c) is
