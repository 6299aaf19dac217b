-- Reading ends at the first cost line, and the line that is reported is after it.
use Rattle.plan_explain.proofs.AfterCostLemmas.{reading_ends_at_cost, reported_are_unread}
use Rattle.plan_explain.proofs.ignored_lines.reading_ends_at_the_cost_line.Goals as goal

pub returns-clause-ends : goal.returns-clause-ends
returns-clause-ends c = reading_ends_at_cost

pub returns-clause-unread : goal.returns-clause-unread
returns-clause-unread c = reported_are_unread
