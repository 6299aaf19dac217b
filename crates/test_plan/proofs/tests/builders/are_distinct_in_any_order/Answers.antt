-- If all stops passed the loop, they are known and distinct.
use Rattle.std.proofs.Common.{sym, ◌∙◌}
use Rattle.test_plan.proofs.LiveLemmas.{is_live_once, none_left}
use Rattle.test_plan.proofs.tests.builders.are_distinct_in_any_order.Goals as goal

pub returns : goal.returns
returns c = λ _.
    is_live_once c.args.problem.now c.args.stops.now
    (sym c.loop-left.invariant ∙ none_left c.args.problem.now c.loop-left.left.now c.in_default.len_below)
