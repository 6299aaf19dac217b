-- If numbers ascend, and each belongs to a stop, they are known and distinct.
use Rattle.std.proofs.Common.{sym, ap, ◌∙◌, arith}
use Rattle.std.proofs.lemmas.List.{drop_all}
use Rattle.test_plan.proofs.AscendingLemmas.{live_once, rises_live}
use Rattle.test_plan.proofs.tests.builders.are_ascending_stops.Goals as goal

pub returns : goal.returns
returns c = λ _.
    live_once c.args.problem.now 0 c.args.numbers.now
    (sym c.loop-number.invariant
    ∙ ap (rises_live c.args.problem.now c.loop-number.last) (drop_all c.loop-number.number-index c.args.numbers.now (omega (arith, c.loop-number-test.false))))
