-- A request that is not planned is appended.
use Rattle.rule_violations.proofs.StepLemmas.{unserved_kept}
use Rattle.rule_violations.proofs.missing.add_unserved.Goals as goal

pub loop-index-preserved : goal.loop-index-preserved
loop-index-preserved c =
    unserved_kept c.args.routes.now c.args.problem.now.requests c.loop-index.index _ _ _ c.unserved_violation.result c.in_ok-add.ensures c.unserved_violation.ensures
    c.loop-index.invariant
