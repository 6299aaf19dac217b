-- The test `passes` is true exactly if the verdict of the plan is to pass.
use Rattle.plan_audit.proofs.LocalLemmas.{passes_decides_the_verdict}
use Rattle.plan_audit.proofs.laws.passes_decides_the_verdict.Goals as goal

pub returns : goal.returns
returns c = passes_decides_the_verdict
