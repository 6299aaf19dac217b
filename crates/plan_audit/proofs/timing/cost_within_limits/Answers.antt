-- Routes that keep the limits also keep the rules on loads and times.
use Rattle.std.proofs.Common.{arith}
use Rattle.plan_audit.proofs.DriveLemmas.{driven}
use Rattle.plan_audit.proofs.timing.cost_within_limits.Goals as goal

pub returns-clause-kept : goal.returns-clause-kept
returns-clause-kept c = driven c.args.problem.now c.args.routes.now (λ k lt. c.loop-route.invariant.kept k (omega arith))
