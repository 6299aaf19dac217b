-- The first unplanned request from this one on is the first of all unplanned requests.
use Rattle.std.proofs.Common.{◌≡◌, drop}
use Rattle.plan_audit.specs.FirstFault.{first_unserved}
use Rattle.plan_audit.proofs.scan.Scan.first_unserved.Given as goal

abbrev pub invariant-loop-index : goal.invariant-loop-index
invariant-loop-index l =
    first_unserved l.self.routes.now (drop l.index l.self.problem.now.requests) ≡ first_unserved l.self.routes.now l.self.problem.now.requests
