-- The count is the number of unplanned requests so far.
use Rattle.std.proofs.Common.{◌≡◌, ◌≤◌, not, count_by, take}
use Rattle.route_sched.specs.Cost.{is_planned}
use Rattle.plan_audit.proofs.scan.Scan.unplanned.Given as goal

abbrev pub invariant-loop-index : goal.invariant-loop-index
invariant-loop-index l = record {
  count : l.unplanned ≡ count_by (λ e. not (is_planned l.self.routes.now e.1)) (take l.index l.self.problem.now.requests);
  few : l.unplanned ≤ l.index;
}
