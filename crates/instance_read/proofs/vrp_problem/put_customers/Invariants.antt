-- The problem has the customers of smaller nodes, and otherwise has not changed.
use Rattle.std.proofs.Common.{◌≡◌, ◌-◌, ◌≤◌}
use Rattle.instance_read.specs.DraftLines.{customers_in}
use Rattle.instance_read.proofs.vrp_problem.put_customers.Given as goal

-- the customers with smaller numbers are added
abbrev pub invariant-loop-number : goal.invariant-loop-number
invariant-loop-number l = record {
  from_one : 1 ≤ l.number;
  put : l.problem ≡ record l.fn.problem { requests = customers_in l.draft (l.number - 1); next_number = l.number };
}
