-- The problem has the requests of the customers so far, and otherwise has not changed.
use Rattle.std.proofs.Common.{◌≡◌, map, take}
use Rattle.instance_read.specs.Solomon.{single_of}
use Rattle.instance_read.proofs.singles.put_singles.Given as goal

-- the requests of the customers so far are added
abbrev pub invariant-loop-customer : goal.invariant-loop-customer
invariant-loop-customer l =
    l.problem ≡ record l.fn.problem { requests = map single_of (take l.customer-index l.customers); next_number = l.problem.next_number }
