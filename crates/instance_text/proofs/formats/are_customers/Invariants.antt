-- All requests are customers if the remaining ones are, with numbers from the index plus 1 on.
use Rattle.std.proofs.Common.{◌≡◌, ◌+◌, drop}
use Rattle.instance_text.specs.Formats.{are_customers}
use Rattle.instance_text.proofs.formats.are_customers.Given as goal

abbrev pub invariant-loop-index : goal.invariant-loop-index
invariant-loop-index l = record {
  place : l.number ≡ l.index + 1;
  left : are_customers l.number (drop l.index l.problem.requests) ≡ are_customers 1 l.problem.requests;
}
