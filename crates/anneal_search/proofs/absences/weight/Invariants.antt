-- The sum so far and the weight of the remaining names add up to the weight of all names, and the sum does not
-- overflow
use Rattle.std.proofs.Common.{◌≡◌, ◌+◌, ◌*◌, ◌^◌, ◌≤◌, drop}
use Rattle.anneal_search.specs.AttemptState.{weight}
use Rattle.anneal_search.proofs.absences.weight.Given as goal

abbrev pub invariant-loop-name : goal.invariant-loop-name
invariant-loop-name l = record {
  sum : l.sum + weight l.absences (drop l.name-index l.names) ≡ weight l.absences l.names;
  bound : l.sum ≤ l.name-index * 2 ^ 64;
}
