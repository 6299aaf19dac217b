-- The first position of the stop from this route on is its first position in all routes.
use Rattle.std.proofs.Common.{◌≡◌, ◌+◌, drop}
use Rattle.rule_violations.specs.Positions.{first_position, position_from}
use Rattle.rule_violations.proofs.positions.first_position.Given as goal

abbrev pub invariant-loop-number : goal.invariant-loop-number
invariant-loop-number l = position_from l.stop (l.number + 1) (drop l.number l.routes) ≡ first_position l.routes l.stop
