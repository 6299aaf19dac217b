-- The first place of the stop from here on is its first place in the route.
use Rattle.std.proofs.Common.{◌≡◌, ◌+◌, drop}
use Rattle.plan_audit.specs.FirstFault.{place_of}
use Rattle.rule_violations.proofs.positions.place_in.Given as goal

abbrev pub invariant-loop-place : goal.invariant-loop-place
invariant-loop-place l = place_of l.stop (l.place + 1) (drop l.place l.route) ≡ place_of l.stop 1 l.route
