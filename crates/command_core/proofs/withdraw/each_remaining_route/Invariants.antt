-- The routes so far and those of the remaining vehicles make up the result
use Rattle.std.proofs.Common.{◌≡◌, ◌++◌, drop}
use Rattle.command_core.specs.Effects.{remaining_routes}
use Rattle.command_core.proofs.withdraw.each_remaining_route.Given as goal

abbrev pub invariant-loop-place : goal.invariant-loop-place
invariant-loop-place l = l.left ++ remaining_routes l.problem l.name (drop l.place l.pins) (drop l.place l.routes) ≡ remaining_routes l.problem l.name l.pins l.routes
