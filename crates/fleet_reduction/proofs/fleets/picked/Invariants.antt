-- The lists picked so far and those of the remaining vehicles are all picked lists.
use Rattle.std.proofs.Common.{◌≡◌, ◌++◌, drop}
use Rattle.fleet_reduction.specs.Fleets.{picked}
use Rattle.fleet_reduction.proofs.fleets.picked.Given as goal

abbrev pub invariant-loop-index : goal.invariant-loop-index
invariant-loop-index l = l.routes ++ picked (drop l.index l.kept) (drop l.index l.lists) ≡ picked l.kept l.lists
