-- The changes so far are those of the vehicles so far, so at the end they are those of all.
use Rattle.std.proofs.Common.{◌≡◌, map, take}
use Rattle.move_ops.specs.Drafts.{draft_of}
use Rattle.move_ops.specs.Moves.{counterpart}
use Rattle.move_ops.proofs.VehicleListLemmas.{change_at}
use Rattle.move_ops.proofs.draft.Draft.exchanges_at.Given as goal

abbrev pub invariant-loop-vehicle : goal.invariant-loop-vehicle
invariant-loop-vehicle l = l.changes.items ≡ map (change_at (map (counterpart l.first l.second)) (draft_of l.self)) (take l.vehicle-index l.vehicles)
