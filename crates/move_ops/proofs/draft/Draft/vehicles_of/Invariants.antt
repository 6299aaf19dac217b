-- So far all requests can be moved. Each vehicle with a stop of a named request is in the list, or has a stop of
-- a remaining name.
use Rattle.std.proofs.Common.{◌≡◌, drop}
use Rattle.std.specs.List.{list_all}
use Rattle.move_ops.specs.Changes.{AreIn}
use Rattle.move_ops.specs.Drafts.{draft_of}
use Rattle.move_ops.specs.Moves.{is_movable_name}
use Rattle.move_ops.proofs.VehicleListLemmas.{FoundSoFar}
use Rattle.move_ops.proofs.draft.Draft.vehicles_of.Given as goal

abbrev pub invariant-loop-name : goal.invariant-loop-name
invariant-loop-name l = record {
  movable : list_all (is_movable_name l.problem l.pins.routes (draft_of l.self)) (drop l.name-index l.names)
      ≡ list_all (is_movable_name l.problem l.pins.routes (draft_of l.self)) l.names;
  within : AreIn (draft_of l.self) l.vehicles.items;
  found : FoundSoFar (draft_of l.self) l.problem l.names (drop l.name-index l.names) l.vehicles.items;
}
