-- The vehicle is among the remaining entries exactly when it is among all, so the first of its entries decides;
-- at the end there is none.
use Rattle.std.proofs.Common.{◌≡◌, drop}
use Rattle.move_ops.specs.UndoLog.{is_logged}
use Rattle.move_ops.proofs.draft.Draft.entry_of.Given as goal

abbrev pub invariant-loop-entry : goal.invariant-loop-entry
invariant-loop-entry l = is_logged (drop l.entry l.self.log) l.vehicle ≡ is_logged l.self.log l.vehicle
