-- The rows so far, followed by the remaining rows with their delay, are all rows of the new route.
use Rattle.std.proofs.Common.{◌≡◌, ◌∷◌, ◌++◌, take, drop}
use Rattle.request_explanation.specs.MovedRows.{moved_from}
use Rattle.request_explanation.proofs.insertions.moved_rows.Given as goal

abbrev pub invariant-loop-index : goal.invariant-loop-index
invariant-loop-index l = l.new.items ++ moved_from l.left l.had_left l.stop.demand (drop l.index l.rows) ≡ take l.at l.rows ++
    (l.fn.row ∷ moved_from l.fn.now l.fn.before l.stop.demand (drop l.at l.rows))
