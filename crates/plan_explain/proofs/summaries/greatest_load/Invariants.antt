-- `greatest` is the greatest load of the rows so far, and at least 0.
use Rattle.std.proofs.Common.{◌≡◌, fold, map, pos, take}
use Rattle.std.specs.Int.{int_max}
use Rattle.plan_explain.proofs.summaries.greatest_load.Given as goal

abbrev pub invariant-loop-row : goal.invariant-loop-row
invariant-loop-row l = l.greatest ≡ fold int_max (pos 0) (map (λ r. r.load) (take l.row-index l.rows))
