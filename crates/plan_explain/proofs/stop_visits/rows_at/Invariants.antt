-- The rows so far are those of the visits so far.
use Rattle.std.proofs.Common.{◌≡◌, map, take}
use Rattle.plan_explain.specs.declared.stop_visits.StopVisit.{StopVisit}
use Rattle.plan_explain.proofs.stop_visits.rows_at.Given as goal

abbrev pub invariant-loop-visit : goal.invariant-loop-visit
invariant-loop-visit l = l.rows.items ≡ map (λ (h : StopVisit). h.row) (take l.visit-index l.visits)
