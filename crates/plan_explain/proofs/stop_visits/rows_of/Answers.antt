-- The rows of a route are those of its visits.
use Rattle.std.proofs.Common.{◌≡◌, ◌∙◌, ℕ, List, [], ◌∷◌, map, refl, ap, length, ◌+◌}
use Rattle.std.specs.List.{range_with_len}
use Rattle.std.proofs.lemmas.Result.{IfOk-weaker}
use Rattle.plan_types.specs.Instance.{Instance}
use Rattle.plan_explain.specs.Tables.{row_after, stop_visit_after}
use Rattle.plan_explain.specs.declared.rows.Row.{Row}
use Rattle.plan_explain.specs.declared.stop_visits.StopVisit.{StopVisit}
use Rattle.plan_explain.proofs.stop_visits.rows_of.Goals as goal

rows_reported : (p : Instance) (route : List ℕ) (ks : List ℕ) → map (λ (h : StopVisit). h.row) (map (stop_visit_after p route) ks) ≡ map (row_after p route) ks
rows_reported p route [] = refl
rows_reported p route (k ∷ ks) = ap (λ (rs : List Row). row_after p route k ∷ rs) (rows_reported p route ks)

pub returns : goal.returns
returns c =
    let reported : List StopVisit → List Row = map (λ (h : StopVisit). h.row) in
    IfOk-weaker c.rows_at.result _ _
    (λ rows are. are ∙ ap reported (c.as_slice.ensures.value ∙ c.in_ok-visits.ensures) ∙ rows_reported c.args.problem.now c.args.route.now (range_with_len 0 (length c.args.route.now + 1)))
    c.rows_at.ensures
