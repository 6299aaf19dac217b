-- The rows of a route, one visit after another.
use Rattle.std.proofs.Common.{◌≡◌, ℕ, ◌+◌, ◌-◌, ◌<◌, ◌≤◌, List, [], length, slice_index_or, ap, sym, arith, ◌∙◌}
use Rattle.std.proofs.lemmas.List.FromFn.{get_or-map-range_with_len, length-map-range_with_len}
use Rattle.plan_types.specs.Instance.{Instance}
use Rattle.plan_types.specs.declared.requests.Stop.{Stop}
use Rattle.route_sched.specs.Route.{place}
use Rattle.route_sched.specs.Schedule.{start}
use Rattle.route_sched.specs.VisitList.{visit_after, visits_from}
use Rattle.route_sched.specs.declared.visits.Visit.{Visit}
use Rattle.plan_audit.proofs.VisitLemmas.{visits_from-step}
use Rattle.route_sched.proofs.Steps.{start-next}
use Rattle.plan_explain.specs.Summaries.{waiting_time}
use Rattle.plan_explain.specs.Tables.{arrival, stop_visit_at, stop_visit_after, row_after, rows_of}
use Rattle.plan_explain.specs.declared.rows.Row.{Row}

-- no service starts before the arrival
arrives_before : (p : Instance) (route : List ℕ) (k : ℕ) → arrival p route k ≤ start p route (k + 1)
arrives_before p route k = omega (arith, start-next p route k)

module _ (p : Instance) (route : List ℕ) (k : ℕ) (last visit : Visit) (stop : last.stop ≡ place p route k) (begun : last.start ≡ start p route k) (is : visit ≡ visit_after p route k) where
  arrival_is : last.start + last.stop.service + visit.leg ≡ arrival p route k
  arrival_is = omega (arith, begun, ap (λ (s : Stop). s.service) stop, ap (λ (v : Visit). v.leg) is)

  -- the visit that the code builds is that of place k + 1
  pub stop_visit_is : stop_visit_at (k + 1) (last.start + last.stop.service + visit.leg) visit ≡ stop_visit_after p route k
  stop_visit_is = ap (λ a. stop_visit_at (k + 1) a visit) arrival_is ∙ ap (stop_visit_at (k + 1) (arrival p route k)) is

  -- the arrival at the visit is no later than its start
  pub in_time : last.start + last.stop.service + visit.leg ≤ visit.start
  in_time = omega (arith, arrival_is, arrives_before p route k, ap (λ (v : Visit). v.start) is)

-- the row at index k is that of place k + 1
row_at : (p : Instance) (route : List ℕ) (rows : List Row) (k : ℕ) (d : Row) → rows ≡ rows_of p route → k < length rows
    → slice_index_or rows k d ≡ row_after p route k
row_at p route rows k d are lt =
    let counted : length rows ≡ length route + 1 = ap length are ∙ length-map-range_with_len (row_after p route) 0 (length route + 1) in
    ap (λ rs. slice_index_or rs k d) are
    ∙ get_or-map-range_with_len (row_after p route) 0 (length route + 1) k k d (omega (arith, counted)) (omega arith)

-- if a place remains, a visit remains
pub none_left : (p : Instance) (route : List ℕ) (k : ℕ) (left : List Visit) → k ≤ length route → left ≡ visits_from p route k → left ≡ [] → ⊥
none_left p route k left within is none = absurd (omega (arith, ap length (sym none ∙ is ∙ visits_from-step p route k within)))

-- If the waiting time up to place k is at most the start there, this also holds at place k + 1.
pub waits_on : (p : Instance) (route : List ℕ) (rows : List Row) (k : ℕ) (d : Row) (so_far more : ℕ) → rows ≡ rows_of p route → k < length rows
    → so_far ≤ start p route k → more ≡ waiting_time (slice_index_or rows k d)
    → (so_far + more ≤ start p route (k + 1)) × (start p route (k + 1) ≡ (slice_index_or rows k d).start)
waits_on p route rows k d so_far more are lt bound is =
    let row = row_at p route rows k d are lt in
    let here : more ≡ start p route (k + 1) - arrival p route k = is ∙ ap waiting_time row in
    (omega (arith, here, arrives_before p route k), sym (ap (λ (r : Row). r.start) row))
