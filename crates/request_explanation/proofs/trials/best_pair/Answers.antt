-- If both stops are inserted at the end, the stops before them are the route: a tour whose rows and distance
-- are known.
use Rattle.std.proofs.Common.{◌≡◌, ◌∙◌, ◌+◌, ◌-◌, refl, ap, sym, subst, arith, length}
use Rattle.std.specs.List.{insert}
use Rattle.std.proofs.lemmas.List.Edits.{length-insert}
use Rattle.std.proofs.lemmas.List.FromFn.{length-map-range_with_len}
use Rattle.route_sched.specs.Route.{place}
use Rattle.plan_explain.specs.Tables.{row_after}
use Rattle.request_explanation.specs.LatestArrivals.{AreLatestArrivals}
use Rattle.request_explanation.proofs.InsertionLemmas.{live_without, place_before_put, place_put}
use Rattle.request_explanation.proofs.trials.best_pair.Goals as goal

pub rows_of-requires : goal.rows_of-requires
rows_of-requires c =
    let n = length c.args.route.now in
    live_without c.args.problem.now c.args.route.now c.args.pickup.now.number c.args.delivery.now.number (n + 1 - 1) (n + 1 + 1 - 1) (omega arith) (omega arith) (c.requires.once (n + 1) (n + 1 + 1))

pub route_distance-requires : goal.route_distance-requires
route_distance-requires c =
    let n = length c.args.route.now in
    live_without c.args.problem.now c.args.route.now c.args.pickup.now.number c.args.delivery.now.number (n + 1 - 1) (n + 1 + 1 - 1) (omega arith) (omega arith) (c.requires.once (n + 1) (n + 1 + 1))

pub best_pickup-requires-clause-base : goal.best_pickup-requires-clause-base
best_pickup-requires-clause-base c =
    let p = c.args.problem.now in
    let route = c.args.route.now in
    let n = length route in
    let a = c.args.pickup.now.number in
    let b = c.args.delivery.now.number in
    let is = c.as_slice-3.ensures.value ∙ c.in_ok-rows.ensures in
    let latest_arrivals = subst (λ ls. AreLatestArrivals c.as_slice-3.result.now ls) (sym c.as_slice-4.ensures.value)
    (subst (λ rs. AreLatestArrivals rs c.in_ok-latest_arrivals.latest_arrivals.items) (c.as_slice-2.ensures.value ∙ sym c.as_slice-3.ensures.value) c.in_ok-latest_arrivals.ensures) in
    let whole = c.as_slice.ensures.value ∙ c.in_ok-whole.ensures in
    let last : n + 1 - 1 ≡ n = omega arith in
    let longer : length (insert route (n + 1 - 1) a) ≡ n + 1 = length-insert route (n + 1 - 1) a (omega arith) in
    let stands = c.next_stop-stop.ensures.value ∙ ap (λ r. place p r (n + 1)) whole
    ∙ place_before_put p (insert route (n + 1 - 1) a) (n + 1 + 1 - 1) b (n + 1) (omega (arith, longer)) (omega arith)
    ∙ ap (λ m. place p (insert route m a) (n + 1)) last ∙ place_put p route n a (omega arith) in
    record {
      tour = record {
        once = live_without p route a b (n + 1 - 1) (n + 1 + 1 - 1) (omega arith) (omega arith) (c.requires.once (n + 1) (n + 1 + 1));
        rows = is;
        long = ap length is ∙ length-map-range_with_len (row_after p route) 0 (n + 1);
        latest_arrivals = latest_arrivals;
        distance = c.route_distance.ensures.value;
        visit = c.next_stop-stop.ensures.visit;
      };
      same = refl;
      number = sym stands;
    }
