-- If the delivery is inserted at the end, the stops before it are the route with only the pickup: a tour whose
-- rows and distance are known.
use Rattle.std.proofs.Common.{◌≡◌, ◌∙◌, ◌+◌, ◌-◌, ap, sym, subst, arith, take, length}
use Rattle.std.specs.List.{insert}
use Rattle.std.proofs.lemmas.List.Edits.{length-insert}
use Rattle.std.proofs.lemmas.List.FromFn.{length-map-range_with_len}
use Rattle.route_sched.specs.Route.{AreDistinctStops, place}
use Rattle.route_sched.proofs.KnownStops.{front_once}
use Rattle.plan_explain.specs.Tables.{row_after}
use Rattle.request_explanation.specs.LatestArrivals.{AreLatestArrivals}
use Rattle.request_explanation.proofs.InsertionLemmas.{place_put, take_last}
use Rattle.request_explanation.proofs.trials.best_delivery.Goals as goal

pub rows_with_pickup-requires-clause-once : goal.rows_with_pickup-requires-clause-once
rows_with_pickup-requires-clause-once c =
    let p = c.args.problem.now in
    let end = length c.args.route.now + 1 in
    front_once p c.as_slice-2.result.now end (subst (AreDistinctStops p) (sym (c.as_slice-2.ensures.value ∙ c.in_ok-whole.ensures)) (c.requires.once.once c.args.place (length c.args.route.now + 2)))

pub rows_with_pickup-requires-clause-picked : goal.rows_with_pickup-requires-clause-picked
rows_with_pickup-requires-clause-picked c =
    let route = c.args.route.now in
    let at = c.args.place - 1 in
    let number = c.args.pickup.now.number in
    let longer = length-insert route at number (omega (arith, c.requires.from, c.requires.within)) in
    let front = ap (take (length route + 1)) (c.as_slice-2.ensures.value ∙ c.in_ok-whole.ensures)
    ∙ take_last (insert route at number) (length route + 1) (length route + 2 - 1) c.args.delivery.now.number (omega (arith, longer))
    (omega (arith, longer)) in
    record { number = number; is = c.requires.base.number; put = front ∙ ap (λ r. insert r at number) (sym c.requires.base.same) }

pub distance_with_pickup-requires-clause-once : goal.distance_with_pickup-requires-clause-once
distance_with_pickup-requires-clause-once c =
    let p = c.args.problem.now in
    let end = length c.args.route.now + 1 in
    front_once p c.as_slice-2.result.now end (subst (AreDistinctStops p) (sym (c.as_slice-2.ensures.value ∙ c.in_ok-whole.ensures)) (c.requires.once.once c.args.place (length c.args.route.now + 2)))

pub distance_with_pickup-requires-clause-picked : goal.distance_with_pickup-requires-clause-picked
distance_with_pickup-requires-clause-picked c =
    let route = c.args.route.now in
    let at = c.args.place - 1 in
    let number = c.args.pickup.now.number in
    let longer = length-insert route at number (omega (arith, c.requires.from, c.requires.within)) in
    let front = ap (take (length route + 1)) (c.as_slice-2.ensures.value ∙ c.in_ok-whole.ensures)
    ∙ take_last (insert route at number) (length route + 1) (length route + 2 - 1) c.args.delivery.now.number (omega (arith, longer))
    (omega (arith, longer)) in
    record { number = number; is = c.requires.base.number; put = front ∙ ap (λ r. insert r at number) (sym c.requires.base.same) }

pub best_delivery_after-requires-clause-tour : goal.best_delivery_after-requires-clause-tour
best_delivery_after-requires-clause-tour c =
    let p = c.args.problem.now in
    let end = length c.args.route.now + 1 in
    let picked = take end c.as_slice-2.result.now in
    let is = c.as_slice-4.ensures.value ∙ c.in_ok-rows.ensures in
    let latest_arrivals = subst (λ ls. AreLatestArrivals c.as_slice-4.result.now ls) (sym c.as_slice-5.ensures.value)
    (subst (λ rs. AreLatestArrivals rs c.in_ok-latest_arrivals.latest_arrivals.items) (c.as_slice-3.ensures.value ∙ sym c.as_slice-4.ensures.value) c.in_ok-latest_arrivals.ensures) in
    record {
      once = front_once p c.as_slice-2.result.now end
          (subst (AreDistinctStops p) (sym (c.as_slice-2.ensures.value ∙ c.in_ok-whole.ensures)) (c.requires.once.once c.args.place (length c.args.route.now + 2)));
      rows = is;
      long = ap length is ∙ length-map-range_with_len (row_after p picked) 0 (length picked + 1);
      latest_arrivals = latest_arrivals;
      distance = c.distance_with_pickup.ensures;
      visit = c.next_stop-stop.ensures.visit;
    }

pub best_delivery_after-requires-clause-number : goal.best_delivery_after-requires-clause-number
best_delivery_after-requires-clause-number c =
    let p = c.args.problem.now in
    let route = c.args.route.now in
    let end = length route + 1 in
    let number = c.args.delivery.now.number in
    let picked = insert route (c.args.place - 1) c.args.pickup.now.number in
    let longer = length-insert route (c.args.place - 1) c.args.pickup.now.number (omega (arith, c.requires.from, c.requires.within)) in
    let last : length route + 2 - 1 ≡ end = omega arith in
    let whole = c.as_slice.ensures.value ∙ c.in_ok-whole.ensures in
    sym (c.next_stop-stop.ensures.value ∙ ap (λ r. place p r (end + 1)) whole ∙ ap (λ m. place p (insert picked m number) (end + 1)) last ∙ place_put p picked end number (omega (arith, longer)))
