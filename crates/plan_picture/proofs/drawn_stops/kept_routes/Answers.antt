-- The kept stops of the next route follow those of the routes before it.
use Rattle.std.proofs.Common.{◌≡◌, ◌∙◌, ◌+◌, ◌++◌, ◌∷◌, [], map, drop, ap, sym, append_assoc, drop-cons, rules}
use Rattle.std.proofs.lemmas.List.Elements.{All-append, All-cons, All-nil}
use Rattle.route_sched.specs.Route.{AreDistinctStops}
use Rattle.plan_picture.specs.DrawnStops.{kept_of}
use Rattle.plan_picture.proofs.drawn_stops.kept_routes.Goals as goal

pub loop-route-preserved : goal.loop-route-preserved
loop-route-preserved c =
    let p = c.args.problem.now in
    let routes = c.args.routes.now in
    let i = c.loop-route.route-index in
    let kept = c.loop-route.kept.items in
    let route = c.route-item.result in
    let split : drop i routes ≡ route ∷ drop (i + 1) routes = search (rules, drop-cons, c.route-item.is) in
    let one = c.in_ok-kept_route.ensures.kept ∙ ap (kept_of p) c.as_slice.ensures in
    record {
      kept = ap (λ k. k ++ map (kept_of p) (drop (i + 1) routes)) (c.in_ok-push.ensures.items ∙ ap (λ k. kept ++ k ∷ []) one)
          ∙ (append_assoc kept (kept_of p route ∷ []) (map (kept_of p) (drop (i + 1) routes)) ∙ (ap (λ r. kept ++ map (kept_of p) r) (sym split) ∙ c.loop-route.invariant.kept));
      once = rw c.in_ok-push.ensures.items
          (All-append (AreDistinctStops p) kept _ c.loop-route.invariant.once
          (All-cons (AreDistinctStops p) _ [] c.in_ok-kept_route.ensures.once (All-nil (AreDistinctStops p))));
    }
