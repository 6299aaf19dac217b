-- If the nearest stops are sorted by distance, the first stop found in a route is the nearest stop of that
-- route. So the first `count` routes found are the nearest ones.
use Rattle.std.proofs.Common.{rules, ◌≡◌, ◌+◌, ◌<◌, ◌≤◌, false, length, refl, sym, ap, subst, ◌∙◌, arith}
use Rattle.std.specs.Prelude.{slice_index}
use Rattle.route_sched.specs.Cost.{has_stop}
use Rattle.move_ops.specs.Drafts.{draft_of}
use Rattle.anneal_search.specs.NearestRoutes.{nearest_routes}
use Rattle.anneal_search.specs.NearestStops.{with_near, HaveMet, IsAtPlace}
use Rattle.anneal_search.proofs.ScanOrderLemmas.{few_with, met_all, met_many, met_nowhere, met_with}
use Rattle.anneal_search.proofs.HintLemmas.{nowhere, stop_there, known_there, once_there}
use Rattle.anneal_search.proofs.routes_by_nearest_stops.scan_nearest_stops.Goals as goal
use Rattle.anneal_search.proofs.routes_by_nearest_stops.scan_nearest_stops.Goals.{in-Some+in_ok-note-in-Some, in-None+else-has_stop}
use Rattle.anneal_search.proofs.routes_by_nearest_stops.scan_nearest_stops.Goals.{then-len-count-2-via-then-len-count-2, then-len-count-2-via-else-len-count-2+then-nearest-lt16}

pub returns-then-len-count : goal.returns-then-len-count
returns-then-len-count c =
    let p = c.args.problem.now in
    let center = c.args.center.now in
    let routes = draft_of c.args.draft.now in
    let is = c.requires.draft in
    let known = known_there c.passing_is_local.ensures c.plans_are_disjoint_routes.ensures p is.0 routes is.1.draft in
    let once = once_there c.passing_is_local.ensures c.plans_are_disjoint_routes.ensures p is.0 routes is.1.draft in
    let full : length c.loop-index.nears.items ≡ c.args.count = search rules in
    met_many p center routes c.args.nearest.now c.requires.nearest known once c.loop-index.index c.loop-index.nears.items c.loop-index.invariant.met
    ∙ ap (nearest_routes p center routes) full

pub loop-index-preserved : goal.loop-index-preserved
loop-index-preserved c =
    let p = c.args.problem.now in
    let center = c.args.center.now in
    let routes = draft_of c.args.draft.now in
    let nearest = c.args.nearest.now in
    let nears = c.loop-index.nears.items in
    let is = c.requires.draft in
    let known = known_there c.passing_is_local.ensures c.plans_are_disjoint_routes.ensures p is.0 routes is.1.draft in
    let once = once_there c.passing_is_local.ensures c.plans_are_disjoint_routes.ensures p is.0 routes is.1.draft in
    let stop = slice_index c.args.nearest.now c.loop-index.index in
    let within : c.loop-index.index < length c.args.nearest.now = search rules in
    let few : length c.loop-index.nears.items + 1 ≤ c.args.count = search rules in
    elim c.match-place_of.branch [
      | in-Some+in_ok-note-in-Some w ↦ (
          let found : IsAtPlace (draft_of c.args.draft.now) (slice_index c.args.nearest.now c.loop-index.index) w.in-Some.route_place = search rules in
          let made : c.match-place_of.nears.items ≡ with_near c.args.problem.now c.args.center.now w.in-Some.route_place
          (slice_index c.args.nearest.now c.loop-index.index) c.loop-index.nears.items = search rules in
          record {
            met = subst (HaveMet p center routes nearest (c.loop-index.index + 1)) (sym made)
                (met_with p center routes nearest c.requires.nearest known once c.loop-index.index stop w.in-Some.route_place nears within refl
                (stop_there routes stop w.in-Some.route_place found) c.loop-index.invariant.met);
            few = (let e = ap length made in let f = few_with p center w.in-Some.route_place stop nears in omega arith);
          })
      | in-None+else-has_stop w ↦ (
          let none : has_stop (draft_of c.args.draft.now) (slice_index c.args.nearest.now c.loop-index.index) ≡ false = search rules in
          let made : c.match-place_of.nears.items ≡ c.loop-index.nears.items = search rules in
          record {
            met = subst (HaveMet p center routes nearest (c.loop-index.index + 1)) (sym made)
                (met_nowhere p center routes nearest c.requires.nearest known once c.loop-index.index stop nears refl (nowhere routes stop none) c.loop-index.invariant.met);
            few = (let e = ap length made in let f = c.loop-index.invariant.few in omega arith);
          })
    ]

pub returns-then-len-count-2 : goal.returns-then-len-count-2
returns-then-len-count-2 c =
    let p = c.args.problem.now in
    let center = c.args.center.now in
    let routes = draft_of c.args.draft.now in
    let nearest = c.args.nearest.now in
    let nears = c.loop-index.nears.items in
    let is = c.requires.draft in
    let known = known_there c.passing_is_local.ensures c.plans_are_disjoint_routes.ensures p is.0 routes is.1.draft in
    let once = once_there c.passing_is_local.ensures c.plans_are_disjoint_routes.ensures p is.0 routes is.1.draft in
    elim c.then-len-count-2.branch [
      | then-len-count-2-via-then-len-count-2 w ↦ (
          let full : length c.loop-index.nears.items ≡ c.args.count = search rules in
          met_many p center routes nearest c.requires.nearest known once c.loop-index.index nears c.loop-index.invariant.met ∙ ap (nearest_routes p center routes) full)
      | then-len-count-2-via-else-len-count-2+then-nearest-lt16 w ↦ (
          let short : length c.args.nearest.now < 16 = search rules in
          let end : c.loop-index.index ≡ length c.args.nearest.now = search rules in
          met_all p center routes nearest c.requires.nearest known once nears c.args.count short (subst
          (λ k. HaveMet p center routes nearest k nears) end c.loop-index.invariant.met) c.loop-index.invariant.few)
    ]
