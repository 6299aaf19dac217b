-- A search state has the same plans with lists of nearest stops and without them
use Rattle.std.proofs.Common.{rules, ◌≡◌, refl, sym, ap, subst, ◌∙◌}
use Rattle.route_sched.specs.Cost.{cost_of}
use Rattle.move_ops.specs.Drafts.{base_of}
use Rattle.seeded_search.specs.SpatialIndex.{AreNearestStopLists}
use Rattle.seeded_search.specs.SearchStates.{IsSearchState}
use Rattle.seeded_search.proofs.SearchLemmas.{stayed_walk}
use Rattle.anneal_search.proofs.search.Annealing.begin.Goals as goal

pub returns-clause-annealing : goal.returns-clause-annealing
returns-clause-annealing c =
    let p = c.args.context.now.problem.now in
    let pins = c.args.context.now.pins.now.routes in
    let nearest_stops : AreNearestStopLists c.args.context.now.problem.now c.if-nearest_stops_pay_off.search_state.spatial_index = search rules in
    let same : record c.args.search_state { spatial_index = c.if-nearest_stops_pay_off.search_state.spatial_index } ≡ c.if-nearest_stops_pay_off.search_state = search rules in
    let draft : c.if-nearest_stops_pay_off.search_state.draft ≡ c.args.search_state.draft = search rules in
    record {
      search_state = subst (IsSearchState p pins) same (stayed_walk p pins c.args.search_state c.args.search_state.draft c.if-nearest_stops_pay_off.search_state.spatial_index c.requires nearest_stops c.requires.keeps.draft refl refl);
      work = c.cost-work.ensures ∙ ap (cost_of p) (c.requires.settled ∙ ap base_of (sym draft));
    }
