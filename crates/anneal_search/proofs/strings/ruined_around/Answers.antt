-- The nearest stops, around which strings are cut, are in their routes, and so are the stops of these strings
use Rattle.std.proofs.Common.{All, sym, subst, ◌∙◌}
use Rattle.move_ops.specs.Drafts.{draft_of}
use Rattle.anneal_search.specs.StepLoops.{ArePlanned, IsInRoute}
use Rattle.anneal_search.proofs.NearLemmas.{routes_in_route}
use Rattle.anneal_search.proofs.PlannedLemmas.{strings_planned}
use Rattle.anneal_search.proofs.strings.ruined_around.Goals as goal

pub strings_of-requires-clause-places : goal.strings_of-requires-clause-places
strings_of-requires-clause-places c =
    let routes = draft_of c.args.draft.now in
    subst (All (IsInRoute routes)) (sym (c.deref.ensures.value
    ∙ c.in_ok-nears.ensures.nears)) (routes_in_route c.args.context.now.problem.now c.args.center.now routes c.route_count-count.result)

pub movable_of-requires-clause-planned : goal.movable_of-requires-clause-planned
movable_of-requires-clause-planned c =
    let routes = draft_of c.args.draft.now in
    subst (ArePlanned routes) (sym (c.deref-2.ensures.value ∙ c.in_ok-stops.ensures)) (strings_planned routes c.args.words.now c.longest-longest.result 0 c.deref.result.now)
