-- If the vehicle arrives at the place after the inserted stop later than the latest arrival there, the route
-- has a violation of at least 1.
use Rattle.std.proofs.Common.{◌≡◌, pos, subst}
use Rattle.std.proofs.lemmas.Bool.{ltb-true}
use Rattle.plan_types.specs.Instance.{Instance}
use Rattle.plan_types.specs.declared.requests.Kind.TheVariants.{LiLim}
use Rattle.plan_explain.specs.declared.rows.Row.{Row}
use Rattle.request_explanation.proofs.LatestArrivalLemmas.{missed_reported}
use Rattle.request_explanation.proofs.insertions.surely_violates.Goals as goal

pub returns-in-Some : goal.returns-in-Some
returns-in-Some c = λ late number is.
    let none : Row = record { place = 0; stop = 0; arrival = 0; start = 0; earliest = 0; latest = 0; load = pos 0 } in
    missed_reported c.args.problem.now c.args.tour.now c.args.at c.requires.tour c.requires.within.0 c.requires.within.1 c.args.detour.now c.requires.detour number is none c.in-Some.arrival
    (subst (λ (q : Instance). q.kind ≡ LiLim) c.problem.view_is c.in-LiLim.is) (c.in-Some.ensures none) (ltb-true _ _ late)
