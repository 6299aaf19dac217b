-- Each route has its line with each of its legs. If the stops of a route are known and distinct, none of them
-- is left out.
use Rattle.plan_picture.proofs.LawProofs.{routes_are_drawn}
use Rattle.plan_picture.proofs.LegLemmas.{legs_are_drawn, routes_are_kept}
use Rattle.plan_picture.proofs.laws.legs_are_drawn.Goals as goal

pub returns : goal.returns
returns c = record { routes = routes_are_drawn; kept = routes_are_kept; legs = legs_are_drawn }
