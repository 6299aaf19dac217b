-- There is a visit after all stops, and it is the return.
use Rattle.std.proofs.Common.{◌≡◌, length, ap}
use Rattle.std.specs.Option.{option_map}
use Rattle.std.specs.List.{slice_get}
use Rattle.std.proofs.lemmas.Iterator.Consumers.{nth_from_yields_List, YieldsList-from_first}
use Rattle.route_sched.specs.VisitsValue.{VisitsValue}
use Rattle.route_sched.specs.VisitList.{visits_from}
use Rattle.route_sched.specs.declared.visits.Visit.{Visit}
use Rattle.plan_audit.proofs.VisitLemmas.{return_is, return_there}
use Rattle.plan_audit.proofs.timing.return_time.Goals as goal
use Rattle.plan_audit.proofs.timing.return_time.Goals.{After-nth}

-- the visit that `nth` returned is the return
nth_visit : (c : After-nth) → option_map (λ v. v) c.nth.result ≡ slice_get (visits_from c.args.problem.now c.args.route.now 0) (length c.args.route.now)
nth_visit c =
    nth_from_yields_List c.nth.result c.nth.new.self (length c.args.route.now) c.nth.ensures.ran
    (YieldsList-from_first (λ v. v) (λ v. visits_from v.problem v.route v.place) (visits_from c.args.problem.now c.args.route.now 0)
    (ap (λ (v : VisitsValue). visits_from v.problem v.route v.place) c.new.ensures))

pub returns : goal.returns
returns c =
    ap (λ (v : Visit). v.start)
    (return_is c.args.problem.now c.args.route.now c.nth.result c.in-Some.visit c.in-Some.is (nth_visit (goal.at.returns c).After-nth))

pub unreachable-requires : goal.unreachable-requires
unreachable-requires c =
    absurd (return_there c.args.problem.now c.args.route.now c.nth.result c.in-None.is (nth_visit (goal.at.unreachable-requires c).After-nth))
