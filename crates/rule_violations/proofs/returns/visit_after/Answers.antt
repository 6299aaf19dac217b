-- Up to the return to the depot there is a visit after each place, and it is the one in the schedule.
use Rattle.std.proofs.Common.{◌≡◌, ap}
use Rattle.std.specs.List.{slice_get}
use Rattle.std.specs.Option.{option_map}
use Rattle.std.proofs.lemmas.Iterator.Consumers.{nth_from_yields_List, YieldsList-from_first}
use Rattle.route_sched.specs.VisitsValue.{VisitsValue}
use Rattle.route_sched.specs.VisitList.{visits_from}
use Rattle.rule_violations.proofs.StepLemmas.{visit_there, visit_reported}
use Rattle.rule_violations.proofs.returns.visit_after.Goals as goal
use Rattle.rule_violations.proofs.returns.visit_after.Goals.{After-nth}

-- the visit that `nth` returned is the visit after this place
nth_visit : (c : After-nth) → option_map (λ v. v) c.nth.result ≡ slice_get (visits_from c.args.problem.now c.args.route.now 0) c.args.place
nth_visit c =
    nth_from_yields_List c.nth.result c.nth.new.self c.args.place c.nth.ensures.ran
    (YieldsList-from_first (λ v. v) (λ v. visits_from v.problem v.route v.place) (visits_from c.args.problem.now c.args.route.now 0)
    (ap (λ (v : VisitsValue). visits_from v.problem v.route v.place) c.new.ensures))

pub returns : goal.returns
returns c =
    visit_reported c.args.problem.now c.args.route.now c.args.place c.nth.result c.in-Some.visit c.requires.within c.in-Some.is
    (nth_visit (goal.at.returns c).After-nth)

pub unreachable-requires : goal.unreachable-requires
unreachable-requires c =
    absurd (visit_there c.args.problem.now c.args.route.now c.args.place c.nth.result c.requires.within c.in-None.is
    (nth_visit (goal.at.unreachable-requires c).After-nth))
