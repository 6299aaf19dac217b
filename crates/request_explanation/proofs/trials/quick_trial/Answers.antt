-- The violation with the detour, and the distance with it, are those of the trial at this place.
use Rattle.std.proofs.Common.{◌+◌, ap}
use Rattle.request_explanation.specs.Insertions.{route_with}
use Rattle.request_explanation.specs.Trials.{better}
use Rattle.request_explanation.proofs.InsertionLemmas.{distance_reported}
use Rattle.request_explanation.proofs.TrialLemmas.{same_trial}
use Rattle.request_explanation.proofs.trials.quick_trial.Goals as goal

pub returns : goal.returns
returns c = λ number is.
    let p = c.args.problem.now in
    let tour = c.args.tour.now in
    let at = c.args.at in
    let longer = c.in_ok-distance.distance in
    let far = distance_reported p tour at c.requires.tour c.requires.within.0 c.requires.within.1 c.of-detour.result c.of-detour.ensures number is longer c.in_ok-distance.ensures in
    ap (better c.args.best.now) (same_trial p (route_with tour at number) c.args.pickup (at + 1) c.in_ok-violation.violation longer (c.in_ok-violation.ensures number is) far)
