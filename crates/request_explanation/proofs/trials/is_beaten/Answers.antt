-- A trial that is no shorter than the best one, and violates at least as much, does not replace it.
use Rattle.std.proofs.Common.{◌≡◌, ◌∙◌, ◌≤◌, ◌+◌, ◌==◌, false, not, ap, sym, arith}
use Rattle.std.proofs.lemmas.Bool.{and_parts, eqb-true, not-true}
use Rattle.route_sched.specs.Schedule.{route_length}
use Rattle.request_explanation.specs.LimitViolations.{excess_of, is_overload}
use Rattle.request_explanation.specs.Insertions.{route_with}
use Rattle.request_explanation.specs.Trials.{trial_of}
use Rattle.request_explanation.proofs.BestLemmas.{best_stays, by_excess}
use Rattle.request_explanation.proofs.InsertionLemmas.{distance_reported}
use Rattle.request_explanation.proofs.trials.is_beaten.Goals as goal

pub returns-in-None : goal.returns-in-None
returns-in-None c = λ beaten number pickup is.
    let p = c.args.problem.now in
    let tour = c.args.tour.now in
    let at = c.args.at in
    let best = c.in-Some.best in
    let trial = trial_of p (route_with tour at number) pickup (at + 1) in
    let far = distance_reported p tour at c.requires.tour c.requires.within.0 c.requires.within.1 c.args.detour.now c.requires.detour number is c.args.distance c.requires.far in
    let longer : best.distance ≤ route_length p (route_with tour at number) = omega (arith, far, c.if-distance-best.false) in
    let light : is_overload best.violation ≡ false = ap is_overload c.in-None.is in
    let nothing : excess_of best.violation ≡ 0 = ap excess_of c.in-None.is in
    rw c.in-Some.is (sym (best_stays best trial (by_excess best trial light (omega (arith, nothing)) longer)))

pub returns-then-is_late_by_one : goal.returns-then-is_late_by_one
returns-then-is_late_by_one c = λ beaten number pickup is.
    let p = c.args.problem.now in
    let tour = c.args.tour.now in
    let at = c.args.at in
    let best = c.in-Some.best in
    let trial = trial_of p (route_with tour at number) pickup (at + 1) in
    let far = distance_reported p tour at c.requires.tour c.requires.within.0 c.requires.within.1 c.args.detour.now c.requires.detour number is c.args.distance c.requires.far in
    let longer : best.distance ≤ route_length p (route_with tour at number) = omega (arith, far, c.if-distance-best.false) in
    let one = and_parts (not (is_overload best.violation)) (excess_of best.violation == 1) (sym c.is_late_by_one.ensures ∙ c.if-is_late_by_one.true) in
    let excess : excess_of best.violation ≡ 1 = eqb-true _ _ one.1 in
    let more = c.surely_violates.ensures beaten number is in
    rw c.in-Some.is (sym (best_stays best trial (by_excess best trial (not-true _ one.0) (omega (arith, excess, more)) longer)))
