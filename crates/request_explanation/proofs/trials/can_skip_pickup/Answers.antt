-- The best trial stays in three cases: the rows up to the pickup violate more; or they violate no less, and the
-- pickup alone makes the route longer; or the best trial is late by 1, the route is longer, and the pickup
-- makes it late in any case.
use Rattle.std.proofs.Common.{◌≡◌, ◌∙◌, ◌<◌, ◌-◌, ◌==◌, true, false, not, sym, ap, arith}
use Rattle.std.proofs.lemmas.Bool.{and_parts, eqb-true, not-true}
use Rattle.route_sched.specs.Schedule.{route_length}
use Rattle.request_explanation.specs.LimitViolations.{excess_of, is_overload, violates_less}
use Rattle.request_explanation.specs.Insertions.{least_of, route_with}
use Rattle.request_explanation.proofs.AnywayLemmas.{stays_by_distance, stays_by_lateness, stays_by_miss}
use Rattle.request_explanation.proofs.InsertionLemmas.{distance_reported}
use Rattle.request_explanation.proofs.trials.can_skip_pickup.Goals as goal

pub returns-then-violates_less : goal.returns-then-violates_less
returns-then-violates_less c = λ passed a b is.
    let p = c.args.problem.now in
    let base = c.args.base.now in
    let place = c.args.place in
    let best = c.in-Some.best in
    let found = c.in-Some-violations_with.found in
    let less : violates_less best.violation (least_of found) ≡ true = ap (violates_less best.violation) (sym c.least.ensures) ∙ sym c.violates_less.ensures ∙ c.if-violates_less.true in
    rw c.in-Some.is (sym (stays_by_miss p base place (omega arith) (omega arith) a b best found (c.in-Some-violations_with.ensures a.number is) less))

pub returns-then-not-violates_less : goal.returns-then-not-violates_less
returns-then-not-violates_less c = λ passed a b is.
    let p = c.args.problem.now in
    let base = c.args.base.now in
    let place = c.args.place in
    let best = c.in-Some.best in
    let found = c.in-Some-violations_with.found in
    let no_more : violates_less (least_of found) best.violation ≡ false = ap (λ m. violates_less m best.violation) (sym c.least-2.ensures) ∙ sym c.violates_less-2.ensures ∙ c.if-not-violates_less.true in
    let far = distance_reported p base (place - 1) c.requires.base (omega arith)
    (omega arith) c.of-detour.result c.of-detour.ensures a.number is c.in-Some-distance_with.distance c.in-Some-distance_with.ensures in
    let longer : best.distance < route_length p (route_with base (place - 1) a.number) = omega (arith, far) in
    rw c.in-Some.is (sym (stays_by_distance p base place (omega arith) (omega arith) a b best found (c.in-Some-violations_with.ensures a.number is) no_more c.detours_save_at_most_one.ensures longer))

pub returns-then-is_late_by_one : goal.returns-then-is_late_by_one
returns-then-is_late_by_one c = λ passed a b is.
    let p = c.args.problem.now in
    let base = c.args.base.now in
    let place = c.args.place in
    let best = c.in-Some.best in
    let one = and_parts (not (is_overload best.violation)) (excess_of best.violation == 1) (sym c.is_late_by_one.ensures ∙ c.if-is_late_by_one.true) in
    let far = distance_reported p base (place - 1) c.requires.base (omega arith)
    (omega arith) c.of-detour.result c.of-detour.ensures a.number is c.in-Some-distance_with.distance c.in-Some-distance_with.ensures in
    let longer : best.distance < route_length p (route_with base (place - 1) a.number) = omega (arith, far) in
    rw c.in-Some.is (sym (stays_by_lateness p base place (omega arith) (omega arith) a b best (not-true _ one.0) (eqb-true _ _ one.1)
    (λ later following most. c.surely_violates_anyway.ensures passed a.number b.number later is following most) c.detours_save_at_most_one.ensures longer))
