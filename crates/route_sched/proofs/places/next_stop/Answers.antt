-- The stop at the next place is the one with the next number. After the last number it is the depot.
use Rattle.std.proofs.Common.{◌≡◌, ◌∙◌, get_or, sym, ap, subst}
use Rattle.std.proofs.lemmas.Bool.{ltb-false}
use Rattle.std.proofs.lemmas.List.{get_or_read}
use Rattle.route_sched.specs.Route.{IsKnownStop}
use Rattle.route_sched.proofs.KnownStops.{place-return, place-stop}
use Rattle.route_sched.proofs.places.next_stop.Goals as goal

pub known_stop-requires : goal.known_stop-requires
known_stop-requires c =
    let at = c.in-Some.ensures.lookup in
    subst (λ n. IsKnownStop c.args.problem.now n) (sym at.1) (c.requires.route.live c.args.k c.in-Some.number.now at.3.0)

pub returns-in-Some-clause-value : goal.returns-in-Some-clause-value
returns-in-Some-clause-value c =
    let at = c.in-Some.ensures.lookup in
    let number : c.in-Some.number.now ≡ get_or c.args.route.now c.args.k 0 = get_or_read c.args.route.now c.args.k c.in-Some.number.now at.3.0 at.1 0 in
    sym (place-stop c.args.problem.now c.args.route.now c.args.k c.in-Some.number.now c.known_stop.result.now number c.known_stop.ensures.found
    c.known_stop.ensures.number c.known_stop.ensures.stop)

pub returns-in-None-clause-value : goal.returns-in-None-clause-value
returns-in-None-clause-value c =
    ap (λ q. q.depot) c.problem.view_is ∙ sym (place-return c.args.problem.now c.args.route.now c.args.k (ltb-false _ _ (sym c.in-None.ensures.lookup.0)))
