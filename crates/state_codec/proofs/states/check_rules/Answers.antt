-- If a plan passes with its pins, the pins have current, distinct stops
use Rattle.std.proofs.Common.{◌≡◌, All, List, ℕ, sym, subst}
use Rattle.route_sched.specs.Route.{AreDistinctStops}
use Rattle.state_codec.proofs.states.check_rules.Goals as goal

pub check_pins-requires : goal.check_pins-requires
check_pins-requires c =
    let j = c.args.parts.now in
    let pins : c.as_slice.result.now ≡ j.pins.routes = c.as_slice.ensures in
    subst (λ (rs : List (List ℕ)). All (AreDistinctStops j.problem) rs) (sym pins) (c.pins_are_distinct_stops.ensures j.problem j.pins.routes j.plan.routes c.in_ok-audit_plan.ensures.ok)
