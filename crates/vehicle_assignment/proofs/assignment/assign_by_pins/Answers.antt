-- Each pin takes a route that begins with it, or there is no assignment.
use Rattle.std.proofs.Common.{◌≡◌, ◌∙◌, ◌+◌, ◌∷◌, drop, ap, inr, rules}
use Rattle.std.proofs.lemmas.List.{drop_more, drop_all}
use Rattle.vehicle_assignment.specs.Assignments.{assign_by_pins}
use Rattle.vehicle_assignment.proofs.AssignLemmas.{ends, finds_none, takes, with_seats}
use Rattle.vehicle_assignment.proofs.assignment.assign_by_pins.Goals as goal
use Rattle.vehicle_assignment.proofs.assignment.assign_by_pins.Goals.{After-take_route}

-- the next pin, and those after it
next : (c : After-take_route) → drop c.loop-index.index c.args.pins.now ≡ c.as_slice.result.now ∷ drop (c.loop-index.index + 1) c.args.pins.now
next c =
    drop_more c.args.pins.now c.loop-index.index c.as_slice.result.now c.loop-index-test.true
    ∙ ap (λ pin. pin ∷ drop (c.loop-index.index + 1) c.args.pins.now) (search rules)

pub returns-in_default : goal.returns-in_default
returns-in_default c =
    inr (finds_none (assign_by_pins 1 c.args.pins.now c.args.routes) c.loop-index.assigned (c.loop-index.index + 1) _ _ _ c.loop-index.remaining
    (next (goal.at.returns-in_default c).After-take_route) c.loop-index.invariant (search rules))

pub loop-index-preserved : goal.loop-index-preserved
loop-index-preserved c =
    ap (λ assigned. with_seats assigned (assign_by_pins (c.loop-index.index + 1 + 1) (drop (c.loop-index.index + 1) c.args.pins.now) c.take_route.new.routes)) (search rules)
    ∙ takes (assign_by_pins 1 c.args.pins.now c.args.routes) c.loop-index.assigned (c.loop-index.index + 1) _ _ _ c.loop-index.remaining
    (next (goal.at.loop-index-preserved c).After-take_route) c.loop-index.invariant c.in-Some.route c.take_route.new.routes (search rules)

pub returns : goal.returns
returns c =
    ends (assign_by_pins 1 c.args.pins.now c.args.routes) c.loop-index.assigned (c.loop-index.index + 1) _ c.loop-index.remaining (drop_all c.loop-index.index c.args.pins.now (search rules)) c.loop-index.invariant
