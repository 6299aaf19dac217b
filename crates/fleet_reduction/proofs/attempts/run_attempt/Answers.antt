-- The marked vehicles are a fleet, and their routes pass in it with their pins.
use Rattle.std.proofs.Common.{◌∙◌, sym, ap, arith}
use Rattle.fleet_reduction.specs.Fleets.{picked}
use Rattle.fleet_reduction.proofs.AttemptLemmas.{picked_passes}
use Rattle.fleet_reduction.proofs.attempts.run_attempt.Goals as goal

pub overflow_cast-marked : goal.overflow_cast-marked
overflow_cast-marked c = omega (arith, c.marked.ensures, c.requires.subfleet.some.1)

pub with_fleet-requires : goal.with_fleet-requires
with_fleet-requires c = (omega (arith, c.marked.ensures, c.requires.subfleet.some.0), omega (arith, c.marked.ensures, c.requires.subfleet.some.1))

pub mean_leg_share-deviation-requires : goal.mean_leg_share-deviation-requires
mean_leg_share-deviation-requires c = ((c.passing_is_local.ensures c.args.context.now.problem.now c.args.context.now.pins.now.routes c.args.attempts.now.plan.routes).0 c.requires.plan).plan

pub attempt_steps-requires-clause-plan : goal.attempt_steps-requires-clause-plan
attempt_steps-requires-clause-plan c =
    picked_passes c.picked_pass.ensures.picked c.args.context.now.problem.now c.in_ok-smaller.smaller c.args.context.now.pins.now.routes c.args.attempts.now.plan.routes
    c.in_ok-picked.field-0 c.in_ok-picked-2.field-0 c.args.subfleet.now c.marked.result
    c.requires.subfleet.long (c.requires.subfleet.long ∙ sym c.requires.pins) c.requires.plan c.in_ok-smaller.ensures c.marked.ensures (c.in_ok-picked.ensures ∙ ap (picked c.args.subfleet.now) c.as_slice.ensures)
    (c.in_ok-picked-2.ensures ∙ ap (picked c.args.subfleet.now) c.as_slice-2.ensures)
