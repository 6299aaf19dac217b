-- The next operation is that of the first remaining vehicle that gets a longer pin, if there is one.
use Rattle.std.proofs.Common.{rules, ◌≡◌, ◌∙◌, sym, arith}
use Rattle.command_text.proofs.FreezeLemmas.{next_pin, no_pin, none_left}
use Rattle.command_text.proofs.freezing.next_freeze_command.Goals as goal

pub returns-in-Some : goal.returns-in-Some
returns-in-Some c =
    let j = c.args.job.now in
    let v = c.loop-vehicle.vehicle in
    let fleet : c.job-inside.inside.0.0.fleet ≡ j.problem.fleet = search rules in
    c.loop-vehicle.invariant ∙ next_pin c.args.time j v c.in-Some.stops (omega (arith, c.loop-vehicle-test.true, fleet)) (sym c.new_pin_len.ensures ∙ c.in-Some.is)

pub loop-vehicle-preserved : goal.loop-vehicle-preserved
loop-vehicle-preserved c =
    let j = c.args.job.now in
    let fleet : c.job-inside.inside.0.0.fleet ≡ j.problem.fleet = search rules in
    c.loop-vehicle.invariant ∙ no_pin c.args.time j c.loop-vehicle.vehicle (omega (arith, c.loop-vehicle-test.true, fleet)) (sym c.new_pin_len.ensures ∙ c.in_default.is)

pub returns : goal.returns
returns c =
    let j = c.args.job.now in
    let fleet : c.job-inside.inside.0.0.fleet ≡ j.problem.fleet = search rules in
    c.loop-vehicle.invariant ∙ none_left c.args.time j c.loop-vehicle.vehicle (omega (arith, c.loop-vehicle-test.false, fleet))
