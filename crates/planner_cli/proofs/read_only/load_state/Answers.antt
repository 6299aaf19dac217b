-- The result of the second read is also one for the device as it was before the first.
use Rattle.std.proofs.lemmas.Result.{err_from_is_err_and}
use Rattle.planner_cli.proofs.OpenLemmas.{looked_after, unlooked}
use Rattle.planner_cli.proofs.read_only.load_state.Goals as goal

pub returns-in_err-steps : goal.returns-in_err-steps
returns-in_err-steps g c =
    let given = c.in_err-steps.ensures in
    let p = err_from_is_err_and c.from_residual.result c.from_residual.ensures.1 in
    rw (p.1, p.2) (unlooked _ c.args.device.now c.steps_to_replay.new.device c.in_err-steps.field-0.0 given.reads given.fails given.found)

pub returns : goal.returns
returns g c =
    let given = c.read_state.ensures in
    looked_after _ c.args.device.now c.steps_to_replay.new.device _ c.in_ok-steps.ensures.reads c.read_state.result c.read_state.new.device
    (record { given = given.given; facts = given.facts; fails = given.fails; reads = given.reads })
