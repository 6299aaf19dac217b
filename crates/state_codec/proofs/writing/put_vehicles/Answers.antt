-- The next vehicle's pin and route follow those of the vehicles before
use Rattle.std.proofs.Common.{[], arith}
use Rattle.std.proofs.lemmas.List.{get_or_read}
use Rattle.state_codec.proofs.WritingLemmas.{one_written}
use Rattle.state_codec.proofs.writing.put_vehicles.Goals as goal

pub loop-index-preserved : goal.loop-index-preserved
loop-index-preserved c =
    let k = c.loop-index.index in
    let pin = get_or_read c.args.pins.now k c.index-pins-index.result c.loop-index-test.true c.index-pins-index.is [] in
    let route = get_or_read c.args.routes.now k c.index-routes-index.result (omega (arith, c.loop-index-test.true, c.requires.same)) c.index-routes-index.is [] in
    one_written c.args.pins.now c.args.routes.now k c.loop-index.out.items c.args.out.now.items c.put_vehicle.new.out.items c.index-pins-index.result
    c.index-routes-index.result c.requires.same c.loop-index-test.true c.loop-index.invariant pin route c.in_ok-put_vehicle.ensures
