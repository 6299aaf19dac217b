-- A pin is no longer than the vehicle's route
use Rattle.std.proofs.Common.{◌≡◌}
use Rattle.state_codec.proofs.RouteLaws.{pin_fits}
use Rattle.state_codec.proofs.routes.vehicle_at.Goals as goal

pub first_stops-requires : goal.first_stops-requires
first_stops-requires c =
    let n = pin_fits c.args.version c.in_ok-pin.pin c.in_ok-len.len c.in_ok-pin.rest.now c.in_ok-len.rest.now c.in_ok-stops.rest.now c.in_ok-stops.stops c.in_ok-len.ensures c.in_ok-stops.ensures in
    let e : c.as_slice.result.now ≡ c.in_ok-stops.stops = c.as_slice.ensures in
    rw e n
