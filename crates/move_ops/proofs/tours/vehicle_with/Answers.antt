-- A tour that has the stop has it in its vehicle's route.
use Rattle.std.proofs.Common.{◌≡◌, ◌+◌, true, sym, ap, ◌∙◌, arith}
use Rattle.plan_audit.specs.Passes.{has}
use Rattle.move_ops.specs.Insertion.{route_of}
use Rattle.move_ops.specs.Tables.{plan_of}
use Rattle.move_ops.proofs.QueryLemmas.{route_at}
use Rattle.move_ops.proofs.tours.vehicle_with.Goals as goal

pub returns-then-is_in : goal.returns-then-is_in
returns-then-is_in c =
    let tours = c.args.tours.now in
    let k = c.loop-index.index in
    let there : has (route_of (plan_of tours) (k + 1)) c.args.stop ≡ true =
    ap (λ l. has l c.args.stop)
    (route_at tours k c.index-tours-index.result c.index-tours-index.is c.loop-index-test.true ∙ sym c.stops.ensures)
    ∙ (sym c.is_in.ensures ∙ c.if-is_in.true) in
    (λ from. there, λ none. absurd (omega arith))
