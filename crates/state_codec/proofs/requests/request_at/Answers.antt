-- A pickup that was read has a demand within its limits
use Rattle.std.proofs.Common.{arith}
use Rattle.state_codec.proofs.RequestLaws.{byte_takes, first_goods}
use Rattle.state_codec.proofs.requests.request_at.Goals as goal

pub delivery_at-requires : goal.delivery_at-requires
delivery_at-requires c =
    let form = byte_takes c.args.bytes.now (λ i. omega (arith, c.type_inv.bytes i)) (c.in_ok-form.form, c.in_ok-form.rest.now) c.in_ok-form.ensures in
    first_goods c.args.version c.args.next c.args.problem.now.requests c.in_ok-form.rest.now form.0.rest_fits (c.in_ok-pickup-in-2.pickup, c.in_ok-pickup-in-2.rest.now) c.in_ok-pickup-in-2.ensures
