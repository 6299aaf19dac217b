-- The images that a crash may leave within the write, between the calls and after the sync.
use Rattle.std.proofs.Common.{ℕ, ◌∙◌, ap, arith}
use Rattle.sector_disk.specs.Sectors.{calls_after}
use Rattle.checkpoint.proofs.DurableWriteCalls.{in_write, in_sync, after_sync_call}
use Rattle.checkpoint.proofs.durable_writes.write_and_sync.Goals as goal

pub returns-in_err-write-clause-moments : goal.returns-in_err-write-clause-moments
returns-in_err-write-clause-moments g c honest =
    let d = g.D.Sectors in
    let from = c.write.ensures.called.honest_before honest in
    in_write c.args.first c.args.bytes.now (d.possible c.args.device.now) (d.seen c.args.device.now) (d.calls c.args.device.now)
    d.clock d.possible_since c.args.device.now c.write.new.self c.write.new.self (d.possible c.write.new.self) (d.possible c.write.new.self) (d.calls c.write.new.self) (d.calls c.write.new.self)
    (λ m image here. g.met.D.Sectors.only_now c.args.device.now m image from here)
    (c.write.ensures.moments honest)
    (c.write.ensures.contents honest).nothing_else
    (omega (arith, c.in_err-write.ensures.called.finished.count)) (omega (arith, c.in_err-write.ensures.called.finished.count))

pub returns-clause-moments : goal.returns-clause-moments
returns-clause-moments g c honest =
    let d = g.D.Sectors in
    let mid = c.sync.ensures.called.honest_before honest in
    let from = c.write.ensures.called.honest_before mid in
    let left = (c.write.ensures.contents mid).nothing_else in
    let one = c.in_ok-write.ensures.called.finished.count in
    let start = in_write c.args.first c.args.bytes.now (d.possible c.args.device.now) (d.seen c.args.device.now) (d.calls c.args.device.now)
    d.clock d.possible_since c.args.device.now c.write.new.self c.write.new.self (d.possible c.write.new.self) (d.possible c.write.new.self) (d.calls c.write.new.self) (d.calls c.write.new.self)
    (λ m image here. g.met.D.Sectors.only_now c.args.device.now m image from here)
    (c.write.ensures.moments mid)
    left
    (omega (arith, one)) (omega (arith, one)) in
    in_sync c.args.first c.args.bytes.now (d.possible c.args.device.now) (d.seen c.args.device.now) (d.calls c.args.device.now)
    d.clock d.possible_since c.args.device.now c.write.new.self c.sync.new.self (d.possible c.write.new.self) (d.possible c.sync.new.self) (d.calls c.write.new.self) (d.calls c.sync.new.self)
    (λ m image here. g.met.D.Sectors.only_now c.args.device.now m image from here)
    start (c.sync.ensures.moments honest) left one
    (after_sync_call c.args.first c.args.bytes.now (d.possible c.args.device.now) (d.seen c.args.device.now) (d.calls c.args.device.now)
    c.sync.result (d.seen c.write.new.self) (d.possible c.write.new.self) (d.possible c.sync.new.self) (d.calls c.sync.new.self)
    (c.sync.ensures.called.finished.count ∙ ap (λ (n : ℕ). calls_after c.sync.result n) one) (c.in_ok-write.ensures.written mid)
    (g.met.D.Sectors.reads_possible c.write.new.self mid) left (c.sync.ensures.durable honest) (c.sync.ensures.contents honest))
