-- The images that a crash may leave within either durable write, and after both.
use Rattle.std.proofs.Common.{◌%◌}
use Rattle.sector_disk.specs.Throughout.{joined, weakened}
use Rattle.checkpoint.specs.DurableWrites.{IsInDurableWrite, IsInSnapshot}
use Rattle.checkpoint.proofs.SnapshotCalls.{in_first, in_second, left_at_last}
use Rattle.checkpoint.proofs.durable_writes.write_snapshot.Goals as goal

pub returns-clause-durable : goal.returns-clause-durable
returns-clause-durable g c honest =
    let d = g.D.Sectors in
    let mid = c.write_and_sync-2.ensures.called.honest_before honest in
    let from = c.write_and_sync.ensures.called.honest_before mid in
    let start = c.args.device.now in
    left_at_last c.args.header c.args.bytes.now (d.possible start) (d.seen start) (d.calls start) c.half_start.result c.header_sector.result c.half_start.ensures c.header_sector.ensures
    (d.len start) c.requires.saved.whole c.requires.saved.fits c.requires.room (g.met.D.Sectors.reads_possible start from)
    (g.met.D.Sectors.image_size start (d.seen start) from (g.met.D.Sectors.reads_possible start from))
    (d.possible c.write_and_sync.new.device) (d.seen c.write_and_sync.new.device) (d.calls c.write_and_sync.new.device) c.in_ok-write_and_sync.ensures.called.finished (c.in_ok-write_and_sync.ensures.seen mid) (c.in_ok-write_and_sync.ensures.durable mid)
    c.write_and_sync-2.result (d.possible c.write_and_sync-2.new.device) (c.write_and_sync-2.ensures.durable honest)

pub returns-clause-moments : goal.returns-clause-moments
returns-clause-moments g c honest =
    let d = g.D.Sectors in
    let mid = c.write_and_sync-2.ensures.called.honest_before honest in
    let from = c.write_and_sync.ensures.called.honest_before mid in
    let start = c.args.device.now in
    let all = IsInSnapshot c.args.header c.args.bytes.now (d.possible start) (d.seen start) (d.calls start) in
    let first = weakened d.clock d.possible_since start c.write_and_sync.new.device (IsInDurableWrite c.half_start.result c.args.bytes.now (d.possible start) (d.seen start) (d.calls start)) all
    (in_first c.args.header c.args.bytes.now (d.possible start) (d.seen start)
    (d.calls start) c.half_start.result c.header_sector.result c.half_start.ensures c.header_sector.ensures) (c.write_and_sync.ensures.moments mid) in
    let second = weakened d.clock d.possible_since c.write_and_sync.new.device c.write_and_sync-2.new.device
    (IsInDurableWrite (c.args.header.sequence % 2) c.header_sector.result (d.possible c.write_and_sync.new.device) (d.seen c.write_and_sync.new.device) (d.calls c.write_and_sync.new.device)) all
    (in_second c.args.header c.args.bytes.now (d.possible start) (d.seen start) (d.calls start) c.half_start.result c.header_sector.result c.half_start.ensures c.header_sector.ensures
    (d.len start) c.requires.saved.whole c.requires.saved.fits c.requires.room (g.met.D.Sectors.reads_possible start from)
    (g.met.D.Sectors.image_size start (d.seen start) from (g.met.D.Sectors.reads_possible start from))
    (d.possible c.write_and_sync.new.device) (d.seen c.write_and_sync.new.device) (d.calls c.write_and_sync.new.device) c.in_ok-write_and_sync.ensures.called.finished (c.in_ok-write_and_sync.ensures.seen mid) (c.in_ok-write_and_sync.ensures.durable mid))
    (c.write_and_sync-2.ensures.moments honest) in
    joined d.clock d.possible_since start c.write_and_sync.new.device c.write_and_sync-2.new.device all first second
