-- The images that a crash may leave within the durable write of the zeros and that of the snapshot.
use Rattle.std.proofs.Common.{List, ℕ, OnOk, refl, subst, ◌∙◌, ap, arith}
use Rattle.sector_disk.specs.Image.{written}
use Rattle.sector_disk.specs.Sectors.{Only}
use Rattle.sector_disk.specs.Throughout.{joined, weakened}
use Rattle.checkpoint.specs.DurableWrites.{IsInDurableWrite, IsInSnapshot}
use Rattle.checkpoint.proofs.BlankPrefixes.{clears, length_cleared, prefix_zeros}
use Rattle.checkpoint.proofs.NewStore.{IsMaking, in_zeros, in_snapshot}
use Rattle.checkpoint.specs.WrittenImages.{first_header, with_both}
use Rattle.checkpoint.proofs.formatting.write_store.Goals as goal

pub write_and_sync-requires : goal.write_and_sync-requires
write_and_sync-requires g c = record { some = omega (arith, c.requires.zeros.long); whole = omega (arith, c.requires.zeros.long); inside = omega (arith, c.requires.zeros.long, c.requires.snapshot.room) }

pub returns-in_err-write_and_sync-clause-moments : goal.returns-in_err-write_and_sync-clause-moments
returns-in_err-write_and_sync-clause-moments g c honest =
    let d = g.D.Sectors in
    let start = c.args.device.now in
    let from = c.write_and_sync.ensures.called.honest_before honest in
    let size = g.met.D.Sectors.image_size start (d.seen start) from (g.met.D.Sectors.reads_possible start from) in
    let zeros = c.args.zeros.now in
    let is = c.requires.zeros in
    weakened d.clock d.possible_since start c.write_and_sync.new.device (IsInDurableWrite 0 zeros (d.possible start) (d.seen start) (d.calls start)) (IsMaking c.args.bytes.now c.args.size (d.calls start))
    (in_zeros c.args.bytes.now c.args.size zeros (d.seen start) (clears 132096 zeros (d.seen start) is refl (omega (arith, size, c.requires.snapshot.room))) (d.calls start) (d.possible start))
    (c.write_and_sync.ensures.moments honest)

pub returns-clause-moments : goal.returns-clause-moments
returns-clause-moments g c honest =
    let d = g.D.Sectors in
    let start = c.args.device.now in
    let mid = c.write_snapshot.ensures.called.honest_before honest in
    let from = c.write_and_sync.ensures.called.honest_before mid in
    let size = g.met.D.Sectors.image_size start (d.seen start) from (g.met.D.Sectors.reads_possible start from) in
    let zeros = c.args.zeros.now in
    let is = c.requires.zeros in
    let prefix = clears 132096 zeros (d.seen start) is refl (omega (arith, size, c.requires.snapshot.room)) in
    let long = length_cleared 132096 zeros (d.seen start) is refl (omega (arith, size, c.requires.snapshot.room)) in
    let all = IsMaking c.args.bytes.now c.args.size (d.calls start) in
    let first = weakened d.clock d.possible_since start c.write_and_sync.new.device (IsInDurableWrite 0 zeros (d.possible start) (d.seen start) (d.calls start)) all
    (in_zeros c.args.bytes.now c.args.size zeros (d.seen start) prefix (d.calls start) (d.possible start))
    (c.write_and_sync.ensures.moments mid) in
    let second = weakened d.clock d.possible_since c.write_and_sync.new.device c.write_snapshot.new.device
    (IsInSnapshot (first_header c.args.size) c.args.bytes.now (d.possible c.write_and_sync.new.device) (d.seen c.write_and_sync.new.device) (d.calls c.write_and_sync.new.device)) all
    (in_snapshot c.args.bytes.now c.args.size zeros (d.seen start) prefix
    (d.calls start) c.requires.snapshot.saved.whole c.requires.snapshot.saved.fits c.requires.snapshot.saved.some c.requires.snapshot.saved.long
    (omega (arith, long, size, c.requires.snapshot.room))
    (d.possible c.write_and_sync.new.device) (d.seen c.write_and_sync.new.device) (d.calls c.write_and_sync.new.device) c.in_ok-write_and_sync.ensures.called.finished (c.in_ok-write_and_sync.ensures.seen mid) (c.in_ok-write_and_sync.ensures.durable mid))
    (c.write_snapshot.ensures.moments honest) in
    joined d.clock d.possible_since start c.write_and_sync.new.device c.write_snapshot.new.device all first second

pub returns-clause-durable : goal.returns-clause-durable
returns-clause-durable g c honest =
    let d = g.D.Sectors in
    let mid = c.write_snapshot.ensures.called.honest_before honest in
    let end = d.possible c.write_snapshot.new.device in
    subst (λ (image : List ℕ). OnOk c.write_snapshot.result (Only (with_both (first_header c.args.size) c.args.bytes.now image) end))
    (c.in_ok-write_and_sync.ensures.seen mid ∙ ap (λ (zeros : List ℕ). written 0 zeros (d.seen c.args.device.now)) (prefix_zeros c.args.zeros.now c.requires.zeros))
    (c.write_snapshot.ensures.durable honest)
