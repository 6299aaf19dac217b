-- The calls of the record lead from the stored content to the same content with the record appended to the
-- journal.
use Rattle.std.proofs.Common.{◌+◌, ◌∙◌, arith}
use Rattle.sector_disk.specs.Throughout.{weakened}
use Rattle.sector_disk.specs.CommitLaws.{commits}
use Rattle.checkpoint.specs.DurableWrites.{IsInDurableWrite}
use Rattle.checkpoint.proofs.RecordCalls.{in_record}
use Rattle.checkpoint.proofs.durable_writes.extend.Goals as goal

pub returns-clause-commits : goal.returns-clause-commits
returns-clause-commits g c sequence state journal mark used honest stored =
    let d = g.D.Sectors in
    let start = c.args.device.now in
    let end = c.write_and_sync.new.device in
    let from = c.write_and_sync.ensures.called.honest_before honest in
    let here = g.met.D.Sectors.reads_possible start from in
    commits d c.write_and_sync.result 2 0 _ _ start end (λ t image le left. g.met.D.Sectors.counts_now end t image honest le left) c.write_and_sync.ensures.called.finished
    (weakened d.clock d.possible_since start end (IsInDurableWrite (2 + c.from.result) c.args.bytes.now (d.possible start) (d.seen start) (d.calls start)) _
    (in_record c.args.bytes.now sequence state journal c.from.result (d.possible start) (d.seen start) here stored c.requires.one mark (c.from.ensures ∙ used)
    (omega (arith, c.requires.free, c.from.ensures)) (d.calls start)
    (d.len start) (λ image left. g.met.D.Sectors.image_size start image from left))
    (c.write_and_sync.ensures.moments honest))
