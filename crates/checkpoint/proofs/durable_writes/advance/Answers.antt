-- The calls of the snapshot lead from the stored content to the next sequence with an empty journal.
use Rattle.sector_disk.specs.Throughout.{weakened}
use Rattle.sector_disk.specs.CommitLaws.{commits}
use Rattle.checkpoint.specs.DurableWrites.{IsInSnapshot}
use Rattle.checkpoint.proofs.Commits.{in_commit}
use Rattle.checkpoint.proofs.durable_writes.advance.Goals as goal

pub returns-clause-commits : goal.returns-clause-commits
returns-clause-commits g c sequence state journal next honest stored =
    let d = g.D.Sectors in
    let start = c.args.device.now in
    let end = c.write_snapshot.new.device in
    let from = c.write_snapshot.ensures.called.honest_before honest in
    commits d c.write_snapshot.result 4 2 _ _ start end (λ t image le left. g.met.D.Sectors.counts_now end t image honest le left) c.write_snapshot.ensures.called.finished
    (weakened d.clock d.possible_since start end (IsInSnapshot c.args.header c.args.bytes.now (d.possible start) (d.seen start) (d.calls start)) _
    (in_commit c.args.header c.args.bytes.now sequence next c.requires.saved.whole c.requires.saved.fits state journal (d.possible start) (d.seen start)
    (g.met.D.Sectors.reads_possible start from) stored
    c.requires.last c.requires.saved.some c.requires.saved.long (d.calls start))
    (c.write_snapshot.ensures.moments honest))
