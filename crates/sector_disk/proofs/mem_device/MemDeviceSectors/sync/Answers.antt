-- A sync of a device in memory satisfies the contract of a sync of the model.
use Rattle.sector_disk.specs.Memory.{history_of}
use Rattle.sector_disk.specs.MemDevice.{memory}
use Rattle.sector_disk.specs.MemoryLaws.{memory_reads_possible}
use Rattle.sector_disk.proofs.Calls.{sync_case}
use Rattle.sector_disk.proofs.HistorySteps.{Syncs, sync_means}
use Rattle.sector_disk.proofs.mem_device.MemDeviceSectors.sync.Goals as goal

made : (c : goal.After-try_sync) → Syncs (history_of (memory c.args.self.now)) (history_of (memory c.try_sync.new.self)) c.try_sync.result
made c =
    let d = c.args.self.now in
    let possible = memory_reads_possible (memory d) d.kept.whole d.kept.fit in
    sync_means (history_of (memory d)) (history_of (memory c.try_sync.new.self)) possible c.try_sync.result
    (sync_case (memory d) (memory c.try_sync.new.self) c.try_sync.result c.try_sync.ensures.exact)

pub returns-clause-reads : goal.returns-clause-reads
returns-clause-reads c = λ _. (made c).seen

pub returns-clause-durable : goal.returns-clause-durable
returns-clause-durable c = λ _. (made c).durable

pub returns-clause-moments : goal.returns-clause-moments
returns-clause-moments c = λ _. (made c).moments
