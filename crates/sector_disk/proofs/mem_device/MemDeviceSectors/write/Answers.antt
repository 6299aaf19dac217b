-- A write to a device in memory satisfies the contract of a write of the model.
use Rattle.std.proofs.Common.{◌+◌, ◌≤◌, ◌/◌, length, arith}
use Rattle.sector_disk.specs.Memory.{len_of, history_of}
use Rattle.sector_disk.specs.MemDevice.{memory}
use Rattle.sector_disk.specs.MemoryLaws.{whole_sectors, memory_reads_possible}
use Rattle.sector_disk.proofs.Calls.{write_case}
use Rattle.sector_disk.proofs.HistorySteps.{Writes, write_means}
use Rattle.sector_disk.proofs.mem_device.MemDeviceSectors.write.Goals as goal

made : (c : goal.After-try_write)
    → Writes (history_of (memory c.args.self.now)) (history_of (memory c.try_write.new.self)) c.args.first c.args.bytes.now c.try_write.result
made c =
    let d = c.args.self.now in
    let whole = whole_sectors (length c.args.bytes.now) c.requires.whole in
    let inside : c.args.first + length c.args.bytes.now / 512 ≤ len_of (memory d) = omega (arith, whole, c.requires.inside) in
    let case = write_case (memory d) (memory c.try_write.new.self) c.args.first c.args.bytes.now c.try_write.result c.try_write.ensures.exact in
    write_means (history_of (memory d)) c.args.first c.args.bytes.now whole inside (memory_reads_possible (memory d) d.kept.whole d.kept.fit)
    (history_of (memory c.try_write.new.self)) c.try_write.result case

pub returns-clause-written : goal.returns-clause-written
returns-clause-written c = λ _. (made c).seen

pub returns-clause-contents : goal.returns-clause-contents
returns-clause-contents c = λ _. (made c).contents

pub returns-clause-within : goal.returns-clause-within
returns-clause-within c = λ _. (made c).within

pub returns-clause-moments : goal.returns-clause-moments
returns-clause-moments c = λ _. (made c).moments
