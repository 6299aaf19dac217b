-- A sync of a file that answers as the model says is a sync of the model, whether it fails or not.
use Rattle.std.proofs.Common.{◌+◌, refl, rules, Ok}
use Rattle.sector_disk.specs.declared.sectors.DeviceFault.{DeviceFault}
use Rattle.file_disk.specs.FileDevice.{history_of}
use Rattle.file_disk.specs.FileRecord.{AnswersAsModel, file_history}
use Rattle.file_disk.proofs.FileHistorySteps.{file_syncs}
use Rattle.sector_disk.proofs.HistorySteps.{Syncs}
use Rattle.file_disk.proofs.file_device.FileDeviceSectors.sync.Given as given
use Rattle.file_disk.proofs.file_device.FileDeviceSectors.sync.Goals as goal

-- the case of a failed sync of the file
denied : (g : given.Over) (c : goal.After-fail-in-Err g)
    → AnswersAsModel c.fail-in-Err.new.self.sectors g.S.FileAssumptions.disk g.S.FileAssumptions.shown (g.F.FileCalls.entries c.fail-in-Err.new.self.file)
    → Syncs (history_of g.S.FileAssumptions.disk g.S.FileAssumptions.shown g.F.FileCalls.entries c.args.self.now)
    (history_of g.S.FileAssumptions.disk g.S.FileAssumptions.shown g.F.FileCalls.entries c.fail-in-Err.new.self) c.fail-in-Err.result
denied g c honest =
    let d = c.args.self.now in
    let new = c.fail-in-Err.new.self in
    let entries = g.F.FileCalls.entries in
    file_syncs d.sectors new.sectors g.S.FileAssumptions.disk g.S.FileAssumptions.shown (entries d.file)
    (entries new.file) c.fail-in-Err.ensures.left.sectors d.calls new.calls c.fail-in-Err.result d.inside honest (search rules) (search rules)

pub returns-in-Err-clause-contents : goal.returns-in-Err-clause-contents
returns-in-Err-clause-contents g c = λ honest. (denied g c honest).contents

pub returns-in-Err-clause-moments : goal.returns-in-Err-clause-moments
returns-in-Err-clause-moments g c = λ honest. (denied g c honest).moments

-- the case of a successful sync of the file
done : (g : given.Over) (c : goal.After-self-2-1 g)
    → AnswersAsModel c.args.self.now.sectors g.S.FileAssumptions.disk g.S.FileAssumptions.shown (g.F.FileCalls.entries c.sync.new.self)
    → Syncs {T = Unit {0}} {E = DeviceFault}
    (file_history c.args.self.now.sectors g.S.FileAssumptions.disk g.S.FileAssumptions.shown (g.F.FileCalls.entries c.args.self.now.file) c.args.self.now.calls)
    (file_history c.args.self.now.sectors g.S.FileAssumptions.disk g.S.FileAssumptions.shown (g.F.FileCalls.entries c.sync.new.self) (c.args.self.now.calls + 1)) (Ok tt)
done g c honest =
    let d = c.args.self.now in
    let entries = g.F.FileCalls.entries in
    file_syncs d.sectors d.sectors g.S.FileAssumptions.disk g.S.FileAssumptions.shown (entries d.file) (entries c.sync.new.self) refl d.calls (d.calls + 1)
    (Ok tt) d.inside honest refl (search rules)

pub returns-clause-reads : goal.returns-clause-reads
returns-clause-reads g c = λ honest. (done g c honest).seen

pub returns-clause-durable : goal.returns-clause-durable
returns-clause-durable g c = λ honest. (done g c honest).durable

pub returns-clause-moments : goal.returns-clause-moments
returns-clause-moments g c = λ honest. (done g c honest).moments
