-- Either the sector was read, or there is none.
use Rattle.sector_disk.specs.Sectors.{faults_after}
use Rattle.planner_cli.proofs.ReadLemmas.{not_read, read_once}
use Rattle.planner_cli.proofs.file_hints.content_at.Goals as goal

pub returns-then-index-len : goal.returns-then-index-len
returns-then-index-len g c = not_read g.D.Sectors g.met.D.Sectors.only_now c.args.device.now

pub returns-in-Ok : goal.returns-in-Ok
returns-in-Ok g c =
    let read = c.read.ensures in
    read_once g.D.Sectors g.met.D.Sectors.only_now c.args.device.now c.read.new.self (faults_after c.read.result) read.called read.reads read.contents read.moments

pub returns-in-Err : goal.returns-in-Err
returns-in-Err g c =
    let read = c.read.ensures in
    read_once g.D.Sectors g.met.D.Sectors.only_now c.args.device.now c.read.new.self (faults_after c.read.result) read.called read.reads read.contents read.moments
