-- A record's commit leads from the state before the command to the one after it.
use Rattle.checkpoint.specs.Places.{place_after_record}
use Rattle.recover.proofs.StepLemmas.{commits_record}
use Rattle.recover.proofs.commits.commit_as_record.Goals as goal

pub returns-in-Ok-clause-leads : goal.returns-in-Ok-clause-leads
returns-in-Ok-clause-leads g c state accepted honest all =
    let is = commits_record (g.D.Sectors.possible c.args.device.now) state c.args.place all c.args.command.now accepted
    (place_after_record c.args.place) g.D.Sectors _ c.args.device.now c.commit_record.new.device
    (c.in-Ok.ensures.changes.commits all.snapshot all.commands honest all.each) in
    record { moments = is.moments; after = is.after }

pub returns-in-Err-clause-leads : goal.returns-in-Err-clause-leads
returns-in-Err-clause-leads g c state accepted honest all =
    let is = commits_record (g.D.Sectors.possible c.args.device.now) state c.args.place all c.args.command.now accepted
    (place_after_record c.args.place) g.D.Sectors c.commit_record.result c.args.device.now c.commit_record.new.device
    (c.commit_record.ensures.changes.commits all.snapshot all.commands honest all.each) in
    record { moments = is.moments; after = tt }
