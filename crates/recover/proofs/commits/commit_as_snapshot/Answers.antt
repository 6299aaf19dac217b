-- A snapshot's commit leads from the state before the command to the one after it.
use Rattle.checkpoint.specs.Places.{place_after_snapshot}
use Rattle.recover.proofs.StepLemmas.{commits_snapshot}
use Rattle.recover.proofs.commits.commit_as_snapshot.Goals as goal

pub returns-in-Ok-clause-leads : goal.returns-in-Ok-clause-leads
returns-in-Ok-clause-leads g c state honest all =
    let is = commits_snapshot (g.D.Sectors.possible c.args.device.now) state c.args.place all c.args.next.now
    (place_after_snapshot c.args.place) g.D.Sectors _ c.args.device.now c.commit_snapshot.new.device
    (c.in-Ok.ensures.changes.commits all.snapshot all.commands honest all.each) in
    record { moments = is.moments; after = is.after }

pub returns-in-Err-clause-leads : goal.returns-in-Err-clause-leads
returns-in-Err-clause-leads g c state honest all =
    let is = commits_snapshot (g.D.Sectors.possible c.args.device.now) state c.args.place all c.args.next.now
    (place_after_snapshot c.args.place) g.D.Sectors c.commit_snapshot.result c.args.device.now c.commit_snapshot.new.device
    (c.commit_snapshot.ensures.changes.commits all.snapshot all.commands honest all.each) in
    record { moments = is.moments; after = tt }
