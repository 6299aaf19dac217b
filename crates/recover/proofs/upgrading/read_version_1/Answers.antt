-- The state that was read is the one that the old store recovers to.
use Rattle.std.proofs.Common.{rules}
use Rattle.state_codec.specs.declared.version.Version.TheVariants.{One}
use Rattle.recover.proofs.Openings.{recovers}
use Rattle.recover.proofs.upgrading.read_version_1.Goals as goal

pub returns-in-Ok : goal.returns-in-Ok
returns-in-Ok g c =
    let found = c.in-Ok.found in
    let read = c.in-Ok.ensures in
    record {
      found = λ honest. recovers One (g.D.Sectors.seen c.args.old.now) found.state found.place found.replayed (read.recovered.found honest);
      fails = tt;
      called = read.called;
      moments = λ honest. (read.settles honest).moments;
      small = search rules;
    }
