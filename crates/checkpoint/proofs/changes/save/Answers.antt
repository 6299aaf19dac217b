-- The bytes that each image stores determine the content that it holds.
use Rattle.std.proofs.Common.{take, refl, rules}
use Rattle.state_codec.specs.Bytes.{state_bytes}
use Rattle.state_codec.specs.declared.version.Version.TheVariants.{Two}
use Rattle.checkpoint.specs.Holds.{journal}
use Rattle.checkpoint.proofs.NewSnapshots.{saved}
use Rattle.checkpoint.proofs.changes.save.Goals as goal

pub returns-in-Ok-clause-changes : goal.returns-in-Ok-clause-changes
returns-in-Ok-clause-changes g c = record {
  commits = λ old commands honest held.
      let d = g.D.Sectors in
      let start = c.args.device.now in
      let here = g.met.D.Sectors.reads_possible start (c.advance.ensures.called.honest_before honest) in
      let all = saved c.args.place c.args.state.now (take c.args.size c.args.bytes.now) c.requires.snapshot.is c.requires.snapshot.facts (d.possible start)
      (d.seen start) here old commands held d _ start c.advance.new.device
      (c.in-Ok.ensures.commits c.args.place.sequence (state_bytes Two old) (journal Two c.args.place.sequence 0 commands) refl honest (λ image left. (held image left).stored)) in
      record { moments = all.moments; after = all.after };
  durable = search rules;
}

pub returns-in-Err-clause-changes : goal.returns-in-Err-clause-changes
returns-in-Err-clause-changes g c = record {
  commits = λ old commands honest held.
      let d = g.D.Sectors in
      let start = c.args.device.now in
      let here = g.met.D.Sectors.reads_possible start (c.advance.ensures.called.honest_before honest) in
      let all = saved c.args.place c.args.state.now (take c.args.size c.args.bytes.now) c.requires.snapshot.is c.requires.snapshot.facts (d.possible start)
      (d.seen start) here old commands held d c.advance.result start c.advance.new.device
      (c.advance.ensures.commits c.args.place.sequence (state_bytes Two old) (journal Two c.args.place.sequence 0 commands) refl honest (λ image left. (held image left).stored)) in
      record { moments = all.moments; after = tt };
  durable = search rules;
}
