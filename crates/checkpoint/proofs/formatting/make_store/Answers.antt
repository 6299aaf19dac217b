-- The store with this snapshot is created, unless the device is too small, memory runs out or a call fails.
use Rattle.std.proofs.Common.{rules, [], take, sym, subst, arith}
use Rattle.checkpoint.specs.DurableWrites.{IsZeros}
use Rattle.checkpoint.specs.Stores.{HasStored}
use Rattle.checkpoint.proofs.NewSnapshots.{formats}
use Rattle.checkpoint.proofs.formatting.make_store.Goals as goal

pub write_store-requires-clause-zeros : goal.write_store-requires-clause-zeros
write_store-requires-clause-zeros g c = subst (IsZeros 132096) (sym c.deref.ensures.value) c.in_ok-zeros.ensures

-- an image that is possible after Ok belongs to the last moment
pub returns-in-Ok : goal.returns-in-Ok
returns-in-Ok g c = record {
  place = search rules;
  too_small = (λ is. absurd cc, λ small. absurd (omega (arith, small, c.if-len-lt-SECTORS.false, c.len.ensures)));
  kept = search rules;
  called = search rules;
  formats = λ honest.
      let d = g.D.Sectors in
      let end = c.write_store.new.device in
      formats d _ (HasStored 1 (take c.args.size c.args.bytes.now) []) _ c.args.device.now end
      (λ t image le left. g.met.D.Sectors.counts_now end t image honest le left) c.in-Ok.ensures.called.finished
      (c.write_store.ensures.moments honest) (c.in-Ok.ensures.durable honest);
}

pub returns : goal.returns
returns g c = record {
  place = search rules;
  too_small = (λ is. absurd cc, λ small. absurd (omega (arith, small, c.if-len-lt-SECTORS.false, c.len.ensures)));
  kept = search rules;
  called = search rules;
  formats = λ honest. record { moments = c.write_store.ensures.moments honest; after = tt; durable = tt };
}
