-- The bytes that reads returned are the prefix of the image, so their warnings are the image's.
use Rattle.std.proofs.Common.{ℕ, List, sym, subst}
use Rattle.checkpoint.specs.Reads.{IsImagePrefix}
use Rattle.checkpoint.proofs.integrity.check_integrity.Goals as goal

pub returns-in-Ok-clause-found : goal.returns-in-Ok-clause-found
returns-in-Ok-clause-found g c honest =
    let d = g.D.Sectors in
    let start = c.args.device.now in
    let found = c.in-Ok.ensures.found honest in record {
      header = c.in-Ok.opened.header;
      counts = found.1;
      are = c.warnings_in.ensures (d.seen start)
          (subst (λ (n : ℕ). IsImagePrefix n c.deref.result.now (d.seen start)) (sym c.len-sectors.ensures)
          (subst (λ (f : List ℕ). IsImagePrefix (d.len start) f (d.seen start)) (sym c.deref.ensures.value) found.0));
    }
