-- The bytes that reads returned are the first bytes of the image, and the header found there is the image's current
-- one.
use Rattle.std.proofs.Common.{ℕ, List, sym, ◌∙◌, subst, arith}
use Rattle.checkpoint.specs.Reads.{IsImagePrefix}
use Rattle.checkpoint.proofs.LoadLemmas.{no_fault_more}
use Rattle.checkpoint.proofs.loads.read_prefix.Goals as goal

pub returns-in-Ok-current_header-clause-found : goal.returns-in-Ok-current_header-clause-found
returns-in-Ok-current_header-clause-found g c honest =
    let d = g.D.Sectors in
    let start = c.args.device.now in
    let from = c.read_run.ensures.reads.called.honest_before honest in
    let size = g.met.D.Sectors.image_size start (d.seen start) from (g.met.D.Sectors.reads_possible start from) in
    let whole : IsImagePrefix (d.len start) c.in-Ok.prefix.items (d.seen start) = record { size = size; room = omega (arith, c.requires); is = sym (c.in-Ok.ensures.bytes honest) } in (
      whole,
      c.in-Ok-current_header.ensures.found (d.seen start)
          (subst (λ (n : ℕ). IsImagePrefix n c.deref.result.now (d.seen start)) (sym c.len-sectors.ensures)
          (subst (λ (f : List ℕ). IsImagePrefix (d.len start) f (d.seen start)) (sym c.deref.ensures.value) whole)),
    )

pub returns-in-Err-current_header-clause-reads : goal.returns-in-Err-current_header-clause-reads
returns-in-Err-current_header-clause-reads g c =
    let read = c.in-Ok.ensures.reads in record {
      called = record {
        same_len = read.called.same_len;
        finished = read.called.finished;
        fault = read.called.fault ∙ sym (no_fault_more c.in-Err-current_header.fault c.in-Err-current_header.ensures.kind _);
        honest_before = read.called.honest_before;
      };
      kept = read.kept;
    }
