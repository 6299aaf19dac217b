-- The parts that were read determine the content of the image, or its fault.
use Rattle.std.proofs.Common.{ℕ, List, sym, subst, rules}
use Rattle.checkpoint.specs.Reads.{HasParts}
use Rattle.checkpoint.proofs.loads.load.Goals as goal

pub returns-clause-loaded : goal.returns-clause-loaded
returns-clause-loaded g c =
    let d = g.D.Sectors in
    let start = c.args.device.now in record {
      small = search rules;
      fails = search rules;
      well_formed = search rules;
      found = λ honest. c.interpret.ensures.found (d.len start) (d.seen start)
          (subst (λ (b : List ℕ). HasParts c.args.version (d.len start) (d.seen start) c.in-Ok.parts.opened.header c.in-Ok.parts.opened.prefix.items b)
          (sym c.deref-2.ensures.value) (c.in-Ok.ensures.found honest));
    }
