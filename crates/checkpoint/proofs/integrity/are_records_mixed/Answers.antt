-- If a record is newer than the one before it, records are mixed.
use Rattle.std.proofs.Common.{refl, ap, ◌∙◌, arith}
use Rattle.checkpoint.specs.Stores.{leading_number}
use Rattle.checkpoint.proofs.integrity.are_records_mixed.Goals as goal

pub returns-then-before-read_u64 : goal.returns-then-before-read_u64
returns-then-before-read_u64 c = (
  λ yes. record {
    index = c.loop-i.i;
    inside = omega (arith, c.loop-i-test.true);
    newer = omega (arith, c.if-before-read_u64.true, c.read_u64-before.ensures ∙ ap leading_number c.sector_at.ensures, c.read_u64.ensures ∙ ap leading_number c.sector_at-in-loop-i.ensures);
  },
  λ mixed. refl,
)
