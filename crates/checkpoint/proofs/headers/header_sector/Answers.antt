-- A header's sector is a sector of zeros over which magic, version, sequence and length are written.
use Rattle.std.proofs.Common.{refl}
use Rattle.checkpoint.proofs.headers.header_sector.Goals as goal

pub returns : goal.returns
returns c = rw (c.write_u64-2.ensures, c.write_u64.ensures, c.write_u32.ensures, c.copy_from_slice.ensures.after) refl
