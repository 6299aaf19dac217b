-- Both kinds of knowledge about the rest: known beforehand, or from the reads.
use Rattle.command_server.proofs.CutLemmas.{fits_before, read_however}
use Rattle.command_server.proofs.read_buffer.read_block.Goals as goal

pub returns-clause-bytes : goal.returns-clause-bytes
returns-clause-bytes g c = read_however g.R.Source c.args.reader.now c.read_some.new.self c.read_some.result c.read_some.new.block c.read_some.ensures.bytes c.read_some.ensures.text

pub returns-clause-fits : goal.returns-clause-fits
returns-clause-fits g c = fits_before g.R.Source c.args.reader.now c.read_some.new.self c.read_some.ensures.gave
