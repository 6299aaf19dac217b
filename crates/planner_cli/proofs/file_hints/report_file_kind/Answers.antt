-- Either the device was read to find the kind of its file, or it was not called.
use Rattle.planner_cli.proofs.ReadLemmas.{not_read}
use Rattle.planner_cli.proofs.file_hints.report_file_kind.Goals as goal

pub returns-in_default : goal.returns-in_default
returns-in_default g c = not_read g.D.Sectors g.met.D.Sectors.only_now c.args.device.now

pub returns-in-BadVersion : goal.returns-in-BadVersion
returns-in-BadVersion g c = not_read g.D.Sectors g.met.D.Sectors.only_now c.args.device.now
