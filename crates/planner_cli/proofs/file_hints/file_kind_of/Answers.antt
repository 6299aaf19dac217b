-- Either two sectors were read, or there are none.
use Rattle.planner_cli.proofs.ReadLemmas.{not_read, read_again}
use Rattle.planner_cli.proofs.file_hints.file_kind_of.Goals as goal

pub returns-then-len-eq0 : goal.returns-then-len-eq0
returns-then-len-eq0 g c = not_read g.D.Sectors g.met.D.Sectors.only_now c.args.device.now

pub returns : goal.returns
returns g c = read_again g.D.Sectors c.args.device.now c.content_at-first.new.device c.content_at-second.new.device c.content_at-first.ensures c.content_at-second.ensures
