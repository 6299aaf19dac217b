-- Recovery returns the state after a prefix of the commands. The prefix has all acknowledged ones.
use Rattle.recover.proofs.Headlines.{headline}
use Rattle.recover.proofs.laws.recovery_keeps_every_acknowledged_command.Goals as goal

pub returns : goal.returns
returns g c = headline c.commands_keep_invariants.ensures.many c.plans_never_cost_more.ensures c.passes_decides_the_verdict.ensures g.D.Sectors g.E.Sectors
