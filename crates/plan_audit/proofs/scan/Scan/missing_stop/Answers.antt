-- A stop's partner is reported exactly if it has no first position.
use Rattle.std.proofs.Common.{rules}
use Rattle.plan_audit.proofs.scan.Scan.missing_stop.Goals as goal

pub returns : goal.returns
returns c = c.missing_partner.ensures c.args.self.now.routes.now (λ n o below post. search (rules, below, post))
