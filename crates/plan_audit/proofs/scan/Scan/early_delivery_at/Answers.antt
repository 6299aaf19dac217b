-- A stop is reported exactly if it is a delivery whose pickup has its first position at a later place.
use Rattle.std.proofs.Common.{rules}
use Rattle.plan_audit.proofs.scan.Scan.early_delivery_at.Goals as goal

pub returns : goal.returns
returns c = c.early_delivery.ensures c.args.self.now.routes.now (λ n o below post. search (rules, below, post))
