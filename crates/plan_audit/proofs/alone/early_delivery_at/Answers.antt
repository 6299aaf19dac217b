-- In the only route a stop is reported exactly if it is a delivery whose pickup has its first place after it.
use Rattle.std.proofs.Common.{[], ◌∷◌, rules}
use Rattle.plan_audit.proofs.alone.early_delivery_at.Goals as goal

pub returns : goal.returns
returns c = c.early_delivery.ensures (c.args.route.now ∷ []) (λ n o below post. search (rules, below, post))
