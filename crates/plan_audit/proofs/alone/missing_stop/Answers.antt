-- In a list that is checked as the only route, the partner of a stop is reported exactly if it is not in the
-- list.
use Rattle.std.proofs.Common.{[], ◌∷◌, rules}
use Rattle.plan_audit.proofs.alone.missing_stop.Goals as goal

pub returns : goal.returns
returns c = c.missing_partner.ensures (c.args.route.now ∷ []) (λ n o below post. search (rules, below, post))
