-- A stop has a first position exactly if a route has it.
use Rattle.std.proofs.Common.{is_some, ap, ◌∙◌}
use Rattle.plan_audit.proofs.ServedLemmas.{first_position-has}
use Rattle.plan_audit.proofs.scan.Scan.has_stop.Goals as goal

pub returns : goal.returns
returns c below = c.is_some.ensures ∙ ap is_some (c.first_position.ensures below) ∙ first_position-has c.args.self.now.routes.now c.args.stop
