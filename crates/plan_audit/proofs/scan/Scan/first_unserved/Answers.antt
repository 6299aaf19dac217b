-- If this request is unplanned, it is the first unplanned one from here on. Otherwise the first unplanned one
-- comes after it.
use Rattle.std.proofs.Common.{sym, ◌∙◌}
use Rattle.plan_audit.proofs.PairLemmas.{unserved_here, unserved_later}
use Rattle.plan_audit.proofs.scan.Scan.first_unserved.Goals as goal

pub returns-in-Some : goal.returns-in-Some
returns-in-Some c =
    sym (unserved_here c.args.self.now.routes.now c.args.self.now.problem.now.requests c.loop-index.index c.in-Some.name (sym c.in-Some.ensures))
    ∙ c.loop-index.invariant

pub loop-index-preserved : goal.loop-index-preserved
loop-index-preserved c =
    sym (unserved_later c.args.self.now.routes.now c.args.self.now.problem.now.requests c.loop-index.index (sym c.unserved_at.ensures ∙ c.in_default.is))
    ∙ c.loop-index.invariant
