-- An unsound plan or solution has the verdict `Broken`.
use Rattle.plan_audit.proofs.LawProofs.{unsound_is_broken}
use Rattle.plan_audit.proofs.laws.an_unsound_plan_does_not_pass.Goals as goal

pub returns : goal.returns
returns c = unsound_is_broken c.requests_are_found_by_stop.ensures
