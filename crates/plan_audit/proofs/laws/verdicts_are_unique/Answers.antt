-- An audit has only one answer.
use Rattle.plan_audit.proofs.LocalLemmas.{verdicts_are_unique}
use Rattle.plan_audit.proofs.laws.verdicts_are_unique.Goals as goal

pub returns : goal.returns
returns c = verdicts_are_unique
