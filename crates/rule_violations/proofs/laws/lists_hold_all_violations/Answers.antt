-- For each of the rules 1 to 8 the list holds exactly the violations, each once, in order of route, place and
-- stop; for the rules on pairs, 4 and 5, if no stop is repeated.
use Rattle.rule_violations.proofs.LawProofs.{lists_hold}
use Rattle.rule_violations.proofs.laws.lists_hold_all_violations.Goals as goal

pub returns : goal.returns
returns c = lists_hold
