-- A verdict `Broken` on printed routes with one of the rules 1 to 8 reports the first violation of that rule's
-- list, and the lists of the earlier rules are empty.
use Rattle.rule_violations.proofs.VerdictLemmas.{verdicts_report_first}
use Rattle.rule_violations.proofs.laws.verdicts_report_first_violations.Goals as goal

pub returns : goal.returns
returns c = verdicts_report_first c.lists_hold_all_violations.ensures
