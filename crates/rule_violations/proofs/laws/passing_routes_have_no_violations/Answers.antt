-- All lists of violations are empty for routes that pass.
use Rattle.rule_violations.proofs.VerdictLemmas.{passing_has_none}
use Rattle.rule_violations.proofs.laws.passing_routes_have_no_violations.Goals as goal

pub returns : goal.returns
returns c = passing_has_none c.lists_hold_all_violations.ensures
