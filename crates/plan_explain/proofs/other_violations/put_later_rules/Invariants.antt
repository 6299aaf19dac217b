-- The text so far, followed by that of the remaining rules, is the whole text.
use Rattle.std.proofs.Common.{◌≡◌, ◌++◌, drop}
use Rattle.std.specs.List.{flat_map}
use Rattle.plan_explain.specs.OtherViolations.{later_rule_text}
use Rattle.plan_explain.proofs.other_violations.put_later_rules.Given as goal

abbrev pub invariant-loop-rule : goal.invariant-loop-rule
invariant-loop-rule l = l.text ++ flat_map (later_rule_text l.problem l.routes l.reported) (drop l.rule-index l.rules) ≡ l.fn.text ++ flat_map (later_rule_text l.problem l.routes l.reported) l.rules
