-- The pins so far are feasible by themselves. So the first refused pin among the remaining ones is the first of
-- all
use Rattle.std.proofs.Common.{◌≡◌, true, take, drop, ℕ}
use Rattle.std.specs.List.{list_all}
use Rattle.plan_audit.specs.Passes.{feasible_alone}
use Rattle.state_codec.specs.DecodeResults.{IsPinRefused}
use Rattle.state_codec.proofs.rule_checks.check_pins.Given as goal

abbrev pub invariant-loop-pin : goal.invariant-loop-pin
invariant-loop-pin l = record {
  feasible : list_all (feasible_alone l.problem) (take l.pin-index l.pins) ≡ true;
  first : (rule : ℕ) → IsPinRefused l.problem (drop l.pin-index l.pins) rule → IsPinRefused l.problem l.pins rule;
}
