-- The text so far, followed by that of the remaining places, is the whole text.
use Rattle.std.proofs.Common.{◌≡◌, ◌++◌, drop}
use Rattle.std.specs.List.{flat_map}
use Rattle.plan_explain.specs.OtherViolations.{place_text}
use Rattle.plan_explain.proofs.other_violations.put_other_places.Given as goal

abbrev pub invariant-loop-breach : goal.invariant-loop-breach
invariant-loop-breach l = l.text ++ flat_map place_text (drop l.breach-index l.found) ≡ l.fn.text ++ flat_map place_text l.found
