-- The text so far, followed by that of the remaining keys, is the whole text.
use Rattle.std.proofs.Common.{◌≡◌, ◌++◌, drop}
use Rattle.std.specs.List.{flat_map}
use Rattle.plan_explain.specs.EvidenceTexts.{missing_key_text, missing_text}
use Rattle.plan_explain.proofs.evidence.put_missing.Given as goal

abbrev pub invariant-loop-key : goal.invariant-loop-key
invariant-loop-key l = l.text ++ flat_map missing_key_text (drop l.key-index l.keys) ≡ l.fn.text ++ missing_text l.keys
