-- The text so far, followed by that of the remaining bytes with the remaining values, is the whole text.
use Rattle.std.proofs.Common.{◌≡◌, ◌++◌, drop, map}
use Rattle.plan_explain.specs.Templates.{form, value_text}
use Rattle.plan_explain.proofs.templates.put_template.Given as goal

abbrev pub invariant-loop-byte : goal.invariant-loop-byte
invariant-loop-byte l =
    l.text ++ form (drop l.byte-index l.words) (map value_text l.rest) ≡ l.fn.text ++ form l.words (map value_text l.values)
