-- The text is the old text and the bytes so far.
use Rattle.std.proofs.Common.{◌≡◌, ◌++◌, map, take}
use Rattle.plan_explain.specs.Quotes.{shown_byte}
use Rattle.plan_explain.proofs.quotes.put_bytes.Given as goal

abbrev pub invariant-loop-byte : goal.invariant-loop-byte
invariant-loop-byte l = l.text ≡ l.fn.text ++ map shown_byte (take l.byte-index l.bytes)
