-- Scanning the remaining bytes from the state so far leads to the final state.
use Rattle.std.proofs.Common.{◌≡◌, drop}
use Rattle.command_text.specs.Scanning.{scanned_on}
use Rattle.command_text.proofs.first_word.FirstWord.after_all.Given as goal

abbrev pub invariant-loop-byte : goal.invariant-loop-byte
invariant-loop-byte l = scanned_on l.word (drop l.byte-index l.bytes) ≡ scanned_on l.fn.self l.bytes
