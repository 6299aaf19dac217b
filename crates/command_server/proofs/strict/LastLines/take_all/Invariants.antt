-- The kept lines are those of the bytes so far.
use Rattle.std.proofs.Common.{ℕ, List, ◌++◌, take}
use Rattle.command_server.specs.Strict.{Follows}
use Rattle.command_server.proofs.strict.LastLines.take_all.Given as goal

abbrev pub invariant-loop-byte : goal.invariant-loop-byte
invariant-loop-byte l = (text : List ℕ) → Follows text l.fn.self → Follows (text ++ take l.byte-index l.bytes) l.self
