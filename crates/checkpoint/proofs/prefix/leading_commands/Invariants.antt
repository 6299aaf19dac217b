-- The commands so far are those of the leading records.
use Rattle.std.proofs.Common.{◌≡◌, length}
use Rattle.checkpoint.specs.Reads.{HasLeadingRecords}
use Rattle.checkpoint.proofs.prefix.leading_commands.Given as goal

abbrev pub invariant-loop-index : goal.invariant-loop-index
invariant-loop-index l = record { count : length l.commands.items ≡ l.index; led : HasLeadingRecords l.version l.prefix l.sequence l.commands.items }
