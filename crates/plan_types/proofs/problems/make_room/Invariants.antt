-- Appending empty entries does not change what the table has for each number, and each round brings the table
-- closer to the length required.
use Rattle.std.proofs.Common.{◌≡◌, ℕ, ◌-◌, vec_len}
use Rattle.plan_types.specs.StopEntry.{table_entry}
use Rattle.plan_types.proofs.problems.make_room.Given as goal

abbrev pub invariant-loop-by_number : goal.invariant-loop-by_number
invariant-loop-by_number l = (n : ℕ) → table_entry l.by_number.items n ≡ table_entry l.fn.by_number.items n

abbrev pub decreases-loop-by_number : goal.decreases-loop-by_number
decreases-loop-by_number l = l.len - vec_len l.by_number
