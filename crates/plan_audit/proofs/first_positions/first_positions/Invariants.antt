-- The positions so far and the first positions in the remaining routes are together the first positions in all
-- routes.
use Rattle.std.proofs.Common.{◌≡◌, ℕ, ◌<◌, None, drop, get_or, vec_len}
use Rattle.std.specs.Option.{option_or}
use Rattle.plan_audit.specs.FirstFault.{position_from, position_of}
use Rattle.plan_audit.proofs.first_positions.first_positions.Given as goal

abbrev pub invariant-loop-number : goal.invariant-loop-number
invariant-loop-number l = record {
  len : vec_len l.first_positions ≡ l.len;
  first : (n : ℕ) → n < l.len → option_or (get_or l.first_positions.items n None) (position_from n l.number (drop l.number l.routes)) ≡ position_of l.routes n;
}
