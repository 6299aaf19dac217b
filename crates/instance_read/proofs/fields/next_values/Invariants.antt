-- The fields so far have the values of their words, and the words after them are left.
use Rattle.std.proofs.Common.{◌≡◌, ℕ, ◌<◌, drop, length}
use Rattle.instance_read.specs.FieldValues.{HasValue}
use Rattle.instance_read.proofs.fields.next_values.Given as goal

-- the fields so far are read, and the words after them are left
abbrev pub invariant-loop-i : goal.invariant-loop-i
invariant-loop-i g l = record {
  sized : length l.values ≡ g.row.N;
  rest : l.words ≡ drop l.i l.fn.words;
  read : (k : ℕ) → k < l.i → HasValue l.limits l.fn.words l.values k;
}
