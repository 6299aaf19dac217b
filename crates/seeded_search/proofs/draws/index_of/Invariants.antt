-- The remaining older indices lead from the index so far to the final one; each index passed raised it by at
-- most one.
use Rattle.std.proofs.Common.{◌≡◌, ◌+◌, ◌≤◌, drop}
use Rattle.seeded_search.specs.Draws.{index_of}
use Rattle.seeded_search.proofs.draws.index_of.Given as goal

abbrev pub invariant-loop-older : goal.invariant-loop-older
invariant-loop-older l = record {
  leads : index_of (drop l.older-index l.taken) l.whole ≡ index_of l.taken l.index;
  bound : l.whole ≤ l.index + l.older-index;
}
