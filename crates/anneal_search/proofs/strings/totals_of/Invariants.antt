-- The stops and used routes counted so far and those of the remaining routes add up to the totals, and no sum
-- overflows
use Rattle.std.proofs.Common.{◌≡◌, ◌+◌, ◌*◌, ◌^◌, ◌≤◌, length, drop}
use Rattle.std.specs.List.{concat}
use Rattle.route_sched.specs.Cost.{used_count}
use Rattle.move_ops.specs.Drafts.{draft_of}
use Rattle.anneal_search.proofs.strings.totals_of.Given as goal

abbrev pub invariant-loop-index : goal.invariant-loop-index
invariant-loop-index l = record {
  stops : l.stops + length (concat (drop l.index (draft_of l.draft))) ≡ length (concat (draft_of l.draft));
  stops_bound : l.stops ≤ l.index * 2 ^ 64;
  used : l.used + used_count (drop l.index (draft_of l.draft)) ≡ used_count (draft_of l.draft);
  used_bound : l.used ≤ l.index;
}
