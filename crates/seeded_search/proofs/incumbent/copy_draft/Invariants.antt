-- The routes so far are those of the draft, and the others are unchanged.
use Rattle.std.proofs.Common.{◌≡◌, ℕ, ◌<◌, ◌≤◌, [], length, get_or}
use Rattle.move_ops.specs.Drafts.{draft_of}
use Rattle.seeded_search.proofs.incumbent.copy_draft.Given as goal

abbrev pub invariant-loop-index : goal.invariant-loop-index
invariant-loop-index l = record {
  long : length l.routes ≡ length (draft_of l.draft);
  same : (k : ℕ) → k < l.index → get_or l.routes k [] ≡ get_or (draft_of l.draft) k [];
  stays : (k : ℕ) → l.index ≤ k → get_or l.routes k [] ≡ get_or l.fn.routes k [];
}
