-- The draft is unchanged, so it has no stop of the remaining requests either.
use Rattle.std.proofs.Common.{◌≡◌}
use Rattle.move_ops.proofs.draft.Draft.clear_named.Given as goal

abbrev pub invariant-loop-name : goal.invariant-loop-name
invariant-loop-name l = l.self ≡ l.fn.self
