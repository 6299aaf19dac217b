-- The stops so far and those of the strings in the remaining routes are the stops of all strings
use Rattle.std.proofs.Common.{◌≡◌, ◌++◌, drop}
use Rattle.move_ops.specs.Drafts.{draft_of}
use Rattle.anneal_search.specs.Strings.{strings_of}
use Rattle.anneal_search.proofs.strings.strings_of.Given as goal

abbrev pub invariant-loop-index : goal.invariant-loop-index
invariant-loop-index l = l.stops.items ++ strings_of (draft_of l.draft) l.words l.longest l.index (drop l.index l.nears) ≡ strings_of (draft_of l.draft) l.words l.longest 0 l.nears
