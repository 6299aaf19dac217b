-- The result is what the remaining names determine.
use Rattle.std.proofs.Common.{◌≡◌}
use Rattle.std.specs.Prelude.{drop}
use Rattle.command_text.specs.Parsing.{verb_among}
use Rattle.command_text.proofs.VerbLemmas.{names_of}
use Rattle.command_text.proofs.verbs.verb_among.Given as goal

abbrev pub invariant-loop-name : goal.invariant-loop-name
invariant-loop-name l = verb_among (names_of (drop l.name-index l.verbs)) l.word ≡ verb_among (names_of l.verbs) l.word
