-- The rest of the words, and whether -1 was met, decide whether a word follows -1.
use Rattle.std.proofs.Common.{◌≡◌, false}
use Rattle.text_lines.specs.Words.{words_of}
use Rattle.instance_read.proofs.VrpFieldLemmas.{continues_from}
use Rattle.instance_read.proofs.vrp_fields.continues_after_end.Given as goal

-- the rest of the words decides whether a word follows a -1
abbrev pub invariant-loop-word : goal.invariant-loop-word
invariant-loop-word l = continues_from l.ended l.word-iterator ≡ continues_from false (words_of l.line)
