-- No word so far is at fault, so the first word at fault in the rest is the first of all.
use Rattle.std.proofs.Common.{◌≡◌, ◌+◌, ◌≤◌, length}
use Rattle.text_lines.specs.Words.{words_of}
use Rattle.instance_read.specs.WordEvidence.{faulty_word}
use Rattle.instance_read.proofs.number_evidence.faulty_word.Given as goal

-- the first word at fault in the rest is the first of all
abbrev pub invariant-loop-word : goal.invariant-loop-word
invariant-loop-word l = record {
  few : l.place + length l.word-iterator ≤ length l.line;
  first : faulty_word l.kind l.fields l.limits l.place l.word-iterator ≡ faulty_word l.kind l.fields l.limits 0 (words_of l.line);
}
