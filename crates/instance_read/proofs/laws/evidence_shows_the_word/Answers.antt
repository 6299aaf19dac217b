-- The evidence for a bad number is the first bad number in its line.
use Rattle.instance_read.proofs.EvidenceLemmas.{evidence_shows_the_word, numbers_show_the_word}
use Rattle.instance_read.proofs.SolomonEvidenceLemmas.{solomon_evidence_shows_the_word}
use Rattle.instance_read.proofs.laws.evidence_shows_the_word.Goals as goal

pub returns-clause-numbers : goal.returns-clause-numbers
returns-clause-numbers c = numbers_show_the_word

pub returns-clause-lilim : goal.returns-clause-lilim
returns-clause-lilim c = evidence_shows_the_word

pub returns-clause-solomon : goal.returns-clause-solomon
returns-clause-solomon c = solomon_evidence_shows_the_word
