-- The word at a place is that of the list of words.
use Rattle.std.proofs.lemmas.Iterator.Consumers.{nth_from_yields_List, YieldsList-from_first}
use Rattle.text_lines.specs.Words.{words_of}
use Rattle.instance_read.proofs.number_evidence.nth_word.Goals as goal

pub returns : goal.returns
returns c =
    nth_from_yields_List c.nth.result c.nth.new.self c.args.place c.nth.ensures.ran (YieldsList-from_first (λ x. x.now) (λ words. words) (words_of c.args.line.now) c.new.ensures.words)
