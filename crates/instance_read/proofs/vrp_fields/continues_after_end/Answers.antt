-- A word after -1 is found if the line has one; at the end of the line there is none.
use Rattle.std.proofs.Common.{◌∷◌, sym, ap, ◌∙◌}
use Rattle.text_lines.specs.Words.{words_of}
use Rattle.instance_read.proofs.VrpFieldLemmas.{goes_on-is, continues_from}
use Rattle.instance_read.proofs.vrp_fields.continues_after_end.Goals as goal

pub returns-then-ended : goal.returns-then-ended
returns-then-ended c =
    sym (ap (continues_from c.loop-word.ended) c.in-Some.ensures.steps ∙ ap (λ t. continues_from t (c.in-Some.word.now ∷ c.next.new.self)) c.if-ended.true)
    ∙ c.loop-word.invariant ∙ goes_on-is (words_of c.args.line.now)

pub returns : goal.returns
returns c =
    sym (ap (continues_from c.loop-word.ended) c.in-None.ensures.steps.0) ∙ c.loop-word.invariant ∙ goes_on-is (words_of c.args.line.now)
