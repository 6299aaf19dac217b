-- Digits after a minus or no sign, if the word ends after them, are the first word as a number.
use Rattle.std.proofs.Common.{length, sym, ◌∙◌}
use Rattle.std.proofs.lemmas.Bool.{eqb-false}
use Rattle.text_lines.proofs.PrefixLemmas.{begins_with_number}
use Rattle.text_lines.proofs.numeral.Number.parse_prefix.Goals as goal

pub returns : goal.returns
returns c =
    let digits = c.split_at.result.0.now in
    begins_with_number c.args.text.now c.split_minus-negative.result.1.now digits c.split_at.result.1.now c.split_minus-negative.result.0
    c.first_digits-len.result.0
    c.split_minus-negative.ensures.minus c.split_minus-negative.ensures.rest c.first_digits-len.ensures.digits c.split_at.ensures.front c.split_at.ensures.back
    (eqb-false (length digits) 0 (sym c.is_empty.ensures ∙ c.if-is_empty.false))
    (c.ends_word.ensures.0 c.if-not-ends_word.false)
