-- A body is a number exactly if it begins with digits, and nothing or a point with only zeros follows them.
use Rattle.std.proofs.Common.{◌∙◌, sym, length, arith}
use Rattle.std.proofs.lemmas.Bool.{eqb-true, eqb-false}
use Rattle.std.proofs.lemmas.List.Sums.{prefix_len-le-length}
use Rattle.std.specs.Char.{is_ascii_digit}
use Rattle.text_lines.proofs.NumberLemmas.{whole_none-empty, whole_none-fraction, whole_some}
use Rattle.text_lines.proofs.numeral.whole_digits.Goals as goal

pub split_at-requires : goal.split_at-requires
split_at-requires c = omega (arith, c.leading_digits-len.ensures.len, prefix_len-le-length is_ascii_digit c.args.body.now)

pub returns-then-is_empty-clause-whole : goal.returns-then-is_empty-clause-whole
returns-then-is_empty-clause-whole c =
    let front = c.split_at.result.0.now in
    whole_none-empty c.args.body.now front c.split_at.result.1.now c.leading_digits-len.result.0 c.leading_digits-len.ensures.len c.split_at.ensures.front
    c.split_at.ensures.back
    (eqb-true (length front) 0 (sym c.is_empty.ensures ∙ c.if-is_empty.true))

pub returns-then-not-is_zero_fraction_text-clause-whole : goal.returns-then-not-is_zero_fraction_text-clause-whole
returns-then-not-is_zero_fraction_text-clause-whole c =
    whole_none-fraction c.args.body.now c.split_at.result.0.now c.split_at.result.1.now c.leading_digits-len.result.0 c.leading_digits-len.ensures.len
    c.split_at.ensures.front c.split_at.ensures.back
    (sym c.is_zero_fraction_text.ensures ∙ c.if-not-is_zero_fraction_text.true)

pub returns-clause-whole : goal.returns-clause-whole
returns-clause-whole c =
    let front = c.split_at.result.0.now in
    whole_some c.args.body.now front c.split_at.result.1.now c.leading_digits-len.result.0 c.leading_digits-len.ensures.len c.split_at.ensures.front
    c.split_at.ensures.back
    (eqb-false (length front) 0 (sym c.is_empty.ensures ∙ c.if-is_empty.false))
    (sym c.is_zero_fraction_text.ensures ∙ c.if-not-is_zero_fraction_text.false)
