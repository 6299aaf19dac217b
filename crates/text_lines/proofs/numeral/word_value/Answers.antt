-- A word is all digits exactly if it is not empty and all its bytes are leading digits.
use Rattle.std.proofs.Common.{◌∙◌, sym, arith}
use Rattle.text_lines.proofs.NumberLemmas.{is_digits-full, is_digits-none, is_digits-short}
use Rattle.text_lines.proofs.numeral.word_value.Goals as goal

pub returns-then-len-eq0-clause-digits : goal.returns-then-len-eq0-clause-digits
returns-then-len-eq0-clause-digits c = sym (is_digits-none c.args.word.now (sym c.leading_digits-len.ensures.len ∙ c.if-len-eq0.true))

pub returns-then-len-word-clause-digits : goal.returns-then-len-word-clause-digits
returns-then-len-word-clause-digits c = sym (is_digits-short c.args.word.now (omega (arith, c.leading_digits-len.ensures.len, c.if-len-word.true)))

pub returns-clause-digits : goal.returns-clause-digits
returns-clause-digits c =
    let len = c.leading_digits-len.ensures.len in
    sym (is_digits-full c.args.word.now (omega (arith, len, c.if-len-eq0.false)) (omega (arith, len, c.if-len-word.false)))
