-- An integer is a minus or no sign and 1 to 20 digits; a longer word, or one with another byte, is not an
-- integer.
use Rattle.std.proofs.Common.{sym, length, arith}
use Rattle.std.proofs.lemmas.Bool.{le-leb, lt-leb}
use Rattle.text_lines.specs.Numbers.{integer_of}
use Rattle.text_lines.proofs.NumberLemmas.{digits_of-yes, digits_of-no}
use Rattle.text_lines.proofs.numeral.Number.parse_integer.Goals as goal

pub returns-then-digits-gt20 : goal.returns-then-digits-gt20
unfolding integer_of
returns-then-digits-gt20 c =
    let digits = c.split_minus-negative.result.1.now in
    rw (← c.split_minus-negative.ensures.rest, lt-leb (length digits) 20 (omega arith))

pub returns-in_err-value : goal.returns-in_err-value
unfolding integer_of
returns-in_err-value c =
    let digits = c.split_minus-negative.result.1.now in
    rw (
      c.from_residual.ensures,
      ← c.split_minus-negative.ensures.rest,
      le-leb (length digits) 20 (omega arith),
      digits_of-no digits (sym c.in_err-value.ensures.digits),
    )

pub returns : goal.returns
unfolding integer_of
returns c =
    let digits = c.split_minus-negative.result.1.now in
    rw (
      ← c.split_minus-negative.ensures.rest,
      ← c.split_minus-negative.ensures.minus,
      le-leb (length digits) 20 (omega arith),
      digits_of-yes digits (sym c.in_ok-value.ensures.digits),
    )
