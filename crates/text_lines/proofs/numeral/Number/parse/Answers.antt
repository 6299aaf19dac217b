-- A word is a number exactly if digits, and optionally a point and zeros, follow its sign; sign and digits
-- determine its value.
use Rattle.text_lines.specs.Numbers.{number_of}
use Rattle.text_lines.proofs.numeral.Number.parse.Goals as goal

pub returns-in_err-digits : goal.returns-in_err-digits
unfolding number_of
returns-in_err-digits c = rw (c.from_residual.ensures, ← c.split_sign-negative.ensures.rest, c.in_err-digits.ensures.whole)

pub returns : goal.returns
unfolding number_of
returns c = rw (← c.split_sign-negative.ensures.rest, ← c.split_sign-negative.ensures.minus, c.in_ok-digits.ensures.whole)
