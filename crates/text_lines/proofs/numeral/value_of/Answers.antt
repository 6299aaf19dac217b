-- The value of the first digits is not greater than that of all digits. So if one more digit exceeds a `u64`,
-- the whole value does not fit.
use Rattle.std.proofs.Common.{◌+◌, arith, ◌∙◌, ap}
use Rattle.std.proofs.lemmas.Int.Digits.{digits_value_more}
use Rattle.std.proofs.lemmas.List.{take_all}
use Rattle.std.proofs.lemmas.List.Sums.{AllPass-from_list_all}
use Rattle.std.specs.Char.{is_ascii_digit}
use Rattle.std.specs.Str.Parse.{digits_value}
use Rattle.text_lines.proofs.NumberLemmas.{value-take-le}
use Rattle.text_lines.proofs.numeral.value_of.Goals as goal

pub with_digit-requires : goal.with_digit-requires
with_digit-requires c = AllPass-from_list_all is_ascii_digit c.args.digits.now c.requires c.loop-digit.digit-index 0 (omega arith)

pub returns-in_err-value : goal.returns-in_err-value
returns-in_err-value c =
    let ds = c.args.digits.now in
    let i = c.loop-digit.digit-index in
    rw c.from_residual.ensures (λ small. c.in_err-value.ensures
    (omega (arith, c.loop-digit.invariant.value, digits_value_more 10 ds i (omega arith), value-take-le ds (i + 1))))

pub loop-digit-preserved : goal.loop-digit-preserved
loop-digit-preserved c =
    let ds = c.args.digits.now in
    let i = c.loop-digit.digit-index in
    record {
      value = omega (arith, c.loop-digit.invariant.value, c.in_ok-value.ensures, digits_value_more 10 ds i (omega arith));
      small = omega (arith, c.in_ok-value.ensures);
    }

pub returns : goal.returns
returns c =
    let ds = c.args.digits.now in
    let whole = c.loop-digit.invariant.value ∙ ap (digits_value 10) (take_all c.loop-digit.digit-index ds (omega arith)) in
    (omega (arith, whole, c.loop-digit.invariant.small), whole)
