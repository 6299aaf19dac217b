-- The value so far is the value of the digits so far, and fits a `u64`. After the last digit it is the value of
-- all digits.
use Rattle.std.proofs.Common.{◌≡◌, ◌<◌, ◌^◌, take}
use Rattle.std.specs.Str.Parse.{digits_value}
use Rattle.text_lines.proofs.numeral.value_of.Given as goal

abbrev pub invariant-loop-digit : goal.invariant-loop-digit
invariant-loop-digit l = record {
  value : l.value ≡ digits_value 10 (take l.digit-index l.digits);
  small : l.value < 2 ^ 64;
}
