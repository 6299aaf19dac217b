-- The bytes so far are digits with this value, which is less than 10 to the power of their number.
use Rattle.std.proofs.Common.{◌≡◌, ℕ, ◌<◌, ◌^◌, true, get_or, take}
use Rattle.std.specs.Char.{is_ascii_digit}
use Rattle.std.specs.Str.Parse.{digits_value}
use Rattle.text_lines.proofs.numeral.short_leading_digits.Given as goal

abbrev pub invariant-loop-i : goal.invariant-loop-i
invariant-loop-i l = record {
  digits : (k : ℕ) → k < l.i → is_ascii_digit (get_or l.text k 0) ≡ true;
  value : l.value ≡ digits_value 10 (take l.i l.text);
  small : l.value < 10 ^ l.i;
}
