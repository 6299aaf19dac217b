-- Up to 19 digits have a value below 2^64, so nothing overflows; the first other byte, or the end of the text,
-- determines their number.
use Rattle.std.proofs.Common.{◌≡◌, ℕ, ◌+◌, ◌*◌, ◌^◌, ◌<◌, ◌≤◌, true, length, get_or, take, sym, ap, ◌∙◌, arith, add-one}
use borrow.Author.Count.{below_more}
use Rattle.std.proofs.Math.Nat.{pow-suc, pow-le-pow_right}
use Rattle.std.proofs.lemmas.Int.Digits.{digits_value_more}
use Rattle.std.proofs.lemmas.List.Sums.{prefix_len_is}
use Rattle.std.specs.Char.{is_ascii_digit}
use Rattle.std.specs.List.{prefix_len}
use Rattle.std.specs.Str.Parse.{digits_value}
use Rattle.text_lines.proofs.NumberLemmas.{digit_bounds, digit_value-is}
use Rattle.text_lines.proofs.numeral.short_leading_digits.Goals as goal

-- a number of fewer than 19 digits with one more digit fits a `u64`
fits_more : (v i d : ℕ) → v < 10 ^ i → i < 19 → d ≤ 9 → v * 10 + d < 2 ^ 64
fits_more v i d small short digit =
    let p : i ≤ 18 = omega arith in
    let most : 10 ^ i ≤ 10 ^ 18 = pow-le-pow_right {n = 10} (omega arith) p in
    omega (arith, most)

pub returns-then-not-is_ascii_digit-clause-len : goal.returns-then-not-is_ascii_digit-clause-len
returns-then-not-is_ascii_digit-clause-len c =
    sym (prefix_len_is is_ascii_digit c.args.text.now c.loop-i.i 0 (omega arith) c.loop-i.invariant.digits
    (λ h. sym c.is_ascii_digit.ensures.value ∙ c.if-not-is_ascii_digit.true))

pub returns-then-not-is_ascii_digit-clause-value : goal.returns-then-not-is_ascii_digit-clause-value
returns-then-not-is_ascii_digit-clause-value c =
    let same =
    sym (prefix_len_is is_ascii_digit c.args.text.now c.loop-i.i 0 (omega arith) c.loop-i.invariant.digits
    (λ h. sym c.is_ascii_digit.ensures.value ∙ c.if-not-is_ascii_digit.true)) in
    c.loop-i.invariant.value ∙ ap (λ n. digits_value 10 (take n c.args.text.now)) same

pub overflow_mul-value : goal.overflow_mul-value
overflow_mul-value c = omega (arith, fits_more c.loop-i.value c.loop-i.i 0 c.loop-i.invariant.small (omega arith) (omega arith))

pub overflow_add-value : goal.overflow_add-value
overflow_add-value c =
    let range = digit_bounds (get_or c.args.text.now c.loop-i.i 0) (sym c.is_ascii_digit.ensures.value ∙ c.if-not-is_ascii_digit.false) in
    omega (arith, fits_more c.loop-i.value c.loop-i.i c.from.result c.loop-i.invariant.small (omega arith) (omega arith))

pub loop-i-preserved : goal.loop-i-preserved
loop-i-preserved c =
    let text = c.args.text.now in
    let i = c.loop-i.i in
    let byte = get_or text i 0 in
    let is : is_ascii_digit byte ≡ true = sym c.is_ascii_digit.ensures.value ∙ c.if-not-is_ascii_digit.false in
    let range = digit_bounds byte is in
    let power : 10 ^ (i + 1) ≡ 10 ^ i * 10 = rw add-one (pow-suc 10 i) in
    record {
      digits = below_more (λ k. is_ascii_digit (get_or text k 0) ≡ true) i c.loop-i.invariant.digits is;
      value = omega (arith, c.loop-i.invariant.value, digit_value-is byte is, digits_value_more 10 text i (omega arith));
      small = omega (arith, c.loop-i.invariant.small, power);
    }

pub returns-clause-len : goal.returns-clause-len
returns-clause-len c =
    sym (prefix_len_is is_ascii_digit c.args.text.now (length c.args.text.now) 0 (omega arith) (λ k h. c.loop-i.invariant.digits k (omega arith))
    (λ h. absurd (omega arith)))

pub returns-clause-value : goal.returns-clause-value
returns-clause-value c =
    let text = c.args.text.now in
    let same : length text ≡ prefix_len is_ascii_digit text =
    sym (prefix_len_is is_ascii_digit text (length text) 0 (omega arith) (λ k h. c.loop-i.invariant.digits k (omega arith)) (λ h. absurd (omega arith))) in
    let here : c.loop-i.i ≡ prefix_len is_ascii_digit text = omega (arith, same) in
    c.loop-i.invariant.value ∙ ap (λ n. digits_value 10 (take n text)) here
