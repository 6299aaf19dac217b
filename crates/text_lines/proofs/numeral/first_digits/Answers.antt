-- The digits counted in the first bytes are leading digits of the text.
use Rattle.std.proofs.Common.{take, sym, ap, ◌∙◌, arith}
use Rattle.std.proofs.lemmas.List.Sums.{prefix_len-le-length}
use Rattle.std.specs.Char.{is_ascii_digit}
use Rattle.std.specs.List.{list_all}
use Rattle.text_lines.proofs.NumberLemmas.{front_passes, take_fewer}
use Rattle.text_lines.proofs.numeral.first_digits.Goals as goal

pub returns-clause-digits : goal.returns-clause-digits
returns-clause-digits c =
    let text = c.args.text.now in
    let front = take c.min.result text in
    let len = c.short_leading_digits.ensures.len in
    let fewer = take_fewer c.short_leading_digits.result.0 c.min.result text (omega (arith, len, prefix_len-le-length is_ascii_digit front)) in
    ap (list_all is_ascii_digit) (sym fewer ∙ ap (λ n. take n front) len) ∙ front_passes is_ascii_digit front
