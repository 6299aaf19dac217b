-- The bytes counted as leading digits are digits, so they have a value.
use Rattle.std.proofs.Common.{◌≡◌, true, take, subst, sym}
use Rattle.std.specs.Char.{is_ascii_digit}
use Rattle.std.specs.List.{list_all}
use Rattle.text_lines.proofs.NumberLemmas.{front_passes}
use Rattle.text_lines.proofs.numeral.leading_digits.Goals as goal

pub value_of-requires : goal.value_of-requires
value_of-requires c =
    let text = c.args.text.now in
    subst (λ n. list_all is_ascii_digit (take n text) ≡ true) (sym c.leading_digits_len-len.ensures.value) (front_passes is_ascii_digit text)
