-- The place of the first byte that is not a digit, or the length of the text if there is none, is the number of
-- leading digits.
use Rattle.std.proofs.Common.{not, ◌∙◌, rules, tests}
use Rattle.std.proofs.lemmas.Iterator.{YieldsList-from_slice}
use Rattle.std.proofs.lemmas.Iterator.Search.{position_from_yields_List}
use Rattle.std.specs.Char.{is_ascii_digit}
use Rattle.text_lines.proofs.PlaceLemmas.{front_or_len}
use Rattle.text_lines.proofs.numeral.leading_digits_len.Goals as goal

pub returns-clause-value : goal.returns-clause-value
returns-clause-value c =
    let text = c.args.text.now in
    c.unwrap_or.ensures
    ∙ front_or_len is_ascii_digit text c.position.result
    (position_from_yields_List (λ b. not (is_ascii_digit b)) _ _ c.position.result c.position.ensures.ran (YieldsList-from_slice text cc)
    (λ x b q k. search (rules, tests)))
