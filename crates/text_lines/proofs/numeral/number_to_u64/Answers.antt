-- A word has a value below 2^64 exactly if it is a number that fits a `u64`.
use Rattle.std.proofs.Common.{◌≡◌, ◌^◌, ◌∙◌, Some, None, sym, ap}
use Rattle.std.specs.Option.{option_and_then}
use Rattle.text_lines.specs.Numbers.{below, magnitude, number_of}
use Rattle.text_lines.proofs.NumberLemmas.{below-from_SomeIff}
use Rattle.text_lines.proofs.numeral.number_to_u64.Goals as goal

pub returns-in_err-parse : goal.returns-in_err-parse
returns-in_err-parse c =
    let none : number_of c.args.word.now ≡ None = sym c.parse.ensures ∙ c.in_err-parse.was in
    c.from_residual.ensures ∙ ap (λ o. below (2 ^ 64) (option_and_then magnitude o)) (sym none)

pub returns : goal.returns
returns c =
    let some : number_of c.args.word.now ≡ Some c.in_ok-parse.field-0 = sym c.parse.ensures ∙ c.in_ok-parse.was in
    below-from_SomeIff (2 ^ 64) c.in_ok-parse.field-0 c.to_u64.result c.to_u64.ensures ∙ ap (λ o. below (2 ^ 64) (option_and_then magnitude o)) (sym some)
