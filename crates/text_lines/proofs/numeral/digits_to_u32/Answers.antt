-- A word has a value below 2^32 exactly if it is all digits, and their value fits a `u64` and then a `u32`.
use Rattle.std.proofs.Common.{◌<◌, ◌^◌, ◌∙◌, Some, sym, ap, arith}
use Rattle.std.specs.Option.{SomeIff}
use Rattle.std.specs.Str.Parse.{digits_value}
use Rattle.text_lines.specs.Numbers.{below}
use Rattle.text_lines.proofs.NumberLemmas.{digits_of-yes, digits_of-no, below-none, below-from_OkIff}
use Rattle.text_lines.proofs.numeral.digits_to_u32.Goals as goal

pub returns-in_err-value : goal.returns-in_err-value
returns-in_err-value c =
    c.from_residual.ensures ∙ sym (ap (below (2 ^ 32)) (digits_of-no c.args.word.now (sym c.in_err-value.ensures.digits)))

pub returns-in_err-value-2 : goal.returns-in_err-value-2
returns-in_err-value-2 c =
    let word = c.args.word.now in
    let yes = digits_of-yes word (sym c.in_ok-value.ensures.digits) in
    let large : digits_value 10 word < 2 ^ 64 → ⊥ = rw c.in_err-value-2.was at c.in_ok-value.ensures.value in
    c.from_residual-in_err-value-2.ensures ∙ sym (ap (below (2 ^ 32)) yes ∙ below-none (2 ^ 32) (digits_value 10 word) (omega (arith, large)))

pub returns : goal.returns
returns c =
    let word = c.args.word.now in
    let yes = digits_of-yes word (sym c.in_ok-value.ensures.digits) in
    let value : SomeIff (Some c.in_ok-value-2.field-0) (digits_value 10 word < 2 ^ 64) (digits_value 10 word) =
    rw c.in_ok-value-2.was at c.in_ok-value.ensures.value in
    below-from_OkIff c.in_ok-value-2.field-0 c.ok.result c.try_from.result c.ok.ensures.value c.try_from.ensures
    ∙ ap (λ v. below (2 ^ 32) (Some v)) value.1
    ∙ sym (ap (below (2 ^ 32)) yes)
