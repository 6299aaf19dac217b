-- The text so far, followed by that of the remaining numbers, is the whole text.
use Rattle.std.proofs.Common.{◌≡◌, ◌++◌, ◌∷◌, drop}
use Rattle.std.specs.Fmt.{signed_decimal}
use Rattle.std.specs.List.{flat_map}
use Rattle.instance_text.proofs.lines.put_more.Given as goal

abbrev pub invariant-loop-number : goal.invariant-loop-number
invariant-loop-number l =
    l.text.items ++ flat_map (λ n. 32 ∷ signed_decimal n) (drop l.number-index l.numbers) ≡ l.fn.text.items ++ flat_map (λ n. 32 ∷ signed_decimal n) l.numbers
