-- The line with number n is the item at index n - 1 of the list of lines.
use Rattle.std.proofs.Common.{◌≡◌, ◌∙◌, ℕ, zero, suc, ◌-◌, ◌<◌, List, ap, sym, arith, slice_get}
use Rattle.std.specs.Option.{option_copied}
use Rattle.std.proofs.lemmas.Iterator.Consumers.{nth_from_yields_List, YieldsList-from_first}
use Rattle.text_lines.specs.Lines.{lines_of}
use Rattle.plan_audit.specs.Rules.{item_at}
use Rattle.plan_explain.proofs.quotes.line_at.Goals as goal

item_after : {X : Type 0} (xs : List X) (n : ℕ) → 0 < n → item_at xs n ≡ slice_get xs (n - 1)
item_after xs zero some = absurd (omega arith)
item_after xs (suc k) some = ap (slice_get xs) (let e : k ≡ suc k - 1 = omega arith in e)

pub returns : goal.returns
returns c =
    let lines = lines_of c.args.text.now in
    let found : option_copied c.nth.result ≡ slice_get lines (c.args.number - 1) =
    nth_from_yields_List c.nth.result c.nth.new.self (c.args.number - 1) c.nth.ensures.ran (YieldsList-from_first (λ x. x.now) (λ ls. ls) lines c.new.ensures.lines)
    in
    found ∙ sym (item_after lines c.args.number (omega (arith, c.if-number-eq0.false)))
