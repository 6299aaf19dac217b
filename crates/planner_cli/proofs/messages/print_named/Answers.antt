-- The prefix is written, and then the name.
use Rattle.std.proofs.Common.{◌≡◌, ◌++◌, ◌∷◌, [], rules, sym, subst, append_assoc}
use Rattle.std.proofs.lemmas.Result.{err_from_is_err_and}
use Rattle.planner_cli.specs.Messages.{WritesPrefix, PrintsText}
use Rattle.planner_cli.proofs.MessageLemmas.{cut_short, part_front, told_after}
use Rattle.planner_cli.proofs.messages.print_named.Goals as goal

pub returns-in_err-put : goal.returns-in_err-put
returns-in_err-put g c =
    let reported = err_from_is_err_and c.from_residual.result c.from_residual.ensures.1 in
    let front = c.args.front.now in
    let name = c.args.name.now in
    let before = g.W.Write.contents c.args.output.now in
    let after = g.W.Write.contents c.put.new.output in
    cut_short ((front ++ name) ++ 10 ∷ []) c.args.status before after c.from_residual.result reported.0 reported.1
    (subst (λ t. WritesPrefix t before after) (sym (append_assoc front name (10 ∷ []))) (part_front front (name ++ 10 ∷ []) before after c.in_err-put.ensures.cut))

pub returns : goal.returns
returns g c =
    let front = c.args.front.now in
    let name = c.args.name.now in
    let before = g.W.Write.contents c.args.output.now in
    let mid = g.W.Write.contents c.put.new.output in
    let after = g.W.Write.contents c.print_line.new.output in
    let same : c.as_bytes.result.now ≡ name = search rules in
    subst (λ t. PrintsText t c.args.status before after c.print_line.result) (sym (append_assoc front name (10 ∷ [])))
    (told_after front (name ++ 10 ∷ []) c.args.status before mid after c.print_line.result c.in_ok-put.ensures.whole
    (subst (λ n. PrintsText (n ++ 10 ∷ []) c.args.status mid after c.print_line.result) same c.print_line.ensures))
