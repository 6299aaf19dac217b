-- The text is written, and then the line feed.
use Rattle.std.proofs.Common.{◌∷◌, [], refl}
use Rattle.std.proofs.KnownBytes.{Appends-trans}
use Rattle.std.proofs.lemmas.Result.{err_from_is_err_and}
use Rattle.planner_cli.proofs.MessageLemmas.{cut_short, part_after, part_front}
use Rattle.planner_cli.proofs.messages.print_line.Goals as goal

pub returns-in_err-put : goal.returns-in_err-put
returns-in_err-put g c =
    let reported = err_from_is_err_and c.from_residual.result c.from_residual.ensures.1 in
    cut_short _ c.args.status _ _ c.from_residual.result reported.0 reported.1 (part_front c.args.text.now (10 ∷ []) _ _ c.in_err-put.ensures.cut)

pub returns-in_err-put-2 : goal.returns-in_err-put-2
returns-in_err-put-2 g c =
    let reported = err_from_is_err_and c.from_residual-in_err-put-2.result c.from_residual-in_err-put-2.ensures.1 in
    cut_short _ c.args.status _ _ c.from_residual-in_err-put-2.result reported.0 reported.1
    (part_after c.args.text.now (10 ∷ []) _ _ _ c.in_ok-put.ensures.whole c.in_err-put-2.ensures.cut)

pub returns : goal.returns
returns g c = ((refl, Appends-trans _ _ _ c.args.text.now (10 ∷ []) c.in_ok-put.ensures.whole c.in_ok-put-2.ensures.whole), tt)
