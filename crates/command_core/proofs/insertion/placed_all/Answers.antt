-- Inserting the next request of the list and then the rest inserts the whole list
use Rattle.std.proofs.Common.{◌+◌, drop, sym, ap, ◌∙◌, arith}
use Rattle.std.proofs.lemmas.List.{drop_more}
use Rattle.move_ops.specs.Drafts.{draft_of}
use Rattle.seeded_search.specs.Steps.{placed_all}
use Rattle.command_core.proofs.insertion.placed_all.Goals as goal

pub loop-name-preserved : goal.loop-name-preserved
loop-name-preserved c =
    let p = c.args.problem.now in
    let pins = c.args.pins.now.routes in
    let names = c.args.names.now in
    let k = c.loop-name.name-index in
    record {
      is = c.accept.ensures.is p pins c.in_ok-place.ensures.is;
      rest =
          ap (λ routes. placed_all p pins routes (drop (k + 1) names)) (c.accept.ensures.draft ∙ c.in_ok-place.ensures.draft)
          ∙ (sym (ap (placed_all p pins (draft_of c.loop-name.draft)) (drop_more names k _ (omega arith))) ∙ c.loop-name.invariant.rest);
    }
