-- If the draft is far wherever the remaining requests are inserted, it is far with all of them inserted. So it
-- is discarded, and its base is unchanged.
use Rattle.std.proofs.Common.{rules, get_or, ◌≡◌, subst, true, false, ◌∙◌}
use Rattle.route_sched.specs.Cost.{cost_of}
use Rattle.move_ops.specs.Drafts.{draft_of}
use Rattle.move_ops.specs.Savings.{max_saving}
use Rattle.seeded_search.specs.Steps.{is_near}
use Rattle.seeded_search.proofs.PlacingLemmas.{all_far}
use Rattle.seeded_search.proofs.placing.place_all_if_near.Goals as goal

pub returns-then-not-branch-clause-made : goal.returns-then-not-branch-clause-made
returns-then-not-branch-clause-made c =
    let p = c.args.context.now.problem.now in
    let pins = c.args.context.now.pins.now.routes in
    let so_far = c.loop-name.invariant in
    let made = c.in_ok-place_if_near.ensures.made in
    let saved : c.from.result ≡ max_saving c.args.context.now.problem.now (get_or c.args.names.now c.loop-name.name-index 0) = search rules in
    let far = all_far c.placements_save_little.ensures p pins c.requires.valid c.args.near.now.deviation c.args.near.now.best.now
    (draft_of c.loop-name.draft) so_far.is.draft c.args.names.now c.loop-name.name-index c.loop-name.following c.loop-name.rest c.from.result 0
    c.loop-name-test.true so_far.following so_far.rest saved (made.far c.if-not-branch.true) in
    record {
      put = λ yes. absurd (let h : false ≡ true = yes in cc);
      dropped = λ no. c.discard.ensures.draft ∙ (c.in_ok-place_if_near.ensures.base ∙ so_far.base);
      far = λ no. subst (λ plan. is_near c.args.near.now.deviation (cost_of p plan) c.args.near.now.best.now ≡ false) so_far.left far;
    }
