-- The next vehicle's list is picked if the vehicle is marked, else it is skipped.
use Rattle.std.proofs.Common.{rules, ◌≡◌, ◌∙◌, ◌++◌, ◌∷◌, ◌+◌, [], cond, drop, get_or, true, false, sym, ap, append_assoc}
use Rattle.fleet_reduction.specs.Fleets.{list_at, picked}
use Rattle.fleet_reduction.proofs.PickedLemmas.{picked_next}
use Rattle.fleet_reduction.proofs.fleets.picked.Goals.{then-kept-index+in_ok-list_at+in_ok-push, else-kept-index}
use Rattle.fleet_reduction.proofs.fleets.picked.Goals as goal

pub loop-index-preserved : goal.loop-index-preserved
loop-index-preserved c =
    let kept = c.args.kept.now in
    let lists = c.args.lists.now in
    let i = c.loop-index.index in
    let rest = picked (drop (i + 1) kept) (drop (i + 1) lists) in
    let next = picked_next kept lists i c.loop-index-test.true in
    elim c.if-kept-index.branch [
      | then-kept-index+in_ok-list_at+in_ok-push w ↦ (
          let is : get_or c.args.kept.now c.loop-index.index false ≡ true = search rules in
          let pushed : c.if-kept-index.routes ≡ c.loop-index.routes ++ list_at c.args.lists.now c.loop-index.index ∷ [] = search rules in
          ap (λ l. l ++ rest) pushed ∙ (append_assoc c.loop-index.routes (list_at lists i ∷ []) rest
          ∙ (ap (λ l. c.loop-index.routes ++ l) (ap (λ b. cond b (list_at lists i ∷ rest) rest) (sym is) ∙ sym next) ∙ c.loop-index.invariant)))
      | else-kept-index w ↦ (
          let is : get_or c.args.kept.now c.loop-index.index false ≡ false = search rules in
          let same : c.if-kept-index.routes ≡ c.loop-index.routes = search rules in
          ap (λ l. l ++ rest) same ∙ (ap (λ l. c.loop-index.routes ++ l) (ap (λ b. cond b (list_at lists i ∷ rest) rest) (sym is) ∙ sym next) ∙ c.loop-index.invariant))
    ]
