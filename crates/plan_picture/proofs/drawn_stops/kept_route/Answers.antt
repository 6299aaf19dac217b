-- A known and new stop is kept, every other one is skipped.
use Rattle.std.proofs.Common.{◌≡◌, ◌∙◌, ◌+◌, ◌∷◌, drop, get_or, true, false, sym, ap, drop-cons, rules}
use Rattle.plan_picture.specs.DrawnStops.{is_new, kept_after}
use Rattle.plan_picture.proofs.KeptLemmas.{none_once, once_more, kept_new, kept_old}
use Rattle.plan_picture.proofs.drawn_stops.kept_route.Goals as goal
use Rattle.plan_picture.proofs.drawn_stops.kept_route.Goals.{then-is_new+in_ok-push, else-is_new}

pub loop-number-init : goal.loop-number-init
loop-number-init c = record { kept = ap (λ k. kept_after c.args.problem.now k c.args.route.now) c.new-kept.ensures; once = rw c.new-kept.ensures (none_once c.args.problem.now) }

pub loop-number-preserved : goal.loop-number-preserved
loop-number-preserved c =
    let p = c.args.problem.now in
    let kept = c.loop-number.kept in
    let route = c.args.route.now in
    let i = c.loop-number.number-index in
    let n = get_or route i 0 in
    let split : drop i route ≡ n ∷ drop (i + 1) route = search (rules, drop-cons) in
    let before : kept_after p kept (n ∷ drop (i + 1) route) ≡ _ = ap (kept_after p kept) (sym split) ∙ c.loop-number.invariant.kept in
    elim c.if-is_new.branch [
      | then-is_new+in_ok-push w ↦ (
          let new : is_new p kept n ≡ true = ap (λ k. is_new p k n) (sym c.as_slice.ensures) ∙ (sym c.is_new.ensures ∙ w.if-is_new.true) in
          let is = w.kept-is ∙ w.in_ok-push.ensures.ok in
          record {
            kept = ap (λ k. kept_after p k (drop (i + 1) route)) is ∙ (sym (kept_new p kept (drop (i + 1) route) n new) ∙ before);
            once = rw is (once_more p kept n c.loop-number.invariant.once new);
          })
      | else-is_new w ↦ (
          let old : is_new p kept n ≡ false = ap (λ k. is_new p k n) (sym c.as_slice.ensures) ∙ (sym c.is_new.ensures ∙ w.if-is_new.false) in
          record {
            kept = ap (λ k. kept_after p k (drop (i + 1) route)) w.kept-is ∙ (sym (kept_old p kept (drop (i + 1) route) n old) ∙ before);
            once = rw w.kept-is c.loop-number.invariant.once;
          })
    ]
