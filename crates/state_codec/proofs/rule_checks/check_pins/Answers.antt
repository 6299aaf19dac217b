-- A pin that is feasible by itself keeps the invariant; the first pin that is not is refused with the rule that
-- it breaks
use Rattle.std.proofs.Common.{◌≡◌, [], get_or, subst, ◌∙◌, List, ℕ}
use Rattle.std.proofs.lemmas.List.{get_or_read}
use Rattle.plan_audit.specs.Alone.{IsFeasibleAlone, IsFaultAlone}
use Rattle.state_codec.proofs.PinLemmas.{refused_here, refused_later, one_more_feasible}
use Rattle.state_codec.proofs.rule_checks.check_pins.Goals as goal

pub loop-pin-preserved : goal.loop-pin-preserved
loop-pin-preserved c =
    let p = c.args.problem.now in
    let pins = c.args.pins.now in
    let i = c.loop-pin.pin-index in
    let pin : c.as_slice.result.now ≡ get_or pins i [] = c.as_slice.ensures ∙ get_or_read pins i c.pin-item.result c.loop-pin-test.true c.pin-item.is [] in
    let feasible : IsFeasibleAlone p (get_or pins i []) = subst (λ (r : List ℕ). IsFeasibleAlone p r) pin c.in_default.ensures in
    record {
      feasible = one_more_feasible p pins i c.loop-pin-test.true c.loop-pin.invariant.feasible ((c.feasible_alone_decides_feasibility.ensures p (get_or pins i [])).1 feasible);
      first = λ rule h. c.loop-pin.invariant.first rule (refused_later p pins i rule c.loop-pin-test.true feasible h);
    }

pub returns-in-Some-clause-err : goal.returns-in-Some-clause-err
returns-in-Some-clause-err c =
    let p = c.args.problem.now in
    let pins = c.args.pins.now in
    let i = c.loop-pin.pin-index in
    let pin : c.as_slice.result.now ≡ get_or pins i [] = c.as_slice.ensures ∙ get_or_read pins i c.pin-item.result c.loop-pin-test.true c.pin-item.is [] in
    c.loop-pin.invariant.first c.in-Some.rule (refused_here p pins i c.in-Some.rule c.loop-pin-test.true (subst (λ (r : List ℕ). IsFaultAlone p r c.in-Some.rule) pin c.in-Some.ensures))
