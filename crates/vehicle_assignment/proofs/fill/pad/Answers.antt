-- Another empty route, up to the fleet, does not change the padded list.
use Rattle.std.proofs.Common.{◌≡◌, ◌∙◌, ◌+◌, ◌++◌, ap, arith}
use Rattle.std.proofs.lemmas.List.{length-append}
use Rattle.std.specs.Prelude.{length, [], ◌∷◌}
use Rattle.vehicle_assignment.specs.Assignments.{padded}
use Rattle.vehicle_assignment.proofs.FillLemmas.{one_more}
use Rattle.vehicle_assignment.proofs.fill.pad.Goals as goal

pub loop-preserved : goal.loop-preserved
loop-preserved c =
    let pushed : c.push.new.self ≡ c.loop.assigned ++ c.new.result ∷ [] = c.in_ok-push.ensures.ok in
    let one : c.push.new.self ≡ c.loop.assigned ++ [] ∷ [] = pushed ∙ ap (λ r. c.loop.assigned ++ r ∷ []) c.new.ensures in
    record {
      counted = ap length one ∙ length-append c.loop.assigned ([] ∷ []) ∙ ap (λ n. n + 1) c.loop.invariant.counted;
      same = ap (padded c.args.fleet) one ∙ one_more c.args.fleet c.loop.assigned (omega (arith, c.loop.invariant.counted, c.loop-test.true)) ∙ c.loop.invariant.same;
    }
