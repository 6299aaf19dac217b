-- A single that exceeds the capacity at the end, or is too far from the span, fits nowhere for less than the
-- bound.
use Rattle.std.proofs.Common.{w64, subst}
use mir.Val.{SFits}
use Rattle.std.proofs.lemmas.Int.{to_z-of_z}
use Rattle.slack_tables.specs.Span.{IsFarSingle}
use Rattle.slack_tables.proofs.SpanLemmas.{full-single, far-single}
use Rattle.slack_tables.proofs.scan.rules_out_single.Goals as goal

pub returns-then-is_full : goal.returns-then-is_full
returns-then-is_full c = λ _ depot near places kept d is laden to_depot.
    full-single c.args.limits places c.args.stop.now kept c.args.below d c.args.span.now is laden (c.is_full.ensures c.if-is_full.true)

pub returns : goal.returns
returns c = λ holds depot near places kept d is laden to_depot.
    (let below : SFits w64 c.args.below = record { sfits = c.ranges.below.sfits } in
    far-single c.args.limits places depot c.args.stop.now kept c.args.below d c.args.span.now is to_depot
    (subst (λ x. IsFarSingle c.args.span.now depot c.args.stop.now x) (to_z-of_z w64 c.args.below below) (c.is_far_single.ensures holds depot near)))
