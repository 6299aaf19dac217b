-- The best insertion within the limit is the best of all; it opens no vehicle and adds less than the bound.
-- Without one the plan with the request is far.
use mir.Val.{SFits}
use Rattle.std.proofs.Common.{rules, w64, true, false, refl, subst}
use Rattle.std.proofs.lemmas.Int.{to_z-of_z}
use Rattle.move_ops.specs.BoundedPlacement.{IsPlacedBelow}
use Rattle.move_ops.specs.Drafts.{draft_of}
use Rattle.move_ops.proofs.LimitLemmas.{put_below, kept_below, unnamed_below}
use Rattle.move_ops.proofs.PlacementLemmas.{named_request}
use Rattle.move_ops.proofs.draft.Draft.place_below.Goals as goal

pub best_within-requires-clause-request : goal.best_within-requires-clause-request
best_within-requires-clause-request c =
    named_request c.args.problem.now c.requires.valid c.args.name c.in-Some.request (search rules)

pub returns-in_default-clause-placed : goal.returns-in_default-clause-placed
returns-in_default-clause-placed c =
    unnamed_below c.args.problem.now c.args.pins.now.routes (draft_of c.args.self.now) c.args.name c.args.below (search rules)

pub returns-in_default-best_within-clause-placed : goal.returns-in_default-best_within-clause-placed
returns-in_default-best_within-clause-placed c =
    let p = c.args.problem.now in
    let pins = c.args.pins.now.routes in
    let routes = draft_of c.args.self.now in
    let r = c.in-Some.request in
    let fits : SFits w64 c.args.below = record { sfits = c.ranges.below.sfits } in
    subst (λ b. IsPlacedBelow p pins c.args.name b false routes routes) (to_z-of_z w64 c.args.below fits)
    (kept_below c.insertion_laws.ensures p pins c.args.self.now c.requires r
    (named_request p c.requires.valid c.args.name r (search rules)) c.args.name
    (search rules) _ refl c.in_default-best_within.ensures.best)

pub returns-clause-placed : goal.returns-clause-placed
returns-clause-placed c =
    let p = c.args.problem.now in
    let pins = c.args.pins.now.routes in
    let routes = draft_of c.args.self.now in
    let r = c.in-Some.request in
    let fits : SFits w64 c.args.below = record { sfits = c.ranges.below.sfits } in
    subst (λ b. IsPlacedBelow p pins c.args.name b true routes (draft_of c.put.new.self)) (to_z-of_z w64 c.args.below fits)
    (put_below c.insertion_laws.ensures p pins c.args.self.now c.requires r
    (named_request p c.requires.valid c.args.name r (search rules)) c.args.name
    (search rules) _ refl c.in-Some-best_within.place c.in-Some-best_within.ensures.best c.in-Some-best_within.ensures.put
    (draft_of c.put.new.self) c.in_ok-put.ensures.draft)
