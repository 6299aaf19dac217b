-- The draft is the plan, so the exchange makes the plan with the two requests exchanged.
use Rattle.std.proofs.Common.{◌≡◌, ◌∙◌, ℕ, List, ap}
use Rattle.std.proofs.lemmas.Result.{IfOk-weaker}
use Rattle.move_ops.specs.Drafts.{draft_of}
use Rattle.move_ops.specs.Moves.{exchanged}
use Rattle.move_ops.proofs.PlacementLemmas.{made_plan}
use Rattle.move_ops.proofs.plan_moves.exchange.Goals as goal

pub returns : goal.returns
returns c =
    let p = c.args.problem.now in
    let pins = c.args.pins.now.routes in
    let draft = c.in_ok-draft.draft in
    let is : exchanged p pins (draft_of draft) c.args.a c.args.b ≡ exchanged p pins c.args.plan.now.routes c.args.a c.args.b =
    ap (λ (l : List (List ℕ)). exchanged p pins l c.args.a c.args.b) c.in_ok-draft.ensures.draft in
    IfOk-weaker c.plan_if.result _ _
    (λ o e. e ∙ (made_plan
    (exchanged p pins (draft_of draft) c.args.a c.args.b) c.in_ok-made.made draft c.exchange.new.self c.in_ok-made.ensures.draft
    ∙ is)) c.plan_if.ensures
