-- A current request is inserted at its best place. Without a best place the draft is unchanged, as the plan is.
use Rattle.std.proofs.Common.{rules, ◌≡◌, ℕ, List, OnOk, subst}
use Rattle.move_ops.specs.Drafts.{draft_of}
use Rattle.move_ops.proofs.PlacementLemmas.{named_request, placed_named, stays_named}
use Rattle.move_ops.proofs.draft.Draft.place.Goals as goal

pub best-requires-clause-request : goal.best-requires-clause-request
best-requires-clause-request c =
    named_request c.args.problem.now c.requires.valid c.args.name c.in-Some.request (search rules)

pub returns-in-Some-best-clause-draft : goal.returns-in-Some-best-clause-draft
returns-in-Some-best-clause-draft c =
    let p = c.args.problem.now in
    let r = c.in-Some.request in
    subst (λ (l : List (List ℕ)). OnOk c.put.result (draft_of c.put.new.self ≡ l))
    (placed_named p c.requires.valid c.args.name r (search rules) c.args.pins.now.routes (draft_of c.args.self.now) c.in-Some-best.place
    (search rules) c.in-Some-best.ensures.put) c.put.ensures.draft

pub returns-in-None-clause-draft : goal.returns-in-None-clause-draft
returns-in-None-clause-draft c =
    let p = c.args.problem.now in
    let r = c.in-Some.request in
    stays_named p c.requires.valid c.args.name r (search rules) c.args.pins.now.routes (draft_of c.args.self.now) (search rules)
