-- The candidate that is made is the definition's candidate of the working plan. So `settle` leads to the result of
-- the definition's step
use Rattle.std.proofs.Common.{rules, ◌≡◌, ℕ, true, is_some, Some, sym, ap, ◌∙◌}
use Rattle.std.proofs.lemmas.Result.{on_ok_weaker}
use Rattle.move_ops.specs.Drafts.{base_of, draft_of}
use Rattle.seeded_search.proofs.SearchLemmas.{made_some}
use Rattle.anneal_search.specs.Annealing.{candidate}
use Rattle.anneal_search.specs.AttemptSteps.{attempt_state}
use Rattle.anneal_search.specs.AttemptState.{attempt_with, attempt_after}
use Rattle.anneal_search.proofs.attempts.Attempt.step.Goals as goal

pub returns-clause-tried : goal.returns-clause-tried
returns-clause-tried c =
    let p = c.args.context.now.problem.now in
    let pins = c.args.context.now.pins.now.routes in
    let old = c.args.self.now in
    let search_state = old.annealing.search_state in
    let draft = c.make.new.draft in
    let some_made : is_some c.in_ok-made.made ≡ true = search rules in
    let some : candidate p pins (base_of search_state.draft) c.args.words.now ≡ Some (draft_of draft) =
    ap (λ routes. candidate p pins routes c.args.words.now) (sym c.requires.attempt.annealing.search_state.settled)
    ∙ made_some (candidate p pins (draft_of search_state.draft) c.args.words.now) (is_some c.in_ok-made.made) search_state.draft draft c.in_ok-made.ensures.made some_made in
    let same : (first : ℕ) → attempt_with p c.args.context.now.deviation (record (attempt_state first old) { working = base_of draft }) (draft_of draft)
    ≡ attempt_after p c.args.context.now.deviation (attempt_state first old) (candidate p pins (base_of search_state.draft) c.args.words.now) =
    λ first. ap (λ base. attempt_with p c.args.context.now.deviation (record (attempt_state first old) { working = base }) (draft_of draft)) c.in_ok-made.ensures.base
    ∙ ap (attempt_after p c.args.context.now.deviation (attempt_state first old)) (sym some) in
    on_ok_weaker c.settle.result (λ h first. h first ∙ same first) c.settle.ensures.tried
