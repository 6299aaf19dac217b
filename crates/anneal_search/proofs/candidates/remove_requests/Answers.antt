-- After the requests with a stop in a string are removed, the plan leaves out these requests and those that it
-- left out before. If no request is in a string, or the removal fails, there is no candidate.
use Rattle.std.proofs.Common.{rules, ◌≡◌, ◌==◌, true, false, length, refl, sym, ap, subst, ◌∙◌}
use Rattle.move_ops.specs.Drafts.{draft_of, IsMade}
use Rattle.move_ops.specs.Moves.{removed}
use Rattle.anneal_search.proofs.AnnealLemmas.{none_ruined, some_ruined}
use Rattle.anneal_search.specs.UnplannedNames.{with_names}
use Rattle.anneal_search.proofs.UnplannedNameLemmas.{missing_is}
use Rattle.anneal_search.proofs.candidates.remove_requests.Goals as goal

pub returns-then-is_empty-clause-taken : goal.returns-then-is_empty-clause-taken
returns-then-is_empty-clause-taken c =
    let none : length c.in_ok-names.names.items ≡ 0 = search rules in
    subst (λ answer. IsMade answer false c.args.draft.now c.args.draft.now)
    (sym (none_ruined c.args.context.now.problem.now c.args.context.now.pins.now.routes (draft_of c.args.draft.now) c.args.words.now c.in_ok-names.names.items c.in_ok-names.ensures.names none)) (refl, refl)

pub returns-then-not-branch-clause-taken : goal.returns-then-not-branch-clause-taken
returns-then-not-branch-clause-taken c =
    let p = c.args.context.now.problem.now in
    let pins = c.args.context.now.pins.now.routes in
    let routes = draft_of c.args.draft.now in
    let names = c.in_ok-names.names.items in
    let some : (length c.in_ok-names.names.items == 0) ≡ false = search rules in
    let made : IsMade (removed c.args.context.now.problem.now c.args.context.now.pins.now.routes
    (draft_of c.args.draft.now) c.in_ok-names.names.items) c.in_ok-remove.field-0 c.args.draft.now c.remove.new.self = search rules in
    subst (λ answer. IsMade answer false c.args.draft.now c.remove.new.self) (sym (some_ruined p pins routes c.args.words.now names c.in_ok-names.ensures.names some))
    (subst (λ done. IsMade (removed p pins routes names) done c.args.draft.now c.remove.new.self) c.if-not-branch.true made)

pub returns-clause-taken : goal.returns-clause-taken
returns-clause-taken c =
    let p = c.args.context.now.problem.now in
    let pins = c.args.context.now.pins.now.routes in
    let routes = draft_of c.args.draft.now in
    let names = c.in_ok-names.names.items in
    let some : (length c.in_ok-names.names.items == 0) ≡ false = search rules in
    let made : IsMade (removed c.args.context.now.problem.now c.args.context.now.pins.now.routes
    (draft_of c.args.draft.now) c.in_ok-names.names.items) c.in_ok-remove.field-0 c.args.draft.now c.remove.new.self = search rules in
    subst (λ answer. IsMade answer true c.args.draft.now c.remove.new.self) (sym (some_ruined p pins routes c.args.words.now names c.in_ok-names.ensures.names some))
    (subst (λ done. IsMade (removed p pins routes names) done c.args.draft.now c.remove.new.self) c.if-not-branch.false made)

pub returns-clause-missing : goal.returns-clause-missing
returns-clause-missing c =
    let p = c.args.context.now.problem.now in
    let pins = c.args.context.now.pins.now.routes in
    let routes = draft_of c.args.draft.now in
    let names = c.in_ok-names.names.items in
    let made : IsMade (removed c.args.context.now.problem.now c.args.context.now.pins.now.routes
    (draft_of c.args.draft.now) c.in_ok-names.names.items) c.in_ok-remove.field-0 c.args.draft.now c.remove.new.self = search rules in
    let all : c.in_ok-missing.missing.items ≡ with_names c.args.lists.now.unplanned.items c.in_ok-names.names.items = search rules in
    all ∙ (ap (λ before. with_names before names) c.requires.lists.unplanned
    ∙ missing_is c.requests_are_found_by_stop.ensures c.requests_are_stored_by_name.ensures p c.requires.draft.valid names
    routes pins c.in_ok-remove.field-0 c.args.draft.now c.remove.new.self made c.if-not-branch.false)
