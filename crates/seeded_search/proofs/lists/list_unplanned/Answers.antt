-- The next request's name is appended if the request is unplanned, and skipped if it is planned.
use Rattle.std.proofs.Common.{rules, ◌≡◌, ◌++◌, ◌∷◌, [], not, Some, None, sym, ◌∙◌}
use Rattle.route_sched.specs.Cost.{is_planned}
use Rattle.move_ops.specs.Drafts.{draft_of}
use Rattle.seeded_search.specs.Steps.{unplanned_names}
use Rattle.seeded_search.proofs.NameLemmas.{name_pushed, name_passed}
use Rattle.seeded_search.proofs.lists.list_unplanned.Goals as goal
use Rattle.seeded_search.proofs.lists.list_unplanned.Goals.{in-Some+in_ok-push, in_default}

pub loop-index-preserved : goal.loop-index-preserved
loop-index-preserved c = elim c.match-unplanned_name.branch [
  | in-Some+in_ok-push w ↦ (
      let made : c.match-unplanned_name.names.items ≡ c.loop-index.names.items ++ w.in-Some.name ∷ [] = search rules in
      let found : c.unplanned_name.result ≡ Some w.in-Some.name = search rules in
      name_pushed (λ r. not (is_planned (draft_of c.args.draft.now) r)) c.loop-index.names.items c.match-unplanned_name.names.items c.args.problem.now.requests c.loop-index.index w.in-Some.name
      (unplanned_names c.args.problem.now (draft_of c.args.draft.now)) c.loop-index.invariant (sym c.unplanned_name.ensures ∙ found) made)
  | in_default w ↦ (
      let made : c.match-unplanned_name.names.items ≡ c.loop-index.names.items = search rules in
      let none : c.unplanned_name.result ≡ None = search rules in
      name_passed (λ r. not (is_planned (draft_of c.args.draft.now) r)) c.loop-index.names.items c.match-unplanned_name.names.items c.args.problem.now.requests c.loop-index.index
      (unplanned_names c.args.problem.now (draft_of c.args.draft.now)) c.loop-index.invariant (sym c.unplanned_name.ensures ∙ none) made)
]
