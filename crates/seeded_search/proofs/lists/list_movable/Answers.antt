-- The next request's name is appended if the request is movable, and skipped if it is not.
use Rattle.std.proofs.Common.{rules, ◌≡◌, ◌≤◌, length, ◌++◌, ◌∷◌, [], Some, None, sym, ◌∙◌}
use Rattle.move_ops.specs.Moves.{is_movable}
use Rattle.move_ops.specs.Drafts.{draft_of}
use Rattle.seeded_search.specs.Steps.{movable_names}
use Rattle.seeded_search.proofs.NameLemmas.{name_pushed, name_passed, name_end}
use Rattle.seeded_search.proofs.lists.list_movable.Goals as goal
use Rattle.seeded_search.proofs.lists.list_movable.Goals.{in-Some+in_ok-push, in_default}

pub loop-index-preserved : goal.loop-index-preserved
loop-index-preserved c = elim c.match-movable_name.branch [
  | in-Some+in_ok-push w ↦ (
      let made : c.match-movable_name.names.items ≡ c.loop-index.names.items ++ w.in-Some.name ∷ [] = search rules in
      let found : c.movable_name.result ≡ Some w.in-Some.name = search rules in
      name_pushed (is_movable c.args.pins.now.routes
      (draft_of c.args.draft.now)) c.loop-index.names.items c.match-movable_name.names.items c.args.problem.now.requests c.loop-index.index w.in-Some.name
      (movable_names c.args.problem.now c.args.pins.now.routes (draft_of c.args.draft.now)) c.loop-index.invariant (sym c.movable_name.ensures ∙ found) made)
  | in_default w ↦ (
      let made : c.match-movable_name.names.items ≡ c.loop-index.names.items = search rules in
      let none : c.movable_name.result ≡ None = search rules in
      name_passed (is_movable c.args.pins.now.routes (draft_of c.args.draft.now)) c.loop-index.names.items c.match-movable_name.names.items c.args.problem.now.requests c.loop-index.index
      (movable_names c.args.problem.now c.args.pins.now.routes (draft_of c.args.draft.now)) c.loop-index.invariant (sym c.movable_name.ensures ∙ none) made)
]

pub returns : goal.returns
returns c =
    let all : length c.args.problem.now.requests ≤ c.loop-index.index = search rules in
    name_end (is_movable c.args.pins.now.routes (draft_of c.args.draft.now)) c.loop-index.names.items c.args.problem.now.requests c.loop-index.index
    (movable_names c.args.problem.now c.args.pins.now.routes (draft_of c.args.draft.now)) c.loop-index.invariant all
