-- If the next request has no mark, its name is pushed; otherwise it is skipped
use Rattle.std.proofs.Common.{rules, ◌≡◌, ◌++◌, ◌∷◌, [], not, Some, None, sym, ◌∙◌}
use Rattle.seeded_search.specs.Names.{names_where}
use Rattle.command_core.specs.Marks.{is_marked}
use Rattle.seeded_search.proofs.NameLemmas.{name_pushed, name_passed}
use Rattle.command_core.proofs.marks.unmarked_names.Goals as goal
use Rattle.command_core.proofs.marks.unmarked_names.Goals.{in-Some+in_ok-push, in_default}

pub loop-index-preserved : goal.loop-index-preserved
loop-index-preserved c = elim c.match-unmarked_name.branch [
  | in-Some+in_ok-push w ↦ (
      let made : c.match-unmarked_name.names.items ≡ c.loop-index.names.items ++ w.in-Some.name ∷ [] = search rules in
      let found : c.unmarked_name.result ≡ Some w.in-Some.name = search rules in
      name_pushed (λ r. not (is_marked c.args.planned.now r)) c.loop-index.names.items c.match-unmarked_name.names.items c.args.problem.now.requests c.loop-index.index w.in-Some.name
      (names_where (λ r. not (is_marked c.args.planned.now r)) c.args.problem.now.requests) c.loop-index.invariant (sym c.unmarked_name.ensures ∙ found) made)
  | in_default w ↦ (
      let made : c.match-unmarked_name.names.items ≡ c.loop-index.names.items = search rules in
      let none : c.unmarked_name.result ≡ None = search rules in
      name_passed (λ r. not (is_marked c.args.planned.now r)) c.loop-index.names.items c.match-unmarked_name.names.items c.args.problem.now.requests c.loop-index.index
      (names_where (λ r. not (is_marked c.args.planned.now r)) c.args.problem.now.requests) c.loop-index.invariant (sym c.unmarked_name.ensures ∙ none) made)
]
