-- If no request is unplanned before and after the change, or if the draft is the base, the lists of the old base
-- are also those of the new one.
use Rattle.std.proofs.Common.{rules, ◌≡◌, [], length, sym, subst, ◌∙◌}
use Rattle.std.proofs.lemmas.List.{nil_from_length}
use Rattle.route_sched.specs.Cost.{unplanned_count}
use Rattle.move_ops.specs.Drafts.{base_of, draft_of}
use Rattle.seeded_search.specs.Steps.{unplanned_names}
use Rattle.seeded_search.specs.SearchStates.{AreListsOf}
use Rattle.seeded_search.proofs.NameLemmas.{none_unplanned, movable_stay}
use Rattle.seeded_search.proofs.search_state.SearchState.accept.Goals as goal

-- if both plans leave no request out, the lists are kept
pub returns-then-is_empty : goal.returns-then-is_empty
returns-then-is_empty c =
    let p = c.args.context.now.problem.now in
    let old = base_of c.args.self.now.draft in
    let new = draft_of c.args.self.now.draft in
    let empty : length c.args.self.now.lists.unplanned.items ≡ 0 = search rules in
    let none : unplanned_count p new ≡ 0 = search rules in
    let before : unplanned_names p old ≡ [] = sym c.requires.lists.unplanned ∙ nil_from_length c.args.self.now.lists.unplanned.items empty in
    let after : unplanned_names p new ≡ [] = none_unplanned p new none in
    record {
      base = c.accept.ensures.base;
      settled = c.accept.ensures.draft;
      draft = c.accept.ensures.is p c.args.context.now.pins.now.routes c.requires.draft;
      incumbent = search rules;
      best = search rules;
      used_len = search rules;
      lists = record {
        movable = c.requires.lists.movable ∙ movable_stay p c.args.context.now.pins.now.routes old new before after;
        unplanned = c.requires.lists.unplanned ∙ (before ∙ sym after);
      };
      at = search rules;
      spatial_index = search rules;
    }

-- if the draft is the base, the lists are kept
pub returns-then-is_base : goal.returns-then-is_base
returns-then-is_base c =
    let p = c.args.context.now.problem.now in
    let pins = c.args.context.now.pins.now.routes in
    let same : draft_of c.args.self.now.draft ≡ base_of c.args.self.now.draft = search rules in
    record {
      base = c.accept.ensures.base;
      settled = c.accept.ensures.draft;
      draft = c.accept.ensures.is p pins c.requires.draft;
      incumbent = search rules;
      best = search rules;
      used_len = search rules;
      lists = subst (λ routes. AreListsOf p pins routes c.args.self.now.lists) (sym same) c.requires.lists;
      at = search rules;
      spatial_index = search rules;
    }
