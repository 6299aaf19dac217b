-- The draft's tours are the tables of a plan that passes, with its greatest demands and its number of vehicles
-- to look at. The request can be inserted at the best place.
use Rattle.std.proofs.Common.{rules, List, sym, subst}
use Rattle.slack_tables.specs.Course.{Course}
use Rattle.move_ops.specs.InsertionSearch.{IsScanLen}
use Rattle.move_ops.specs.Drafts.{draft_of}
use Rattle.move_ops.specs.Tables.{plan_of}
use Rattle.move_ops.proofs.PlacementLemmas.{within_put}
use Rattle.move_ops.proofs.draft.Draft.best_within.Goals as goal

pub best_within-requires : goal.best_within-requires
best_within-requires c =
    record {
      query = search rules;
      within = search rules;
      max_demands = search rules;
      reach = subst (λ (t : List Course). IsScanLen (plan_of t) c.scan_len.result) (sym (search rules)) c.scan_len.ensures.scan_len;
      first = search rules;
    }

pub returns-clause-put : goal.returns-clause-put
returns-clause-put c =
    let is = c.requires.is in
    within_put c.requests_are_found_by_stop.ensures c.requests_are_stored_by_name.ensures c.passing_is_local.ensures
    c.feasible_alone_decides_feasibility.ensures c.numbers_are_below_next_number.ensures.stops c.best_insertions_are_least.ensures
    c.args.problem.now c.args.pins.now.routes
    (draft_of c.args.self.now) is.valid is.draft c.args.request.now c.requires.request c.args.limit.now c.best_within.result
    (search rules)
