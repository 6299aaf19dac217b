-- The request of a planned stop is planned, so it is movable if none of its stops is pinned
use Rattle.std.proofs.Common.{false, sym}
use Rattle.move_ops.specs.Drafts.{draft_of}
use Rattle.anneal_search.proofs.PlannedLemmas.{planned_at}
use Rattle.anneal_search.proofs.strings.movable_at.Goals as goal

pub returns-else-is_pinned : goal.returns-else-is_pinned
returns-else-is_pinned c =
    let found = c.in_ok-name.ensures in
    sym
    (planned_at c.args.problem.now c.args.pins.now.routes (draft_of c.args.draft.now) c.args.stop c.in_ok-name.name c.in_ok-request.request false (sym found.found)
    found.request (sym c.in_ok-request.ensures) c.requires.planned (sym c.if-is_pinned.ensures))
