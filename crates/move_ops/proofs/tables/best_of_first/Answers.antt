-- The vehicle of one more entry is searched, or has no stops and need not be searched.
use Rattle.std.proofs.Common.{rules, ◌-◌, ◌+◌, [], length, get_or, sym, subst, arith}
use Rattle.slack_tables.specs.Course.{course_route}
use Rattle.move_ops.specs.InsertionSearch.{IsBestAmongThese, IsScannable, IsScanned, IsEntryWithStops}
use Rattle.move_ops.specs.Insertion.{route_of}
use Rattle.move_ops.specs.Tables.{plan_of}
use Rattle.move_ops.proofs.QueryLemmas.{entry_at, lookable, named_idle, named_more}
use Rattle.move_ops.proofs.tables.best_of_first.Goals as goal
use Rattle.move_ops.proofs.tables.best_of_first.Goals.{then-stop_count-ne0, else-stop_count-ne0}

pub scan_vehicle-requires-clause-vehicle : goal.scan_vehicle-requires-clause-vehicle
scan_vehicle-requires-clause-vehicle c =
    let tables = c.args.vehicles.now.tables.now in
    let first = c.args.vehicles.now.first.now in
    let number = c.from-number in
    let table = c.index-tables-index.result in
    let e =
    entry_at (length tables) first c.loop-j.j c.index-first-j.result number.result c.requires.first
    (search rules) number.ensures in
    subst (λ u. IsScannable c.args.terms.now.problem.now c.args.terms.now.pins.now c.args.request.now c.args.ways.now u table) (sym e.2)
    (lookable c.insertion_laws.ensures c.requires.query (number.result - 1) table c.index-tables-index.is e.3 c.args.ways.now c.requires.distances)

pub loop-j-preserved : goal.loop-j-preserved
loop-j-preserved c =
    let p = c.args.terms.now.problem.now in
    let pins = c.args.terms.now.pins.now in
    let routes = plan_of c.args.vehicles.now.tables.now in
    let r = c.args.request.now in
    let first = c.args.vehicles.now.first.now in
    let limit = c.args.terms.now.limit.now in
    let v = c.from-number.result in
    let e = entry_at (length c.args.vehicles.now.tables.now) first c.loop-j.j c.index-first-j.result v c.requires.first (search rules) c.from-number.ensures in
    let table = c.index-tables-index.result in
    record {
      best = elim c.if-stop_count-ne0.branch [
        | then-stop_count-ne0 w ↦ (
            subst (IsBestAmongThese p pins routes r limit (IsEntryWithStops routes first (c.loop-j.j + 1))) (sym w.best-is)
            (named_more c.insertion_laws.ensures c.requires.query (v - 1) table c.index-tables-index.is e.3 first limit c.loop-j.j
            (get_or first c.loop-j.j c.index-first-j.result) e.0 e.1 (omega arith)
            (omega arith) c.loop-j.best w.scan_vehicle.new.best c.loop-j.invariant.best
            (subst (λ u. IsScanned p (course_route table) r
            (length (route_of pins u)) [] u limit c.loop-j.best w.scan_vehicle.new.best) e.2 w.scan_vehicle.ensures.scanned)))
        | else-stop_count-ne0 w ↦ (
            subst (IsBestAmongThese p pins routes r limit (IsEntryWithStops routes first (c.loop-j.j + 1))) (sym w.best-is)
            (named_idle c.insertion_laws.ensures c.requires.query (v - 1) table c.index-tables-index.is e.3 first limit c.loop-j.j
            (get_or first c.loop-j.j c.index-first-j.result) e.0 e.1 (omega arith) c.loop-j.best c.loop-j.invariant.best))
      ];
      short = search rules;
    }

pub returns-clause-best : goal.returns-clause-best
returns-clause-best c =
    let p = c.args.terms.now.problem.now in
    let pins = c.args.terms.now.pins.now in
    let routes = plan_of c.args.vehicles.now.tables.now in
    let r = c.args.request.now in
    let first = c.args.vehicles.now.first.now in
    let limit = c.args.terms.now.limit.now in
    subst (λ n. IsBestAmongThese p pins routes r limit (IsEntryWithStops routes first n) c.loop-j.best) (search rules) c.loop-j.invariant.best
