-- A full vehicle has no better insertion, and neither has a second vehicle without stops. Every other vehicle
-- is searched. No vehicle after the end has a better insertion.
use mir.Val.{SFits}
use Rattle.std.proofs.lemmas.Int.{to_z-of_z}
use Rattle.std.proofs.Common.{inl, length, ◌≡◌, ◌+◌, rules, w64, true, false, refl, sym, ◌∙◌, arith, subst}
use Rattle.slack_tables.specs.RequestFloors.{AreDistances}
use Rattle.move_ops.specs.Insertion.{route_of}
use Rattle.move_ops.specs.Tables.{plan_of}
use Rattle.move_ops.specs.InsertionSearch.{IsBestAmongThese, IsLooseBound, IsEntryOrUpTo}
use Rattle.std.proofs.lemmas.Option.{slice_get_read}
use Rattle.move_ops.proofs.ChoiceLemmas.{passed_by}
use Rattle.move_ops.proofs.QueryLemmas.{course_at, request_valid, from_named, lookable, idle_here, idle_more, one_more, one_skipped, beyond, answered}
use Rattle.move_ops.proofs.tables.best_by_max_demands.Goals as goal
use Rattle.move_ops.proofs.tables.best_by_max_demands.Goals.{then-stop_count-eq0+else-has_idle, else-stop_count-eq0}

pub loop-k-init : goal.loop-k-init
loop-k-init c =
    let first = c.args.vehicles.now.first.now in
    let limit = c.args.terms.now.limit.now in
    record {
      best =
          from_named c.insertion_laws.ensures c.requires.query first limit
          c.best_of_first-best.result c.best_of_first-best.ensures.best;
      below =
          let fits : SFits w64 c.bound_from-below.result = search rules in
          subst (IsLooseBound 1 limit c.best_of_first-best.result)
          (sym (to_z-of_z w64 c.bound_from-below.result fits)) c.bound_from-below.ensures;
      short = c.best_of_first-best.ensures.short;
      idle = λ h. absurd (let k : false ≡ true = h in cc);
    }

pub loop-k-preserved-then-is_full : goal.loop-k-preserved-then-is_full
loop-k-preserved-then-is_full c =
    let first = c.args.vehicles.now.first.now in
    let limit = c.args.terms.now.limit.now in
    let p = c.args.terms.now.problem.now in
    let tables = c.args.vehicles.now.tables.now in
    let table = c.index-tables-k.result in
    let at = slice_get_read tables (length tables) c.loop-k.k table refl (omega arith) c.index-tables-k.is in
    let out = c.is_full.ensures c.if-is_full.true tables c.requires.max_demands table at in
    let stays = passed_by p c.args.request.now table (length (route_of c.args.terms.now.pins.now (c.loop-k.k + 1)))
    (c.loop-k.k + 1) limit c.loop-k.best c.requires.query.valid
    (course_at tables c.loop-k.k table c.index-tables-k.is (omega arith) p c.requires.query.tables) c.requires.query.named out in
    record {
      best =
          one_more c.insertion_laws.ensures c.requires.query c.loop-k.k table c.index-tables-k.is
          (omega arith) first limit c.stops_are_few.ensures c.loop-k.best c.loop-k.best c.loop-k.invariant.best
          (inl stays);
      below = λ u from. c.loop-k.invariant.below u (omega arith);
      short = c.loop-k.invariant.short;
      idle = λ h. idle_more (plan_of tables) c.loop-k.k (c.loop-k.invariant.idle h);
    }

pub loop-k-preserved-then-has_idle : goal.loop-k-preserved-then-has_idle
loop-k-preserved-then-has_idle c =
    let first = c.args.vehicles.now.first.now in
    let limit = c.args.terms.now.limit.now in
    record {
      best =
          one_skipped c.insertion_laws.ensures c.requires.query c.loop-k.k c.index-tables-k.result c.index-tables-k.is
          (omega arith) first limit (omega arith)
          (c.loop-k.invariant.idle c.if-has_idle.true) c.loop-k.best c.loop-k.invariant.best;
      below = λ u from. c.loop-k.invariant.below u (omega arith);
      short = c.loop-k.invariant.short;
      idle = λ h. idle_more (plan_of c.args.vehicles.now.tables.now) c.loop-k.k (c.loop-k.invariant.idle h);
    }

pub of-ways-requires : goal.of-ways-requires
of-ways-requires c = request_valid c.insertion_laws.ensures c.requires.query

pub scan_vehicle-below-requires-clause-vehicle : goal.scan_vehicle-below-requires-clause-vehicle
scan_vehicle-below-requires-clause-vehicle c =
    let ways : AreDistances c.args.terms.now.problem.now.depot c.args.request.now c.of-ways.result = search rules in
    lookable c.insertion_laws.ensures c.requires.query c.loop-k.k c.index-tables-k.result c.index-tables-k.is (omega arith) c.of-ways.result ways

pub loop-k-preserved : goal.loop-k-preserved
loop-k-preserved c =
    let first = c.args.vehicles.now.first.now in
    let limit = c.args.terms.now.limit.now in
    record {
      best =
          one_more c.insertion_laws.ensures c.requires.query c.loop-k.k c.index-tables-k.result c.index-tables-k.is
          (omega arith) first limit
          (omega arith) c.loop-k.best c.scan_vehicle-below.new.best c.loop-k.invariant.best c.scan_vehicle-below.ensures.scanned;
      below = λ u from.
          (let fits : SFits w64 c.scan_vehicle-below.result = search rules in
          subst (IsLooseBound (c.loop-k.k + 1) limit c.scan_vehicle-below.new.best)
          (sym (to_z-of_z w64 c.scan_vehicle-below.result fits)) c.scan_vehicle-below.ensures.below u (omega arith));
      short = c.scan_vehicle-below.ensures.short;
      idle = λ h. elim c.if-stop_count-eq0.branch [
        | then-stop_count-eq0+else-has_idle w ↦
            (let none = w.if-stop_count-eq0 in
            idle_here c.insertion_laws.ensures c.requires.query c.loop-k.k c.index-tables-k.result c.index-tables-k.is (omega arith)
            (omega arith))
        | else-stop_count-eq0 w ↦ idle_more (plan_of c.args.vehicles.now.tables.now) c.loop-k.k (c.loop-k.invariant.idle (sym w.has_idle-is ∙ h))
      ];
    }

pub returns : goal.returns
returns c =
    let p = c.args.terms.now.problem.now in
    let pins = c.args.terms.now.pins.now in
    let routes = plan_of c.args.vehicles.now.tables.now in
    let r = c.args.request.now in
    let first = c.args.vehicles.now.first.now in
    let limit = c.args.terms.now.limit.now in
    let end : c.loop-k.k ≡ c.args.vehicles.now.end = search rules in
    answered c.insertion_laws.ensures c.requires.query first limit c.loop-k.best
    (beyond c.insertion_laws.ensures c.requires.query first limit c.args.vehicles.now.end c.requires.within c.requires.reach c.loop-k.best
    (subst (λ k. IsBestAmongThese p pins routes r limit
    (IsEntryOrUpTo routes first k) c.loop-k.best) end c.loop-k.invariant.best))
