-- The entry's tour is restored, so without the entry the base is unchanged; and the draft's invariant holds.
use Rattle.std.proofs.Common.{rules, ◌≡◌, ◌-◌, ℕ, List, length, set, slice_get, ◌∙◌, sym, ap, subst, arith}
use Rattle.std.specs.Vec.{with_items}
use Rattle.std.proofs.lemmas.List.{with_items_is}
use Rattle.slack_tables.specs.Course.{Course}
use Rattle.plan_audit.specs.Passes.{has}
use Rattle.move_ops.specs.Drafts.{undone}
use Rattle.move_ops.specs.UndoLog.{AreOnce}
use Rattle.move_ops.specs.FreshTables.{AreWithin}
use Rattle.move_ops.proofs.LogLemmas.{kept_with, once_without, undone_without}
use Rattle.move_ops.proofs.OccurrenceLemmas.{some_same}
use Rattle.move_ops.proofs.draft.Draft.undo.Goals as goal

pub set_hints-requires : goal.set_hints-requires
set_hints-requires c = (c.remove_entry-vehicle.ensures.within (length c.self.inside.tours.items) c.self.invariant.within).1.0

pub set_max_demand-requires : goal.set_max_demand-requires
set_max_demand-requires c = (c.remove_entry-vehicle.ensures.within (length c.self.inside.tours.items) c.self.invariant.within).1.0

pub overflow_sub-vehicle : goal.overflow_sub-vehicle
overflow_sub-vehicle c = (c.remove_entry-vehicle.ensures.within (length c.self.inside.tours.items) c.self.invariant.within).1.0

pub swap-tried-requires : goal.swap-tried-requires
swap-tried-requires c = let parts = c.remove_entry-vehicle.ensures.within (length c.self.inside.tours.items) c.self.invariant.within in omega arith

pub invariant_of-self : goal.invariant_of-self
invariant_of-self c =
    let old = c.self.inside in
    let taken = c.remove_entry-vehicle.ensures in
    let parts = taken.within (length old.tours.items) c.self.invariant.within in
    let hints : c.deref_mut.result.now ≡ old.vehicle_hints.items = search rules in
    let new : c.swap-tried.new.tours.items ≡ set old.tours.items (c.remove_entry-vehicle.result.0 - 1) c.remove_entry-vehicle.result.1 = search rules in
    let held : (with_items old.vehicle_hints c.set_hints.new.vehicle_hints).items ≡ c.set_hints.new.vehicle_hints =
    with_items_is old.vehicle_hints c.set_hints.new.vehicle_hints (c.set_hints.ensures.len ∙ (ap length hints ∙ (search rules))) in
    let used_len = c.used_len_with-self-inside.ensures in
    kept_with old _ c.remove_entry-vehicle.result.0 c.remove_entry-vehicle.result.1 c.set_hints.new.vehicle_hints c.self.invariant new held
    (λ n at. ap (λ l. has l n) (sym c.stops.ensures) ∙ c.set_hints.ensures.stops n at)
    (λ n at. ap (λ l. slice_get l n) (sym hints) ∙ c.set_hints.ensures.others n at) parts.1.0 parts.1.1 used_len.used_len used_len.vehicle used_len.least
    (subst (λ (l : List (ℕ × Course)). AreWithin (length old.tours.items) l) (sym taken.rest) parts.0)
    (subst AreOnce (sym taken.rest) (once_without old.log.items c.args.entry c.self.invariant.once)) taken.room c.set_max_demand.ensures

pub returns-clause-tours : goal.returns-clause-tours
returns-clause-tours c = λ e there.
    (search rules)
    ∙ ap (λ (y : ℕ × Course). set c.args.self.now.tours (y.0 - 1) y.1)
    (some_same c.remove_entry-vehicle.result e
    (sym c.remove_entry-vehicle.ensures.at ∙ (ap (λ (l : List (ℕ × Course)). slice_get l c.args.entry) (search rules) ∙ there)))

pub returns-clause-base : goal.returns-clause-base
returns-clause-base c =
    let old = c.self.inside in
    let taken = c.remove_entry-vehicle.ensures in
    let new : c.swap-tried.new.tours.items ≡ set old.tours.items (c.remove_entry-vehicle.result.0 - 1) c.remove_entry-vehicle.result.1 = search rules in
    ap (λ (l : List Course). undone l c.remove_entry-vehicle.new.log.items) new
    ∙ (ap (undone (set old.tours.items (c.remove_entry-vehicle.result.0 - 1) c.remove_entry-vehicle.result.1)) taken.rest
    ∙ (undone_without old.tours.items old.log.items
    (length old.tours.items) c.args.entry c.remove_entry-vehicle.result taken.at c.self.invariant.within c.self.invariant.once
    ∙ (search rules)))
