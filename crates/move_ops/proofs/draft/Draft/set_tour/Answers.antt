-- The old tour goes into the log unless the log has a tour of the vehicle already, so the base is unchanged;
-- and the draft's invariant holds.
use Rattle.std.proofs.Common.{rules, ◌≡◌, ◌≤◌, ◌-◌, ◌++◌, ◌∷◌, [], ℕ, List, true, false, length, set, slice_get, ◌∙◌, refl, sym, ap, subst, arith}
use Rattle.std.specs.Vec.{with_items}
use Rattle.std.proofs.lemmas.List.{with_items_is}
use Rattle.slack_tables.specs.Course.{Course}
use Rattle.plan_audit.specs.Passes.{has}
use Rattle.move_ops.specs.Drafts.{undone}
use Rattle.move_ops.specs.UndoLog.{is_logged, AreOnce}
use Rattle.move_ops.specs.FreshTables.{AreWithin}
use Rattle.move_ops.proofs.DraftLemmas.{within_more, undone_with}
use Rattle.move_ops.proofs.LogLemmas.{kept_with, logged, not_logged, once_more, room_left, undone_same}
use Rattle.move_ops.proofs.draft.Draft.set_tour.Goals as goal

pub push_reserved-requires : goal.push_reserved-requires
push_reserved-requires c =
    let old = c.self.inside in
    let within : c.args.vehicle ≤ length old.tours.items = search rules in
    let none : is_logged old.log.items c.args.vehicle ≡ false =
    ap (λ (l : List (ℕ × Course)). is_logged l c.args.vehicle) (search rules)
    ∙ not_logged c.entry_of.result c.args.self.now.log c.args.vehicle c.entry_of.ensures (search rules) in
    let few = room_left (length old.tours.items) old.log.items c.args.vehicle c.requires.from_one within c.self.invariant.within c.self.invariant.once none in
    omega arith

pub invariant_of-self : goal.invariant_of-self
invariant_of-self c =
    let old = c.self.inside in
    let hints : c.deref_mut.result.now ≡ old.vehicle_hints.items = search rules in
    let new : c.swap-old.new.tours.items ≡ set old.tours.items (c.args.vehicle - 1) c.args.tour = search rules in
    let held : (with_items old.vehicle_hints c.set_hints.new.vehicle_hints).items ≡ c.set_hints.new.vehicle_hints =
    with_items_is old.vehicle_hints c.set_hints.new.vehicle_hints (c.set_hints.ensures.len ∙ (ap length hints ∙ (search rules))) in
    let within : c.args.vehicle ≤ length old.tours.items = search rules in
    let used_len = c.used_len_with-self-inside.ensures in
    let none : is_logged old.log.items c.args.vehicle ≡ false =
    ap (λ (l : List (ℕ × Course)). is_logged l c.args.vehicle) (search rules)
    ∙ not_logged c.entry_of.result c.args.self.now.log c.args.vehicle c.entry_of.ensures (search rules) in
    let log : c.push_reserved.new.self.items ≡ old.log.items ++ (c.args.vehicle, c.swap-old.result) ∷ [] = search rules in
    kept_with old _ c.args.vehicle c.args.tour c.set_hints.new.vehicle_hints c.self.invariant new held
    (λ n at. ap (λ l. has l n) (sym c.stops.ensures) ∙ c.set_hints.ensures.stops n at)
    (λ n at. ap (λ l. slice_get l n) (sym hints) ∙ c.set_hints.ensures.others n at) c.requires.from_one within used_len.used_len used_len.vehicle used_len.least
    (subst (λ (l : List (ℕ × Course)). AreWithin (length old.tours.items) l) (sym log)
    (within_more
    (length old.tours.items) old.log.items c.args.vehicle c.swap-old.result c.requires.from_one within c.self.invariant.within))
    (subst AreOnce (sym log)
    (once_more old.log.items c.args.vehicle c.swap-old.result none c.self.invariant.once)) c.push_reserved.ensures.capacity c.set_max_demand.ensures

pub invariant_of-self-else-is_first : goal.invariant_of-self-else-is_first
invariant_of-self-else-is_first c =
    let old = c.self.inside in
    let hints : c.deref_mut.result.now ≡ old.vehicle_hints.items = search rules in
    let new : c.swap-old.new.tours.items ≡ set old.tours.items (c.args.vehicle - 1) c.args.tour = search rules in
    let held : (with_items old.vehicle_hints c.set_hints.new.vehicle_hints).items ≡ c.set_hints.new.vehicle_hints =
    with_items_is old.vehicle_hints c.set_hints.new.vehicle_hints (c.set_hints.ensures.len ∙ (ap length hints ∙ (search rules))) in
    let within : c.args.vehicle ≤ length old.tours.items = search rules in
    let used_len = c.used_len_with-self-inside.ensures in
    kept_with old _ c.args.vehicle c.args.tour c.set_hints.new.vehicle_hints c.self.invariant new held
    (λ n at. ap (λ l. has l n) (sym c.stops.ensures) ∙ c.set_hints.ensures.stops n at)
    (λ n at. ap (λ l. slice_get l n) (sym hints) ∙ c.set_hints.ensures.others n at) c.requires.from_one within used_len.used_len used_len.vehicle used_len.least
    c.self.invariant.within c.self.invariant.once refl c.set_max_demand.ensures

pub returns-then-is_first-clause-base : goal.returns-then-is_first-clause-base
returns-then-is_first-clause-base c =
    undone_with c.self.inside.tours.items c.swap-old.new.tours.items c.self.inside.log.items c.push_reserved.new.self.items
    c.args.vehicle c.args.tour c.swap-old.result
    (search rules) (search rules) (search rules)
    ∙ (search rules)

pub returns-else-is_first-clause-base : goal.returns-else-is_first-clause-base
returns-else-is_first-clause-base c =
    let old = c.self.inside in
    let had : is_logged old.log.items c.args.vehicle ≡ true =
    ap (λ (l : List (ℕ × Course)). is_logged l c.args.vehicle) (search rules)
    ∙ logged c.entry_of.result c.args.self.now.log c.args.vehicle c.entry_of.ensures (search rules) in
    ap (λ (l : List Course). undone l old.log.items) (search rules)
    ∙ (undone_same old.tours.items old.log.items c.args.vehicle c.args.tour had ∙ (search rules))
