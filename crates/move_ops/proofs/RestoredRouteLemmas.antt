-- A vehicle that has its route of the base again, with its table.
use Rattle.std.proofs.Common.{◌≡◌, ◌∙◌, ◌-◌, ◌<◌, ◌≤◌, ℕ, List, Some, length, get_or, slice_get, refl, sym, ap, subst}
use Rattle.std.proofs.lemmas.Option.{slice_get_read, slice_get_within}
use Rattle.plan_types.specs.Instance.{Instance}
use Rattle.slack_tables.specs.Course.{Course, course_of, course_route}
use Rattle.move_ops.specs.declared.draft.Draft.TheInside.{Inside}
use Rattle.move_ops.specs.Drafts.{DraftState, undone}
use Rattle.move_ops.specs.DraftInvariant.{IsDraftInvariant}
use Rattle.move_ops.specs.UndoLog.{AreOnce}
use Rattle.move_ops.specs.FreshTables.{AreWithin}
use Rattle.move_ops.specs.Tables.{AreTablesIn}
use Rattle.move_ops.proofs.DraftLemmas.{base_course}
use Rattle.move_ops.proofs.LogLemmas.{base_at}
use Rattle.move_ops.proofs.OccurrenceLemmas.{some_same}

module _ (p : Instance) (d : DraftState) (old : Inside) (kept : IsDraftInvariant old) (view : old.log.items ≡ d.log)
    (base : AreTablesIn p (undone d.tours d.log)) (v k : ℕ) (high : v ≤ length d.tours)
    (x : Course) (there : slice_get d.log k ≡ Some (v, x)) where
  below : k < length d.log
  below = slice_get_within d.log k (v, x) there

  pub in_log : k < length old.log.items
  in_log = subst (λ (l : List (ℕ × Course)). k < length l) (sym view) below

  is_course : course_of p (course_route x) ≡ x
  is_course =
      let within : AreWithin (length old.tours.items) d.log = subst (AreWithin (length old.tours.items)) view kept.within in
      let once : AreOnce d.log = subst AreOnce view kept.once in
      base_course p (undone d.tours d.log) (v - 1) x (base_at d.tours d.log (length old.tours.items) k (v, x) there within once high) base

  read : (e : ℕ × Course) → e ≡ get_or old.log.items k e → e ≡ (v, x)
  read e at =
      some_same e (v, x)
      (sym (slice_get_read d.log (length d.log) k e refl below (subst (λ (l : List (ℕ × Course)). e ≡ get_or l k e) view at)) ∙ there)

  -- the log entry that was read has the vehicle's table in the base
  pub read_course : (e : ℕ × Course) → e ≡ get_or old.log.items k e → course_of p (course_route e.1) ≡ e.1
  read_course e at = subst (λ (y : ℕ × Course). course_of p (course_route y.1) ≡ y.1) (sym (read e at)) is_course

  -- if the stops of the entry are those of a route, the entry's table is that of the route
  module _ (e : ℕ × Course) (at : e ≡ get_or old.log.items k e) (route : List ℕ) (same : course_route e.1 ≡ route) where
    pub base_is : x ≡ course_of p route
    base_is = sym is_course ∙ ap (course_of p) (ap (λ (y : ℕ × Course). course_route y.1) (sym (read e at)) ∙ same)

    pub base_stops : course_route (course_of p route) ≡ route
    base_stops = ap course_route (sym base_is) ∙ (ap (λ (y : ℕ × Course). course_route y.1) (sym (read e at)) ∙ same)
