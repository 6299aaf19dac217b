-- Changes of a draft.
use Rattle.std.proofs.Common.{◌≡◌, ℕ, ◌≤◌, ◌&&◌, not, Bool, true, false, cond, eqb, List, [], ◌∷◌, length, Some, None, refl, sym, ap, subst, ◌∙◌}
use Rattle.std.specs.List.{concat}
use Rattle.std.proofs.lemmas.List.Elements.{All-from_recursion}
use Rattle.std.proofs.lemmas.Option.{cond_some}
use Rattle.plan_types.specs.Instance.{Instance}
use Rattle.route_sched.specs.Route.{AreDistinctStops}
use Rattle.slack_tables.specs.Insertion.{KeepsLimits}
use Rattle.plan_audit.specs.Locality.{PassingIsLocal, FeasibleAloneDecidesFeasibility}
use Rattle.plan_audit.specs.Passes.{feasible_alone, passes}
use Rattle.move_ops.specs.Insertion.{route_of, with_route, passing}
use Rattle.move_ops.specs.Moves.{is_cut, joined, with_ends_exchanged, crossed}
use Rattle.move_ops.specs.Changes.{IsChange}
use Rattle.move_ops.specs.Drafts.{DraftState, draft_of, IsDraftOf}
use Rattle.move_ops.specs.declared.changes.Change.{Change}
use Rattle.move_ops.proofs.OccurrenceLemmas.{none_some, times}
use Rattle.move_ops.proofs.FitLemmas.{route_limits}
use Rattle.move_ops.proofs.InsertionCosts.{unplanned_same}
use Rattle.move_ops.proofs.CrossLemmas.{of_a, of_b, first_route_once, second_route_once, crossed_is, as_often}

-- a plan that `passing` returns passes
pub passing_some : (p : Instance) (pins routes given : List (List ℕ)) → passing p pins routes ≡ Some given → (passes p pins routes ≡ true) × (routes ≡ given)
passing_some p pins routes given = cond_some (passes p pins routes) routes given

pub if_some : (p : Instance) (pins routes given : List (List ℕ)) (b : Bool) → cond b (passing p pins routes) None ≡ Some given → passes p pins given ≡ true
if_some p pins routes given true at = let one = passing_some p pins routes given at in subst (λ l. passes p pins l ≡ true) one.1 one.0
if_some p pins routes given false at = absurd (none_some given at)

module _ (local : PassingIsLocal) (says : FeasibleAloneDecidesFeasibility) (p : Instance) (pins : List (List ℕ)) (d : DraftState) (is : IsDraftOf p pins d) (a ca b cb : ℕ)
    (can : true ≡ (not (eqb a b) && (is_cut pins (draft_of d) a ca && is_cut pins (draft_of d) b cb)))
    (first second : List ℕ) (is_first : first ≡ joined (route_of (draft_of d) a) ca (route_of (draft_of d) b) cb)
    (is_second : second ≡ joined (route_of (draft_of d) b) cb (route_of (draft_of d) a) ca) where
  pub once_first : AreDistinctStops p first
  once_first = subst (AreDistinctStops p) (sym is_first) (first_route_once local says p pins (draft_of d) (is.draft) a ca b cb can)

  pub once_second : AreDistinctStops p second
  once_second = subst (AreDistinctStops p) (sym is_second) (second_route_once local says p pins (draft_of d) (is.draft) a ca b cb can)

  made : with_route (with_route (draft_of d) a first) b second ≡ with_ends_exchanged (draft_of d) a ca b cb
  made = rw (is_first, is_second) refl

  pub answer : (f s : Bool) → f ≡ feasible_alone p first → s ≡ feasible_alone p second
      → cond (f && s) (Some (with_route (with_route (draft_of d) a first) b second)) None ≡ crossed p pins (draft_of d) a ca b cb
  answer f s e g =
      ap (λ l. cond (f && s) (Some l) None) made
      ∙ sym (crossed_is local says p pins (draft_of d) (is.draft) a ca b cb can f s (e ∙ ap (feasible_alone p) is_first) (g ∙ ap (feasible_alone p) is_second))

  abbrev both : List Change
  both = record { vehicle = a; route = first } ∷ record { vehicle = b; route = second } ∷ []

  pub crossed_change : (cs : List Change) → cs ≡ record { vehicle = a; route = first } ∷ record { vehicle = b; route = second } ∷ []
      → true ≡ feasible_alone p first → true ≡ feasible_alone p second → IsChange p pins (draft_of d) cs d.cost.unplanned
  crossed_change cs are f s =
      subst (λ (l : List Change). IsChange p pins (draft_of d) l d.cost.unplanned) (sym are)
      (let x = of_a local says p pins (draft_of d) (is.draft) a ca b cb can in
      let y = of_b local says p pins (draft_of d) (is.draft) a ca b cb can in
      record {
        within = All-from_recursion (λ (c : Change). (1 ≤ c.vehicle) × (c.vehicle ≤ length (draft_of d))) both ((x.0, x.1), ((y.0, y.1), tt));
        once = All-from_recursion (λ (c : Change). AreDistinctStops p c.route) both (once_first, (once_second, tt));
        keeps =
            All-from_recursion (λ (c : Change). KeepsLimits p c.route) both
            (route_limits p (is.valid) first (sym f), (route_limits p (is.valid) second (sym s), tt));
        passes = if_some p pins (with_ends_exchanged (draft_of d) a ca b cb) (with_route (with_route (draft_of d) a first) b second)
            (not (eqb a b) && (is_cut pins (draft_of d) a ca && is_cut pins (draft_of d) b cb)) (sym (answer true true f s));
        unplanned = ap (λ c. c.unplanned) (is.cost) ∙ unplanned_same (draft_of d) (with_route (with_route (draft_of d) a first) b second)
            (λ n. sym (ap (λ (l : List (List ℕ)). times n (concat l)) made ∙ as_often local says p pins (draft_of d) (is.draft) a ca b cb can n)) p;
      })
