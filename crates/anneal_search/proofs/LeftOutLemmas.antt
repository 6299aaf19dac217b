-- The requests that a candidate leaves out are among those that were inserted again, and the counters of
-- absences are bounded
use Rattle.std.proofs.Common.{◌≡◌, ◌∙◌, ℕ, not, true, false, List, [], ◌∷◌, map, filter, Some, refl, sym, ap, subst, inl, inr, nat_eq}
use Rattle.std.specs.List.{AllByRecursion}
use Rattle.std.specs.Map.{lookup}
use Rattle.std.specs.Option.{option_map_or}
use Rattle.std.proofs.lemmas.Bool.{cases_Bool}
use Rattle.plan_types.specs.Instance.{Instance, IsInstance}
use Rattle.plan_types.specs.declared.requests.Request.{Request}
use Rattle.route_sched.specs.Cost.{is_planned}
use Rattle.seeded_search.specs.Steps.{unplanned_names}
use Rattle.anneal_search.specs.Absences.{HoldLeftOut, is_left_out, left_out}
use Rattle.anneal_search.specs.Annealing.{recreated}
use Rattle.anneal_search.specs.Orders.{ordered}
use Rattle.move_ops.proofs.SortedRequestLemmas.{entries_found}
use Rattle.anneal_search.proofs.PlacedLemmas.{placed_all_keeps}

module _ (p : Instance) (left new : List (List ℕ)) (kept : (r : Request) → is_planned left r ≡ true → is_planned new r ≡ true) where
  among : (es : List (ℕ × Request)) → AllByRecursion (λ e. lookup (nat_eq e.0) p.requests ≡ Some e.1) es
      → left_out p new (map (λ e. e.0) (filter (λ e. not (is_planned left e.1)) es)) ≡ map (λ e. e.0) (filter (λ e. not (is_planned new e.1)) es)
  among [] found = refl
  among (e ∷ es) found = elim (cases_Bool (is_planned left e.1)) [
    | inl t ↦ rw (t, kept e.1 t) (among es found.1)
    | inr f ↦ rw f (
        let here : is_left_out p new e.0 ≡ not (is_planned new e.1) = ap (λ o. option_map_or (λ r. not (is_planned new r)) o false) found.0 in
        elim (cases_Bool (is_planned new e.1)) [
          | inl t ↦ rw (here, t) (among es found.1)
          | inr u ↦ rw (here, u) (ap (λ l. e.0 ∷ l) (among es found.1))
        ])
  ]

-- Every request that is left out after insertions was left out before them
pub held : (p : Instance) (pins : List (List ℕ)) (w : ℕ) (left new : List (List ℕ)) (names : List ℕ) → IsInstance p → names ≡ unplanned_names p left
    → new ≡ recreated p pins w left → HoldLeftOut p new names
held p pins w left new names valid is made =
    let kept : (r : Request) → is_planned left r ≡ true → is_planned new r ≡ true =
    λ r had. subst (λ l. is_planned l r ≡ true) (sym made) (placed_all_keeps p pins r (ordered p w (unplanned_names p left)) left had) in
    ap (left_out p new) is ∙ among p left new kept p.requests (entries_found p.requests valid.ascending)
