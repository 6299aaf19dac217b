-- A request that is inserted into a plan becomes planned there, and all others stay planned. So the plan costs
-- less.
use Rattle.std.proofs.Common.{◌≡◌, ℕ, ◌<◌, Bool, true, false, not, List, [], ◌∷◌, Option, Some, None, unwrap_or, refl, sym, ap, subst, ◌∙◌, inl, inr, nat_lt, IsTrue}
use Rattle.std.specs.Option.{option_and_then}
use Rattle.std.proofs.lemmas.Bool.{lt-ltb, or_left, not-true}
use Rattle.plan_types.specs.Cost.{cost_at_most, CostsAreTotal, CostsAreTransitive, BelowIsAtMost}
use Rattle.plan_types.specs.Instance.{Instance}
use Rattle.plan_types.specs.declared.requests.Request.{Request}
use Rattle.route_sched.specs.Cost.{is_planned, unplanned_count, cost_of}
use Rattle.move_ops.specs.Insertion.{Insertion, request_named, with_request_at, is_place_of, best_insertion, inserted_at}
use Rattle.move_ops.specs.Drafts.{placed}
use Rattle.seeded_search.specs.Steps.{placed_all}
use Rattle.seeded_search.proofs.SearchLemmas.{and_then_some}
use Rattle.anneal_search.proofs.PlacedLemmas.{planned_kept, planned_now, put_in_gives}
use Rattle.command_core.proofs.CountLemmas.{count_less}

module _ (p : Instance) (pins routes : List (List ℕ)) (r : Request) (x : Insertion) (at : is_place_of pins routes r x ≡ true) where
  abbrev new : List (List ℕ)
  new = with_request_at routes r x

  unplanned_less : (name : ℕ) → request_named p name ≡ Some r → is_planned routes r ≡ false → unplanned_count p new < unplanned_count p routes
  unplanned_less name named unplanned =
      count_less (λ s. not (is_planned routes s)) (λ s. not (is_planned new s)) p.requests name r each named (ap not unplanned) (ap not (planned_now pins routes r x at))
    where
      each : (s : Request) → not (is_planned new s) ≡ true → not (is_planned routes s) ≡ true
      each s none = by (is_planned routes s) refl
        where
          by : (b : Bool) → is_planned routes s ≡ b → not b ≡ true
          by false e = refl
          by true e = absurd (let h : is_planned new s ≡ false = not-true (is_planned new s) none in let g : true ≡ false = sym (planned_kept pins routes r x at s e) ∙ h in cc)

module _ (total : CostsAreTotal) (transitive : CostsAreTransitive) (below : BelowIsAtMost) (p : Instance) (pins : List (List ℕ)) where
  abbrev CostsNoMore : List (List ℕ) → List (List ℕ) → Type 0
  CostsNoMore new old = IsTrue (cost_at_most (cost_of p new) (cost_of p old))

  pub same_cost : (routes : List (List ℕ)) → CostsNoMore routes routes
  same_cost routes = elim (total (cost_of p routes) (cost_of p routes)) [ inl t ↦ t | inr t ↦ t ]

  put_in_cost : (routes : List (List ℕ)) (name : ℕ) (x : Insertion) (y : List (List ℕ)) → inserted_at p pins routes name x ≡ Some y → CostsNoMore y routes
  put_in_cost routes name x y is =
      let t = put_in_gives p pins routes name x y is in
      let less = unplanned_less p pins routes t.0 x t.3 name t.1 t.2 in
      let one : CostsNoMore (with_request_at routes t.0 x) routes =
      below (cost_of p (with_request_at routes t.0 x)) (cost_of p routes) (or_left (nat_lt (unplanned_count p (with_request_at routes t.0 x)) (unplanned_count p routes)) _ (lt-ltb _ _ less)) in
      subst (λ l. CostsNoMore l routes) (sym t.5) one

  placed_cost : (routes : List (List ℕ)) (name : ℕ) → CostsNoMore (placed p pins routes name) routes
  placed_cost routes name = by (option_and_then (inserted_at p pins routes name) (best_insertion p pins routes name)) refl
    where
      by : (o : Option (List (List ℕ))) → option_and_then (inserted_at p pins routes name) (best_insertion p pins routes name) ≡ o → CostsNoMore (unwrap_or o routes) routes
      by None e = same_cost routes
      by (Some y) e = let t = and_then_some (inserted_at p pins routes name) (best_insertion p pins routes name) y e in put_in_cost routes name t.0 y t.2

  -- Inserting several requests one by one never makes a plan more expensive
  pub placed_all_cost : (names : List ℕ) (routes : List (List ℕ)) → CostsNoMore (placed_all p pins routes names) routes
  placed_all_cost [] routes = same_cost routes
  placed_all_cost (name ∷ names) routes =
      transitive (cost_of p (placed_all p pins (placed p pins routes name) names)) (cost_of p (placed p pins routes name)) (cost_of p routes)
      (placed_all_cost names (placed p pins routes name)) (placed_cost routes name)
