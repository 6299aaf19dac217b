-- After a request is inserted into a plan, it is planned, and so are all requests that were planned before
use Rattle.std.proofs.Common.{◌≡◌, ℕ, ◌+◌, ◌||◌, true, false, not, List, [], ◌∷◌, length, Option, Some, None, unwrap_or, refl, sym, subst, inl, inr, arith}
use Rattle.std.specs.List.{concat}
use Rattle.std.specs.Option.{option_and_then}
use Rattle.std.proofs.lemmas.Bool.{and_parts, leb-true, or_left, or_right, or_cases, not-true}
use Rattle.plan_types.specs.Instance.{Instance}
use Rattle.plan_types.specs.declared.requests.Request.{Request}
use Rattle.plan_types.specs.declared.requests.Request.TheVariants.{Single, Pair}
use Rattle.route_sched.specs.Cost.{has_stop, is_planned}
use Rattle.plan_audit.specs.Passes.{passes}
use Rattle.move_ops.specs.Insertion.{Insertion, request_named, route_of, passing, inserted, with_request_at, is_place_of, best_insertion, inserted_at}
use Rattle.move_ops.specs.Drafts.{placed}
use Rattle.move_ops.proofs.UnplannedCountLemmas.{planned_where}
use Rattle.move_ops.proofs.FitLemmas.{had_often, often_had}
use Rattle.move_ops.proofs.InsertionLemmas.{numbers_of, times_inserted}
use Rattle.move_ops.proofs.ReplacementLemmas.{times_with}
use Rattle.move_ops.proofs.OccurrenceLemmas.{some_same, times}
use Rattle.seeded_search.specs.Steps.{placed_all}
use Rattle.seeded_search.proofs.SearchLemmas.{and_then_some, then_some}

-- After a request is inserted, a number occurs as often as in the plan before and in the request together
times_then : (n : ℕ) (pins routes : List (List ℕ)) (r : Request) (x : Insertion) → is_place_of pins routes r x ≡ true
    → times n (concat (with_request_at routes r x)) ≡ times n (numbers_of r) + times n (concat routes)
times_then n pins routes r x at =
    let a = and_parts _ _ at in
    let b = and_parts _ _ a.1 in
    let e = times_with n routes x.0 (inserted r x.1 x.2 (route_of routes x.0)) (leb-true 1 x.0 a.0) (leb-true x.0 (length routes) b.0) in
    let f = times_inserted n r x.1 x.2 (route_of routes x.0) in
    omega arith

module _ (pins routes : List (List ℕ)) (r : Request) (x : Insertion) (at : is_place_of pins routes r x ≡ true) where
  abbrev new : List (List ℕ)
  new = with_request_at routes r x

  stop_kept : (n : ℕ) → has_stop routes n ≡ true → has_stop new n ≡ true
  stop_kept n had = let h = had_often (concat routes) n had in let e = times_then n pins routes r x at in often_had (concat new) n (omega arith)

  pub planned_kept : (s : Request) → is_planned routes s ≡ true → is_planned new s ≡ true
  planned_kept (Single s) had = elim (or_cases (has_stop routes s.number) false had) [
    | inl t ↦ or_left (has_stop new s.number) false (stop_kept s.number t)
    | inr t ↦ absurd (let h : false ≡ true = t in cc)
  ]
  planned_kept (Pair a b) had = elim (or_cases (has_stop routes a.number) (has_stop routes b.number || false) had) [
    | inl t ↦ or_left (has_stop new a.number) (has_stop new b.number || false) (stop_kept a.number t)
    | inr t ↦ elim (or_cases (has_stop routes b.number) false t) [
      | inl u ↦ or_right (has_stop new a.number) (has_stop new b.number || false) (or_left (has_stop new b.number) false (stop_kept b.number u))
      | inr u ↦ absurd (let h : false ≡ true = u in cc)
    ]
  ]

  pub planned_now : is_planned new r ≡ true
  planned_now = planned_where new r (λ n. let e = times_then n pins routes r x at in omega arith)

-- If all tests and look-ups succeed, the result is the plan with the request
pub put_in_gives : (p : Instance) (pins routes : List (List ℕ)) (name : ℕ) (x : Insertion) (y : List (List ℕ)) → inserted_at p pins routes name x ≡ Some y
    → (r : Request) × (request_named p name ≡ Some r) × (is_planned routes r ≡ false) × (is_place_of pins routes r x ≡ true) × (passes p pins y ≡ true) × (y ≡ with_request_at routes r x)
put_in_gives p pins routes name x y is =
    let t = and_then_some _ (request_named p name) y is in
    let r = t.0 in
    let u = then_some _ (passing p pins (with_request_at routes r x)) y t.2 in
    let v = then_some (passes p pins (with_request_at routes r x)) (Some (with_request_at routes r x)) y u.1 in
    let same : with_request_at routes r x ≡ y = some_same _ _ v.1 in
    let both = and_parts (not (is_planned routes r)) (is_place_of pins routes r x) u.0 in
    (r, t.1, not-true (is_planned routes r) both.0, both.1, subst (λ l. passes p pins l ≡ true) same v.0, sym same)

module _ (p : Instance) (pins : List (List ℕ)) (s : Request) where
  placed_keeps : (routes : List (List ℕ)) (name : ℕ) → is_planned routes s ≡ true → is_planned (placed p pins routes name) s ≡ true
  placed_keeps routes name had = by (option_and_then (inserted_at p pins routes name) (best_insertion p pins routes name)) refl
    where
      by : (o : Option (List (List ℕ))) → option_and_then (inserted_at p pins routes name) (best_insertion p pins routes name) ≡ o → is_planned (unwrap_or o routes) s ≡ true
      by None e = had
      by (Some y) e =
          let t = and_then_some (inserted_at p pins routes name) (best_insertion p pins routes name) y e in
          let g = put_in_gives p pins routes name t.0 y t.2 in
          subst (λ l. is_planned l s ≡ true) (sym g.5) (planned_kept pins routes g.0 t.0 g.3 s had)

  -- A planned request stays planned while several others are inserted one by one
  pub placed_all_keeps : (names : List ℕ) (routes : List (List ℕ)) → is_planned routes s ≡ true → is_planned (placed_all p pins routes names) s ≡ true
  placed_all_keeps [] routes had = had
  placed_all_keeps (name ∷ names) routes had = placed_all_keeps names (placed p pins routes name) (placed_keeps routes name had)
