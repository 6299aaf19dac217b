-- The best insertion if it costs less than a limit.
use Rattle.std.proofs.Common.{◌≡◌, ℕ, ◌+◌, ℤ, pos, ◌<ℤ◌, Bool, true, false, List, Option, Some, None, refl, sym, ap, subst, ◌∙◌, inl, inr, arith, nat_eq}
use Rattle.std.specs.Prelude.{[], MatchOption}
use Rattle.std.specs.List.{Contains}
use Rattle.std.specs.Map.{lookup}
use Rattle.std.proofs.lemmas.Int.{ints, by_lt_z}
use Rattle.plan_types.specs.Instance.{Instance}
use Rattle.plan_types.specs.Request.{request_name}
use Rattle.plan_types.specs.declared.requests.Request.{Request}
use Rattle.route_sched.specs.Cost.{is_planned, unplanned_count}
use Rattle.move_ops.specs.BoundedPlacement.{IsFar, IsPlacedBelow}
use Rattle.move_ops.specs.Changes.{IsInsertable}
use Rattle.move_ops.specs.InsertionSearch.{opens, added_distance, IsAllowed, IsBestWithin, InsertionLaws, IsQuery}
use Rattle.move_ops.specs.Drafts.{DraftState, draft_of, IsDraftOf, placed}
use Rattle.move_ops.specs.Insertion.{Insertion, request_named, route_of, insertions, insertions_of, with_request_at, best_insertion}
use Rattle.move_ops.specs.Laws.{IsBest}
use Rattle.move_ops.specs.declared.tables.Limit.{Limit}
use Rattle.move_ops.proofs.OccurrenceLemmas.{none_some}
use Rattle.move_ops.proofs.InsertionCosts.{IsPriced, used_with, distance_with}
use Rattle.move_ops.proofs.ChoiceLemmas.{unlimited, priced_at}
use Rattle.move_ops.proofs.Places.{within, listed}
use Rattle.move_ops.proofs.PlacementLemmas.{named_so, placed_none}

-- a plan is far from itself (`IsFar`), since no request was inserted
far_itself : (p : Instance) (routes other : List (List ℕ)) (below : ℤ) → routes ≡ other → IsFar p routes other below
far_itself p routes other below same = subst (λ (l : List (List ℕ)). IsFar p routes l below) same (inl (omega arith))

-- if a vehicle is opened or the bound is reached, the result is far
module _ (p : Instance) (routes : List (List ℕ)) (r : Request) (l : Limit) (none : l.opens ≡ false) (x : Insertion)
    (is : IsPriced p routes r x (opens p.kind (route_of routes x.0)) (added_distance p routes r x)) where
  far_at : (IsAllowed p routes r l x → ⊥) → IsFar p routes (with_request_at routes r x) l.below
  far_at out = by (opens p.kind (route_of routes x.0)) refl is
    where
      by : (o : Bool) → opens p.kind (route_of routes x.0) ≡ o → IsPriced p routes r x o (added_distance p routes r x)
          → IsFar p routes (with_request_at routes r x) l.below
      by true opened priced = inr (inl (let e = used_with p routes r x true (added_distance p routes r x) priced in omega arith))
      by false opened priced = by_lt_z {P = IsFar p routes (with_request_at routes r x) l.below} (added_distance p routes r x) l.below
          (λ less. absurd (out (inr (opened ∙ sym none, less))))
          (λ more. inr (inr (let e = distance_with p routes r x false (added_distance p routes r x) priced in omega (arith, ints))))

  near_at : IsAllowed p routes r l x → unplanned_count p routes ≡ unplanned_count p (with_request_at routes r x) + 1
      → IsFar p routes (with_request_at routes r x) l.below → ⊥
  near_at allowed fewer far = elim allowed [
    | inl opened ↦ absurd (let h : true ≡ false = sym opened.1 ∙ none in cc)
    | inr alike ↦ by (opens p.kind (route_of routes x.0)) (alike.0 ∙ none) alike.1 is
  ]
    where
      by : (o : Bool) → o ≡ false → added_distance p routes r x <ℤ l.below → IsPriced p routes r x o (added_distance p routes r x) → ⊥
      by true opened less priced = absurd (let h : true ≡ false = opened in cc)
      by false opened less priced =
          let e = used_with p routes r x false (added_distance p routes r x) priced in
          let f = distance_with p routes r x false (added_distance p routes r x) priced in
          elim far [
            | inl as_many ↦ omega arith
            | inr more ↦ elim more [ inl vehicles ↦ omega arith | inr dear ↦ omega (arith, ints) ]
          ]

-- the result of a bounded insertion into a draft
module _ (laws : InsertionLaws) (p : Instance) (pins : List (List ℕ)) (d : DraftState) (is : IsDraftOf p pins d) (r : Request)
    (named : request_named p (request_name r) ≡ Some r) where
  abbrev routes : List (List ℕ)
  routes = draft_of d

  query : is_planned routes r ≡ false → IsQuery p pins d.tours r
  query free = record { valid = is.valid; tables = is.tables; good = is.draft; named = named; free = free }

  planned_none : is_planned routes r ≡ true → best_insertion p pins routes (request_name r) ≡ None
  planned_none planned = rw (named, planned) refl

  among : (x : Insertion) → best_insertion p pins routes (request_name r) ≡ Some x → Contains (insertions_of p pins routes r) x
  among x best =
      let least : IsBest p pins routes r x =
      subst (λ (o : Option Insertion). MatchOption o (insertions p pins routes (request_name r) ≡ []) (IsBest p pins routes r)) best
      (laws.least p pins routes (request_name r) r named) in
      least.among

  placed_at : (x : Insertion) → best_insertion p pins routes (request_name r) ≡ Some x → placed p pins routes (request_name r) ≡ with_request_at routes r x
  placed_at x best =
      let reported = listed p pins routes r x (within (insertions_of p pins routes r) x (among x best)) in
      rw (best, named, reported.0, reported.1, reported.2) refl

  priced : (x : Insertion) → best_insertion p pins routes (request_name r) ≡ Some x
      → IsPriced p routes r x (opens p.kind (route_of routes x.0)) (added_distance p routes r x)
  priced x best = by (is_planned routes r) refl
    where
      by : (b : Bool) → is_planned routes r ≡ b → IsPriced p routes r x (opens p.kind (route_of routes x.0)) (added_distance p routes r x)
      by true planned = absurd (none_some x (sym (planned_none planned) ∙ best))
      by false free = priced_at laws (query free) x (among x best)

  -- without a limit, the best insertion within it is the best of all
  pub unbounded : (l : Limit) → l.opens ≡ true → l.below ≡ pos 9223372036854775807 → (answer : Option Insertion) → IsBestWithin p pins routes r l answer
      → answer ≡ best_insertion p pins routes (request_name r)
  unbounded l opens_all most answer within_it = by (is_planned routes r) refl answer within_it
    where
      by : (b : Bool) → is_planned routes r ≡ b → (o : Option Insertion) → IsBestWithin p pins routes r l o → o ≡ best_insertion p pins routes (request_name r)
      by false free o within_it = unlimited laws (query free) l opens_all most o within_it
      by true planned None within_it = sym (planned_none planned)
      by true planned (Some x) within_it = sym within_it.0

  module _ (name : ℕ) (found : lookup (nat_eq name) p.requests ≡ Some r) (l : Limit) (none : l.opens ≡ false) where
    so_named : request_name r ≡ name
    so_named = named_so p is.valid name r found

    -- the case in which the request is inserted
    pub put_below : (x : Insertion) → IsBestWithin p pins routes r l (Some x) → IsInsertable p pins routes r x → (new : List (List ℕ))
        → new ≡ with_request_at routes r x → IsPlacedBelow p pins name l.below true routes new
    put_below x best put new is_new =
        let there : placed p pins routes name ≡ with_request_at routes r x = ap (placed p pins routes) (sym so_named) ∙ placed_at x best.0 in
        record {
          put = λ made. is_new ∙ sym there;
          near = λ made far.
              near_at p routes r l none x (priced x best.0) best.1 put.unplanned
              (subst (λ (other : List (List ℕ)). IsFar p routes other l.below) there far);
          stays = λ kept. absurd (let h : true ≡ false = kept in cc);
          far = λ kept. absurd (let h : true ≡ false = kept in cc);
        }

    -- the case in which the plan is unchanged
    pub kept_below : IsBestWithin p pins routes r l None → IsPlacedBelow p pins name l.below false routes routes
    kept_below out = record {
      put = λ made. absurd (let h : false ≡ true = made in cc);
      near = λ made. absurd (let h : false ≡ true = made in cc);
      stays = λ kept. refl;
      far = λ kept. subst (λ n. IsFar p routes (placed p pins routes n) l.below) so_named (by (best_insertion p pins routes (request_name r)) refl);
    }
      where
        by : (o : Option Insertion) → best_insertion p pins routes (request_name r) ≡ o → IsFar p routes (placed p pins routes (request_name r)) l.below
        by None best = far_itself p routes (placed p pins routes (request_name r)) l.below (placed_none p pins routes (request_name r) (sym best))
        by (Some x) best =
            subst (λ (other : List (List ℕ)). IsFar p routes other l.below) (sym (placed_at x best))
            (far_at p routes r l none x (priced x best) (out x (among x best)))

-- the plan is also unchanged if no current request has the name
pub unnamed_below : (p : Instance) (pins routes : List (List ℕ)) (name : ℕ) (below : ℤ) → request_named p name ≡ None
    → IsPlacedBelow p pins name below false routes routes
unnamed_below p pins routes name below none = record {
  put = λ made. absurd (let h : false ≡ true = made in cc);
  near = λ made. absurd (let h : false ≡ true = made in cc);
  stays = λ kept. refl;
  far = λ kept. far_itself p routes (placed p pins routes name) below (placed_none p pins routes name (rw none refl));
}
