-- The state of a search, with its plans.
use Rattle.std.specs.Prelude.{◌≡◌, ◌⊎◌, ℕ, ◌+◌, ◌<◌, pos, ◌+ℤ◌, Bool, true, false, List, Option, MatchOption, IsTrue}
use Rattle.plan_types.specs.Instance.{Instance}
use Rattle.plan_types.specs.declared.plans.Cost.{Cost}
use Rattle.route_sched.specs.Cost.{cost_of}
use Rattle.plan_audit.specs.Passes.{passes}
use Rattle.move_ops.specs.Drafts.{base_of, draft_of, AreIdleAfter, DraftState, IsDraftOf, placed}
use Rattle.move_ops.specs.Savings.{SavesAtMost}
use Rattle.seeded_search.specs.Steps.{movable_names, unplanned_names, placed_all, is_near, SearchPlans, search_plans}
use Rattle.seeded_search.specs.SpatialIndex.{AreNearestStopLists}
use Rattle.seeded_search.specs.declared.lists.RequestLists.{RequestLists}
use Rattle.seeded_search.specs.declared.candidate_threshold.Outlook.{Outlook}
use Rattle.seeded_search.specs.declared.candidate_threshold.Outlook.TheVariants.{Far, Open, Below}
use Rattle.seeded_search.specs.declared.search_state.SearchState.{SearchState}

-- the lists that a step draws from are those of these routes
pub record AreListsOf (p : Instance) (pins routes : List (List ℕ)) (lists : RequestLists) : Type 0 where
  pub movable : lists.movable.items ≡ movable_names p pins routes
  pub unplanned : lists.unplanned.items ≡ unplanned_names p routes

-- the plans of a search state
abbrev pub search_plans_of : SearchState → SearchPlans
search_plans_of w = search_plans w.incumbent.routes (base_of w.draft)

-- the invariant of a search state, also while there is a candidate
pub record KeepsSearchState (p : Instance) (pins : List (List ℕ)) (w : SearchState) : Type 0 where
  pub draft : IsDraftOf p pins w.draft
  pub incumbent : passes p pins w.incumbent.routes ≡ true
  pub best : w.best ≡ cost_of p w.incumbent.routes
  pub idle : AreIdleAfter w.used_len w.incumbent.routes
  pub lists : AreListsOf p pins (base_of w.draft) w.lists
  pub at : IsTrue w.is_at_incumbent → w.incumbent.routes ≡ base_of w.draft
  pub spatial_index : AreNearestStopLists p w.spatial_index

-- the draft is this plan; or it is unchanged, since the plan is not near an incumbent of cost `best`
pub record IsMadeOrFar (p : Instance) (deviation : ℕ) (best : Cost) (routes : List (List ℕ)) (made : Bool) (old new : DraftState) : Type 0 where
  pub is : made ≡ true → draft_of new ≡ routes
  pub stays : made ≡ false → draft_of new ≡ draft_of old
  pub far : made ≡ false → is_near deviation (cost_of p routes) best ≡ false

-- the draft is the plan of the move, or is unchanged, since that plan is not near; if the move makes no plan,
-- the draft is unchanged
abbrev pub IsMadeIfNear : Instance → ℕ → Cost → Option (List (List ℕ)) → Bool → DraftState → DraftState → Type 0
IsMadeIfNear p deviation best answer made old new =
    MatchOption answer ((made ≡ false) × (draft_of new ≡ draft_of old)) (λ routes. IsMadeOrFar p deviation best routes made old new)

-- the outlook of a draft of this cost into which one request is inserted and then `following` more, which save at
-- most `rest`. `Far`: the draft leaves too many requests unplanned or uses too many vehicles. `Below`: the draft is
-- near in the end only if the next request adds less distance than this bound
abbrev pub IsOutlook : ℕ → Cost → Cost → ℕ → ℕ → Outlook → Type 0
IsOutlook deviation best cost following rest Far =
    (best.unplanned + following + 1 < cost.unplanned) ⊎ ((cost.unplanned ≡ best.unplanned + following + 1) × (best.vehicles < cost.vehicles))
IsOutlook deviation best cost following rest Open = Unit {0}
IsOutlook deviation best cost following rest (Below most) =
    (cost.unplanned ≡ best.unplanned + following + 1) × (cost.vehicles ≡ best.vehicles) × (pos cost.distance +ℤ most ≡ pos (best.distance + deviation + rest + 1))

-- the request is inserted at its best place; or, with the request at its best place, no plan is near after
-- `following` more insertions that save at most `rest`
pub record IsPlacedOrFar (p : Instance) (pins : List (List ℕ)) (deviation : ℕ) (best : Cost) (name following rest : ℕ) (made : Bool) (old new : List (List ℕ)) : Type 0 where
  pub put : made ≡ true → new ≡ placed p pins old name
  pub far : made ≡ false → (last : Cost) → SavesAtMost following rest (cost_of p (placed p pins old name)) last → is_near deviation last best ≡ false

-- all these requests are inserted; or the draft is the base again, since the plan with them is not near
pub record AreAllPlacedOrFar (p : Instance) (pins : List (List ℕ)) (deviation : ℕ) (best : Cost) (names : List ℕ) (made : Bool) (old new : DraftState) : Type 0 where
  pub put : made ≡ true → draft_of new ≡ placed_all p pins (draft_of old) names
  pub dropped : made ≡ false → draft_of new ≡ base_of old
  pub far : made ≡ false → is_near deviation (cost_of p (placed_all p pins (draft_of old) names)) best ≡ false

-- a search state between two steps, without a candidate
pub record IsSearchState (p : Instance) (pins : List (List ℕ)) (w : SearchState) : Type 0 where
  pub keeps : KeepsSearchState p pins w
  pub settled : draft_of w.draft ≡ base_of w.draft

-- the candidate is now the incumbent
pub record HasNewIncumbent (p : Instance) (pins : List (List ℕ)) (old new : SearchState) : Type 0 where
  pub keeps : KeepsSearchState p pins new
  pub draft : new.draft ≡ old.draft
  pub incumbent : new.incumbent.routes ≡ draft_of old.draft

-- the candidate is now the working plan
pub record HasNewWorkingPlan (p : Instance) (pins : List (List ℕ)) (old new : SearchState) : Type 0 where
  pub base : base_of new.draft ≡ draft_of old.draft
  pub settled : draft_of new.draft ≡ draft_of old.draft
  pub draft : IsDraftOf p pins new.draft
  pub incumbent : new.incumbent ≡ old.incumbent
  pub best : new.best ≡ old.best
  pub used_len : new.used_len ≡ old.used_len
  pub lists : AreListsOf p pins (draft_of old.draft) new.lists
  pub at : new.is_at_incumbent ≡ false
  pub spatial_index : new.spatial_index ≡ old.spatial_index
