-- Proofs of what annealing steps preserve
use Rattle.std.proofs.Common.{◌≡◌, ℕ, ◌==◌, Bool, true, false, cond, List, length, slice_index, Option, Some, None, IsTrue, refl, sym, ap, subst, ◌∙◌, eqb}
use Rattle.std.specs.Option.{option_map}
use Rattle.std.proofs.lemmas.Bool.{both_ways, eq-eqb}
use Rattle.plan_types.specs.Cost.{cost_at_most, CostsAreTotal}
use Rattle.plan_types.specs.Instance.{Instance}
use Rattle.plan_types.specs.declared.plans.Cost.{Cost}
use Rattle.plan_types.specs.declared.plans.Plan.{Plan}
use Rattle.route_sched.specs.Cost.{cost_of}
use Rattle.move_ops.specs.Moves.{removed}
use Rattle.move_ops.specs.Drafts.{DraftState, base_of, draft_of, IsMade}
use Rattle.move_ops.proofs.OccurrenceLemmas.{none_some, some_same}
use Rattle.seeded_search.specs.Words.{step_words}
use Rattle.seeded_search.specs.Steps.{unplanned_names, is_near}
use Rattle.seeded_search.specs.StepLaws.{BothPass}
use Rattle.seeded_search.specs.SearchStates.{search_plans_of, HasNewWorkingPlan, IsMadeIfNear}
use Rattle.seeded_search.specs.declared.search_state.SearchState.{SearchState}
use Rattle.seeded_search.proofs.SearchLemmas.{Passes, removed_passes, placed_all_passes, same_cost, noted_walk, accepted_search_state}
use Rattle.anneal_search.specs.Orders.{ordered}
use Rattle.anneal_search.specs.Strings.{ruined_names}
use Rattle.anneal_search.specs.Annealing.{SearchPlans, search_plans, recreated, candidate, accepted, annealed, annealed_by, anneal_step}
use Rattle.anneal_search.specs.StepLoops.{ruined, HasImproved, IsAnnealing}

-- ---- the candidate
module _ (p : Instance) (pins routes : List (List ℕ)) (words : List ℕ) where
  -- Inserting the requests again into the plan that is left makes the candidate
  pub candidate_is : option_map (recreated p pins (slice_index words 2)) (ruined p pins routes words) ≡ candidate p pins routes words
  unfolding candidate
  candidate_is = by (length (ruined_names p pins routes words) == 0) (removed p pins routes (ruined_names p pins routes words))
    where
      by : (b : Bool) (o : Option (List (List ℕ))) → option_map (recreated p pins (slice_index words 2)) (cond b None o) ≡ cond b None (option_map (recreated p pins (slice_index words 2)) o)
      by true o = refl
      by false o = refl

  module _ (names : List ℕ) (drawn : names ≡ ruined_names p pins routes words) where
    pub none_ruined : length names ≡ 0 → ruined p pins routes words ≡ None
    none_ruined none =
        ap (λ b. cond b None (removed p pins routes (ruined_names p pins routes words))) (eq-eqb (length (ruined_names p pins routes words)) 0 (ap length (sym drawn) ∙ none))

    pub some_ruined : (length names == 0) ≡ false → ruined p pins routes words ≡ removed p pins routes names
    some_ruined some =
        ap (λ b. cond b None (removed p pins routes (ruined_names p pins routes words))) (ap (λ (ns : List ℕ). length ns == 0) (sym drawn) ∙ some)
        ∙ ap (removed p pins routes) (sym drawn)

-- If nothing is removed, there is no candidate
pub not_removed : (f : List (List ℕ) → List (List ℕ)) (answer : Option (List (List ℕ))) (made : Bool) (old new : DraftState) → IsMade answer made old new
    → made ≡ false → IsMade (option_map f answer) false old new
not_removed f None made old new h is = (refl, h.1)
not_removed f (Some left) made old new h is = absurd (both_ways made is h.0)

-- If requests are removed, inserting them again makes the candidate
pub removed_and_more : (f : List (List ℕ) → List (List ℕ)) (answer : Option (List (List ℕ))) (made : Bool) (old left new : DraftState)
    → IsMade answer made old left → made ≡ true → draft_of new ≡ f (draft_of left)
    → IsMade (option_map f answer) true old new
removed_and_more f None made old left new h is more = absurd (both_ways made h.0 is)
removed_and_more f (Some routes) made old left new h is more = (refl, more ∙ ap f h.1)

-- ---- the plans that the candidate replaces
module _ (p : Instance) (pins : List (List ℕ)) (old improved new : SearchState) (at : Bool) (cost : Cost) (cost_is : cost ≡ cost_of p (draft_of old.draft))
    (better : HasImproved p pins old improved at) (taken : HasNewWorkingPlan p pins improved new) where
  base_is : base_of new.draft ≡ draft_of old.draft
  base_is = taken.base ∙ ap draft_of better.draft

  pub followed_is : search_plans_of new ≡ accepted p (search_plans_of old) (draft_of old.draft)
  followed_is =
      let incumbent : new.incumbent.routes ≡ cond (cost_at_most (cost_of p (draft_of old.draft)) (cost_of p old.incumbent.routes)) (draft_of old.draft) old.incumbent.routes =
      ap (λ (plan : Plan). plan.routes) taken.incumbent ∙ better.incumbent in
      ap (λ routes. search_plans routes (base_of new.draft)) incumbent
      ∙ ap (search_plans (cond (cost_at_most (cost_of p (draft_of old.draft)) (cost_of p old.incumbent.routes)) (draft_of old.draft) old.incumbent.routes)) base_is

  pub goes_on : IsAnnealing p pins (record { search_state = record new { is_at_incumbent = at }; work = cost })
  goes_on = record {
    search_state = noted_walk p pins new at (accepted_search_state p pins improved new taken better.keeps.incumbent better.keeps.best better.keeps.idle better.keeps.spatial_index)
        (λ yes. ap (λ (plan : Plan). plan.routes) taken.incumbent ∙ (better.at yes ∙ sym base_is));
    work = cost_is ∙ ap (cost_of p) (sym base_is);
  }

-- A candidate that is near the working plan is accepted
pub near_follows : (p : Instance) (deviation : ℕ) (s : SearchPlans) (c : List (List ℕ)) (cost work : Cost) → cost ≡ cost_of p c → work ≡ cost_of p s.working → is_near deviation cost work ≡ true
    → accepted p s c ≡ annealed p deviation s c
near_follows p deviation s c cost work cost_is work_is near =
    let there : is_near deviation (cost_of p c) (cost_of p s.working) ≡ true = ap (λ a. is_near deviation a (cost_of p s.working)) (sym cost_is) ∙ (ap (is_near deviation cost) (sym work_is) ∙ near) in
    sym (ap (λ b. cond b (accepted p s c) s) there)

-- Without a candidate, or with one that is too far, nothing changes
pub far_stays : (p : Instance) (deviation : ℕ) (work : Cost) (answer : Option (List (List ℕ))) (made : Bool) (old new : DraftState) → IsMadeIfNear p deviation work answer made old new → made ≡ false
    → (s : SearchPlans) → work ≡ cost_of p s.working → s ≡ annealed_by p deviation s answer
far_stays p deviation work None made old new h is s work_is = refl
far_stays p deviation work (Some c) made old new h is s work_is =
    let far : is_near deviation (cost_of p c) (cost_of p s.working) ≡ false = ap (is_near deviation (cost_of p c)) (sym work_is) ∙ h.far is in
    sym (ap (λ b. cond b (accepted p s c) s) far)

-- ---- steps
module _ (p : Instance) (pins : List (List ℕ)) (deviation seed : ℕ) where
  -- The candidate's plan passes
  recreated_passes : (w : ℕ) (left : List (List ℕ)) → Passes p pins left → Passes p pins (recreated p pins w left)
  recreated_passes w left pass = placed_all_passes p pins (ordered p w (unplanned_names p left)) left pass

  pub candidate_passes : (routes : List (List ℕ)) (words : List ℕ) (y : List (List ℕ)) → candidate p pins routes words ≡ Some y → Passes p pins y
  unfolding candidate
  candidate_passes routes words y is = by (eqb (length (ruined_names p pins routes words)) 0) (removed p pins routes (ruined_names p pins routes words)) refl is
    where
      by : (b : Bool) (o : Option (List (List ℕ))) → removed p pins routes (ruined_names p pins routes words) ≡ o
          → cond b None (option_map (recreated p pins (slice_index words 2)) o) ≡ Some y → Passes p pins y
      by true o e is = absurd (none_some y is)
      by false None e is = absurd (none_some y is)
      by false (Some left) e is =
          subst (Passes p pins) (some_same (recreated p pins (slice_index words 2) left) y is)
          (recreated_passes (slice_index words 2) left (removed_passes p pins routes (ruined_names p pins routes words) left e))

  annealed_passes : (s : SearchPlans) (c : List (List ℕ)) → Passes p pins c → BothPass p pins s → BothPass p pins (annealed p deviation s c)
  annealed_passes s c pass both = by (is_near deviation (cost_of p c) (cost_of p s.working)) (cost_at_most (cost_of p c) (cost_of p s.incumbent))
    where
      by : (near less : Bool) → BothPass p pins (cond near (search_plans (cond less c s.incumbent) c) s)
      by true true = record { incumbent = pass; working = pass }
      by true false = record { incumbent = both.incumbent; working = pass }
      by false less = both

  pub step_passes : (n : ℕ) (s : SearchPlans) → BothPass p pins s → BothPass p pins (anneal_step p pins deviation seed n s)
  unfolding anneal_step
  step_passes n s both = by (candidate p pins s.working (step_words seed n)) refl
    where
      by : (o : Option (List (List ℕ))) → candidate p pins s.working (step_words seed n) ≡ o → BothPass p pins (annealed_by p deviation s o)
      by None e = both
      by (Some c) e = annealed_passes s c (candidate_passes s.working (step_words seed n) c e) both

  pub step_cost : CostsAreTotal → (n : ℕ) (s : SearchPlans) → IsTrue (cost_at_most (cost_of p (anneal_step p pins deviation seed n s).incumbent) (cost_of p s.incumbent))
  unfolding anneal_step
  step_cost total n s = by (candidate p pins s.working (step_words seed n))
    where
      either : (c : List (List ℕ)) (near less : Bool) → cost_at_most (cost_of p c) (cost_of p s.incumbent) ≡ less
          → IsTrue (cost_at_most (cost_of p (cond near (search_plans (cond less c s.incumbent) c) s).incumbent) (cost_of p s.incumbent))
      either c true true e = e
      either c true false e = same_cost total (cost_of p s.incumbent)
      either c false less e = same_cost total (cost_of p s.incumbent)

      by : (o : Option (List (List ℕ))) → IsTrue (cost_at_most (cost_of p (annealed_by p deviation s o).incumbent) (cost_of p s.incumbent))
      by None = same_cost total (cost_of p s.incumbent)
      by (Some c) = either c (is_near deviation (cost_of p c) (cost_of p s.working)) (cost_at_most (cost_of p c) (cost_of p s.incumbent)) refl
