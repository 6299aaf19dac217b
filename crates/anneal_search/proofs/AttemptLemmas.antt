-- The steps of an attempt: what they preserve, and how the steps of the code follow the definition
use Rattle.std.proofs.Common.{
  ◌≡◌,
  ◌∙◌,
  ℕ,
  zero,
  suc,
  ◌+◌,
  ◌-◌,
  ◌*◌,
  ◌<◌,
  ◌≤◌,
  ◌==◌,
  ◌&&◌,
  Bool,
  true,
  false,
  cond,
  List,
  [],
  ◌∷◌,
  drop,
  filter,
  length,
  map,
  not,
  Option,
  Some,
  None,
  refl,
  sym,
  ap,
  subst,
  inl,
  inr,
  arith,
}
use Rattle.std.specs.Prelude.{slice_set, slice_index_or}
use Rattle.std.proofs.Math.Seq.{drop-cons}
use Rattle.std.proofs.lemmas.Bool.{both_ways, cases_Bool}
use Rattle.std.proofs.lemmas.List.{length-map}
use Rattle.std.proofs.lemmas.List.Sums.{count_by-le-length, length-filter}
use Rattle.plan_types.specs.Cost.{cost_at_most}
use Rattle.plan_types.specs.Instance.{Instance, IsInstance}
use Rattle.plan_types.specs.declared.requests.Request.{Request}
use Rattle.plan_types.specs.declared.plans.Cost.{Cost}
use Rattle.route_sched.specs.Cost.{cost_of, is_planned, unplanned_count}
use Rattle.plan_audit.specs.Passes.{passes}
use Rattle.seeded_search.specs.Words.{step_words}
use Rattle.seeded_search.specs.Steps.{unplanned_names}
use Rattle.anneal_search.specs.Absences.{AreAtMost, HoldLeftOut, left_out}
use Rattle.anneal_search.specs.Annealing.{SearchPlans, candidate, accepted, search_plans}
use Rattle.anneal_search.specs.AttemptLaws.{AttemptsAreBounded, AttemptsKeepPassing, AttemptPasses}
use Rattle.anneal_search.specs.AttemptState.{AttemptState, absences_of, counted, is_acceptable, counted_once, attempt_with, attempt_after, attempt_step, attempt_steps}
use Rattle.anneal_search.proofs.AnnealLemmas.{candidate_passes}
use Rattle.plan_types.proofs.RequestCounts.{few_requests}

-- ---- how often each request was left out
set_most : (most v : ℕ) (xs : List ℕ) (k : ℕ) → v ≤ most → AreAtMost most xs → AreAtMost most (slice_set xs k v)
set_most most v [] k few all n = all n
set_most most v (x ∷ xs) zero few all zero = few
set_most most v (x ∷ xs) zero few all (suc n) = all (suc n)
set_most most v (x ∷ xs) (suc k) few all zero = all zero
set_most most v (x ∷ xs) (suc k) few all (suc n) = set_most most v xs k few (λ m. all (suc m)) n

pub more_most : (most more : ℕ) (xs : List ℕ) → most ≤ more → AreAtMost most xs → AreAtMost more xs
more_most most more xs less all n = let h = all n in omega (arith, h, less)

pub one_more : (most : ℕ) (absences : List ℕ) (name : ℕ) → AreAtMost most absences → AreAtMost (most + 1) (counted_once absences name)
one_more most absences name all =
    set_most (most + 1) (absences_of absences name + 1) absences name (let h = all name in omega (arith, h)) (more_most most (most + 1) absences (omega arith) all)

pub counted_most : (most : ℕ) (names xs : List ℕ) → AreAtMost most xs → AreAtMost (most + length names) (counted xs names)
counted_most most [] xs all = more_most most (most + 0) xs (omega arith) all
counted_most most (n ∷ ns) xs all = more_most (most + 1 + length ns) (most + suc (length ns)) (counted (counted_once xs n) ns) (omega arith)
    (counted_most (most + 1) ns (counted_once xs n) (one_more most xs n all))

pub counted_next : (names : List ℕ) (i : ℕ) (xs new all : List ℕ) → i < length names → new ≡ counted_once xs (slice_index_or names i 0)
    → counted xs (drop i names) ≡ all → counted new (drop (i + 1) names) ≡ all
counted_next names i xs new all within is so_far =
    let there : i + 1 ≡ suc i = omega arith in
    ap (λ k. counted new (drop k names)) there ∙ ap (λ l. counted l (drop (suc i) names)) is ∙ ap (counted xs) (sym (drop-cons names i 0 within)) ∙ so_far

-- A plan leaves out at most 40,000 requests, since a problem has no more
pub few_left : (p : Instance) (routes : List (List ℕ)) (names missing : List ℕ) → IsInstance p → HoldLeftOut p routes missing → names ≡ left_out p routes missing → length names ≤ 40000
few_left p routes names missing valid held is =
    let test = (λ (e : ℕ × Request). not (is_planned routes e.1)) in
    let all : names ≡ unplanned_names p routes = is ∙ held in
    let a : length names ≡ length (map (λ (e : ℕ × Request). e.0) (filter test p.requests)) = ap length all in
    let b = length-map (filter test p.requests) (λ (e : ℕ × Request). e.0) in
    let c = length-filter test p.requests in
    let d = count_by-le-length test p.requests in
    omega (arith, a, b, c, d, few_requests p valid)

-- If each counter is at most 40,001 times the number of steps made, this still holds after one more step
pub few_then : (p : Instance) (routes : List (List ℕ)) (made : ℕ) (names missing xs new : List ℕ) → IsInstance p → HoldLeftOut p routes missing
    → names ≡ left_out p routes missing → AreAtMost (40001 * made) xs → new ≡ counted xs names
    → AreAtMost (40001 * (made + 1)) new
few_then p routes made names missing xs new valid held is all counts =
    subst (AreAtMost (40001 * (made + 1))) (sym counts)
    (more_most (40001 * made + length names) (40001 * (made + 1)) (counted xs names)
    (let h = few_left p routes names missing valid held is in omega (arith, h)) (counted_most (40001 * made) names xs all))

-- ---- plans that pass
module _ (p : Instance) (pins : List (List ℕ)) (deviation seed : ℕ) where
  on_passes : (t : AttemptState) (c : List (List ℕ)) → passes p pins c ≡ true → AttemptPasses p pins t → AttemptPasses p pins (attempt_with p deviation t c)
  on_passes t c pass both = by (is_acceptable p deviation t.absences c t.working) (cost_at_most (cost_of p c) (cost_of p t.incumbent))
    where
      by : (follows less : Bool)
          → AttemptPasses p pins (record { incumbent = cond (follows && less) c t.incumbent; working = cond follows c t.working; absences = counted t.absences (unplanned_names p c); step = t.step + 1 })
      by true true = record { incumbent = pass; working = pass }
      by true false = record { incumbent = both.incumbent; working = pass }
      by false less = record { incumbent = both.incumbent; working = both.working }

  step_passes : (t : AttemptState) → AttemptPasses p pins t → AttemptPasses p pins (attempt_step p pins deviation seed t)
  unfolding attempt_step
  step_passes t both = by (candidate p pins t.working (step_words seed t.step)) refl
    where
      by : (o : Option (List (List ℕ))) → candidate p pins t.working (step_words seed t.step) ≡ o → AttemptPasses p pins (attempt_after p deviation t o)
      by None e = record { incumbent = both.incumbent; working = both.working }
      by (Some c) e = on_passes t c (candidate_passes p pins deviation seed t.working (step_words seed t.step) c e) both

  steps_pass : (most : ℕ) (t : AttemptState) → AttemptPasses p pins t → AttemptPasses p pins (attempt_steps p pins deviation seed most t)
  unfolding attempt_steps
  steps_pass zero t both = both
  steps_pass (suc left) t both = elim (cases_Bool (unplanned_count p t.incumbent == 0)) [
    | inl whole ↦ rw whole both
    | inr lacks ↦ rw lacks (steps_pass left (attempt_step p pins deviation seed t) (step_passes t both))
  ]

  -- ---- the number of steps
  pub one_step : (t : AttemptState) → (attempt_step p pins deviation seed t).step ≡ t.step + 1
  unfolding attempt_step
  one_step t = by (candidate p pins t.working (step_words seed t.step))
    where
      by : (o : Option (List (List ℕ))) → (attempt_after p deviation t o).step ≡ t.step + 1
      by None = refl
      by (Some c) = refl

  abbrev Ends : ℕ → AttemptState → AttemptState → Type 0
  Ends most t end = (t.step ≤ end.step) × (end.step ≤ t.step + most) × (0 < most → (unplanned_count p t.incumbent == 0) ≡ false → t.step < end.step)

  ends : (most : ℕ) (t : AttemptState) → Ends most t (attempt_steps p pins deviation seed most t)
  unfolding attempt_steps
  ends zero t = (omega arith, omega arith, λ some out. absurd (omega (arith, some)))
  ends (suc left) t = either (unplanned_count p t.incumbent == 0) refl (ends left (attempt_step p pins deviation seed t))
    where
      either : (b : Bool) → (unplanned_count p t.incumbent == 0) ≡ b → Ends left (attempt_step p pins deviation seed t) (attempt_steps p pins deviation seed left (attempt_step p pins deviation seed t))
          → Ends (suc left) t (cond b t (attempt_steps p pins deviation seed left (attempt_step p pins deviation seed t)))
      either true whole rest = (omega arith, omega arith, λ some out. absurd (both_ways (unplanned_count p t.incumbent == 0) out whole))
      either false lacks rest = let one = one_step t in (omega (arith, one, rest.0), omega (arith, one, rest.1), λ some out. omega (arith, one, rest.0))

pub attempts_keep_passing : AttemptsKeepPassing
attempts_keep_passing p pins deviation seed most t both = steps_pass p pins deviation seed most t both

pub attempts_are_short : AttemptsAreBounded
attempts_are_short p pins deviation seed most t = ends p pins deviation seed most t

-- ---- the code's steps

-- If another step is made, the remaining steps after it lead to the result of all steps
pub step_on : (p : Instance) (pins : List (List ℕ)) (deviation seed most made : ℕ) (t new all : AttemptState) (best : Cost) (words : List ℕ) (key number : ℕ)
    → attempt_steps p pins deviation seed (most - made) t ≡ all → made < most → best ≡ cost_of p t.incumbent → (best.unplanned == 0) ≡ false
    → words ≡ step_words key number → key ≡ seed → number ≡ t.step → new ≡ attempt_after p deviation t (candidate p pins t.working words)
    → attempt_steps p pins deviation seed (most - (made + 1)) new ≡ all
unfolding attempt_steps attempt_step
step_on p pins deviation seed most made t new all best words key number so_far within is lacks is_words is_seed is_number made_by =
    let less : most - made ≡ suc (most - (made + 1)) = omega (arith, within) in
    let out : (unplanned_count p t.incumbent == 0) ≡ false = ap (λ (k : Cost). k.unplanned == 0) (sym is) ∙ lacks in
    let named : words ≡ step_words seed t.step = is_words ∙ (ap (λ x. step_words x number) is_seed ∙ ap (step_words seed) is_number) in
    let next : new ≡ attempt_step p pins deviation seed t = made_by ∙ ap (λ ws. attempt_after p deviation t (candidate p pins t.working ws)) named in
    ap (attempt_steps p pins deviation seed (most - (made + 1))) next
    ∙ (sym (ap (λ b. cond b t (attempt_steps p pins deviation seed (most - (made + 1)) (attempt_step p pins deviation seed t))) out)
    ∙ (ap (λ k. attempt_steps p pins deviation seed k t) (sym less) ∙ so_far))

-- If no step remains, the result is reached
pub step_off : (p : Instance) (pins : List (List ℕ)) (deviation seed most made : ℕ) (t all : AttemptState) (best : Cost)
    → attempt_steps p pins deviation seed (most - made) t ≡ all → best ≡ cost_of p t.incumbent → (made < most → (best.unplanned == 0) ≡ true) → t ≡ all
unfolding attempt_steps
step_off p pins deviation seed most made t all best so_far is off = by (most - made) refl so_far
  where
    by : (k : ℕ) → most - made ≡ k → attempt_steps p pins deviation seed k t ≡ all → t ≡ all
    by zero e so = so
    by (suc k) e so =
        let whole : (unplanned_count p t.incumbent == 0) ≡ true = ap (λ (k : Cost). k.unplanned == 0) (sym is) ∙ off (omega (arith, e)) in
        sym (ap (λ b. cond b t (attempt_steps p pins deviation seed k (attempt_step p pins deviation seed t))) whole) ∙ so

-- ---- the plans that a candidate replaces
module _ (p : Instance) (deviation : ℕ) (t : AttemptState) (c : List (List ℕ)) (follows : Bool) (left absences : List ℕ) (step : ℕ)
    (is : follows ≡ is_acceptable p deviation t.absences c t.working) (out : left ≡ unplanned_names p c)
    (counts : absences ≡ counted t.absences left) (next : step ≡ t.step + 1) where
  abbrev by_then : Bool → List ℕ → ℕ → AttemptState
  by_then b cs n = record { incumbent = cond (b && cost_at_most (cost_of p c) (cost_of p t.incumbent)) c t.incumbent; working = cond b c t.working; absences = cs; step = n }

  by_then_is : (b : Bool) → follows ≡ b → by_then b absences step ≡ attempt_with p deviation t c
  by_then_is b e =
      ap (λ cs. by_then b cs step) (counts ∙ ap (counted t.absences) out)
      ∙ (ap (by_then b (counted t.absences (unplanned_names p c))) next
      ∙ ap (λ x. by_then x (counted t.absences (unplanned_names p c)) (t.step + 1)) (sym e ∙ is))

  pub dropped_try : follows ≡ false → (record { incumbent = t.incumbent; working = t.working; absences = absences; step = step }) ≡ attempt_with p deviation t c
  dropped_try e = by_then_is false e

  pub followed_try : follows ≡ true → (w : SearchPlans) → w ≡ accepted p (search_plans t.incumbent t.working) c
      → (record { incumbent = w.incumbent; working = w.working; absences = absences; step = step }) ≡ attempt_with p deviation t c
  followed_try e w same = ap (λ (v : SearchPlans). record { incumbent = v.incumbent; working = v.working; absences = absences; step = step }) same ∙ by_then_is true e
