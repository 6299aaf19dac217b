-- Lemmas about `freeze`: prefixes and first numbers that pass a test, the number of stops of a route, and the
-- pins of the remaining vehicles.
use Rattle.std.proofs.Common.{◌≡◌, ◌∙◌, ℕ, suc, ◌+◌, ◌-◌, ◌<◌, ◌≤◌, Bool, true, false, cond, List, [], ◌∷◌, length, Option, Some, None, sym, refl, ap, arith, eqb}
use Rattle.std.specs.Prelude.{◌||◌}
use Rattle.std.specs.List.{AllByRecursion, find, list_any, prefix_len, range_with_len}
use Rattle.std.proofs.lemmas.Bool.{eqb-true}
use Rattle.std.proofs.lemmas.Map.Steps.{length-le_from_distinct_below}
use Rattle.plan_types.specs.Instance.{Instance, IsInstance}
use Rattle.route_sched.specs.Route.{AreDistinctStops}
use Rattle.route_sched.specs.VisitList.{visit_after, visits_from}
use Rattle.route_sched.proofs.KnownStops.{live_numbers}
use Rattle.route_sched.proofs.VisitLemmas.{visits_from-cons}
use Rattle.command_core.specs.Effects.{job_after}
use Rattle.command_types.specs.Job.{JobValue}
use Rattle.command_types.specs.declared.commands.Command.TheVariants.{Pin}
use Rattle.command_text.specs.Freezing.{freeze_commands, new_pin_len, freeze_vehicles, pinned_before}

-- the number of consecutive numbers, from k on and below n, that pass the test
abbrev pub prefix_from : (ℕ → Bool) → ℕ → ℕ → ℕ
prefix_from test k n = prefix_len test (range_with_len k (n - k))

pub prefix_step : (test : ℕ → Bool) (k n : ℕ) → k < n → prefix_from test k n ≡ cond (test k) (1 + prefix_from test (k + 1) n) 0
prefix_step test k n below =
    let left : n - k ≡ suc (n - (k + 1)) = omega (arith, below) in
    ap (λ m. prefix_len test (range_with_len k m)) left

pub prefix_continues : (test : ℕ → Bool) (k n : ℕ) → k < n → test k ≡ true → prefix_from test k n ≡ 1 + prefix_from test (k + 1) n
prefix_continues test k n below is = prefix_step test k n below ∙ ap (λ b. cond b (1 + prefix_from test (k + 1) n) 0) is

pub prefix_ends : (test : ℕ → Bool) (k n : ℕ) → k < n → test k ≡ false → prefix_from test k n ≡ 0
prefix_ends test k n below is = prefix_step test k n below ∙ ap (λ b. cond b (1 + prefix_from test (k + 1) n) 0) is

pub prefix_none : (test : ℕ → Bool) (k n : ℕ) → n ≤ k → prefix_from test k n ≡ 0
prefix_none test k n past = let left : n - k ≡ 0 = omega (arith, past) in ap (λ m. prefix_len test (range_with_len k m)) left

-- a route has a visit for each of its places
pub no_visit : {X : Type 0} (p : Instance) (route : List ℕ) (k : ℕ) → k ≤ length route → visits_from p route k ≡ [] → X
no_visit p route k le none = absurd (let h : visit_after p route k ∷ visits_from p route (k + 1) ≡ [] = sym (visits_from-cons p route k le) ∙ none in cc)

-- ---- the first of the numbers k..n-1 that passes the test
abbrev pub first_from : (ℕ → Bool) → ℕ → ℕ → Option ℕ
first_from test k n = find test (range_with_len k (n - k))

first_step : (test : ℕ → Bool) (k n : ℕ) → k < n → first_from test k n ≡ cond (test k) (Some k) (first_from test (k + 1) n)
first_step test k n below =
    let left : n - k ≡ suc (n - (k + 1)) = omega (arith, below) in
    ap (λ m. find test (range_with_len k m)) left

pub first_here : (test : ℕ → Bool) (k n : ℕ) → k < n → test k ≡ true → first_from test k n ≡ Some k
first_here test k n below is = first_step test k n below ∙ ap (λ b. cond b (Some k) (first_from test (k + 1) n)) is

pub first_later : (test : ℕ → Bool) (k n : ℕ) → k < n → test k ≡ false → first_from test k n ≡ first_from test (k + 1) n
first_later test k n below is = first_step test k n below ∙ ap (λ b. cond b (Some k) (first_from test (k + 1) n)) is

pub first_none : (test : ℕ → Bool) (k n : ℕ) → n ≤ k → first_from test k n ≡ None
first_none test k n past = let left : n - k ≡ 0 = omega (arith, past) in ap (λ m. find test (range_with_len k m)) left

-- ---- a route has no more stops than there are stop numbers
in_or : (q n : ℕ) (b rest : Bool) (P : Type 0) → eqb q n ≡ b → (b || rest) ≡ true → (q ≡ n → P) → (rest ≡ true → P) → P
in_or q n true rest P is e f g = f (eqb-true q n is)
in_or q n false rest P is e f g = g e

below_all : (ns : List ℕ) (most q : ℕ) → AllByRecursion (λ n. n ≤ most) ns → list_any (eqb q) ns ≡ true → q < most + 1
below_all [] most q all e = absurd cc
below_all (n ∷ ns) most q all e = in_or q n (eqb q n) (list_any (eqb q) ns) (q < most + 1) refl e (λ same. let le = all.0 in omega (arith, same, le)) (λ f. below_all ns most q all.1 f)

pub few_stops : (p : Instance) (route : List ℕ) → IsInstance p → AreDistinctStops p route → length route ≤ 40001
few_stops p route is once =
    length-le_from_distinct_below route 40001 once.distinct (λ q e. below_all route 40000 q (live_numbers p route is once) e)

-- ---- the pins of the remaining vehicles
module _ (t : ℕ) (j : JobValue) (v : ℕ) where
  abbrev vehicles : ℕ
  vehicles = j.problem.fleet + 1

  one_left : v < vehicles → freeze_commands t v j ≡ pinned_before (freeze_vehicles t (v + 1) (vehicles - (v + 1))) v (new_pin_len t j v) j
  unfolding freeze_vehicles
  one_left below = let left : vehicles - v ≡ suc (vehicles - (v + 1)) = omega (arith, below) in ap (λ n. freeze_vehicles t v n j) left

  pub next_pin : (k : ℕ) → v < vehicles → new_pin_len t j v ≡ Some k → freeze_commands t v j ≡ Pin v k ∷ freeze_commands t (v + 1) (job_after j (Pin v k))
  next_pin k below is = one_left below ∙ ap (λ o. pinned_before (freeze_vehicles t (v + 1) (vehicles - (v + 1))) v o j) is

  pub no_pin : v < vehicles → new_pin_len t j v ≡ None → freeze_commands t v j ≡ freeze_commands t (v + 1) j
  no_pin below is = one_left below ∙ ap (λ o. pinned_before (freeze_vehicles t (v + 1) (vehicles - (v + 1))) v o j) is

  pub none_left : vehicles ≤ v → freeze_commands t v j ≡ []
  unfolding freeze_vehicles
  none_left past = let left : vehicles - v ≡ 0 = omega (arith, past) in ap (λ n. freeze_vehicles t v n j) left
