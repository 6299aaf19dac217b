-- The stages of annealing, counted from 0: twenty of equal length, rounded down.
use Rattle.std.specs.Prelude.{◌≡◌, ℕ, zero, suc, ◌+◌, ◌-◌, ◌*◌, ◌/◌, ◌<◌, ◌≤◌, nat_lt, ◌==◌, min, if◌then◌else◌, List, [], ◌∷◌, length, slice_index_or, Option, Some, None}
use Rattle.plan_types.specs.Instance.{Instance, numbers_among}
use Rattle.route_sched.specs.Cost.{total_length}
use Rattle.plan_types.specs.declared.limits.TheConstants.{MAX_DEVIATION}

-- by stage, how much longer than the working plan a candidate may be, in hundredths of the incumbent's mean leg
abbrev pub hundredths : List ℕ
hundredths = 150 ∷ 122 ∷ 99 ∷ 81 ∷ 66 ∷ 54 ∷ 44 ∷ 35 ∷ 29 ∷ 24 ∷ 19 ∷ 16 ∷ 13 ∷ 10 ∷ 8 ∷ 7 ∷ 6 ∷ 5 ∷ 4 ∷ 3 ∷ []

abbrev pub hundredths_of : ℕ → ℕ
hundredths_of k = slice_index_or hundredths k 0

-- the step with which stage k begins, when the stages have the steps from `from` on and below `to`; for stage
-- 20, the step at which the last stage ends
abbrev pub boundary : ℕ → ℕ → ℕ → ℕ
boundary from to k = from + (to - from) * k / 20

-- the first stage from k on, among the given number of stages, that ends after step n
unfoldable pub stage_among : ℕ → ℕ → ℕ → ℕ → ℕ → Option ℕ
stage_among from to n k zero = None
stage_among from to n k (suc left) = if nat_lt n (boundary from to (k + 1)) then Some k else stage_among from to n (k + 1) left

-- the stage of step n
abbrev pub stage_of : ℕ → ℕ → ℕ → Option ℕ
stage_of from to n = if nat_lt n from then None else stage_among from to n 0 20

-- c hundredths of the mean leg of these routes, the distance divided by the number of stops of all requests; at
-- most the greatest deviation
abbrev pub mean_leg_share : Instance → List (List ℕ) → ℕ → ℕ
mean_leg_share p routes c =
    let n = length (numbers_among p.requests) in
    if n == 0 then 0 else min (total_length p routes * c / (100 * n)) MAX_DEVIATION

-- law: each step lies in its stage, which begins at or before the step and ends after it
abbrev pub StagesHoldTheirSteps : Type 0
StagesHoldTheirSteps = (from to n : ℕ) → from ≤ n → n < to
    → (k : ℕ) × (stage_of from to n ≡ Some k) × (k < 20) × (boundary from to k ≤ n) × (n < boundary from to (k + 1))

-- law: the stages cover all steps, in order
abbrev pub StagesCoverAllSteps : Type 0
StagesCoverAllSteps = (from to : ℕ) → from ≤ to
    → (boundary from to 0 ≡ from) × (boundary from to 20 ≡ to) × ((k : ℕ) → boundary from to k ≤ boundary from to (k + 1))
