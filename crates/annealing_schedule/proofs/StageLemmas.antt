-- Each step lies in its stage; and the number of stops, counted request by request.
use Rattle.std.proofs.Common.{◌≡◌, ℕ, zero, suc, ◌+◌, ◌-◌, ◌*◌, ◌<◌, ◌≤◌, ◌-◌, List, ◌∷◌, length, drop, Some, None, refl, ap, ◌∙◌, inl, inr, arith}
use Rattle.std.specs.Prelude.{nat_lt, map, slice_get, if◌then◌else◌}
use Rattle.std.specs.Option.{option_map_or}
use Rattle.std.proofs.Math.Nat.{mul-le-mul_left}
use Rattle.std.proofs.lemmas.Bool.{cases_Bool, ltb-true, ltb-false, lt-ltb, le-ltb}
use Rattle.std.proofs.lemmas.List.{drop_all, drop_more}
use Rattle.std.proofs.lemmas.List.Concat.{flat_map-cons}
use Rattle.std.proofs.lemmas.Option.{slice_get_cases}
use Rattle.plan_types.specs.Instance.{numbers_among}
use Rattle.plan_types.specs.Request.{stops_of}
use Rattle.plan_types.specs.declared.requests.Request.{Request}
use Rattle.plan_types.specs.declared.requests.Request.TheVariants.{Single, Pair}
use Rattle.annealing_schedule.specs.Stages.{StagesCoverAllSteps, StagesHoldTheirSteps, boundary, stage_among, stage_of}

last : (from to : ℕ) → from ≤ to → boundary from to 20 ≡ to
last from to le = omega (arith, le)

holds : (from to n k left : ℕ) → from ≤ to → n < to → k + left ≡ 20 → boundary from to k ≤ n
    → (j : ℕ) × (stage_among from to n k left ≡ Some j) × (j < 20) × (boundary from to j ≤ n) × (n < boundary from to (j + 1))
unfolding stage_among
holds from to n k zero le below all begun =
    let is : k ≡ 20 = omega (arith, all) in
    let end : boundary from to 20 ≤ n = rw is at begun in
    let to_is = last from to le in
    absurd (omega (arith, below, end, to_is))
holds from to n k (suc left) le below all begun = elim (cases_Bool (nat_lt n (boundary from to (k + 1)))) [
  | inl t ↦ (k, rw t refl, omega (arith, all), begun, ltb-true n (boundary from to (k + 1)) t)
  | inr f ↦ (
      let found = holds from to n (k + 1) left le below (omega (arith, all)) (ltb-false n (boundary from to (k + 1)) f) in
      (found.0, rw f found.1, found.2, found.3, found.4))
]

pub stages_hold : StagesHoldTheirSteps
stages_hold from to n begun below = elim (cases_Bool (nat_lt n from)) [
  | inl t ↦ (let less = ltb-true n from t in absurd (omega (arith, begun, less)))
  | inr f ↦
      (let found = holds from to n 0 20 (omega (arith, begun, below)) below refl (omega (arith, begun)) in (found.0, rw f found.1, found.2, found.3, found.4))
]

-- ---- the loop over the stages

pub stage_begun : (from to n : ℕ) → from ≤ n → stage_of from to n ≡ stage_among from to n 0 20
stage_begun from to n begun = ap (λ b. if b then None else stage_among from to n 0 20) (le-ltb n from begun)

pub stage_found : (from to n k : ℕ) → k < 20 → n < boundary from to (k + 1) → stage_among from to n k (20 - k) ≡ Some k
unfolding stage_among
stage_found from to n k less below =
    let e : 20 - k ≡ suc (20 - (k + 1)) = omega (arith, less) in
    ap (stage_among from to n k) e ∙ ap (λ b. if b then Some k else stage_among from to n (k + 1) (20 - (k + 1))) (lt-ltb n (boundary from to (k + 1)) below)

pub stage_passed : (from to n k : ℕ) → k < 20 → boundary from to (k + 1) ≤ n → stage_among from to n k (20 - k) ≡ stage_among from to n (k + 1) (20 - (k + 1))
unfolding stage_among
stage_passed from to n k less past =
    let e : 20 - k ≡ suc (20 - (k + 1)) = omega (arith, less) in
    ap (stage_among from to n k) e ∙ ap (λ b. if b then Some k else stage_among from to n (k + 1) (20 - (k + 1))) (le-ltb n (boundary from to (k + 1)) past)

pub stages_end : (from to n k : ℕ) → 20 ≤ k → stage_among from to n k (20 - k) ≡ None
unfolding stage_among
stages_end from to n k all = let e : 20 - k ≡ zero = omega (arith, all) in ap (stage_among from to n k) e

pub stages_cover : StagesCoverAllSteps
stages_cover from to le = (omega arith, last from to le, λ k. rises k)
  where
    rises : (k : ℕ) → boundary from to k ≤ boundary from to (k + 1)
    rises k = let more : (to - from) * k ≤ (to - from) * (k + 1) = mul-le-mul_left (to - from) (omega arith) in omega (arith, more)

-- ---- stops

abbrev pub count_of : ℕ × Request → ℕ
count_of e = length (stops_of e.1)

stops_first : (e : ℕ × Request) (es : List (ℕ × Request)) → length (numbers_among (e ∷ es)) ≡ count_of e + length (numbers_among es)
stops_first (name, Single s) es = let e = ap (λ ss. length (map (λ s. s.number) ss)) (flat_map-cons (λ e. stops_of e.1) (name, Single s) es) in omega (arith, e)
stops_first (name, Pair a b) es = let e = ap (λ ss. length (map (λ s. s.number) ss)) (flat_map-cons (λ e. stops_of e.1) (name, Pair a b) es) in omega (arith, e)

pub stops_more : (es : List (ℕ × Request)) (k count all : ℕ) → count + length (numbers_among (drop k es)) ≡ all
    → count + option_map_or count_of (slice_get es k) 0 + length (numbers_among (drop (k + 1) es)) ≡ all
stops_more es k count all so_far = elim (slice_get_cases es k).1 [
  | inl t ↦ (
      let here : length (numbers_among (drop k es)) ≡ count_of t.0 + length (numbers_among (drop (k + 1) es)) =
      ap (λ l. length (numbers_among l)) (drop_more es k t.0 t.1 ∙ ap (λ e. e ∷ drop (k + 1) es) t.3) ∙ stops_first t.0 (drop (k + 1) es) in
      let is : option_map_or count_of (slice_get es k) 0 ≡ count_of t.0 = ap (λ o. option_map_or count_of o 0) t.2 in
      omega (arith, here, is, so_far))
  | inr past ↦ (
      let here : length (numbers_among (drop k es)) ≡ 0 = ap (λ l. length (numbers_among l)) (drop_all k es past.0) in
      let later : length (numbers_among (drop (k + 1) es)) ≡ 0 = ap (λ l. length (numbers_among l)) (drop_all (k + 1) es (omega (arith, past.0))) in
      let is : option_map_or count_of (slice_get es k) 0 ≡ 0 = ap (λ o. option_map_or count_of o 0) past.1 in
      omega (arith, here, later, is, so_far))
]
