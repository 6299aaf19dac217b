-- Requests inserted one after another: a lower bound of the cost of the plan with all of them. If no cost from this
-- bound on is near, that plan is not near.
use Rattle.std.proofs.Common.{◌≡◌, ℕ, zero, suc, ◌+◌, ◌-◌, ◌<◌, Bool, true, false, List, [], ◌∷◌, ◌++◌, ◌==◌, cond, length, drop, get_or, Option, Some, None, refl, sym, ap, subst, ◌∙◌, arith}
use Rattle.std.specs.Prelude.{sum_by}
use Rattle.std.specs.Option.{option_map}
use Rattle.std.proofs.lemmas.Bool.{both_ways}
use Rattle.std.proofs.lemmas.List.{length-drop}
use Rattle.std.proofs.lemmas.List.Sums.{sum_by-cons}
use Rattle.plan_types.specs.Instance.{Instance, IsInstance}
use Rattle.plan_types.specs.declared.plans.Cost.{Cost}
use Rattle.route_sched.specs.Cost.{cost_of}
use Rattle.plan_audit.specs.Passes.{passes}
use Rattle.move_ops.specs.Drafts.{placed, DraftState, base_of, draft_of, IsMade}
use Rattle.move_ops.specs.Savings.{max_saving, SavesAtMost, PlacementsSaveLittle}
use Rattle.move_ops.specs.Moves.{removed}
use Rattle.seeded_search.specs.Steps.{placed_all, ruined_names, unplanned_names, recreated_by, is_near}
use Rattle.seeded_search.specs.SearchStates.{IsMadeIfNear, AreAllPlacedOrFar}
use Rattle.seeded_search.proofs.SearchLemmas.{placed_passes}

-- a list from index i on is its item at i and the later ones
next_dropped : (xs : List ℕ) (i d : ℕ) → i < length xs → drop i xs ≡ get_or xs i d ∷ drop (i + 1) xs
next_dropped [] i d within = absurd (omega arith)
next_dropped (x ∷ xs) zero d within = refl
next_dropped (x ∷ xs) (suc i) d within = let next : suc i + 1 ≡ suc (i + 1) = omega arith in next_dropped xs i d (omega arith) ∙ ap (λ k. get_or xs i d ∷ drop k (x ∷ xs)) (sym next)

-- ---- the total saving
joined_savings : (m n x y : ℕ) (a b c : Cost) → SavesAtMost m x a b → SavesAtMost n y b c → SavesAtMost (m + n) (x + y) a c
joined_savings m n x y a b c one two =
    let d = one.unplanned in
    let e = two.unplanned in
    let f = one.vehicles in
    let g = two.vehicles in
    let h = one.distance in
    let k = two.distance in
    record { unplanned = omega arith; vehicles = omega arith; distance = omega arith }

module _ (law : PlacementsSaveLittle) (p : Instance) (pins : List (List ℕ)) (valid : IsInstance p) where
  all_save_little : (names : List ℕ) (routes : List (List ℕ)) → passes p pins routes ≡ true
      → SavesAtMost (length names) (sum_by (max_saving p) names) (cost_of p routes) (cost_of p (placed_all p pins routes names))
  all_save_little [] routes good = record { unplanned = omega arith; vehicles = omega arith; distance = omega arith }
  all_save_little (name ∷ names) routes good =
      let first = law p pins routes name valid good in
      let rest = all_save_little names (placed p pins routes name) (placed_passes p pins routes name good) in
      let all = joined_savings 1 (length names) (max_saving p name) (sum_by (max_saving p) names) (cost_of p routes) (cost_of p (placed p pins routes name))
      (cost_of p (placed_all p pins routes (name ∷ names))) first rest in
      let sum = sum_by-cons (max_saving p) name names in
      let d = all.unplanned in
      let e = all.vehicles in
      let f = all.distance in
      record { unplanned = omega arith; vehicles = e; distance = omega arith }

  -- if no plan is near after the later requests are inserted into the plan with this one, the plan with all
  -- requests is not near
  pub all_far : (deviation : ℕ) (best : Cost) (routes : List (List ℕ)) → passes p pins routes ≡ true → (names : List ℕ) (i following rest saved d : ℕ)
      → i < length names → following + i ≡ length names → rest ≡ sum_by (max_saving p) (drop i names) → saved ≡ max_saving p (get_or names i d)
      → ((last : Cost) → SavesAtMost (following - 1) (rest - saved) (cost_of p (placed p pins routes (get_or names i d))) last → is_near deviation last best ≡ false)
      → is_near deviation (cost_of p (placed_all p pins routes (drop i names))) best ≡ false
  all_far deviation best routes good names i following rest saved d within few little own far =
      let next = next_dropped names i d within in
      let name = get_or names i d in
      let later = drop (i + 1) names in
      let saves = all_save_little (drop (i + 1) names) (placed p pins routes name) (placed_passes p pins routes name good) in
      let left = saves.unplanned in
      let short = saves.distance in
      let count = length-drop (i + 1) names in
      let sum = ap (sum_by (max_saving p)) next ∙ sum_by-cons (max_saving p) name later in
      subst (λ ns. is_near deviation (cost_of p (placed_all p pins routes ns)) best ≡ false) (sym next)
      (far (cost_of p (placed_all p pins routes (name ∷ later))) (record { unplanned = omega arith; vehicles = saves.vehicles; distance = omega arith }))

-- ---- a candidate made from the result of a removal
module _ (p : Instance) (pins : List (List ℕ)) (deviation : ℕ) (best : Cost) (f : List (List ℕ) → List (List ℕ)) where
  -- after a removal, inserting these requests makes the candidate, or shows that the candidate is far
  pub placed_near : (answer : Option (List (List ℕ))) (done made : Bool) (old left new : DraftState) (names : List ℕ) → IsMade answer done old left → done ≡ true
      → draft_of old ≡ base_of old → base_of left ≡ base_of old
      → f (draft_of left) ≡ placed_all p pins (draft_of left) names → AreAllPlacedOrFar p pins deviation best names made left new → IsMadeIfNear p deviation best (option_map f answer) made old new
  placed_near None done made old left new names h is settled base same all = absurd (both_ways done h.0 is)
  placed_near (Some routes) done made old left new names h is settled base same all =
      let here : placed_all p pins (draft_of left) names ≡ f routes = sym same ∙ ap f h.1 in
      record {
        is = λ yes. all.put yes ∙ here;
        stays = λ no. all.dropped no ∙ (base ∙ sym settled);
        far = λ no. subst (λ plan. is_near deviation (cost_of p plan) best ≡ false) here (all.far no);
      }

-- if requests are removed, these are inserted again, and then the requests that were unplanned before
pub recreated_some : (p : Instance) (pins routes : List (List ℕ)) (words names : List ℕ) → names ≡ ruined_names p pins routes words → (length names == 0) ≡ false
    → recreated_by p pins routes words ≡ option_map (λ left. placed_all p pins left (names ++ unplanned_names p routes)) (removed p pins routes names)
recreated_some p pins routes words names drawn some =
    let again : List ℕ → Option (List (List ℕ)) = λ ns. option_map (λ left. placed_all p pins left (ns ++ unplanned_names p routes)) (removed p pins routes ns) in
    ap (λ b. cond b None (again (ruined_names p pins routes words))) (ap (λ (ns : List ℕ). length ns == 0) (sym drawn) ∙ some) ∙ ap again (sym drawn)
