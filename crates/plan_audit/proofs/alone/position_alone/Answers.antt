-- The first place of a number in the only route is its first position.
use Rattle.std.proofs.Common.{◌≡◌, ℕ, ◌+◌, ◌<◌, ◌≤◌, cond, eqb, List, [], ◌∷◌, length, Option, Some, None, MatchOption, refl, sym, ap, subst, ◌∙◌, arith, inl, inr, rules, tests}
use Rattle.std.specs.Prelude.{nat_lt}
use Rattle.std.specs.List.{position_or_len}
use Rattle.std.specs.Option.{option_map, option_or}
use Rattle.std.proofs.lemmas.Bool.{cond_both, ltb-false, ltb-true}
use Rattle.std.proofs.lemmas.Bool.Decides.{eqb_tells}
use Rattle.std.proofs.lemmas.Iterator.{YieldsList-from_slice}
use Rattle.std.proofs.lemmas.Iterator.Search.{position_from_yields_List}
use Rattle.plan_audit.specs.FirstFault.{place_of}
use Rattle.plan_audit.specs.declared.first_positions.StopPosition.{StopPosition}
use Rattle.plan_audit.proofs.alone.position_alone.Goals as goal

-- the first place of a number is the one that `position` finds
place_there : (n k : ℕ) (ns : List ℕ) → position_or_len (λ m. eqb m n) ns < length ns → place_of n k ns ≡ Some (k + position_or_len (λ m. eqb m n) ns)
place_there n k [] h = absurd (omega arith)
place_there n k (m ∷ ns) h = elim (eqb_tells m n) [
  | inl t ↦ rw t.0 (ap Some (omega arith))
  | inr t ↦ rw t.0 (place_there n (k + 1) ns (let more = rw t.0 at h in omega (arith, more)) ∙ ap Some (omega arith))
]

place_nowhere : (n k : ℕ) (ns : List ℕ) → length ns ≤ position_or_len (λ m. eqb m n) ns → place_of n k ns ≡ None
place_nowhere n k [] h = refl
place_nowhere n k (m ∷ ns) h = elim (eqb_tells m n) [
  | inl t ↦ let none = rw t.0 at h in absurd (omega (arith, none))
  | inr t ↦ rw t.0 (place_nowhere n (k + 1) ns (let more = rw t.0 at h in omega (arith, more)))
]

-- the place if it is below the length
reported : (place len : ℕ) (r : Option ℕ) → r ≡ cond (nat_lt place len) (Some place) None → MatchOption r (len ≤ place) (λ k. (k ≡ place) × (place < len))
reported place len r e =
    let P : Option ℕ → Type 0 = λ o. MatchOption o (len ≤ place) (λ k. (k ≡ place) × (place < len)) in
    subst P (sym e) (cond_both (nat_lt place len) (Some place) None P (λ below. (refl, ltb-true place len below)) (λ above. ltb-false place len above))

-- the position at the first place
abbrev first_position : Option ℕ → Option StopPosition
first_position place = option_or (option_map (λ i. record { route = 0; place = i }) place) None

module _ (n : ℕ) (route : List ℕ) (r : Option ℕ)
    (e : r ≡ cond (nat_lt (position_or_len (λ m. eqb m n) route) (length route)) (Some (position_or_len (λ m. eqb m n) route)) None) where
  abbrev first : ℕ
  first = position_or_len (λ m. eqb m n) route

  abbrev Found : Option ℕ → Type 0
  Found o = MatchOption o (length route ≤ first) (λ k. (k ≡ first) × (first < length route))

  pub none_found : r ≡ None → place_of n 0 route ≡ None
  none_found is = place_nowhere n 0 route (subst Found is (reported first (length route) r e))

  pub one_found : (k : ℕ) → r ≡ Some k → place_of n 0 route ≡ Some k
  one_found k is = let here = subst Found is (reported first (length route) r e) in place_there n 0 route here.1 ∙ ap Some (omega (arith, here.0))

pub returns-in_err-place : goal.returns-in_err-place
returns-in_err-place c =
    let route = c.args.route.now in
    let e =
    position_from_yields_List (λ m. eqb m c.args.stop) _ _ c.position.result c.position.ensures.ran (YieldsList-from_slice route cc)
    (λ x b q k. search (rules, tests)) in
    c.from_residual.ensures ∙ ap first_position (sym (none_found c.args.stop route c.position.result e c.in_err-place.was))

pub returns : goal.returns
returns c =
    let route = c.args.route.now in
    let e =
    position_from_yields_List (λ m. eqb m c.args.stop) _ _ c.position.result c.position.ensures.ran (YieldsList-from_slice route cc)
    (λ x b q k. search (rules, tests)) in
    ap first_position (sym (one_found c.args.stop route c.position.result e c.in_ok-place.place c.in_ok-place.was))
