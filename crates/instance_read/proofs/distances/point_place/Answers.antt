-- The place of the first point is less than the length of the word, or the word has no point.
use Rattle.std.proofs.Common.{◌≡◌, ℕ, ◌≤◌, cond, Option, Some, None, MatchOption, length, refl, subst, sym, rules, tests}
use Rattle.std.specs.Prelude.{nat_lt}
use Rattle.std.specs.List.{position_or_len}
use Rattle.std.proofs.lemmas.Bool.{cond_both, ltb-false}
use Rattle.std.proofs.lemmas.Iterator.{YieldsList-from_slice}
use Rattle.std.proofs.lemmas.Iterator.Search.{position_from_yields_List}
use Rattle.instance_read.specs.Distances.{is_point}
use Rattle.instance_read.proofs.distances.point_place.Goals as goal

-- a place below the length, or none
reported : (place len : ℕ) (r : Option ℕ) → r ≡ cond (nat_lt place len) (Some place) None → MatchOption r (len ≤ place) (λ k. k ≡ place)
reported place len r e =
    let P : Option ℕ → Type 0 = λ o. MatchOption o (len ≤ place) (λ k. k ≡ place) in
    subst P (sym e) (cond_both (nat_lt place len) (Some place) None P (λ _. refl) (λ above. ltb-false place len above))

pub returns-clause-place : goal.returns-clause-place
returns-clause-place c =
    let word = c.args.word.now in
    reported (position_or_len is_point word) (length word) c.position.result
    (position_from_yields_List is_point _ _ c.position.result c.position.ensures.ran (YieldsList-from_slice word cc) (λ x b q k. search (rules, tests)))
