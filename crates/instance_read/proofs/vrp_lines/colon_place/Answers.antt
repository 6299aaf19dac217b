-- The place of the first colon is less than the line's length, or the line has no colon.
use Rattle.std.proofs.Common.{◌≡◌, ℕ, ◌≤◌, cond, Option, Some, None, MatchOption, length, refl, subst, sym, rules, tests}
use Rattle.std.specs.Prelude.{nat_lt}
use Rattle.std.specs.List.{position_or_len}
use Rattle.std.proofs.lemmas.Bool.{cond_both, ltb-false}
use Rattle.std.proofs.lemmas.Iterator.{YieldsList-from_slice}
use Rattle.std.proofs.lemmas.Iterator.Search.{position_from_yields_List}
use Rattle.instance_read.specs.VrpLines.{is_colon}
use Rattle.instance_read.proofs.vrp_lines.colon_place.Goals as goal

-- a place below the length, or none
reported : (place len : ℕ) (r : Option ℕ) → r ≡ cond (nat_lt place len) (Some place) None → MatchOption r (len ≤ place) (λ k. k ≡ place)
reported place len r e =
    let P : Option ℕ → Type 0 = λ o. MatchOption o (len ≤ place) (λ k. k ≡ place) in
    subst P (sym e) (cond_both (nat_lt place len) (Some place) None P (λ _. refl) (λ above. ltb-false place len above))

pub returns-clause-place : goal.returns-clause-place
returns-clause-place c =
    let line = c.args.line.now in
    reported (position_or_len is_colon line) (length line) c.position.result
    (position_from_yields_List is_colon _ _ c.position.result c.position.ensures.ran (YieldsList-from_slice line cc) (λ x b q k. search (rules, tests)))
