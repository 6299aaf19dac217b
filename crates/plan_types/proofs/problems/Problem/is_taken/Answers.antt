-- If no stop has the number of the pickup, one of the pair's numbers is in use exactly if the number of the
-- delivery is.
use Rattle.std.proofs.Common.{◌≡◌, true, false, sym, ◌∙◌, inl, inr}
use Rattle.plan_types.proofs.problems.Problem.is_taken.Goals as goal

pub returns-else-has_stop-clause-taken : goal.returns-else-has_stop-clause-taken
returns-else-has_stop-clause-taken c =
    let first = c.has_stop-in-Pair.ensures.live in
    let second = c.has_stop-else-has_stop.ensures.live in
    let neither = c.if-has_stop.false in
    rw c.in-Pair.is (
      λ t. inr (second.0 t),
      λ t. elim t [
        | inl s ↦ (let h : true ≡ false = sym (first.1 s) ∙ neither in absurd (cc))
        | inr s ↦ second.1 s
      ],
    )
