-- The first refused pin, and the rule that it breaks
use Rattle.std.proofs.Common.{◌≡◌, ℕ, zero, suc, ◌+◌, ◌<◌, true, List, [], ◌∷◌, length, get_or, take, drop, refl, subst, ◌∙◌, arith, inl, inr}
use Rattle.std.specs.List.{list_all}
use Rattle.std.proofs.lemmas.List.Folds.{list_all_more}
use Rattle.plan_types.specs.Instance.{Instance}
use Rattle.plan_audit.specs.Alone.{IsFeasibleAlone, IsFaultAlone}
use Rattle.plan_audit.specs.Passes.{feasible_alone}
use Rattle.state_codec.specs.DecodeResults.{IsPinRefused}

pub refused_here : (p : Instance) (pins : List (List ℕ)) (i rule : ℕ) → i < length pins → IsFaultAlone p (get_or pins i []) rule → IsPinRefused p (drop i pins) rule
refused_here p [] i rule lt f = absurd (omega (arith, lt))
refused_here p (pin ∷ pins) zero rule lt f = inl f
refused_here p (pin ∷ pins) (suc i) rule lt f = refused_here p pins i rule (omega (arith, lt)) f

later : (p : Instance) (pins : List (List ℕ)) (i rule : ℕ) → i < length pins → IsFeasibleAlone p (get_or pins i []) → IsPinRefused p (drop (suc i) pins) rule → IsPinRefused p (drop i pins) rule
later p [] i rule lt f h = absurd (omega (arith, lt))
later p (pin ∷ pins) zero rule lt f h = inr (f, h)
later p (pin ∷ pins) (suc i) rule lt f h = later p pins i rule (omega (arith, lt)) f h

pub refused_later : (p : Instance) (pins : List (List ℕ)) (i rule : ℕ) → i < length pins → IsFeasibleAlone p (get_or pins i [])
    → IsPinRefused p (drop (i + 1) pins) rule → IsPinRefused p (drop i pins) rule
refused_later p pins i rule lt f h =
    let one : i + 1 ≡ suc i = omega arith in
    later p pins i rule lt f (subst (λ k. IsPinRefused p (drop k pins) rule) one h)

pub one_more_feasible : (p : Instance) (pins : List (List ℕ)) (i : ℕ) → i < length pins → list_all (feasible_alone p) (take i pins) ≡ true
    → feasible_alone p (get_or pins i []) ≡ true → list_all (feasible_alone p) (take (i + 1) pins) ≡ true
one_more_feasible p pins i lt h f = list_all_more (feasible_alone p) pins i [] lt ∙ rw (h, f) refl
