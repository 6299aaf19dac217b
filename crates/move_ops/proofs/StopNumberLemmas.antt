-- The stops of a problem by number, and those at the places of a route.
use Rattle.std.proofs.Common.{◌≡◌, ℕ, ◌+◌, ◌<◌, ◌≤◌, eqb, false, List, [], ◌∷◌, Option, Some, None, refl, sym, ap, subst, ◌∙◌, inl, inr, arith, add-one, Bor}
use Rattle.std.specs.List.{AllByRecursion}
use Rattle.std.specs.Option.{option_copied}
use Rattle.std.specs.Prelude.{slice_index, unwrap_or, IfSome}
use Rattle.std.proofs.lemmas.Bool.Decides.{eqb_tells}
use Rattle.plan_types.specs.Instance.{Instance, IsInstance, stop_at, first_some}
use Rattle.plan_types.specs.Limits.{IsStop}
use Rattle.plan_types.specs.Request.{stop_in, IsRequest}
use Rattle.plan_types.specs.declared.requests.Request.{Request}
use Rattle.plan_types.specs.declared.requests.Request.TheVariants.{Single, Pair}
use Rattle.plan_types.specs.declared.requests.Stop.{Stop}
use Rattle.route_sched.specs.Route.{place, stop_numbered}

not_zero : (n : ℕ) → 1 ≤ n → eqb n 0 ≡ false
not_zero n h = grind (arith, h)

-- no request has a stop with number 0
zero_in : (es : List (ℕ × Request)) → AllByRecursion (λ e. IsRequest e.1) es → first_some (stop_in 0) es ≡ None
zero_in [] h = refl
zero_in ((n, Single s) ∷ es) h = rw (not_zero s.number h.0.0.from_one) (zero_in es h.1)
zero_in ((n, Pair a b) ∷ es) h = rw (not_zero a.number h.0.0.from_one, not_zero b.number h.0.1.from_one) (zero_in es h.1)

module _ (p : Instance) (valid : IsInstance p) where
  numbered : (n : ℕ) → stop_numbered p n ≡ unwrap_or (stop_at p n) p.depot
  numbered n = elim (eqb_tells n 0) [
    | inl t ↦ (let none : stop_at p 0 ≡ None = zero_in p.requests valid.valid in
        rw t.0 (sym (ap (λ (o : Option Stop). unwrap_or o p.depot) (ap (stop_at p) t.1 ∙ none))))
    | inr f ↦ rw f.0 refl
  ]

  pub stop_there : (route : List ℕ) (k : ℕ) → place p route (k + 1) ≡ unwrap_or (stop_at p (slice_index route k)) p.depot
  unfolding place
  stop_there route k = subst (λ i. stop_numbered p (slice_index (0 ∷ route) i) ≡ unwrap_or (stop_at p (slice_index route k)) p.depot) (sym (add-one k)) (numbered (slice_index route k))

-- a stop that is found by number n has number n
pub stop_known : (p : Instance) (n : ℕ) (o : Option (Bor Stop)) → option_copied o ≡ stop_at p n
    → IfSome o (λ s. (s.now.number ≡ n) × IsStop s.now × (n < p.next_number)) → IfSome o (λ s. stop_at p s.now.number ≡ Some s.now)
stop_known p n None found is = tt
stop_known p n (Some s) found is = ap (stop_at p) is.0 ∙ sym found
