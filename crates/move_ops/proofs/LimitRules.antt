-- A route that keeps the limits breaks, as the only route, none of the auditor's rules on load and time, and
-- conversely.
use Rattle.std.proofs.Common.{◌≡◌, ℕ, ◌+◌, ◌<◌, ◌≤ℤ◌, ◌<ℤ◌, pos, List, [], ◌∷◌, length, Some, refl, sym, subst, inl, inr, arith}
use Rattle.std.proofs.lemmas.Bool.{cases_lt}
use Rattle.std.proofs.lemmas.Int.{ints, by_lt_z}
use Rattle.plan_types.specs.Instance.{Instance, IsInstance}
use Rattle.route_sched.specs.Route.{place}
use Rattle.route_sched.specs.Schedule.{start, load}
use Rattle.plan_audit.specs.Rules.{item_at, IsOverloaded, IsLate, IsLateReturn}
use Rattle.plan_audit.proofs.AloneLemmas.{only_route}
use Rattle.plan_audit.proofs.SoundLemmas.{stop_there, stop_within}
use Rattle.slack_tables.specs.Insertion.{KeepsLimits}
use Rattle.move_ops.specs.Laws.{LimitsAreRules}
use Rattle.move_ops.proofs.FitLemmas.{idle_limits}

module _ (p : Instance) (route : List ℕ) where
  not_overloaded : KeepsLimits p route → (r i n : ℕ) → IsOverloaded p (route ∷ []) r i n → ⊥
  not_overloaded limits r i n broken =
      let same = sym (only_route route broken.0 r broken.1).1 in
      let at : item_at route i ≡ Some n = subst (λ (l : List ℕ). item_at l i ≡ Some n) same broken.2 in
      let above : pos p.capacity <ℤ load p route i = subst (λ (l : List ℕ). pos p.capacity <ℤ load p l i) same broken.3 in
      let most = limits.load i (stop_within route i n at).0 (stop_within route i n at).1 in
      omega (arith, ints)

  not_late : KeepsLimits p route → (r i n : ℕ) → IsLate p (route ∷ []) r i n → ⊥
  not_late limits r i n broken =
      let late = broken.1 in
      let same = sym (only_route route late.0 r late.1).1 in
      let at : item_at route i ≡ Some n = subst (λ (l : List ℕ). item_at l i ≡ Some n) same late.2 in
      let above : (place p route i).latest < start p route i = subst (λ (l : List ℕ). (place p l i).latest < start p l i) same late.3 in
      let most = limits.window broken.0 i (stop_within route i n at).0 (stop_within route i n at).1 in
      omega arith

  not_back_late : KeepsLimits p route → (r i n : ℕ) → IsLateReturn p (route ∷ []) r i n → ⊥
  not_back_late limits r i n broken =
      let late = broken.1 in
      let same = sym (only_route route late.0 r late.1).1 in
      let following : i ≡ length route + 1 = subst (λ (l : List ℕ). i ≡ length l + 1) same late.3 in
      let above : p.depot.latest < start p route i = subst (λ (l : List ℕ). p.depot.latest < start p l i) same late.5 in
      let after_last : p.depot.latest < start p route (length route + 1) = subst (λ (j : ℕ). p.depot.latest < start p route j) following above in
      omega arith

  keeps_limits : IsInstance p
      → ((r i n : ℕ)
      → (IsOverloaded p (route ∷ []) r i n → ⊥) × (IsLate p (route ∷ []) r i n → ⊥) × (IsLateReturn p (route ∷ []) r i n → ⊥))
      → KeepsLimits p route
  keeps_limits valid rules = record {
    load = λ i from to.
        by_lt_z {P = load p route i ≤ℤ pos p.capacity} (pos p.capacity) (load p route i)
        (λ above. absurd ((rules 1 i (stop_there route i from to).0).0 (route, refl, (stop_there route i from to).1, above))) (λ le. le);
    window = λ lilim i from to. elim (cases_lt (place p route i).latest (start p route i)) [
      | inl above ↦ absurd ((rules 1 i (stop_there route i from to).0).1 (lilim, (route, refl, (stop_there route i from to).1, above)))
      | inr within ↦ omega arith
    ];
    return = λ lilim. elim (cases_lt 0 (length route)) [
      | inl some ↦ elim (cases_lt p.depot.latest (start p route (length route + 1))) [
        | inl above ↦ absurd ((rules 1 (length route + 1) 0).2 (lilim, (route, refl, some, refl, refl, above)))
        | inr within ↦ omega arith
      ]
      | inr none ↦ idle_limits p valid route (omega arith)
    ];
  }

pub limits_are_rules : LimitsAreRules
limits_are_rules p route valid = (
  λ limits r i n. (not_overloaded p route limits r i n, not_late p route limits r i n, not_back_late p route limits r i n),
  keeps_limits p route valid,
)
