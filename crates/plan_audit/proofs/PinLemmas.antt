-- The first place at which a route differs from its pin.
use Rattle.std.proofs.Common.{◌≡◌, ◌≢◌, ℕ, zero, suc, ◌<◌, ◌≤◌, ◌⊎◌, true, false, cond, List, [], ◌∷◌, Option, Some, None, slice_get, unwrap_or, refl, sym, ap, subst, ◌∙◌, inl, inr, arith}
use Rattle.std.proofs.lemmas.Bool.Decides.{eqb_tells}
use Rattle.std.proofs.lemmas.Option.{same_Some}
use Rattle.plan_audit.specs.Rules.{item_at, HasStopAt, IsNotAfter}
use Rattle.plan_audit.specs.FirstFault.{first_pin_mismatch, is_found, pin_mismatch_at}
use Rattle.plan_audit.specs.Verdict.{IsPinMismatch}
use Rattle.plan_audit.specs.declared.faults.Fault.{Fault}
use Rattle.plan_audit.proofs.FirstLemmas.{none_some}
use Rattle.plan_audit.proofs.FailingPlaces.{Spot, IsTestOf, IsLeastOf, rule_nothing, rule_found}
use Rattle.plan_audit.proofs.TimeLemmas.{standing_in}

-- whether a place holds stop n
abbrev IsHolding : ℕ → Option ℕ → Type 0
IsHolding n o = ((is_found n o ≡ true) × (o ≡ Some n)) ⊎ ((is_found n o ≡ false) × (o ≢ Some n))

holds : (n : ℕ) (o : Option ℕ) → IsHolding n o
holds n None = inr (refl, none_some n)
holds n (Some m) = elim (eqb_tells m n) as (λ _. IsHolding n (Some m)) [
  | inl t ↦ inl (t.0, ap Some t.1)
  | inr t ↦ inr (t.0, λ same. t.1 (same_Some m n same))
]

-- if place i of a list has an item, each place before it has one, too
place_before : (ns : List ℕ) (i n j : ℕ) → slice_get ns i ≡ Some n → j < i → (m : ℕ) × (slice_get ns j ≡ Some m)
place_before [] i n j at lt = absurd (none_some n at)
place_before (x ∷ ns) zero n j at lt = absurd (omega arith)
place_before (x ∷ ns) (suc i) n zero at lt = (x, refl)
place_before (x ∷ ns) (suc i) n (suc j) at lt = place_before ns i n j at (omega arith)

not_before : (r i n j m : ℕ) → j < i → IsNotAfter r i n r j m → ⊥
not_before r i n j m lt (inl a) = omega arith
not_before r i n j m lt (inr (e, inl a)) = omega arith
not_before r i n j m lt (inr (e, inr (g, le))) = omega arith

no_item : (i n : ℕ) → item_at [] i ≡ Some n → ⊥
no_item zero n at = none_some n at
no_item (suc i) n at = none_some n at

module _ (routes pins : List (List ℕ)) where
  -- the route differs from its pin at this place, and possibly at earlier ones
  IsOff : ℕ → ℕ → ℕ → Type 0
  IsOff r i n = (pin : List ℕ) × (item_at pins r ≡ Some pin) × (item_at pin i ≡ Some n) × (item_at (unwrap_or (item_at routes r) []) i ≢ Some n)

  off_rule : IsTestOf IsOff (λ r _ i n. pin_mismatch_at (unwrap_or (slice_get routes r) []) i n) pins
  unfolding IsOff
  off_rule = record { to = λ r i s t. to r i s t (holds t.1 (slice_get (unwrap_or (slice_get routes r) []) i)); from = from }
    where
      to : (r i s : ℕ) (t : Spot (λ r _ i n. pin_mismatch_at (unwrap_or (slice_get routes r) []) i n) pins r i s)
          → IsHolding t.1 (slice_get (unwrap_or (slice_get routes r) []) i) → IsOff (suc r) (suc i) s
      to r i s t (inl h) =
          absurd (none_some s (let g : cond (is_found t.1 (slice_get (unwrap_or (slice_get routes r) []) i)) None (Some t.1) ≡ Some s = t.4 in rw (h.0) at g))
      to r i s t (inr h) =
          let same : t.1 ≡ s =
          same_Some _ _ (let g : cond (is_found t.1 (slice_get (unwrap_or (slice_get routes r) []) i)) None (Some t.1) ≡ Some s = t.4 in rw (h.0) at g) in
          (t.0, t.2, subst (λ n. slice_get t.0 i ≡ Some n) same t.3, subst (λ n. slice_get (unwrap_or (slice_get routes r) []) i ≢ Some n) same h.1)

      from : (r i s : ℕ) → IsOff r i s
          → (q : ℕ) × (j : ℕ) × (r ≡ suc q) × (i ≡ suc j) × Spot (λ r _ i n. pin_mismatch_at (unwrap_or (slice_get routes r) []) i n) pins q j s
      from r i s b =
          let t = standing_in pins b.0 r i s b.1 b.2 in
          let off : slice_get (unwrap_or (slice_get routes t.0) []) t.1 ≢ Some s =
          subst (λ i'. item_at (unwrap_or (slice_get routes t.0) []) i' ≢ Some s) t.3
          (subst (λ r'. item_at (unwrap_or (item_at routes r') []) i ≢ Some s) t.2 b.3) in (
            t.0,
            t.1,
            t.2,
            t.3,
            (
              b.0,
              s,
              t.4,
              t.5,
              elim (holds s (slice_get (unwrap_or (slice_get routes t.0) []) t.1)) [ inl h ↦ absurd (off h.1) | inr h ↦ ap (λ c. cond c None (Some s)) h.0 ],
            ),
          )

  pub pin_nothing : first_pin_mismatch routes pins ≡ None → (r i n : ℕ) → IsPinMismatch routes pins r i n → ⊥
  unfolding IsOff
  pin_nothing none r i n b = rule_nothing IsOff _ pins off_rule none r i n (b.0, b.1, b.2, b.3)

  pub pin_found : (f : Fault) → first_pin_mismatch routes pins ≡ Some f → IsLeastOf (IsPinMismatch routes pins) (suc f.route) (suc f.place) f.stop
  unfolding IsOff
  pin_found f at =
      let one = rule_found IsOff _ pins off_rule f at in
      let b = one.broken in
      record {
        broken = (b.0, b.1, b.2, b.3, λ j from below. alike one b.0 b.1 b.2 j from below);
        least = λ q j m c. one.least q j m (c.0, c.1, c.2, c.3);
      }
    where
      -- at a place before the first difference, the route and its pin have the same stop
      alike : IsLeastOf IsOff (suc f.route) (suc f.place) f.stop → (pin : List ℕ) → slice_get pins f.route ≡ Some pin → slice_get pin f.place ≡ Some f.stop
          → (j : ℕ) → 1 ≤ j → j < suc f.place → item_at (unwrap_or (slice_get routes f.route) []) j ≡ item_at pin j
      alike one pin on there zero from below = absurd (omega arith)
      alike one pin on there (suc j) from below =
          let m = place_before pin f.place f.stop j there (omega arith) in
          elim (holds m.0 (slice_get (unwrap_or (slice_get routes f.route) []) j)) [
            | inl h ↦ h.1 ∙ sym m.1
            | inr h ↦ absurd (not_before (suc f.route) (suc f.place) f.stop (suc j) m.0 below (one.least (suc f.route) (suc j) m.0 (pin, on, m.1, h.1)))
          ]

  -- if no place differs, each route begins with its pin
  pub pins_kept : ((r i n : ℕ) → IsPinMismatch routes pins r i n → ⊥) → (r i n : ℕ) → HasStopAt pins r i n → HasStopAt routes r i n
  unfolding IsOff
  pins_kept none r i n t = by (first_pin_mismatch routes pins) refl
    where
      here : (o : Option (List ℕ)) → item_at routes r ≡ o → IsHolding n (item_at (unwrap_or o []) i) → (IsOff r i n → ⊥) → HasStopAt routes r i n
      here None e (inl h) kept = absurd (no_item i n h.1)
      here (Some route) e (inl h) kept = (route, e, h.1)
      here o e (inr h) kept = absurd (kept (t.0, t.1, t.2, subst (λ (o : Option (List ℕ)). item_at (unwrap_or o []) i ≢ Some n) (sym e) h.1))

      by : (o : Option Fault) → first_pin_mismatch routes pins ≡ o → HasStopAt routes r i n
      by None e = here (item_at routes r) refl (holds n (item_at (unwrap_or (item_at routes r) []) i)) (rule_nothing IsOff _ pins off_rule e r i n)
      by (Some f) e = absurd (none (suc f.route) (suc f.place) f.stop (pin_found f e).broken)
