-- Requests and their stops in the routes of a plan.
use Rattle.std.specs.Prelude.{is_some}
use Rattle.std.proofs.Common.{◌≡◌, ◌≢◌, ℕ, ◌⊎◌, true, false, cond, List, [], ◌∷◌, Some, None, refl, ap, subst, ◌∙◌, inl, inr, eqb, nat_eq}
use Rattle.std.specs.List.{AllByRecursion}
use Rattle.std.specs.Map.{lookup}
use Rattle.std.proofs.lemmas.Bool.{eq-eqb}
use Rattle.std.proofs.lemmas.Bool.Decides.{eqb_tells}
use Rattle.std.proofs.lemmas.Option.{same_Some}
use Rattle.plan_types.specs.Instance.{Instance, IsInstance, partner_at, pickup_at}
use Rattle.plan_types.specs.Laws.{IsFoundAt, NamedRequestsAreFound}
use Rattle.plan_types.specs.Request.{stop_in, IsRequest}
use Rattle.plan_types.specs.declared.requests.Stop.{Stop}
use Rattle.plan_types.specs.declared.requests.Request.{Request}
use Rattle.plan_types.specs.declared.requests.Request.TheVariants.{Single, Pair}
use Rattle.plan_audit.specs.Laws.{IsNamed}
use Rattle.plan_audit.proofs.FirstLemmas.{none_some}

-- the request has the stop
abbrev pub HasStop : ℕ → Request → Type 0
HasStop n (Single s) = s.number ≡ n
HasStop n (Pair a b) = (a.number ≡ n) ⊎ (b.number ≡ n)

-- a stop of a request is found by its number
stop_found : (n : ℕ) (r : Request) → HasStop n r → (s : Stop) × (stop_in n r ≡ Some s)
stop_found n (Single s) has = (s, rw (eq-eqb s.number n has) refl)
stop_found n (Pair a b) (inl has) = (a, rw (eq-eqb a.number n has) refl)
stop_found n (Pair a b) (inr has) = elim (eqb_tells a.number n) [
  | inl t ↦ (a, rw (t.0) refl)
  | inr t ↦ (b, rw (t.0, eq-eqb b.number n has) refl)
]

pub has_found : (n : ℕ) (r : Request) (s : Stop) → stop_in n r ≡ Some s → HasStop n r
has_found n (Single a) s is = elim (eqb_tells a.number n) [
  | inl t ↦ t.1
  | inr t ↦ absurd (none_some s (let h : cond (eqb a.number n) (Some a) None ≡ Some s = is in rw (t.0) at h))
]
has_found n (Pair a b) s is = elim (eqb_tells a.number n) [
  | inl t ↦ inl t.1
  | inr t ↦ elim (eqb_tells b.number n) [
    | inl u ↦ inr u.1
    | inr u ↦ absurd (none_some s (let h : cond (eqb a.number n) (Some a) (cond (eqb b.number n) (Some b) None) ≡ Some s = is in rw (t.0, u.0) at h))
  ]
]

-- a property of all requests holds for one that is found
request_holds : (P : Request → Type 0) (es : List (ℕ × Request)) (name : ℕ) (r : Request) → AllByRecursion (λ e. P e.1) es → lookup (nat_eq name) es ≡ Some r
    → P r
request_holds P [] name r all at = absurd (none_some r at)
request_holds P (e ∷ es) name r all at = by (eqb_tells name e.0) (λ h. request_holds P es name r all.1 h)
  where
    by : ((eqb name e.0 ≡ true) × (name ≡ e.0)) ⊎ ((eqb name e.0 ≡ false) × (name ≢ e.0)) → (lookup (nat_eq name) es ≡ Some r → P r) → P r
    by (inl t) rest = subst P (same_Some _ _ (let h : cond (eqb name e.0) (Some e.1) (lookup (nat_eq name) es) ≡ Some r = at in rw (t.0) at h)) all.0
    by (inr t) rest = rest (let h : cond (eqb name e.0) (Some e.1) (lookup (nat_eq name) es) ≡ Some r = at in rw (t.0) at h)

pub pair_apart : (p : Instance) → IsInstance p → (name : ℕ) (a b : Stop) → IsNamed p name (Pair a b) → a.number ≢ b.number
pair_apart p valid name a b at = let request = request_holds IsRequest p.requests name (Pair a b) valid.valid at in request.2

module _ (found : NamedRequestsAreFound) (p : Instance) (valid : IsInstance p) where
  -- a request is found by each of its stops
  by_stop : (name n : ℕ) (r : Request) → IsNamed p name r → HasStop n r → IsFoundAt p n r
  by_stop name n r at has = found p n name r valid at (ap is_some (stop_found n r has).1)

  -- the other stop of a pair, and the pickup of its delivery
  pub partner_of_pickup : (name : ℕ) (a b : Stop) → IsNamed p name (Pair a b) → partner_at p a.number ≡ Some b.number
  partner_of_pickup name a b at = (by_stop name a.number (Pair a b) at (inl refl)).partner ∙ rw (eq-eqb a.number a.number refl) refl

  apart_test : (name : ℕ) (a b : Stop) → IsNamed p name (Pair a b) → eqb a.number b.number ≡ false
  apart_test name a b at = elim (eqb_tells a.number b.number) [ inl t ↦ absurd (pair_apart p valid name a b at t.1) | inr t ↦ t.0 ]

  pub partner_of_delivery : (name : ℕ) (a b : Stop) → IsNamed p name (Pair a b) → partner_at p b.number ≡ Some a.number
  partner_of_delivery name a b at =
      (by_stop name b.number (Pair a b) at (inr refl)).partner ∙ rw (apart_test name a b at, eq-eqb b.number b.number refl) refl

  pub pickup_of_delivery : (name : ℕ) (a b : Stop) → IsNamed p name (Pair a b) → pickup_at p b.number ≡ Some a.number
  pickup_of_delivery name a b at =
      (by_stop name b.number (Pair a b) at (inr refl)).pickup ∙ rw (apart_test name a b at, eq-eqb b.number b.number refl) refl
