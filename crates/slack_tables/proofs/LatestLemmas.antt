-- The latest start at a place, from the latest start at the next one.
use Rattle.std.proofs.Common.{◌≡◌, ℕ, zero, suc, ◌+◌, ◌-◌, ◌^◌, ◌<◌, ◌≤◌, ◌↔◌, max, min, sym, ap, ◌∙◌, arith, subst, inl, inr}
use Rattle.std.proofs.lemmas.Bool.{cases_lt}
use Rattle.plan_types.specs.declared.requests.Stop.{Stop}
use Rattle.plan_types.specs.declared.requests.Kind.{Kind}
use Rattle.plan_types.specs.declared.requests.Kind.TheVariants.{LiLim}
use Rattle.slack_tables.specs.Along.{stay, moved_along, MeetsLaterWindowsAlong}
use Rattle.slack_tables.proofs.AlongLemmas.{moved-first, moved-next}

-- the start of service at the next place
pub arrival : (ℕ → Stop) → ℕ → ℕ → ℕ
arrival at i t = max (at (i + 1)).earliest (t + stay at i)

pub moved-arrival : (at : ℕ → Stop) (i t : ℕ) → moved_along at i t (i + 1) ≡ arrival at i t
unfolding arrival
moved-arrival at i t = let first = moved-first at i t in moved-next at i t i (omega arith) ∙ ap (λ u. max (at (i + 1)).earliest (u + stay at i)) first

-- service at the next place starts no earlier than at this one
pub arrival-late : (at : ℕ → Stop) (i t : ℕ) → t ≤ moved_along at i t (i + 1)
unfolding arrival
arrival-late at i t = let is : moved_along at i t (i + 1) ≡ max (at (i + 1)).earliest (t + stay at i) = moved-arrival at i t in omega arith

-- later starts depend on the start at place i only through the start at the next place
pub moved-following : (at : ℕ → Stop) (i t n : ℕ) → moved_along at i t (i + 1 + n) ≡ moved_along at (i + 1) (arrival at i t) (i + 1 + n)
moved-following at i t zero =
    let none : i + 1 + 0 ≡ i + 1 = omega arith in
    rw none (moved-arrival at i t ∙ sym (moved-first at (i + 1) (arrival at i t)))
moved-following at i t (suc n) =
    let more : i + 1 + suc n ≡ i + 1 + n + 1 = omega arith in
    let before : moved_along at i t (i + 1 + n) ≡ moved_along at (i + 1) (arrival at i t) (i + 1 + n) = moved-following at i t n in
    let step : moved_along at i t (i + 1 + n + 1) ≡ moved_along at (i + 1) (arrival at i t) (i + 1 + n + 1) =
    moved-next at i t (i + 1 + n) (omega arith)
    ∙ (ap (λ u. max (at (i + 1 + n + 1)).earliest (u + stay at (i + 1 + n))) before
    ∙ sym (moved-next at (i + 1) (arrival at i t) (i + 1 + n) (omega arith))) in
    rw more step

pub moved-from : (at : ℕ → Stop) (i t k : ℕ) → i < k → moved_along at i t k ≡ moved_along at (i + 1) (arrival at i t) k
moved-from at i t k h =
    subst (λ m. moved_along at i t m ≡ moved_along at (i + 1) (arrival at i t) m) (sym (omega arith)) (moved-following at i t (k - (i + 1)))

module _ (kind : Kind) (at : ℕ → Stop) (last : ℕ) where
  -- a start misses no later window exactly if the start at the next place is in time and misses none
  pub continues_within_limits-next : (i t : ℕ) → kind ≡ LiLim → i < last → MeetsLaterWindowsAlong kind at last i t
      → (arrival at i t ≤ (at (i + 1)).latest) × MeetsLaterWindowsAlong kind at last (i + 1) (arrival at i t)
  continues_within_limits-next i t lilim h goes =
      let here = goes lilim (i + 1) (omega arith) (omega arith) in
      let is = moved-arrival at i t in
      (omega arith, λ _ k j l. let there = goes lilim k (omega arith) l in let same = moved-from at i t k (omega arith) in omega arith)

  pub continues_within_limits-before : (i t : ℕ) → arrival at i t ≤ (at (i + 1)).latest → MeetsLaterWindowsAlong kind at last (i + 1) (arrival at i t) → MeetsLaterWindowsAlong kind at last i t
  continues_within_limits-before i t here goes = λ lilim k h l.
      let same = moved-from at i t k h in
      elim (cases_lt (i + 1) k) [
        | inl j ↦ (let there = goes lilim k j l in omega arith)
        | inr j ↦ (let is = moved-arrival at i t in
            let end : k ≡ i + 1 = omega arith in
            subst (λ k. moved_along at i t k ≤ (at k).latest) (sym end) (omega arith))
      ]

  -- the bound that one place sets on the latest start
  unfoldable pub IsBound : ℕ → ℕ → Type 0
  IsBound i limit = (t : ℕ) → t ≤ 2 ^ 60 → MeetsLaterWindowsAlong kind at last i t ↔ (t ≤ limit)

  -- the bound at a place, from the bound at the next place
  pub bound-before : (i limit start : ℕ) → kind ≡ LiLim → i < last → IsBound (i + 1) limit → (at (i + 1)).earliest ≤ start
      → start ≤ limit → start ≤ (at (i + 1)).latest → (at (i + 1)).latest ≤ 100000000 → stay at i ≤ start
      → IsBound i (min limit (at (i + 1)).latest - stay at i)
  unfolding IsBound arrival
  bound-before i limit start lilim h next early fits window late long = λ t few. (
    (λ goes.
        let both = continues_within_limits-next i t lilim h goes in
        let there : arrival at i t ≤ limit = (next (arrival at i t) (omega arith)).0 both.1 in
        omega arith),
    (λ less.
        continues_within_limits-before i t (omega arith) ((next (arrival at i t) (omega arith)).1 (omega arith))),
  )
