-- The places of a route, one after another in the forward pass.
use Rattle.std.proofs.Common.{◌≡◌, ℕ, ◌+◌, ◌^◌, ◌<◌, ◌≤◌, ◌⊎◌, List, get_or, length, refl}
use Rattle.std.proofs.Common.{sym, ap, ◌∙◌, arith, subst, inl, inr, set, length-set, get_or-set_same, get_or-set_other}
use Rattle.std.proofs.lemmas.Bool.{cases_lt}
use Rattle.plan_types.specs.Limits.{IsVisit}
use Rattle.plan_types.specs.declared.requests.Stop.{Stop}
use Rattle.slack_tables.specs.DriveSteps.{driven_on, IsNear, IsSmall}
use Rattle.slack_tables.specs.Places.{IsAt}
use Rattle.slack_tables.specs.ForwardPass.{at_depot, forward_row, IsWithin, IsForwardRow, AreForwardRowsTo}
use Rattle.slack_tables.specs.declared.progress.Progress.{Progress}
use Rattle.slack_tables.specs.declared.progress.PlaceSlack.{PlaceSlack}
use Rattle.slack_tables.proofs.AlongLemmas.{start-first, load-first, length-first}
use Rattle.slack_tables.proofs.SpliceLemmas.{at-next}

-- ---- the first place, and the next one
pub at-first : (stops : ℕ → Stop) (depot : Stop) → stops 0 ≡ depot → IsAt stops 0 (at_depot depot)
at-first stops depot is = record {
  stop = sym is;
  start = ap (λ s. s.earliest) (sym is) ∙ sym (start-first stops);
  load = sym (load-first stops);
  distance = sym (length-first stops);
}

pub within-first : (depot : Stop) → IsVisit depot → IsWithin 0 (at_depot depot)
within-first depot visit =
    record {
      visit = visit;
      start = (let w = visit.window in let l = visit.latest in omega arith);
      load = omega arith;
      distance = omega arith;
    }

pub within-next : (k : ℕ) (a b : Progress) → IsWithin k a → IsNear a b → IsWithin (k + 1) b
within-next k a b is near = record {
  visit = near.visit;
  start = (let p = is.start in let q = near.start in omega arith);
  load = (let p = is.load in let q = near.load in omega arith);
  distance = (let p = is.distance in let q = near.distance in omega arith);
}

pub small-within : (k : ℕ) (a : Progress) → k ≤ 40003 → IsWithin k a → IsSmall (2 ^ 50) a
small-within k a few is = record {
  visit = is.visit;
  start = (let p = is.start in omega arith);
  load = (let p = is.load in omega arith);
  distance = (let p = is.distance in omega arith);
}

open-is : (stops : ℕ → Stop) (k : ℕ) (a : Progress) → k ≤ 40003 → IsAt stops k a → IsWithin k a → IsForwardRow stops k (forward_row a)
open-is stops k a few at is =
    let small = small-within k a few is in
    record { at = at; latest_start = refl; max_load = refl; within = is; small = record { at = small; max_load = small.load } }

-- ---- by index
pub open-to-none : (stops : ℕ → Stop) (places : List PlaceSlack) → AreForwardRowsTo stops 0 places
open-to-none stops places = record { each = λ k d h _. absurd (omega arith) }

pub open-to-more : (stops : ℕ → Stop) (n : ℕ) (places new : List PlaceSlack) (a : Progress) → AreForwardRowsTo stops n places → n ≤ 40003
    → IsAt stops n a → IsWithin n a → new ≡ set places n (forward_row a) → AreForwardRowsTo stops (n + 1) new
open-to-more stops n places new a is few at within made =
    subst (AreForwardRowsTo stops (n + 1)) (sym made)
    (record { each = λ k d h l. by k d (cases_lt k n) h (omega (arith, length-set places n (forward_row a))) })
  where
    by : (k : ℕ) (d : PlaceSlack) → (k < n) ⊎ (n ≤ k) → k < n + 1 → k < length places → IsForwardRow stops k (get_or (set places n (forward_row a)) k d)
    by k d (inl before) h l = subst (IsForwardRow stops k) (sym (get_or-set_other places n k (forward_row a) d (omega arith))) (is.each k d before l)
    by k d (inr here) h l =
        subst (λ i. IsForwardRow stops i (get_or (set places n (forward_row a)) i d)) (omega arith)
        (subst (IsForwardRow stops n) (sym (get_or-set_same places n (forward_row a) d (omega arith))) (open-is stops n a few at within))

-- ---- for the values in the code
pub at-begin : (stops : ℕ → Stop) (depot : Stop) (a : Progress) → stops 0 ≡ depot → a ≡ at_depot depot → IsAt stops 0 a
at-begin stops depot a is made = subst (IsAt stops 0) (sym made) (at-first stops depot is)

pub within-begin : (depot : Stop) (a : Progress) → IsVisit depot → a ≡ at_depot depot → IsWithin 0 a
within-begin depot a visit made = subst (IsWithin 0) (sym made) (within-first depot visit)

pub at-more : (stops : ℕ → Stop) (k : ℕ) (a b : Progress) (s : Stop) → IsAt stops k a → s ≡ stops (k + 1) → b ≡ driven_on a s → IsAt stops (k + 1) b
at-more stops k a b s is next made = subst (IsAt stops (k + 1)) (sym made) (at-next stops k a s is next)
