-- The places of a table where a pickup is too late, or makes later stops late.
use Rattle.std.specs.Prelude.{◌≡◌, ℕ, ◌+◌, ◌<◌, ◌≤◌, min, max, nat_lt, Bool, false, ◌||◌, List, length, slice_index_or, None}
use Rattle.plan_types.specs.declared.requests.Stop.{Stop}
use Rattle.plan_types.specs.declared.requests.Kind.{Kind}
use Rattle.plan_types.specs.declared.requests.Kind.TheVariants.{LiLim, Vrp}
use Rattle.nint_dist.specs.Distance.{distance}
use Rattle.slack_tables.specs.DriveSteps.{with_pair}
use Rattle.slack_tables.specs.declared.progress.Limits.{Limits}
use Rattle.slack_tables.specs.declared.progress.PlaceSlack.{PlaceSlack}

-- the latest start at a place from which neither its own window nor a later one is missed
abbrev pub deadline_of : PlaceSlack → ℕ
deadline_of e = min e.latest_start e.at.stop.latest

-- a vehicle that starts service at a place after the place's `latest_start` is too late for the next place
abbrev pub AreTight : Kind → List PlaceSlack → Type 0
AreTight kind places =
    kind ≡ LiLim → (k : ℕ) (d : PlaceSlack) → k + 1 < length places
    → deadline_of (slice_index_or places (k + 1) d)
    ≤ (slice_index_or places k d).latest_start + (slice_index_or places k d).at.stop.service
    + distance (slice_index_or places k d).at.stop (slice_index_or places (k + 1) d).at.stop

-- no pair fits with its pickup at place i
abbrev pub IsClosed : Limits → List PlaceSlack → Stop → ℕ → Type 0
IsClosed limits places p i = (q : Stop) (j : ℕ) (d : PlaceSlack) → i < j → j ≤ length places → with_pair limits places p q i j d ≡ None

-- no pair fits with its pickup after place m and before place n
abbrev pub AreClosed : Limits → List PlaceSlack → Stop → ℕ → ℕ → Type 0
AreClosed limits places p m n = (i : ℕ) → m < i → i < n → IsClosed limits places p i

-- whether service at a place must start more than 1 before `earliest`
abbrev pub has_deadline_before : Kind → PlaceSlack → ℕ → Bool
has_deadline_before LiLim e earliest = nat_lt (deadline_of e + 1) earliest
has_deadline_before Vrp e earliest = false

-- whether a pickup between two places is too late, or the place after it by more than 1
abbrev pub makes_late : PlaceSlack → PlaceSlack → Stop → ℕ → ℕ → Bool
makes_late before next p to from =
    let start = max (before.at.start + before.at.stop.service + to) p.earliest in
    nat_lt p.latest start || nat_lt (deadline_of next + 1) (start + p.service + from)
