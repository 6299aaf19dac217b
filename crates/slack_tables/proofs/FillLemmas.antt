-- The backward pass, place by place.
use Rattle.std.proofs.Common.{◌≡◌, ℕ, ◌+◌, ◌-◌, ◌≤◌, ◌<◌, List, get_or, length}
use Rattle.plan_types.specs.declared.requests.Kind.{Kind}
use Rattle.plan_types.specs.declared.requests.Kind.TheVariants.{LiLim}
use Rattle.slack_tables.specs.BackwardPass.{row_before}
use Rattle.slack_tables.specs.declared.progress.PlaceSlack.{PlaceSlack}

-- the places from k on are filled, and those before are unchanged
pub record IsFilledFrom (kind : Kind) (old new : List PlaceSlack) (k : ℕ) : Type 0 where
  pub within : k + 1 ≤ length old
  pub long : length new ≡ length old
  pub before : (m : ℕ) (d : PlaceSlack) → m < k → get_or new m d ≡ get_or old m d
  pub last : (d : PlaceSlack) → get_or new (length old - 1) d ≡ get_or old (length old - 1) d
  pub each : (m : ℕ) (d : PlaceSlack) → k ≤ m → m + 1 < length old → get_or new m d ≡ row_before kind (get_or old m d) (get_or new (m + 1) d)
  pub here : (d : PlaceSlack) → (get_or new k d).at ≡ (get_or old k d).at
  pub limit : (d : PlaceSlack) → kind ≡ LiLim → (get_or new k d).at.start ≤ (get_or new k d).latest_start
