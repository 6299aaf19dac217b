-- A problem while requests are added
use Rattle.std.specs.Prelude.{◌≡◌, ℕ, ◌<◌}
use Rattle.std.specs.List.{AllByRecursion}
use Rattle.plan_types.specs.Instance.{Instance, numbers_among}

-- Only the requests and `next_number` have changed, and each stop number is below `next`
pub record IsFilledBelow (before : Instance) (next : ℕ) (after : Instance) : Type 0 where
  pub kind : after.kind ≡ before.kind
  pub depot : after.depot ≡ before.depot
  pub capacity : after.capacity ≡ before.capacity
  pub fleet : after.fleet ≡ before.fleet
  pub below : AllByRecursion (λ n. n < next) (numbers_among after.requests)
