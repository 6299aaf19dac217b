-- A request that is inserted only if that costs little.
use Rattle.std.specs.Prelude.{◌≡◌, ◌⊎◌, ℕ, ◌≤◌, ◌<◌, ℤ, pos, ◌+ℤ◌, ◌≤ℤ◌, Bool, true, false, List}
use Rattle.plan_types.specs.Instance.{Instance}
use Rattle.route_sched.specs.Cost.{cost_of}
use Rattle.move_ops.specs.Drafts.{placed}

-- the other plan leaves at least as many requests out, uses more vehicles, or has a distance that is greater by
-- at least `below`
abbrev pub IsFar : Instance → List (List ℕ) → List (List ℕ) → ℤ → Type 0
IsFar p routes other below =
    ((cost_of p routes).unplanned ≤ (cost_of p other).unplanned) ⊎ ((cost_of p routes).vehicles < (cost_of p other).vehicles)
    ⊎ ((pos (cost_of p routes).distance +ℤ below) ≤ℤ pos (cost_of p other).distance)

-- the new plan is the old one with the request at its best insertion if that plan is not far (`IsFar`), else
-- the old one
pub record IsPlacedBelow (p : Instance) (pins : List (List ℕ)) (name : ℕ) (below : ℤ) (made : Bool) (old new : List (List ℕ)) : Type 0 where
  pub put : made ≡ true → new ≡ placed p pins old name
  pub near : made ≡ true → IsFar p old (placed p pins old name) below → ⊥
  pub stays : made ≡ false → new ≡ old
  pub far : made ≡ false → IsFar p old (placed p pins old name) below
