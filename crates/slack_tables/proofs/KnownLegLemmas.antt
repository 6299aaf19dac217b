-- Bounds on distances, and the distances that a table has.
use Rattle.std.proofs.Common.{◌≡◌, ℕ, ◌+◌, ◌-◌, ◌<◌, ◌≤◌, ◌-ℤ◌, List, get_or, length, refl, arith, subst, sym}
use Rattle.std.specs.Prelude.{unsigned_abs}
use Rattle.std.proofs.lemmas.Int.{ints}
use Rattle.std.proofs.lemmas.Nat.{mul-le}
use Rattle.plan_types.specs.Limits.{IsVisit}
use Rattle.plan_types.specs.declared.requests.Stop.{Stop}
use Rattle.slack_tables.specs.Legs.{AreLinked}
use Rattle.slack_tables.specs.declared.progress.PlaceSlack.{PlaceSlack}
use Rattle.nint_dist.specs.Distance.{distance, DistancesAreNearestRoots}

pub distance_le : DistancesAreNearestRoots → (a b : Stop) → IsVisit a → IsVisit b → distance a b ≤ 2828427
distance_le roots a b from to =
    let dx : unsigned_abs (a.x -ℤ b.x) ≤ 2000000 = (let p = from.x in let q = to.x in omega (arith, ints, p.0, p.1, q.0, q.1)) in
    let dy : unsigned_abs (a.y -ℤ b.y) ≤ 2000000 = (let p = from.y in let q = to.y in omega (arith, ints, p.0, p.1, q.0, q.1)) in
    (roots a b).least 2828427
    (omega (
      arith,
      mul-le (unsigned_abs (a.x -ℤ b.x)) (unsigned_abs (a.x -ℤ b.x)) 2000000 2000000 dx dx,
      mul-le (unsigned_abs (a.y -ℤ b.y)) (unsigned_abs (a.y -ℤ b.y)) 2000000 2000000 dy dy,
    ))

-- a distance depends only on the coordinates
same-way : (a b c e : Stop) → a.x ≡ c.x → a.y ≡ c.y → b.x ≡ e.x → b.y ≡ e.y → distance a b ≡ distance c e
unfolding distance
same-way a b c e ax ay bx by = rw (ax, ay, bx, by) refl

-- the leg after a place is the distance between any stops with the same coordinates as its ends
pub way_is : (places : List PlaceSlack) → AreLinked places → (k n : ℕ) (d : PlaceSlack) (from to : Stop) → n ≡ k + 1 → n < length places
    → (get_or places k d).at.stop.x ≡ from.x → (get_or places k d).at.stop.y ≡ from.y
    → (get_or places n d).at.stop.x ≡ to.x → (get_or places n d).at.stop.y ≡ to.y
    → (get_or places n d).at.distance - (get_or places k d).at.distance ≡ distance from to
way_is places linked k n d from to next within fx fy tx ty =
    let link : (get_or places n d).at.distance ≡ (get_or places k d).at.distance + distance (get_or places k d).at.stop (get_or places n d).at.stop =
    subst (λ m. (get_or places m d).at.distance
    ≡ (get_or places k d).at.distance + distance (get_or places k d).at.stop (get_or places m d).at.stop)
    (sym next) (linked k d (omega arith)) in
    let same = same-way (get_or places k d).at.stop (get_or places n d).at.stop from to fx fy tx ty in
    omega arith
