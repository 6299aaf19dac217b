-- The part of a route that is drawn has known and distinct stops.
use Rattle.std.proofs.Common.{◌≡◌, ℕ, Bool, true, false, not, ◌||◌, List, [], ◌∷◌, ◌++◌, cond, ap, refl}
use Rattle.std.specs.Prelude.{nat_eq, ◌==◌, is_some}
use Rattle.std.specs.List.{AllByRecursion, IsDistinct, list_any}
use Rattle.std.proofs.lemmas.Bool.{and_parts, not-true, true≢false}
use Rattle.std.proofs.lemmas.List.Elements.{All-append, All-cons, All-nil}
use Rattle.plan_types.specs.Instance.{Instance, stop_at}
use Rattle.route_sched.specs.Route.{AreDistinctStops, IsKnownStop}
use Rattle.plan_picture.specs.DrawnStops.{is_new, kept_after}

pub none_once : (p : Instance) → AreDistinctStops p []
unfolding IsDistinct
none_once p = record { live = All-nil (IsKnownStop p); distinct = tt }

-- neither of two tests passes
neither : (a b : Bool) → (a || b) ≡ false → (a ≡ false) × (b ≡ false)
neither true b h = absurd (true≢false h)
neither false b h = (refl, h)

also_differs : (x n : ℕ) (xs : List ℕ) → AllByRecursion (λ y. nat_eq x y ≡ false) xs → nat_eq x n ≡ false → AllByRecursion (λ y. nat_eq x y ≡ false) (xs ++ n ∷ [])
also_differs x n [] all other = (other, tt)
also_differs x n (y ∷ xs) all other = (all.0, also_differs x n xs all.1 other)

one_more : (kept : List ℕ) (n : ℕ) → IsDistinct nat_eq kept → list_any (λ m. m == n) kept ≡ false → IsDistinct nat_eq (kept ++ n ∷ [])
unfolding IsDistinct
one_more [] n distinct none = (tt, tt)
one_more (x ∷ kept) n distinct none =
    let parts = neither (x == n) (list_any (λ m. m == n) kept) none in
    (also_differs x n kept distinct.0 parts.0, one_more kept n distinct.1 parts.1)

-- the kept stops and one more new stop are known and distinct
pub once_more : (p : Instance) (kept : List ℕ) (n : ℕ) → AreDistinctStops p kept → is_new p kept n ≡ true → AreDistinctStops p (kept ++ n ∷ [])
once_more p kept n once new =
    let parts = and_parts (is_some (stop_at p n)) (not (list_any (λ m. m == n) kept)) new in
    record {
      live = All-append (IsKnownStop p) kept (n ∷ []) once.live (All-cons (IsKnownStop p) n [] parts.0 (All-nil (IsKnownStop p)));
      distinct = one_more kept n once.distinct (not-true (list_any (λ m. m == n) kept) parts.1);
    }

-- the stops that are kept if the next stop is new, and if it is not
pub kept_new : (p : Instance) (kept route : List ℕ) (n : ℕ) → is_new p kept n ≡ true → kept_after p kept (n ∷ route) ≡ kept_after p (kept ++ n ∷ []) route
kept_new p kept route n new = ap (λ b. kept_after p (cond b (kept ++ n ∷ []) kept) route) new

pub kept_old : (p : Instance) (kept route : List ℕ) (n : ℕ) → is_new p kept n ≡ false → kept_after p kept (n ∷ route) ≡ kept_after p kept route
kept_old p kept route n old = ap (λ b. kept_after p (cond b (kept ++ n ∷ []) kept) route) old
