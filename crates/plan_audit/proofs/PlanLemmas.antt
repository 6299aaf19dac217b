-- Plans whose stops are known and distinct.
use Rattle.std.proofs.Common.{◌≡◌, ℕ, zero, suc, ◌<◌, false, List, [], ◌∷◌, ◌++◌, All, Option, Some, None, IsSome, slice_get, refl, sym, ap, ◌∙◌, inl, inr, arith, nat_eq}
use Rattle.std.specs.List.{AllByRecursion, IsDistinct, concat}
use Rattle.std.proofs.lemmas.Bool.Decides.{eqb_tells}
use Rattle.std.proofs.lemmas.List.Elements.{All-from_recursion}
use Rattle.plan_types.specs.Instance.{Instance, IsInstance, stop_at}
use Rattle.plan_types.specs.Laws.{StopsAreBelowNext}
use Rattle.plan_types.specs.declared.requests.Stop.{Stop}
use Rattle.route_sched.specs.Route.{IsKnownStop, AreDistinctStops, IsPlan}
use Rattle.plan_audit.specs.Rules.{IsUnknown, IsRepeated}
use Rattle.plan_audit.proofs.PositionLemmas.{Sits, neither_before}

-- a property of the item at each index holds for all items
pub all_by_get : {X : Type 0} (P : X → Type 0) (xs : List X) → ((k : ℕ) (x : X) → slice_get xs k ≡ Some x → P x) → AllByRecursion P xs
all_by_get P [] each = tt
all_by_get P (x ∷ xs) each = (each zero x refl, all_by_get P xs (λ k y at. each (suc k) y at))

all-append : {X : Type 0} (P : X → Type 0) (xs ys : List X) → AllByRecursion P xs → AllByRecursion P ys → AllByRecursion P (xs ++ ys)
all-append P [] ys a b = b
all-append P (x ∷ xs) ys a b = (a.0, all-append P xs ys a.1 b)

all-concat : (P : ℕ → Type 0) (xss : List (List ℕ)) → AllByRecursion (AllByRecursion P) xss → AllByRecursion P (concat xss)
all-concat P [] all = tt
all-concat P (xs ∷ xss) all = all-append P xs (concat xss) all.0 (all-concat P xss all.1)

distinct-append : (xs ys : List ℕ) → IsDistinct nat_eq xs → IsDistinct nat_eq ys → AllByRecursion (λ x. AllByRecursion (λ y. nat_eq x y ≡ false) ys) xs
    → IsDistinct nat_eq (xs ++ ys)
unfolding IsDistinct
distinct-append [] ys a b apart = b
distinct-append (x ∷ xs) ys a b apart = (all-append (λ y. nat_eq x y ≡ false) xs ys a.0 apart.0, distinct-append xs ys a.1 b apart.1)

-- if no number is at two places of a list, the numbers of the list are distinct
apart_from : (n m : ℕ) → (n ≡ m → ⊥) → nat_eq n m ≡ false
apart_from n m ne = elim (eqb_tells n m) [ inl t ↦ absurd (ne t.1) | inr t ↦ t.0 ]

pub distinct_route : (ns : List ℕ) → ((j i n : ℕ) → slice_get ns j ≡ Some n → slice_get ns i ≡ Some n → j ≡ i) → IsDistinct nat_eq ns
unfolding IsDistinct
distinct_route [] once = tt
distinct_route (n ∷ ns) once = (
  all_by_get (λ m. nat_eq n m ≡ false) ns
      (λ k m at. apart_from n m (λ e. (let same : zero ≡ suc k = once zero (suc k) n refl (at ∙ ap Some (sym e)) in absurd (omega arith)))),
  distinct_route ns (λ j i m a b. let e : suc j ≡ suc i = once (suc j) (suc i) m a b in omega arith),
)

-- each stop has only one position
unfoldable pub StandOnce : List (List ℕ) → Type 0
StandOnce routes = (q j r i n : ℕ) → Sits routes q j n → Sits routes r i n → (q ≡ r) × (j ≡ i)

distinct_concat : (routes : List (List ℕ)) → StandOnce routes → IsDistinct nat_eq (concat routes)
unfolding StandOnce IsDistinct
distinct_concat [] once = tt
distinct_concat (route ∷ rest) once =
    distinct-append route (concat rest)
    (distinct_route route (λ j i n a b. (once zero j zero i n (route, refl, a) (route, refl, b)).1))
    (distinct_concat rest (λ q j r i n a b. let e = once (suc q) j (suc r) i n a b in let f = e.0 in (omega arith, e.1)))
    (all_by_get (λ x. AllByRecursion (λ y. nat_eq x y ≡ false) (concat rest)) route (λ k x at.
    all-concat (λ y. nat_eq x y ≡ false) rest
    (all_by_get (AllByRecursion (λ y. nat_eq x y ≡ false)) rest (λ q other on.
    all_by_get (λ y. nat_eq x y ≡ false) other (λ j y there.
    apart_from x y (λ e. (let f = (once zero k (suc q) j x (route, refl, at) (other, on, there ∙ ap Some (sym e))).0 in absurd (omega arith))))))))

module _ (p : Instance) (routes : List (List ℕ)) (known : (r i n : ℕ) → IsUnknown p routes r i n → ⊥) where
  live-at : (r i n : ℕ) → Sits routes r i n → IsSome (stop_at p n)
  live-at r i n sits = by (stop_at p n) refl
    where
      by : (o : Option Stop) → stop_at p n ≡ o → IsSome o
      by (Some s) e = refl
      by None e = absurd (known (suc r) (suc i) n (sits, e))

  -- each stop number of the routes is below the next number
  pub known_below : StopsAreBelowNext → IsInstance p → All (λ route. All (λ n. n < p.next_number) route) routes
  known_below stops_below valid =
      All-from_recursion (λ route. All (λ n. n < p.next_number) route) routes (all_by_get (λ route. All (λ n. n < p.next_number) route) routes (λ r route at.
      All-from_recursion (λ n. n < p.next_number) route
      (all_by_get (λ n. n < p.next_number) route (λ i n on. stops_below p n valid (live-at r i n (route, at, on))))))

  live_in : AllByRecursion (AllByRecursion (IsKnownStop p)) routes
  live_in = all_by_get (AllByRecursion (IsKnownStop p)) routes (λ r route at. all_by_get (IsKnownStop p) route (λ i n on. live-at r i n (route, at, on)))

  module _ (once : (r i n : ℕ) → IsRepeated p routes r i n → ⊥) where
    stand_once : StandOnce routes
    unfolding StandOnce
    stand_once q j r i n a b =
        let same =
        neither_before (suc q) (suc j) (suc r) (suc i) (λ earlier. once (suc r) (suc i) n (b, (suc q, suc j, earlier, a)))
        (λ earlier. once (suc q) (suc j) n (a, (suc r, suc i, earlier, b))) in
        (omega (arith, same.0), omega (arith, same.1))

    pub is_plan : IsPlan p routes
    is_plan = record {
      live = All-from_recursion (IsKnownStop p) (concat routes) (all-concat (IsKnownStop p) routes live_in);
      distinct = distinct_concat routes stand_once;
    }

    pub live_routes : All (AreDistinctStops p) routes
    unfolding StandOnce
    live_routes = All-from_recursion (AreDistinctStops p) routes (all_by_get (AreDistinctStops p) routes (λ r route at. record {
      live = All-from_recursion (IsKnownStop p) route (all_by_get (IsKnownStop p) route (λ i n on. live-at r i n (route, at, on)));
      distinct = distinct_route route (λ j i n a b. (stand_once r j r i n (route, at, a) (route, at, b)).1);
    }))
