-- If each number belongs to a stop and differs from all later ones, the numbers are known and distinct.
use Rattle.std.proofs.Common.{◌≡◌, ℕ, ◌<◌, Bool, true, false, List, [], ◌∷◌, length, refl, arith}
use Rattle.std.specs.Prelude.{◌&&◌, ◌||◌, is_some, nat_eq, not}
use Rattle.std.specs.List.{AllByRecursion, IsDistinct, list_any}
use Rattle.std.proofs.lemmas.Bool.{and_parts}
use Rattle.std.proofs.lemmas.List.Elements.{All-from_recursion}
use Rattle.plan_types.specs.Instance.{Instance, stop_at}
use Rattle.route_sched.specs.Route.{AreDistinctStops, IsKnownStop}

-- each of the numbers belongs to a stop, and does not occur again after itself
abbrev pub live_once : Instance → List ℕ → Bool
live_once p [] = true
live_once p (n ∷ ns) = is_some (stop_at p n) && (not (list_any (nat_eq n) ns) && live_once p ns)

others : (n : ℕ) (ns : List ℕ) → not (list_any (nat_eq n) ns) ≡ true → AllByRecursion (λ k. nat_eq n k ≡ false) ns
others n [] none = tt
others n (k ∷ ns) none = by (nat_eq n k) refl none (others n ns)
  where
    by : (b : Bool) → nat_eq n k ≡ b → not (b || list_any (nat_eq n) ns) ≡ true
        → (not (list_any (nat_eq n) ns) ≡ true → AllByRecursion (λ m. nat_eq n m ≡ false) ns)
        → (nat_eq n k ≡ false) × AllByRecursion (λ m. nat_eq n m ≡ false) ns
    by true is rest more = let h : false ≡ true = rest in cc
    by false is rest more = (is, more rest)

record Holds (p : Instance) (ns : List ℕ) : Type 0 where
  live : AllByRecursion (IsKnownStop p) ns
  distinct : IsDistinct nat_eq ns

holds : (p : Instance) (ns : List ℕ) → live_once p ns ≡ true → Holds p ns
unfolding IsDistinct
holds p [] is = record { live = tt; distinct = tt }
holds p (n ∷ ns) is =
    let both = and_parts (is_some (stop_at p n)) (not (list_any (nat_eq n) ns) && live_once p ns) is in
    let rest = and_parts (not (list_any (nat_eq n) ns)) (live_once p ns) both.1 in
    let more = holds p ns rest.1 in
    record { live = (both.0, more.live); distinct = (others n ns rest.0, more.distinct) }

pub is_live_once : (p : Instance) (ns : List ℕ) → live_once p ns ≡ true → AreDistinctStops p ns
is_live_once p ns is = let found = holds p ns is in record { live = All-from_recursion (IsKnownStop p) ns found.live; distinct = found.distinct }

-- an empty list of numbers passes the test
pub none_left : (p : Instance) (ns : List ℕ) → length ns < 1 → live_once p ns ≡ true
none_left p [] h = refl
none_left p (n ∷ ns) h = absurd (omega arith)
