-- If numbers ascend, and each belongs to a stop, they are known and distinct.
use Rattle.std.proofs.Common.{◌≡◌, ℕ, ◌<◌, Bool, true, false, List, [], ◌∷◌, arith}
use Rattle.std.specs.Prelude.{◌&&◌, ◌≤◌, is_some, nat_eq, nat_lt}
use Rattle.std.specs.List.{AllByRecursion, IsDistinct}
use Rattle.std.proofs.lemmas.Bool.{and_parts, ltb-true, ne_eqb}
use Rattle.std.proofs.lemmas.List.Elements.{All-from_recursion}
use Rattle.plan_types.specs.Instance.{Instance, stop_at}
use Rattle.route_sched.specs.Route.{AreDistinctStops, IsKnownStop}

-- each of the numbers belongs to a stop and is above the one before it; the first one is above m
abbrev pub rises_live : Instance → ℕ → List ℕ → Bool
rises_live p m [] = true
rises_live p m (n ∷ ns) = nat_lt m n && (is_some (stop_at p n) && rises_live p n ns)

above : (m n : ℕ) (ns : List ℕ) → m ≤ n → AllByRecursion (λ k. n < k) ns → AllByRecursion (λ k. m < k) ns
above m n [] less all = tt
above m n (k ∷ ns) less all = (omega (arith, all.0), above m n ns less all.1)

others : (n : ℕ) (ns : List ℕ) → AllByRecursion (λ k. n < k) ns → AllByRecursion (λ k. nat_eq n k ≡ false) ns
others n [] all = tt
others n (k ∷ ns) all = (ne_eqb n k (λ same. omega (arith, same, all.0)), others n ns all.1)

record Rises (p : Instance) (m : ℕ) (ns : List ℕ) : Type 0 where
  above_all : AllByRecursion (λ k. m < k) ns
  live : AllByRecursion (IsKnownStop p) ns
  distinct : IsDistinct nat_eq ns

rises : (p : Instance) (m : ℕ) (ns : List ℕ) → rises_live p m ns ≡ true → Rises p m ns
unfolding IsDistinct
rises p m [] is = record { above_all = tt; live = tt; distinct = tt }
rises p m (n ∷ ns) is =
    let both = and_parts (nat_lt m n) (is_some (stop_at p n) && rises_live p n ns) is in
    let rest = and_parts (is_some (stop_at p n)) (rises_live p n ns) both.1 in
    let more = rises p n ns rest.1 in
    let less = ltb-true m n both.0 in
    record { above_all = (less, above m n ns (omega (arith, less)) more.above_all); live = (rest.0, more.live); distinct = (others n ns more.above_all, more.distinct) }

pub live_once : (p : Instance) (m : ℕ) (ns : List ℕ) → rises_live p m ns ≡ true → AreDistinctStops p ns
live_once p m ns is = let found = rises p m ns is in record { live = All-from_recursion (IsKnownStop p) ns found.live; distinct = found.distinct }
