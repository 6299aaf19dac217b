-- The distance of routes in which one stop replaces another, or which exchange their ends.
use Rattle.std.proofs.Common.{◌≡◌, ℕ, zero, suc, ◌+◌, ◌-◌, ◌<◌, ◌≤◌, ◌++◌, List, [], ◌∷◌, length}
use Rattle.std.proofs.Common.{take, drop, map, get_or, Some, slice_get, refl, sym, ap, subst, ◌∙◌, arith, add-one}
use Rattle.std.proofs.lemmas.List.{length-set, length-map, length-append, length-take-le, length-drop, get_or-drop}
use Rattle.plan_types.specs.Instance.{Instance}
use Rattle.plan_types.specs.declared.requests.Stop.{Stop}
use Rattle.nint_dist.specs.Distance.{distance}
use Rattle.route_sched.specs.Cost.{total_length}
use Rattle.route_sched.specs.Route.{place, stop_numbered}
use Rattle.route_sched.specs.Schedule.{route_length}
use Rattle.slack_tables.specs.Along.{length_along}
use Rattle.slack_tables.proofs.AlongLemmas.{length-next, same-length, spliced-length}
use Rattle.slack_tables.proofs.CourseLemmas.{length-is}
use Rattle.move_ops.specs.Legs.{distance_via, distance_across}
use Rattle.move_ops.specs.Insertion.{route_of, with_route}
use Rattle.move_ops.specs.Moves.{joined}
use Rattle.move_ops.proofs.InsertionCosts.{replaced}
use Rattle.move_ops.proofs.ReplacementLemmas.{other_vehicle}
use Rattle.move_ops.proofs.OccurrenceLemmas.{none_some, some_same, times, one_here, occurs_at}

-- ---- stops as functions of the place
-- equal except at one place
module _ (a b : ℕ → Stop) (i : ℕ) (same_before : (k : ℕ) → k ≤ i → b k ≡ a k) (following : (k : ℕ) → b (i + 1 + 1 + k) ≡ a (i + 1 + 1 + k)) where
  one_other : (l : ℕ) → length_along b (i + 1 + 1 + l) + (distance (a i) (a (i + 1)) + distance (a (i + 1)) (a (i + 1 + 1)))
      ≡ length_along a (i + 1 + 1 + l) + (distance (a i) (b (i + 1)) + distance (b (i + 1)) (a (i + 1 + 1)))
  one_other l =
      let here : b i ≡ a i = same_before i (omega arith) in
      let none : i + 1 + 1 + 0 ≡ i + 1 + 1 = omega arith in
      let there : b (i + 1 + 1) ≡ a (i + 1 + 1) = subst (λ k. b k ≡ a k) none (following 0) in
      let first : distance (b i) (b (i + 1)) ≡ distance (a i) (b (i + 1)) = rw here refl in
      let second : distance (b (i + 1)) (b (i + 1 + 1)) ≡ distance (b (i + 1)) (a (i + 1 + 1)) = rw there refl in
      omega (
        arith,
        spliced-length a b (i + 1 + 1) (i + 1 + 1) following l,
        length-next a i,
        length-next a (i + 1),
        length-next b i,
        length-next b (i + 1),
        same-length a b i same_before i (omega arith),
        first,
        second,
      )

-- the places up to c of one route, followed by the places of another after place d
module _ (x a b : ℕ → Stop) (c d : ℕ) (same_before : (k : ℕ) → k ≤ c → x k ≡ a k) (following : (k : ℕ) → x (c + 1 + k) ≡ b (d + 1 + k)) where
  two_parts : (l : ℕ)
      → length_along x (c + 1 + l) + (length_along b d + distance (b d) (b (d + 1)))
      ≡ length_along b (d + 1 + l) + (length_along a c + distance (a c) (b (d + 1)))
  two_parts l =
      let here : x c ≡ a c = same_before c (omega arith) in
      let none_x : c + 1 + 0 ≡ c + 1 = omega arith in
      let none_b : d + 1 + 0 ≡ d + 1 = omega arith in
      let there : x (c + 1) ≡ b (d + 1) = subst (λ k. x k ≡ b (d + 1)) none_x (subst (λ k. x (c + 1 + 0) ≡ b k) none_b (following 0)) in
      let across : distance (x c) (x (c + 1)) ≡ distance (a c) (b (d + 1)) = rw (here, there) refl in
      omega (arith, spliced-length b x (d + 1) (c + 1) following l, length-next x c, length-next b d, same-length a x c same_before c (omega arith), across)

-- ---- a route in which one stop replaces another
mapped_at : (f : ℕ → ℕ) (route : List ℕ) (k : ℕ) → ((m : ℕ) → slice_get route k ≡ Some m → f m ≡ m) → get_or (map f route) k 0 ≡ get_or route k 0
mapped_at f [] k same = refl
mapped_at f (x ∷ xs) zero same = same x refl
mapped_at f (x ∷ xs) (suc k) same = mapped_at f xs k same

mapped_here : (f : ℕ → ℕ) (route : List ℕ) (k n : ℕ) → slice_get route k ≡ Some n → get_or (map f route) k 0 ≡ f n
mapped_here f [] k n at = absurd (none_some n at)
mapped_here f (x ∷ xs) zero n at = ap f (some_same x n at)
mapped_here f (x ∷ xs) (suc k) n at = mapped_here f xs k n at

stop_here : (route : List ℕ) (k n : ℕ) → slice_get route k ≡ Some n → get_or route k 0 ≡ n
stop_here [] k n at = absurd (none_some n at)
stop_here (x ∷ xs) zero n at = some_same x n at
stop_here (x ∷ xs) (suc k) n at = stop_here xs k n at

pub within_route : (route : List ℕ) (k n : ℕ) → slice_get route k ≡ Some n → k < length route
within_route [] k n at = absurd (none_some n at)
within_route (x ∷ xs) zero n at = omega arith
within_route (x ∷ xs) (suc k) n at = let h = within_route xs k n at in omega arith

once_at : (xs : List ℕ) (k i n : ℕ) → slice_get xs k ≡ Some n → slice_get xs i ≡ Some n → times n xs ≤ 1 → k ≡ i
once_at [] k i n at also few = absurd (none_some n at)
once_at (x ∷ xs) zero zero n at also few = refl
once_at (x ∷ xs) zero (suc i) n at also few = let e = one_here n x (sym (some_same x n at)) in let h = occurs_at n i xs also in absurd (omega arith)
once_at (x ∷ xs) (suc k) zero n at also few = let e = one_here n x (sym (some_same x n also)) in let h = occurs_at n k xs at in absurd (omega arith)
once_at (x ∷ xs) (suc k) (suc i) n at also few = ap suc (once_at xs k i n at also (omega arith))

module _ (p : Instance) (f : ℕ → ℕ) (route : List ℕ) (i n : ℕ) (at : slice_get route i ≡ Some n) (few : times n route ≤ 1)
    (others : (m : ℕ) → (m ≡ n → ⊥) → 1 ≤ times m route → f m ≡ m)
    (old new : Stop) (is_old : stop_numbered p n ≡ old) (is_new : stop_numbered p (f n) ≡ new) where
  place_other : (k : ℕ) → (k ≡ i + 1 → ⊥) → place p (map f route) k ≡ place p route k
  unfolding place
  place_other zero apart = refl
  place_other (suc k) apart =
      ap (stop_numbered p)
      (mapped_at f route k
      (λ m there. others m
      (λ same. apart (let e = once_at route k i n (subst (λ l. slice_get route k ≡ Some l) same there) at few in omega arith))
      (occurs_at m k route there)))

  place_new : place p (map f route) (i + 1) ≡ new
  unfolding place
  place_new = rw (add-one i) (ap (stop_numbered p) (mapped_here f route i n at)) ∙ is_new

  place_old : place p route (i + 1) ≡ old
  unfolding place
  place_old = rw (add-one i) (ap (stop_numbered p) (stop_here route i n at)) ∙ is_old

  pub length_exchanged : route_length p (map f route) + distance_via p route i old ≡ route_length p route + distance_via p route i new
  length_exchanged =
      let below = within_route route i n at in
      let l = length route - (i + 1) in
      let end : i + 1 + 1 + (length route - (i + 1)) ≡ length route + 1 = omega arith in
      let end_new : i + 1 + 1 + (length route - (i + 1)) ≡ length (map f route) + 1 = omega (arith, length-map route f) in
      let far : length_along (place p route) (i + 1 + 1 + (length route - (i + 1))) ≡ route_length p route =
      ap (length_along (place p route)) end ∙ sym (length-is p route) in
      let far_new : length_along (place p (map f route)) (i + 1 + 1 + (length route - (i + 1))) ≡ route_length p (map f route) =
      ap (length_along (place p (map f route))) end_new ∙ sym (length-is p (map f route)) in
      let to_old = ap (distance (place p route i)) place_old in
      let from_old = ap (λ s. distance s (place p route (i + 1 + 1))) place_old in
      let to_new = ap (distance (place p route i)) place_new in
      let from_new = ap (λ s. distance s (place p route (i + 1 + 1))) place_new in
      let one = one_other (place p route) (place p (map f route)) i (λ k h. place_other k (λ e. omega arith))
      (λ k. place_other (i + 1 + 1 + k) (λ e. omega arith)) (length route - (i + 1)) in
      omega arith

-- ---- routes that exchange their ends
joined_prefix : (c : ℕ) (xs ys : List ℕ) (k : ℕ) → k < c → c ≤ length xs → get_or (take c xs ++ ys) k 0 ≡ get_or xs k 0
joined_prefix zero xs ys k below within = absurd (omega arith)
joined_prefix (suc c) [] ys k below within = absurd (omega arith)
joined_prefix (suc c) (x ∷ xs) ys zero below within = refl
joined_prefix (suc c) (x ∷ xs) ys (suc k) below within = joined_prefix c xs ys k (omega arith) (omega arith)

joined_after : (c : ℕ) (xs ys : List ℕ) (k : ℕ) → c ≤ length xs → get_or (take c xs ++ ys) (c + k) 0 ≡ get_or ys k 0
joined_after zero xs ys k within = let e : 0 + k ≡ k = omega arith in rw e refl
joined_after (suc c) [] ys k within = absurd (omega arith)
joined_after (suc c) (x ∷ xs) ys k within = let e : suc c + k ≡ suc (c + k) = omega arith in rw e (joined_after c xs ys k (omega arith))

module _ (p : Instance) (from to : List ℕ) (c d : ℕ) (c_within : c ≤ length from) (d_within : d ≤ length to) where
  place_prefix : (k : ℕ) → k ≤ c → place p (joined from c to d) k ≡ place p from k
  unfolding place
  place_prefix zero h = refl
  place_prefix (suc k) h = ap (stop_numbered p) (joined_prefix c from (drop d to) k (omega arith) c_within)

  place_following : (k : ℕ) → place p (joined from c to d) (c + 1 + k) ≡ place p to (d + 1 + k)
  unfolding place
  place_following k =
      let e : c + 1 + k ≡ suc (c + k) = omega arith in
      let f : d + 1 + k ≡ suc (d + k) = omega arith in
      rw (e, f) (ap (stop_numbered p) (joined_after c from (drop d to) k c_within ∙ get_or-drop d to k 0))

  pub length_joined : route_length p (joined from c to d) + (length_along (place p to) d + distance_across p to d to (d + 1))
      ≡ route_length p to + (length_along (place p from) c + distance_across p from c to (d + 1))
  length_joined =
      let end : d + 1 + (length to - d) ≡ length to + 1 = omega arith in
      let end_new : c + 1 + (length to - d) ≡ length (joined from c to d) + 1 =
      omega (arith, length-append (take c from) (drop d to), length-take-le c from c_within, length-drop d to) in
      let far : length_along (place p to) (d + 1 + (length to - d)) ≡ route_length p to = ap (length_along (place p to)) end ∙ sym (length-is p to) in
      let far_new : length_along (place p (joined from c to d)) (c + 1 + (length to - d)) ≡ route_length p (joined from c to d) =
      ap (length_along (place p (joined from c to d))) end_new ∙ sym (length-is p (joined from c to d)) in
      let two = two_parts (place p (joined from c to d)) (place p from) (place p to) c d place_prefix place_following (length to - d) in
      omega arith

-- the total distance of both routes after they exchange their ends
pub lengths_crossed : (p : Instance) (xs ys : List ℕ) (c d : ℕ) → c ≤ length xs → d ≤ length ys
    → route_length p (joined xs c ys d) + route_length p (joined ys d xs c) + (distance_across p xs c xs (c + 1) + distance_across p ys d ys (d + 1))
    ≡ route_length p xs + route_length p ys + (distance_across p xs c ys (d + 1) + distance_across p ys d xs (c + 1))
lengths_crossed p xs ys c d c_within d_within =
    let e = length_joined p xs ys c d c_within d_within in
    let f = length_joined p ys xs d c d_within c_within in
    omega arith

-- ---- all routes, of which two are replaced
pub lengths_of_two : (p : Instance) (routes : List (List ℕ)) (v w : ℕ) (new other : List ℕ) → 1 ≤ v → v ≤ length routes → 1 ≤ w
    → w ≤ length routes → (w ≡ v → ⊥)
    → total_length p (with_route (with_route routes v new) w other)
    + (route_length p (route_of routes v) + route_length p (route_of routes w))
    ≡ total_length p routes + (route_length p new + route_length p other)
lengths_of_two p routes v w new other v_from v_within w_from w_within apart =
    let long = length-set routes (v - 1) new in
    let e = replaced (route_length p) routes v new v_from v_within in
    let f = replaced (route_length p) (with_route routes v new) w other w_from (omega arith) in
    let g = ap (route_length p) (other_vehicle routes v w new v_from apart) in
    omega arith
