-- A route with one more stop: its places, starts, loads and length, and the rows that have them.
use Rattle.std.proofs.Common.{◌≡◌, ◌∙◌, ℕ, zero, suc, Bool, true, false, inl, inr, ◌+◌, ◌-◌, ◌<◌, ◌≤◌, max, ℤ, pos, ◌+ℤ◌}
use Rattle.std.proofs.Common.{List, [], ◌∷◌, ◌++◌, map, take, drop, length, get_or, Option, Some, None, refl, sym, ap, subst, arith, add-one}
use Rattle.std.specs.List.{find, insert, range_with_len}
use Rattle.std.specs.Option.{option_map, option_or}
use Rattle.std.proofs.lemmas.Bool.{cases_Bool}
use Rattle.std.proofs.lemmas.Int.{ints}
use Rattle.std.proofs.lemmas.List.{drop-drop, length-take, take_more}
use Rattle.std.proofs.lemmas.List.Edits.{get_or-insert_at, get_or-insert_below, get_or-insert_above, insert_end, length-insert}
use Rattle.std.proofs.Math.Seq.{take-append-add, take-append_seam}
use Rattle.std.proofs.lemmas.List.Folds.{find-append}
use Rattle.std.proofs.lemmas.List.FromFn.{get_or-map-range_with_len, take-map-range_with_len}
use Rattle.plan_types.specs.Instance.{Instance}
use Rattle.plan_types.specs.declared.requests.Kind.{Kind}
use Rattle.plan_types.specs.declared.requests.Kind.TheVariants.{LiLim, Vrp}
use Rattle.plan_types.specs.declared.requests.Stop.{Stop}
use Rattle.nint_dist.specs.Distance.{distance}
use Rattle.route_sched.specs.Route.{AreDistinctStops, place, stop_numbered}
use Rattle.route_sched.proofs.KnownStops.{front_once}
use Rattle.route_sched.specs.Schedule.{leg, load, route_length, start}
use Rattle.route_sched.proofs.Steps.{load-next, start-next}
use Rattle.slack_tables.specs.Along.{length_along}
use Rattle.slack_tables.proofs.AlongLemmas.{length-next, same-length, same-load, same-start, spliced-length}
use Rattle.slack_tables.proofs.CourseLemmas.{length-is, load-is, start-is}
use Rattle.move_ops.proofs.OccurrenceLemmas.{none_some}
use Rattle.plan_explain.specs.Tables.{arrival, row_after, rows_of}
use Rattle.plan_explain.specs.declared.rows.Row.{Row}
use Rattle.request_explanation.specs.LimitViolations.{is_heavy, is_late, lateness_at, lateness_in, violation_in, violation_of, overload_at, overload_in}
use Rattle.request_explanation.specs.MovedRows.{moved_from, moved_row}
use Rattle.request_explanation.specs.Insertions.{IsDetour, FitsCapacity, IsNumberOf, IsTour, violations_in, violations_then, with_load_change, violation_after, inserted_row, route_with}
use Rattle.request_explanation.specs.declared.limit_violations.LimitViolation.{LimitViolation}
use Rattle.request_explanation.specs.declared.insertions.Detour.{Detour}
use Rattle.request_explanation.specs.declared.insertions.FirstViolations.{FirstViolations}
use Rattle.request_explanation.specs.declared.insertions.Tour.{Tour}

-- ---- lists by place
map_range_split : {X : Type 0} (f : ℕ → X) (a n m : ℕ) → map f (range_with_len a (n + m)) ≡ map f (range_with_len a n) ++ map f (range_with_len (a + n) m)
map_range_split f a zero m = let e : a + 0 ≡ a = omega arith in let z : 0 + m ≡ m = omega arith in rw (e, z) refl
map_range_split f a (suc n) m =
    let more : suc n + m ≡ suc (n + m) = omega arith in
    let following : a + 1 + n ≡ a + suc n = omega arith in
    rw more (ap (λ l. f a ∷ l) (map_range_split f (a + 1) n m ∙ ap (λ b. map f (range_with_len (a + 1) n) ++ map f (range_with_len b m)) following))

map_range_same : {X : Type 0} (f g : ℕ → X) (a n : ℕ) → ((k : ℕ) → a ≤ k → k < a + n → f k ≡ g k) → map f (range_with_len a n) ≡ map g (range_with_len a n)
map_range_same f g a zero same = refl
map_range_same f g a (suc n) same =
    ap (λ x. x ∷ map f (range_with_len (a + 1) n)) (same a (omega arith) (omega arith))
    ∙ ap (λ l. g a ∷ l) (map_range_same f g (a + 1) n (λ k from to. same k (omega arith) (omega arith)))

-- ---- what is found in two lists, one after the other
map_or : {X Y : Type 0} (f : X → Y) (a b : Option X) → option_map f (option_or a b) ≡ option_or (option_map f a) (option_map f b)
map_or f None b = refl
map_or f (Some x) b = refl

pub over_both : (capacity : ℕ) (xs ys : List Row) → overload_in capacity (xs ++ ys) ≡ option_or (overload_in capacity xs) (overload_in capacity ys)
over_both capacity xs ys = ap (option_map (overload_at capacity)) (find-append (is_heavy capacity) xs ys) ∙ map_or (overload_at capacity) (find (is_heavy capacity) xs) (find (is_heavy capacity) ys)

pub late_both : (kind : Kind) (xs ys : List Row) → lateness_in kind (xs ++ ys) ≡ option_or (lateness_in kind xs) (lateness_in kind ys)
late_both LiLim xs ys = ap (option_map lateness_at) (find-append is_late xs ys) ∙ map_or lateness_at (find is_late xs) (find is_late ys)
late_both Vrp xs ys = refl

same_found : (a b c d : Option LimitViolation) → a ≡ b → c ≡ d → ◌≡◌ {A = FirstViolations} (record { over = a; late = c }) (record { over = b; late = d })
same_found a b c d e f = rw (e, f) refl

pub found_both : (p : Instance) (xs ys : List Row) → violations_in p (xs ++ ys) ≡ violations_then (violations_in p xs) (violations_in p ys)
found_both p xs ys = same_found _ _ _ _ (over_both p.capacity xs ys) (late_both p.kind xs ys)

-- two lists have the same first item that passes a test, if the test agrees on their heads and the claim holds
-- for their tails
first_cons : {X Y : Type 0} (test : X → Bool) (f : X → Y) (x y : X) (xs ys : List X) → test x ≡ test y → f x ≡ f y →
    option_map f (find test xs) ≡ option_map f (find test ys) → option_map f (find test (x ∷ xs)) ≡ option_map f (find test (y ∷ ys))
first_cons test f x y xs ys same reported rest = elim (cases_Bool (test y)) [
  | inl holds ↦ rw (same ∙ holds, holds) (ap Some reported)
  | inr fails ↦ rw (same ∙ fails, fails) rest
]

-- Only loads matter for an overload, and only times for a lateness.
over_moved : (capacity now before : ℕ) (change : ℤ) (rows : List Row) → overload_in capacity (moved_from now before change rows) ≡ overload_in capacity (with_load_change change rows)
over_moved capacity now before change [] = refl
over_moved capacity now before change (r ∷ rows) =
    first_cons (is_heavy capacity) (overload_at capacity) (moved_row (now + (r.arrival - before)) change r) (record r { load = r.load +ℤ change })
    (moved_from (max (now + (r.arrival - before)) r.earliest) r.start change rows) (with_load_change change rows) refl refl
    (over_moved capacity (max (now + (r.arrival - before)) r.earliest) r.start change rows)

late_moved : (kind : Kind) (now before : ℕ) (change other : ℤ) (rows : List Row) → lateness_in kind (moved_from now before change rows) ≡ lateness_in kind (moved_from now before other rows)
late_moved Vrp now before change other rows = refl
late_moved LiLim now before change other [] = refl
late_moved LiLim now before change other (r ∷ rows) =
    first_cons is_late lateness_at (moved_row (now + (r.arrival - before)) change r) (moved_row (now + (r.arrival - before)) other r)
    (moved_from (max (now + (r.arrival - before)) r.earliest) r.start change rows) (moved_from (max (now + (r.arrival - before)) r.earliest) r.start other rows) refl refl
    (late_moved LiLim (max (now + (r.arrival - before)) r.earliest) r.start change other rows)

-- the violations in rows that are followed by one more row, and then by delayed rows
miss_joined : (p : Instance) (front : List Row) (row : Row) (now before : ℕ) (change : ℤ) (rows : List Row) →
    violation_after p (violations_then (violations_in p front) (violations_in p (row ∷ []))) now before change rows ≡ violation_in p
    (front ++ (row ∷ moved_from now before change rows))
miss_joined p front row now before change rows =
    let following = moved_from now before change rows in
    let over : option_or (option_or (overload_in p.capacity front) (overload_in p.capacity (row ∷ [])))
    (overload_in p.capacity (with_load_change change rows)) ≡ overload_in p.capacity (front ++ (row ∷ following)) =
    or_assoc (overload_in p.capacity front) (overload_in p.capacity (row ∷ [])) (overload_in p.capacity (with_load_change change rows))
    ∙ ap (option_or (overload_in p.capacity front))
    (ap (option_or (overload_in p.capacity (row ∷ []))) (sym (over_moved p.capacity now before change rows))
    ∙ sym (over_both p.capacity (row ∷ []) following)) ∙ sym (over_both p.capacity front (row ∷ following)) in
    let late : option_or (option_or (lateness_in p.kind front) (lateness_in p.kind (row ∷ [])))
    (lateness_in p.kind (moved_from now before (pos 0) rows)) ≡ lateness_in p.kind (front ++ (row ∷ following)) =
    or_assoc (lateness_in p.kind front) (lateness_in p.kind (row ∷ [])) (lateness_in p.kind (moved_from now before (pos 0) rows))
    ∙ ap (option_or (lateness_in p.kind front))
    (ap (option_or (lateness_in p.kind (row ∷ []))) (late_moved p.kind now before (pos 0) change rows) ∙ sym (late_both p.kind (row ∷ []) following))
    ∙ sym (late_both p.kind front (row ∷ following)) in
    ap (λ o. option_or o (option_or (option_or (lateness_in p.kind front) (lateness_in p.kind (row ∷ []))) (lateness_in p.kind (moved_from now before (pos 0) rows)))) over
    ∙ ap (option_or (overload_in p.capacity (front ++ (row ∷ following)))) late
  where
    or_assoc : {X : Type 0} (a b c : Option X) → option_or (option_or a b) c ≡ option_or a (option_or b c)
    or_assoc None b c = refl
    or_assoc (Some x) b c = refl

same_row : (k l : ℕ) (s t : Stop) (a b c d : ℕ) (x y : ℤ) → k ≡ l → s ≡ t → a ≡ b → c ≡ d → x ≡ y →
    ◌≡◌ {A = Row} (record { place = k; stop = s.number; arrival = a; start = c; earliest = s.earliest; latest = s.latest; load = x })
    (record { place = l; stop = t.number; arrival = b; start = d; earliest = t.earliest; latest = t.latest; load = y })
same_row k l s t a b c d x y h i j m n = rw (h, i, j, m, n) refl

-- ---- a stop inserted after the first m
pub place_put : (p : Instance) (route : List ℕ) (m number : ℕ) → m ≤ length route → place p (insert route m number) (m + 1) ≡ stop_numbered p number
unfolding place
place_put p route m number within = rw (add-one m) (ap (stop_numbered p) (get_or-insert_at route m number 0 within))

pub place_before_put : (p : Instance) (route : List ℕ) (m number k : ℕ) → m ≤ length route → k ≤ m → place p (insert route m number) k ≡ place p route k
unfolding place
place_before_put p route m number zero within h = refl
place_before_put p route m number (suc k) within h = ap (stop_numbered p) (get_or-insert_below route m number 0 k (omega arith) within)

module _ (p : Instance) (route : List ℕ) (number m : ℕ) (s : Stop) (one : 1 ≤ m) (within : m ≤ length route) (stands : stop_numbered p number ≡ s) where
  abbrev new : List ℕ
  new = insert route m number

  pub place_before : (k : ℕ) → k ≤ m → place p new k ≡ place p route k
  place_before k h = place_before_put p route m number k within h

  pub place_here : place p new (m + 1) ≡ s
  place_here = place_put p route m number within ∙ stands

  pub place_following : (k : ℕ) → m ≤ k → place p new (k + 1 + 1) ≡ place p route (k + 1)
  unfolding place
  place_following k h = rw (add-one (k + 1), add-one k) (ap (stop_numbered p) (subst (λ i. get_or new i 0 ≡ get_or route k 0) (add-one k) (get_or-insert_above route m number 0 k h within)))

  pub long : length new ≡ length route + 1
  long = length-insert route m number within

  -- nothing changes before the inserted stop
  pub start_before : (k : ℕ) → k ≤ m → start p new k ≡ start p route k
  start_before k h = start-is p new k ∙ same-start (place p route) (place p new) m place_before k h ∙ sym (start-is p route k)

  load_before : (k : ℕ) → k ≤ m → load p new k ≡ load p route k
  load_before k h = load-is p new k ∙ same-load (place p route) (place p new) m place_before k h ∙ sym (load-is p route k)

  leg_before : (k : ℕ) → k + 1 ≤ m → leg p new k ≡ leg p route k
  leg_before k h = rw (place_before k (omega arith), place_before (k + 1) h) refl

  row_before : (k : ℕ) → 0 ≤ k → k < 0 + m → row_after p new k ≡ row_after p route k
  row_before k from h =
      same_row _ _ _ _ _ _ _ _ _ _ refl (place_before (k + 1) (omega arith))
      (rw (start_before k (omega arith), leg_before k (omega arith)) (ap (λ (s : Stop). start p route k + s.service + leg p route k) (place_before k (omega arith))))
      (start_before (k + 1) (omega arith)) (load_before (k + 1) (omega arith))

  pub rows_kept : (at : ℕ) → at ≤ m → take at (rows_of p new) ≡ take at (rows_of p route)
  rows_kept at most =
      take-map-range_with_len (row_after p new) 0 (length new + 1) at (omega (arith, long))
      ∙ map_range_same (row_after p new) (row_after p route) 0 at (λ k from to. row_before k from (omega (arith, most, to)))
      ∙ sym (take-map-range_with_len (row_after p route) 0 (length route + 1) at (omega arith))

  -- the new stop follows the row of place m
  module _ (here : Row) (place_is : here.place ≡ m) (start_is : here.start ≡ start p route m) (load_is : here.load ≡ load p route m) where
    travel : leg p new m ≡ distance (place p route m) s
    travel = rw (place_before m (omega arith), place_here) refl

    arrival_here : here.start + (place p route m).service + distance (place p route m) s ≡ arrival p new m
    arrival_here =
        let at = ap (λ (s : Stop). s.service) (place_before m (omega arith)) in
        let now = start_before m (omega arith) in
        omega (arith, travel, start_is)

    start_here : max (here.start + (place p route m).service + distance (place p route m) s) s.earliest ≡ start p new (m + 1)
    start_here =
        let early = ap (λ (s : Stop). s.earliest) place_here in
        omega (arith, arrival_here, start-next p new m)

    row_here : inserted_row here (place p route m).service (distance (place p route m) s) s ≡ row_after p new m
    row_here =
        same_row _ _ _ _ _ _ _ _ _ _ (ap (λ k. k + 1) place_is) (sym place_here) arrival_here start_here
        (rw (load-next p new m, load_before m (omega arith), place_here, load_is) refl)

  -- after the inserted stop, the loads are greater by its demand
  load_after : (j : ℕ) → load p new (m + j + 1) ≡ load p route (m + j) +ℤ s.demand
  load_after zero = let none : m + 0 ≡ m = omega arith in rw (none, load-next p new m, load_before m (omega arith), place_here) refl
  load_after (suc j) =
      let before = load_after j in
      let more : m + suc j ≡ m + j + 1 = omega arith in
      let goods = ap (λ (s : Stop). s.demand) (place_following (m + j) (omega arith)) in
      rw more (omega (arith, ints, load-next p new (m + j + 1), load-next p route (m + j)))

  load_later : (k : ℕ) → m ≤ k → load p new (k + 1) ≡ load p route k +ℤ s.demand
  load_later k from = let at : m + (k - m) ≡ k = omega arith in subst (λ j. load p new (j + 1) ≡ load p route j +ℤ s.demand) at (load_after (k - m))

  pub leg_after : (k : ℕ) → m ≤ k → leg p new (k + 1 + 1) ≡ leg p route (k + 1)
  leg_after k from = rw (place_following k from, place_following (k + 1) (omega arith)) refl

  -- after the inserted stop, the rows are delayed
  moved_is : (n k now before : ℕ) → m ≤ k → now + (arrival p route k - before) ≡ arrival p new (k + 1) →
      moved_from now before s.demand (map (row_after p route) (range_with_len k n)) ≡ map (row_after p new) (range_with_len (k + 1) n)
  moved_is zero k now before from comes = refl
  moved_is (suc n) k now before from comes =
      let there = place_following k from in
      let early = ap (λ (s : Stop). s.earliest) there in
      let service = ap (λ (s : Stop). s.service) there in
      let begins : max (now + (arrival p route k - before)) (place p route (k + 1)).earliest ≡ start p new (k + 1 + 1) = omega (arith, comes, start-next p new (k + 1)) in
      let here : moved_row (now + (arrival p route k - before)) s.demand (row_after p route k) ≡ row_after p new (k + 1) =
      same_row _ _ _ _ _ _ _ _ _ _ refl (sym there) comes begins (sym (load_later (k + 1) (omega arith))) in
      let next : max (now + (arrival p route k - before)) (place p route (k + 1)).earliest + (arrival p route (k + 1) - start p route (k + 1)) ≡ arrival p new
      (k + 1 + 1) = omega (arith, begins, leg_after k from) in
      ap (λ r. r ∷ moved_from (max (now + (arrival p route k - before)) (place p route (k + 1)).earliest) (start p route (k + 1)) s.demand (map (row_after p route) (range_with_len (k + 1) n))) here
      ∙ ap (λ l. row_after p new (k + 1) ∷ l) (moved_is n (k + 1) (max (now + (arrival p route k - before)) (place p route (k + 1)).earliest) (start p route (k + 1)) (omega arith) next)

  -- all rows of the route with the stop
  rows_are : (now : ℕ) → now ≡ arrival p new (m + 1) →
      rows_of p new ≡ map (row_after p route) (range_with_len 0 m) ++
      (row_after p new m ∷ moved_from now (arrival p route m) s.demand (map (row_after p route) (range_with_len m (length route + 1 - m))))
  rows_are now comes =
      let left = length route + 1 - m in
      let count : length new + 1 ≡ m + suc left = omega (arith, long) in
      let zero_m : 0 + m ≡ m = omega arith in
      ap (λ n. map (row_after p new) (range_with_len 0 n)) count
      ∙ map_range_split (row_after p new) 0 m (suc left)
      ∙ ap (λ a. map (row_after p new) (range_with_len 0 m) ++ map (row_after p new) (range_with_len a (suc left))) zero_m
      ∙ ap (λ l. l ++ map (row_after p new) (range_with_len m (suc left))) (map_range_same (row_after p new) (row_after p route) 0 m row_before)
      ∙ ap (λ l. map (row_after p route) (range_with_len 0 m) ++ (row_after p new m ∷ l)) (sym (moved_is left m now (arrival p route m) (omega arith) (omega (arith, comes))))

  -- the route is longer by the detour
  pub length_is : route_length p new + leg p route m ≡ route_length p route + distance (place p route m) s + distance s (place p route (m + 1))
  length_is =
      let a = place p route in
      let b = place p new in
      let left = length route - m in
      let end_b : m + 1 + 1 + left ≡ length new + 1 = omega (arith, long) in
      let end_a : m + 1 + left ≡ length route + 1 = omega arith in
      let same : (k : ℕ) → b (m + 1 + 1 + k) ≡ a (m + 1 + k) = λ k.
      (let x : m + 1 + 1 + k ≡ (m + k) + 1 + 1 = omega arith in let y : (m + k) + 1 ≡ m + 1 + k = omega arith in ap b x ∙ place_following (m + k) (omega arith) ∙ ap a y) in
      let splice : length_along b (length new + 1) + length_along a (m + 1) ≡ length_along a (length route + 1) + length_along b (m + 1 + 1) =
      subst (λ n. length_along b n + length_along a (m + 1) ≡ length_along a (length route + 1) + length_along b (m + 1 + 1)) end_b
      (subst (λ n. length_along b (m + 1 + 1 + left) + length_along a (m + 1) ≡ length_along a n + length_along b (m + 1 + 1)) end_a (spliced-length a b (m + 1) (m + 1 + 1) same left)) in
      let to : distance (b m) (b (m + 1)) ≡ distance (a m) s = rw (place_before m (omega arith), place_here) refl in
      let from : distance (b (m + 1)) (b (m + 1 + 1)) ≡ distance s (a (m + 1)) = rw (place_here, place_following m (omega arith)) refl in
      omega (arith, length-is p new, length-is p route, splice, length-next a m, length-next b m, length-next b (m + 1), same-length a b m place_before m (omega arith))

-- ---- what the code finds
drop_range : {X : Type 0} (f : ℕ → X) (a n k : ℕ) → k ≤ n → drop k (map f (range_with_len a n)) ≡ map f (range_with_len (a + k) (n - k))
drop_range f a n zero h = let e : a + 0 ≡ a = omega arith in let z : n - 0 ≡ n = omega arith in rw (e, z) refl
drop_range f a zero (suc k) h = absurd (omega arith)
drop_range f a (suc n) (suc k) h =
    let there : a + 1 + k ≡ a + suc k = omega arith in
    let left : n - k ≡ suc n - suc k = omega arith in
    drop_range f (a + 1) n k (omega arith) ∙ ap (λ b. map f (range_with_len b (n - k))) there ∙ ap (λ m. map f (range_with_len (a + suc k) m)) left

module _ (p : Instance) (t : Tour) (at : ℕ) (tour : IsTour p t) (one : 1 ≤ at) (within : at ≤ length t.route.now) (detour : Detour)
    (ways : IsDetour p t at detour) (number : ℕ) (is : IsNumberOf p t number) where
  pub distance_reported : (longer : ℕ) → longer + detour.travel ≡ t.distance + detour.to + detour.from → longer ≡ route_length p (route_with t at number)
  distance_reported longer sum =
      let far = length_is p t.route.now number at t.stop.now one within is in
      let was = tour.distance in
      let to = ways.to in
      let from = ways.from in
      let travel = ways.travel in
      omega arith

  abbrev tried : List ℕ
  tried = insert t.route.now at number

  pub row_at : (k : ℕ) (d : Row) → k ≤ length t.route.now → get_or t.rows.now k d ≡ row_after p t.route.now k
  row_at k d below = ap (λ rs. get_or rs k d) tour.rows ∙ get_or-map-range_with_len (row_after p t.route.now) 0 (length t.route.now + 1) k k d (omega arith) (omega arith)

  -- the row of the stop
  pub row_told : (d row : Row) → row ≡ inserted_row (get_or t.rows.now (at - 1) d) detour.service detour.to t.stop.now → row ≡ row_after p tried at
  row_told d row row_is =
      let s = t.stop.now in
      let same_at : at - 1 + 1 ≡ at = omega arith in
      let known : get_or t.rows.now (at - 1) d ≡ row_after p t.route.now (at - 1) = row_at (at - 1) d (omega arith) in
      row_is
      ∙ ap (λ w. inserted_row (get_or t.rows.now (at - 1) d) w detour.to s) ways.service
      ∙ ap (λ w. inserted_row (get_or t.rows.now (at - 1) d) (place p t.route.now at).service w s) ways.to
      ∙ row_here p t.route.now number at s one within is (get_or t.rows.now (at - 1) d) (ap (λ (r : Row). r.place) known ∙ same_at)
      (ap (λ (r : Row). r.start) known ∙ ap (start p t.route.now) same_at) (ap (λ (r : Row). r.load) known ∙ ap (load p t.route.now) same_at)

  pub rows_reported : (d e row : Row) (comes : ℕ) → row ≡ inserted_row (get_or t.rows.now (at - 1) d) detour.service detour.to t.stop.now → comes ≡ row.start + t.stop.now.service + detour.from →
      take at t.rows.now ++ (row ∷ moved_from comes (get_or t.rows.now at e).arrival t.stop.now.demand (drop at t.rows.now)) ≡ rows_of p (route_with t at number)
  rows_reported d e row comes row_is comes_is =
      let route = t.route.now in
      let s = t.stop.now in
      let is_row : row ≡ row_after p tried at = row_told d row row_is in
      let service = ap (λ (s : Stop). s.service) (place_here p route number at s one within is) in
      let begins = ap (λ (r : Row). r.start) is_row in
      let travel : detour.from ≡ leg p tried (at + 1) = ways.from ∙ ap (distance s) (sym (place_following p route number at s one within is at (omega arith)))
      ∙ ap (λ b. distance b (place p tried (at + 1 + 1))) (sym (place_here p route number at s one within is)) in
      let reached : comes ≡ arrival p tried (at + 1) = omega arith in
      let had : (get_or t.rows.now at e).arrival ≡ arrival p route at = ap (λ (r : Row). r.arrival) (row_at at e within) in
      let taken : take at t.rows.now ≡ map (row_after p route) (range_with_len 0 at) = ap (take at) tour.rows ∙ take-map-range_with_len (row_after p route) 0 (length route + 1) at (omega arith) in
      let begin : 0 + at ≡ at = omega arith in
      let dropped : drop at t.rows.now ≡ map (row_after p route) (range_with_len at (length route + 1 - at)) =
      ap (drop at) tour.rows ∙ drop_range (row_after p route) 0 (length route + 1) at (omega arith) ∙ ap (λ a. map (row_after p route) (range_with_len a (length route + 1 - at))) begin in
      let moved : moved_from comes (get_or t.rows.now at e).arrival s.demand (drop at t.rows.now) ≡ moved_from comes (arrival p route at) s.demand
      (map (row_after p route) (range_with_len at (length route + 1 - at))) =
      ap (λ h. moved_from comes h s.demand (drop at t.rows.now)) had ∙ ap (moved_from comes (arrival p route at) s.demand) dropped in
      ap (λ l. l ++ (row ∷ moved_from comes (get_or t.rows.now at e).arrival s.demand (drop at t.rows.now))) taken
      ∙ ap (λ r. map (row_after p route) (range_with_len 0 at) ++ (r ∷ moved_from comes (get_or t.rows.now at e).arrival s.demand (drop at t.rows.now))) is_row
      ∙ ap (λ l. map (row_after p route) (range_with_len 0 at) ++ (row_after p tried at ∷ l)) moved
      ∙ sym (rows_are p route number at s one within is comes reached)

  -- the violations found up to the stop are those of the new route's rows up to the stop
  pub found_reported : (front : FirstViolations) (d row : Row) → front ≡ violations_in p (take at t.rows.now) → row ≡ inserted_row (get_or t.rows.now (at - 1) d) detour.service detour.to t.stop.now →
      violations_then front (violations_in p (row ∷ [])) ≡ violations_in p (take (at + 1) (rows_of p (route_with t at number)))
  found_reported front d row front_is row_is =
      let before = take at t.rows.now in
      let comes = row.start + t.stop.now.service + detour.from in
      let following = moved_from comes (get_or t.rows.now at d).arrival t.stop.now.demand (drop at t.rows.now) in
      let count : at + 1 ≡ length before + 1 = omega (arith, within, tour.long, length-take at t.rows.now) in
      let first : take (at + 1) (before ++ (row ∷ following)) ≡ before ++ (row ∷ []) = ap (λ n. take n (before ++ (row ∷ following))) count ∙ take-append-add before (row ∷ following) 1 in
      ap (λ f. violations_then f (violations_in p (row ∷ []))) front_is
      ∙ sym (found_both p before (row ∷ []))
      ∙ ap (violations_in p) (sym first ∙ ap (take (at + 1)) (rows_reported d d row comes row_is refl))

  pub miss_reported : (front found : FirstViolations) (d e row : Row) (comes : ℕ) (violation : Option LimitViolation) → front ≡ violations_in p (take at t.rows.now) →
      row ≡ inserted_row (get_or t.rows.now (at - 1) d) detour.service detour.to t.stop.now → comes ≡ row.start + t.stop.now.service + detour.from → found ≡ violations_then front (violations_in p (row ∷ [])) →
      violation ≡ violation_after p found comes (get_or t.rows.now at e).arrival t.stop.now.demand (drop at t.rows.now) → violation ≡ violation_of p (route_with t at number)
  miss_reported front found d e row comes violation front_is row_is comes_is found_is miss_is =
      miss_is
      ∙ ap (λ f. violation_after p f comes (get_or t.rows.now at e).arrival t.stop.now.demand (drop at t.rows.now)) (found_is ∙ ap (λ f. violations_then f (violations_in p (row ∷ []))) front_is)
      ∙ miss_joined p (take at t.rows.now) row comes (get_or t.rows.now at e).arrival t.stop.now.demand (drop at t.rows.now)
      ∙ ap (violation_in p) (rows_reported d e row comes row_is comes_is)

-- ---- from place to place
-- if no row is above the capacity, the same holds without the first rows
light_drop : (capacity : ℕ) (change : ℤ) (rows : List Row) (k : ℕ) → overload_in capacity (with_load_change change rows) ≡ None → overload_in capacity (with_load_change change (drop k rows)) ≡ None
light_drop capacity change rows zero light = light
light_drop capacity change [] (suc k) light = refl
light_drop capacity change (r ∷ rows) (suc k) light = light_drop capacity change rows k (rest (is_heavy capacity (record r { load = r.load +ℤ change })) refl light)
  where
    rest : (b : Bool) → is_heavy capacity (record r { load = r.load +ℤ change }) ≡ b → overload_in capacity (with_load_change change (r ∷ rows)) ≡ None → overload_in capacity (with_load_change change rows) ≡ None
    rest true h none = absurd (none_some (overload_at capacity (record r { load = r.load +ℤ change })) (sym (rw h at none)))
    rest false h none = rw h at none

pub light_later : (p : Instance) (t : Tour) (a b : ℕ) → a ≤ b → FitsCapacity p t a → FitsCapacity p t b
light_later p t a b most light =
    let there : a + (b - a) ≡ b = omega arith in
    subst (λ rows. overload_in p.capacity (with_load_change t.stop.now.demand rows) ≡ None) (drop-drop (b - a) a t.rows.now ∙ ap (λ n. drop n t.rows.now) there)
    (light_drop p.capacity t.stop.now.demand (drop a t.rows.now) (b - a) light)

pub found_more : (p : Instance) (rows : List Row) (k : ℕ) (d : Row) → k < length rows → violations_then (violations_in p (take k rows)) (violations_in p (get_or rows k d ∷ [])) ≡ violations_in p (take (k + 1) rows)
found_more p rows k d below = sym (ap (violations_in p) (take_more rows k d below) ∙ found_both p (take k rows) (get_or rows k d ∷ []))

-- ---- a stop at the end
pub take_last : (xs : List ℕ) (n m y : ℕ) → n ≡ length xs → m ≡ length xs → take n (insert xs m y) ≡ xs
take_last xs n m y is at = ap (λ k. take k (insert xs m y)) is ∙ ap (λ k. take (length xs) (insert xs k y)) at ∙ ap (take (length xs)) (insert_end xs y) ∙ take-append_seam xs (y ∷ [])

-- If the stops of a route are known and distinct, they still are after the two stops at its end are removed.
pub live_without : (p : Instance) (route : List ℕ) (a b i j : ℕ) → i ≡ length route → j ≡ length route + 1 → AreDistinctStops p (insert (insert route i a) j b) → AreDistinctStops p route
live_without p route a b i j one two once =
    let longer : length (insert route i a) ≡ length route + 1 = length-insert route i a (omega arith) in
    let first = subst (AreDistinctStops p) (take_last (insert route i a) j j b (omega arith) (omega arith)) (front_once p (insert (insert route i a) j b) j once) in
    subst (AreDistinctStops p) (take_last route i i a one one) (front_once p (insert route i a) i first)
