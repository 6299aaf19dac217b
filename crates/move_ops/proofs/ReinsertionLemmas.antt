-- A request removed from a plan fits again at its old places, which restores the old plan.
use Rattle.std.proofs.Common.{◌≡◌, ℕ, zero, suc, ◌-◌, ◌<◌, ◌≤◌, ◌&&◌, Bool, true, false, not, leb, List, [], ◌∷◌}
use Rattle.std.proofs.Common.{map, filter, length, set, get_or, Option, Some, None, slice_get, refl, sym, ap, subst, ◌∙◌, inl, inr, arith}
use Rattle.std.specs.Prelude.{unwrap_or, IsTrue, MatchOption}
use Rattle.std.specs.List.{concat, insert, list_all, Contains}
use Rattle.std.specs.Option.{option_and_then, option_map, option_map_or}
use Rattle.std.proofs.lemmas.Bool.{and_from, and_parts, cases_Bool, cases_lt, le-leb, ne_eqb, or_cases}
use Rattle.std.proofs.lemmas.List.{length-map}
use Rattle.std.proofs.lemmas.Option.{slice_get-get_or, slice_get-map, slice_get_within}
use Rattle.plan_types.specs.Cost.{cost_at_most, cost_below, BelowIsAtMost}
use Rattle.plan_types.specs.Instance.{Instance, IsInstance}
use Rattle.plan_types.specs.Laws.{NamedRequestsAreFound, RequestsAreStoredByName}
use Rattle.plan_types.specs.declared.requests.Request.{Request}
use Rattle.plan_types.specs.declared.requests.Request.TheVariants.{Single, Pair}
use Rattle.plan_types.specs.declared.requests.Stop.{Stop}
use Rattle.route_sched.specs.Cost.{is_planned, cost_of}
use Rattle.plan_audit.specs.Laws.{IsServedOnce, KeepsPins, PassesAreSound}
use Rattle.plan_audit.specs.Locality.{PassingIsLocal, PassesDecidesTheVerdict}
use Rattle.plan_audit.specs.Passes.{passes}
use Rattle.plan_audit.specs.Rules.{HasStopAt}
use Rattle.plan_audit.specs.Verdict.{planned}
use Rattle.plan_audit.proofs.PrintLemmas.{is_there}
use Rattle.move_ops.specs.Drafts.{placed}
use Rattle.move_ops.specs.Insertion.{Insertion, request_named, inserted, route_of, passing, are_places, with_request_at}
use Rattle.move_ops.specs.Insertion.{is_place_of, insertions, insertions_of, inserted_at, is_no_later, cost_with, is_no_worse, best_insertion}
use Rattle.move_ops.specs.Laws.{BestInsertionsAreLeast, IsBest, IsRelocated, RelocationsNeverCostMore, RequestsKeepTheirPlaces}
use Rattle.move_ops.specs.Moves.{is_movable, is_movable_name, is_of_named, without_named, removed}
use Rattle.move_ops.proofs.ChoiceLemmas.{from_places, insert_long}
use Rattle.move_ops.proofs.InsertionLemmas.{numbers_of}
use Rattle.move_ops.proofs.LeftOutLemmas.{gone_now, none_named, others_as, stops_of_it}
use Rattle.move_ops.proofs.Places.{contained, listed, to_list, within}
use Rattle.move_ops.proofs.PlanRemovalLemmas.{unpinned}
use Rattle.move_ops.proofs.ReplacementLemmas.{parts, times_in_vehicle}
use Rattle.move_ops.proofs.OccurrenceLemmas.{none_some, some_same, times, one_here, none_here, occurs_at}

-- ---- a route
module _ (keep : ℕ → Bool) where
  all_kept : (xs : List ℕ) → ((j m : ℕ) → slice_get xs j ≡ Some m → keep m ≡ true) → filter keep xs ≡ xs
  all_kept [] each = refl
  all_kept (x ∷ xs) each =
      let t : keep x ≡ true = each zero x refl in
      rw t (ap (λ (ys : List ℕ). x ∷ ys) (all_kept xs (λ j m at. each (suc j) m at)))

  -- a removed stop that is inserted at its old index restores the old list
  one_back : (n : ℕ) (xs : List ℕ) (k : ℕ) → keep n ≡ false → slice_get xs k ≡ Some n → ((j m : ℕ) → slice_get xs j ≡ Some m → (j ≡ k → ⊥) → keep m ≡ true)
      → insert (filter keep xs) k n ≡ xs
  one_back n [] k gone at others = absurd (none_some n at)
  one_back n (x ∷ xs) zero gone at others =
      let same : x ≡ n = some_same x n at in
      let f : keep x ≡ false = ap keep same ∙ gone in
      rw f (
      ap (λ (m : ℕ). m ∷ filter keep xs) (sym same)
      ∙ ap (λ (ys : List ℕ). x ∷ ys) (all_kept xs (λ j m there. others (suc j) m there (λ e. omega arith))))
  one_back n (x ∷ xs) (suc k) gone at others =
      let t : keep x ≡ true = others zero x refl (λ e. omega arith) in
      rw t (ap (λ (ys : List ℕ). x ∷ ys) (one_back n xs k gone at (λ j m there apart. others (suc j) m there (λ e. apart (omega arith)))))

  -- two removed stops that are inserted at their old indices, the stop with the lower index first, restore the
  -- old list
  two_back : (a b : ℕ) (xs : List ℕ) (k l : ℕ) → keep a ≡ false → keep b ≡ false → k < l → slice_get xs k ≡ Some a → slice_get xs l ≡ Some b
      → ((j m : ℕ) → slice_get xs j ≡ Some m → (j ≡ k → ⊥) → (j ≡ l → ⊥) → keep m ≡ true) → insert (insert (filter keep xs) k a) l b ≡ xs
  two_back a b [] k l first_gone gone order first second others = absurd (none_some a first)
  two_back a b (x ∷ xs) k zero first_gone gone order first second others = absurd (omega arith)
  two_back a b (x ∷ xs) zero (suc l) first_gone gone order first second others =
      let same : x ≡ a = some_same x a first in
      let f : keep x ≡ false = ap keep same ∙ first_gone in
      rw f (
      ap (λ (m : ℕ). m ∷ insert (filter keep xs) l b) (sym same)
      ∙ ap (λ (ys : List ℕ). x ∷ ys) (one_back b xs l gone second (λ j m there apart. others (suc j) m there (λ e. omega arith) (λ e. apart (omega arith)))))
  two_back a b (x ∷ xs) (suc k) (suc l) first_gone gone order first second others =
      let t : keep x ≡ true = others zero x refl (λ e. omega arith) (λ e. omega arith) in
      rw t (ap (λ (ys : List ℕ). x ∷ ys) (two_back a b xs k l first_gone gone (omega arith) first second
      (λ j m there apart away. others (suc j) m there (λ e. apart (omega arith)) (λ e. away (omega arith)))))

-- ---- a plan
all_same : (f : List ℕ → List ℕ) (routes : List (List ℕ))
    → ((j : ℕ) (route : List ℕ) → slice_get routes j ≡ Some route → f route ≡ route) → map f routes ≡ routes
all_same f [] each = refl
all_same f (x ∷ xs) each =
    ap (λ (y : List ℕ). y ∷ map f xs) (each zero x refl)
    ∙ ap (λ (ys : List (List ℕ)). x ∷ ys) (all_same f xs (λ j route at. each (suc j) route at))

-- one route is restored, and the others are unchanged
routes_back : (f : List ℕ → List ℕ) (routes : List (List ℕ)) (w : ℕ) (route : List ℕ) → slice_get routes w ≡ Some route
    → ((u : ℕ) (other : List ℕ) → slice_get routes u ≡ Some other → (u ≡ w → ⊥) → f other ≡ other) → set (map f routes) w route ≡ routes
routes_back f [] w route at stay = absurd (none_some route at)
routes_back f (x ∷ xs) zero route at stay =
    ap (λ (y : List ℕ). y ∷ map f xs) (sym (some_same x route at))
    ∙ ap (λ (ys : List (List ℕ)). x ∷ ys) (all_same f xs (λ j other there. stay (suc j) other there (λ e. omega arith)))
routes_back f (x ∷ xs) (suc w) route at stay =
    ap (λ (y : List ℕ). y ∷ set (map f xs) w route) (stay zero x refl (λ e. omega arith))
    ∙ ap (λ (ys : List (List ℕ)). x ∷ ys) (routes_back f xs w route at (λ u other there apart. stay (suc u) other there (λ e. apart (omega arith))))

-- a stop that is not pinned is after the pin
after_pin : (pins routes : List (List ℕ)) → KeepsPins routes pins → (w k n : ℕ) (route : List ℕ) → slice_get routes w ≡ Some route
    → slice_get route k ≡ Some n → times n (concat pins) ≡ 0
    → length (route_of pins (suc w)) ≤ k
after_pin pins routes kept w k n route at stop free = by (slice_get pins w) refl
  where
    by : (o : Option (List ℕ)) → slice_get pins w ≡ o → length (unwrap_or o []) ≤ k
    by None e = omega arith
    by (Some pin) e = elim (cases_lt k (length pin)) [
      | inr more ↦ omega arith
      | inl less ↦ absurd (
          let here : slice_get pin k ≡ Some (get_or pin k 0) = slice_get-get_or pin k 0 less in
          let visit = kept (suc w) (suc k) (get_or pin k 0) (pin, e, here) in
          let same_route = some_same visit.0 route (sym visit.1 ∙ at) in
          let there : slice_get route k ≡ Some (get_or pin k 0) = subst (λ (xs : List ℕ). slice_get xs k ≡ Some (get_or pin k 0)) same_route visit.2 in
          let same : get_or pin k 0 ≡ n = some_same (get_or pin k 0) n (sym there ∙ stop) in
          let once = occurs_at n k pin (here ∙ ap (λ (m : ℕ). Some m) same) in
          let within = slice_get_within pins w pin e in
          let all = times_in_vehicle n pins (suc w) (omega arith) (omega arith) in
          let of_pin = ap (λ (o : Option (List ℕ)). times n (unwrap_or o [])) e in
          omega arith)
    ]

-- ---- a request
other_than_single : (s : Stop) (m : ℕ) → (m ≡ s.number → ⊥) → times m (numbers_of (Single s)) ≡ 0
other_than_single s m apart = let e = none_here m s.number (ne_eqb m s.number apart) in omega arith

other_than_pair : (a b : Stop) (m : ℕ) → (m ≡ a.number → ⊥) → (m ≡ b.number → ⊥) → times m (numbers_of (Pair a b)) ≡ 0
other_than_pair a b m apart away =
    let e = none_here m a.number (ne_eqb m a.number apart) in let f = none_here m b.number (ne_eqb m b.number away) in omega arith

module _ (keep : ℕ → Bool) (pins routes : List (List ℕ)) (pinned : KeepsPins routes pins) where
  abbrev left : List (List ℕ)
  left = map (filter keep) routes

  -- a place of the request in the remaining routes at which inserting it restores the old routes
  abbrev pub IsOldPlace : Request → Insertion → Type 0
  IsOldPlace r x = (is_place_of pins left r x ≡ true) × (with_request_at left r x ≡ routes)

  module _ (w : ℕ) (route : List ℕ) (at : slice_get routes w ≡ Some route) where
    left_at : route_of left (suc w) ≡ filter keep route
    left_at = ap (λ (o : Option (List ℕ)). unwrap_or o []) (slice_get-map (filter keep) routes w ∙ ap (option_map (filter keep)) at)

    old_place : (r : Request) (i j : ℕ) → are_places r (length (route_of pins (suc w))) (length (filter keep route)) i j ≡ true
        → inserted r i j (filter keep route) ≡ route
        → ((u m : ℕ) → (u ≡ suc w → ⊥) → (k : ℕ) → HasStopAt routes u k m → keep m ≡ true) → IsOldPlace r (suc w, i, j)
    old_place r i j places same others = (
      and_from (leb 1 (suc w))
          (leb (suc w) (length left) && are_places r (length (route_of pins (suc w))) (length (route_of left (suc w))) i j)
          (le-leb 1 (suc w) (omega arith))
          (and_from (leb (suc w) (length left)) (are_places r (length (route_of pins (suc w))) (length (route_of left (suc w))) i j)
          (le-leb (suc w) (length left) (let e = length-map routes (filter keep) in let f = slice_get_within routes w route at in omega arith))
          (subst (λ (n : ℕ). are_places r (length (route_of pins (suc w))) n i j ≡ true) (sym (ap length left_at)) places)),
      (let e : suc w - 1 ≡ w = omega arith in
          ap (λ (k : ℕ). set left k (inserted r i j (route_of left (suc w)))) e
          ∙ (ap (λ (xs : List ℕ). set left w (inserted r i j xs)) left_at
          ∙ (ap (λ (xs : List ℕ). set left w xs) same
          ∙ routes_back (filter keep) routes w route at
          (λ u other there apart. all_kept keep other
          (λ j m stop. others (suc u) m (λ e. apart (omega arith)) (suc j) (other, there, stop)))))),
    )

    module _ (s : Stop) (k : ℕ) (stop : slice_get route k ≡ Some s.number)
        (once : (q j : ℕ) → HasStopAt routes q j s.number → (q ≡ suc w) × (j ≡ suc k)) (gone : keep s.number ≡ false)
        (others : (m : ℕ) → (m ≡ s.number → ⊥) → keep m ≡ true) (free : times s.number (concat pins) ≡ 0) where
      single_same : inserted (Single s) (suc k) (suc k) (filter keep route) ≡ route
      single_same =
          let e : suc k - 1 ≡ k = omega arith in
          ap (λ (i : ℕ). insert (filter keep route) i s.number) e
          ∙ one_back keep s.number route k gone stop (λ j m there apart. others m (λ e. apart (
          let visit = once (suc w) (suc j) (route, at, there ∙ ap (λ (n : ℕ). Some n) e) in
          omega arith)))

      single_old : IsOldPlace (Single s) (suc w, suc k, suc k)
      single_old =
          let following = after_pin pins routes pinned w k s.number route at stop free in
          let long = insert_long (filter keep route) (suc k - 1) s.number in
          let old = ap length single_same in
          let within = slice_get_within route k s.number stop in
          old_place (Single s) (suc k) (suc k)
          (from_places (Single s) (length (route_of pins (suc w))) (length (filter keep route)) (suc k) (suc k)
          (omega arith, omega arith, refl) (omega arith)) single_same
          (λ u m apart j visit. others m (λ e. apart (once u j (subst (λ (n : ℕ). HasStopAt routes u j n) e visit)).0))

    module _ (a b : Stop) (k l : ℕ) (order : k < l) (first : slice_get route k ≡ Some a.number) (second : slice_get route l ≡ Some b.number)
        (first_once : (q j : ℕ) → HasStopAt routes q j a.number → (q ≡ suc w) × (j ≡ suc k))
        (second_once : (q j : ℕ) → HasStopAt routes q j b.number → (q ≡ suc w) × (j ≡ suc l))
        (first_gone : keep a.number ≡ false) (gone : keep b.number ≡ false)
        (others : (m : ℕ) → (m ≡ a.number → ⊥) → (m ≡ b.number → ⊥) → keep m ≡ true) (free : times a.number (concat pins) ≡ 0) where
      pair_same : inserted (Pair a b) (suc k) (suc l) (filter keep route) ≡ route
      pair_same =
          let e : suc k - 1 ≡ k = omega arith in
          let f : suc l - 1 ≡ l = omega arith in
          ap (λ (i : ℕ). insert (insert (filter keep route) i a.number) (suc l - 1) b.number) e
          ∙ (ap (λ (j : ℕ). insert (insert (filter keep route) k a.number) j b.number) f
          ∙ two_back keep a.number b.number route k l first_gone gone order first second (λ j m there apart away. others m
          (λ e. apart (let visit = first_once (suc w) (suc j) (route, at, there ∙ ap (λ (n : ℕ). Some n) e) in let g = visit.1 in omega arith))
          (λ e. away (let visit = second_once (suc w) (suc j) (route, at, there ∙ ap (λ (n : ℕ). Some n) e) in let g = visit.1 in omega arith))))

      pair_old : IsOldPlace (Pair a b) (suc w, suc k, suc l)
      pair_old =
          let following = after_pin pins routes pinned w k a.number route at first free in
          let long = insert_long (filter keep route) (suc k - 1) a.number in
          let longer = insert_long (insert (filter keep route) (suc k - 1) a.number) (suc l - 1) b.number in
          let old = ap length pair_same in
          let within = slice_get_within route l b.number second in
          old_place (Pair a b) (suc k) (suc l)
          (from_places (Pair a b) (length (route_of pins (suc w))) (length (filter keep route)) (suc k) (suc l)
          (omega arith, omega arith, omega arith) (omega arith)) pair_same
          (λ u m apart j visit. others m
          (λ e. apart (first_once u j (subst (λ (n : ℕ). HasStopAt routes u j n) e visit)).0)
          (λ e. apart (second_once u j (subst (λ (n : ℕ). HasStopAt routes u j n) e visit)).0))

  served_back : (r : Request) → IsServedOnce routes r → ((m : ℕ) → 1 ≤ times m (numbers_of r) → keep m ≡ false)
      → ((m : ℕ) → times m (numbers_of r) ≡ 0 → keep m ≡ true)
      → ((m : ℕ) → 1 ≤ times m (numbers_of r) → times m (concat pins) ≡ 0) → (x : Insertion) × IsOldPlace r x
  served_back (Single s) (zero, i, ((route, at, stop), once)) own others free = absurd (none_some route at)
  served_back (Single s) (suc w, zero, ((route, at, stop), once)) own others free = absurd (none_some s.number stop)
  served_back (Single s) (suc w, suc k, ((route, at, stop), once)) own others free =
      let one : 1 ≤ times s.number (numbers_of (Single s)) = (let e = one_here s.number s.number refl in omega arith) in (
        (suc w, suc k, suc k),
        single_old w route at s k stop once (own s.number one) (λ m apart. others m (other_than_single s m apart)) (free s.number one),
      )
  served_back (Pair a b) (zero, i, j, order, ((route, at, first), first_once), second_at) own others free = absurd (none_some route at)
  served_back (Pair a b) (suc w, zero, j, order, ((route, at, first), first_once), second_at) own others free = absurd (none_some a.number first)
  served_back (Pair a b) (suc w, suc k, zero, order, ((route, at, first), first_once), second_at) own others free = absurd (omega arith)
  served_back (Pair a b) (suc w, suc k, suc l, order, ((route, at, first), first_once), ((same, there, second), second_once)) own others free =
      let one : 1 ≤ times a.number (numbers_of (Pair a b)) = (let e = one_here a.number a.number refl in omega arith) in
      let two : 1 ≤ times b.number (numbers_of (Pair a b)) = (let e = one_here b.number b.number refl in omega arith) in
      let here : slice_get route l ≡ Some b.number = subst (λ (xs : List ℕ). slice_get xs l ≡ Some b.number) (some_same same route (sym there ∙ at)) second in (
        (suc w, suc k, suc l),
        pair_old w route at a b k l (omega arith) first here first_once second_once (own a.number one) (own b.number two)
            (λ m apart away. others m (other_than_pair a b m apart away)) (free a.number one),
      )

-- ---- the request that is removed
module _ (found : NamedRequestsAreFound) (by_name : RequestsAreStoredByName) (local : PassingIsLocal) (sound : PassesAreSound) (says : PassesDecidesTheVerdict)
    (p : Instance) (pins routes : List (List ℕ)) (name : ℕ)
    (valid : IsInstance p) (good : passes p pins routes ≡ true) where
  abbrev keep : ℕ → Bool
  keep m = not (is_of_named p (name ∷ []) m)

  abbrev pub rest : List (List ℕ)
  rest = without_named p (name ∷ []) routes

  -- the request is unplanned in the remaining routes, and inserting it at place x restores the old routes
  pub record FitsBack (r : Request) (x : Insertion) : Type 0 where
    pub named : request_named p name ≡ Some r
    pub free : is_planned rest r ≡ false
    pub place : is_place_of pins rest r x ≡ true
    pub back : with_request_at rest r x ≡ routes

  fits_back : (r : Request) → request_named p name ≡ Some r → is_movable pins routes r ≡ true → (x : Insertion) × FitsBack r x
  fits_back r named movable =
      let served = ((sound p (planned routes pins) (cost_of p routes) valid ((says p pins routes).0 good)).served) name r named
      (is_there routes r (and_parts (is_planned routes r) (not (is_planned pins r)) movable).0) in
      let old = served_back keep pins routes ((parts local p pins routes good).pinned) r served
      (λ m some. ap not (stops_of_it found by_name p valid name [] r named m some))
      (λ m none. ap not (others_as found by_name p valid name [] r named m none ∙ none_named found by_name p valid m))
      (λ m some. unpinned_at m some (times m (concat pins)) refl) in (
        old.0,
        record { named = named; free = gone_now found by_name p valid name [] r named routes; place = old.1.0; back = old.1.1 },
      )
    where
      unpinned_at : (m : ℕ) → 1 ≤ times m (numbers_of r) → (n : ℕ) → times m (concat pins) ≡ n → n ≡ 0
      unpinned_at m some zero e = refl
      unpinned_at m some (suc n) e = absurd (let none = unpinned pins routes r movable m (omega arith) in omega arith)

  pub removal_fits : (left : List (List ℕ)) → removed p pins routes (name ∷ []) ≡ Some left → (rest ≡ left) × ((r : Request) × ((x : Insertion) × FitsBack r x))
  removal_fits left taken = elim (cases_Bool (list_all (is_movable_name p pins routes) (name ∷ []))) [
    | inr f ↦ absurd (let h : None ≡ Some left = rw f at taken in none_some left h)
    | inl t ↦ elim (cases_Bool (passes p pins rest)) [
      | inr f ↦ absurd (let h : None ≡ Some left = rw (t, f) at taken in none_some left h)
      | inl g ↦ (
          let h : Some rest ≡ Some left = rw (t, g) at taken in (
            some_same rest left h,
            by (request_named p name) refl
                (and_parts (is_movable_name p pins routes name) (list_all (is_movable_name p pins routes) []) t).0,
          ))
    ]
  ]
    where
      by : (o : Option Request) → request_named p name ≡ o → option_map_or (is_movable pins routes) o false ≡ true
          → (r : Request) × ((x : Insertion) × FitsBack r x)
      by None e t = absurd (let h : false ≡ true = t in cc)
      by (Some r) e t = (r, fits_back r e t)

  put_back : (r : Request) (x : Insertion) → FitsBack r x → inserted_at p pins rest name x ≡ Some routes
  put_back r x f =
      let plan : passing p pins (with_request_at rest r x) ≡ Some routes = ap (passing p pins) (f.back) ∙ rw good refl in
      rw (f.named, f.free, f.place) plan

  -- the best insertion of the request costs no more than its old place
  best_back : BestInsertionsAreLeast → BelowIsAtMost → (r : Request) (x : Insertion) → FitsBack r x → IsRelocated p pins rest name routes
  best_back best weaken r x f = by (best_insertion p pins rest name) refl (best p pins rest name r (f.named))
    where
      among : Contains (insertions_of p pins rest r) x
      among = contained (insertions_of p pins rest r) x (to_list p pins rest r x (f.free) (f.place) (ap (passes p pins) (f.back) ∙ good))

      at_most : (y : Insertion) → is_no_worse p rest r y x ≡ true → IsTrue (cost_at_most (cost_with p rest r y) (cost_of p routes))
      at_most y no_worse =
          subst (λ (plan : List (List ℕ)). IsTrue (cost_at_most (cost_with p rest r y) (cost_of p plan))) (f.back)
          (elim (or_cases (cost_below (cost_with p rest r y) (cost_with p rest r x))
          (cost_at_most (cost_with p rest r y) (cost_with p rest r x) && is_no_later y x) no_worse) [
            | inl less ↦ weaken (cost_with p rest r y) (cost_with p rest r x) less
            | inr both ↦ (and_parts (cost_at_most (cost_with p rest r y) (cost_with p rest r x)) (is_no_later y x) both).0
          ])

      by : (o : Option Insertion) → best_insertion p pins rest name ≡ o
          → MatchOption o (insertions p pins rest name ≡ []) (IsBest p pins rest r) → IsRelocated p pins rest name routes
      by None e none =
          let empty : insertions_of p pins rest r ≡ [] = rw (f.named) at none in
          absurd (within [] x (subst (λ (xs : List Insertion). Contains xs x) empty among))
      by (Some y) e least =
          let t = listed p pins rest r y (within (insertions_of p pins rest r) y (least.among)) in
          let put : inserted_at p pins rest name y ≡ Some (with_request_at rest r y) = rw (f.named, f.free, t.1, t.2) refl in
          let is : placed p pins rest name ≡ with_request_at rest r y =
          ap (λ (o : Option Insertion). unwrap_or (option_and_then (inserted_at p pins rest name) o) rest) e
          ∙ ap (λ (o : Option (List (List ℕ))). unwrap_or o rest) put in
          record {
            best = y;
            found = e;
            put = put ∙ ap (λ (plan : List (List ℕ)). Some plan) (sym is);
            cost = subst (λ (plan : List (List ℕ)). IsTrue (cost_at_most (cost_of p plan) (cost_of p routes))) (sym is) (at_most y (least.least x among));
          }

pub requests_keep_their_places : NamedRequestsAreFound → RequestsAreStoredByName → PassingIsLocal → PassesAreSound → PassesDecidesTheVerdict → RequestsKeepTheirPlaces
requests_keep_their_places found by_name local sound says p pins routes left name valid good taken =
    let fits = removal_fits found by_name local sound says p pins routes name valid good left taken in
    let x = fits.1.1.0 in (
      x,
      subst (λ (plan : List (List ℕ)). inserted_at p pins plan name x ≡ Some routes) fits.0
          (put_back found by_name local sound says p pins routes name valid good fits.1.0 x fits.1.1.1),
    )

pub relocations_never_cost_more : NamedRequestsAreFound → RequestsAreStoredByName → PassingIsLocal → PassesAreSound → PassesDecidesTheVerdict
    → BestInsertionsAreLeast → BelowIsAtMost → RelocationsNeverCostMore
relocations_never_cost_more found by_name local sound says best weaken p pins routes left name valid good taken =
    let fits = removal_fits found by_name local sound says p pins routes name valid good left taken in
    subst (λ (plan : List (List ℕ)). IsRelocated p pins plan name routes) fits.0
    (best_back found by_name local sound says p pins routes name valid good best weaken fits.1.0 fits.1.1.0 fits.1.1.1)
