-- Stops inserted into a route: the code computes by how much the new route is longer, if it keeps its limits.
use Rattle.std.proofs.Common.{◌≡◌, ◌≢◌, ℕ, zero, suc, ◌+◌, ◌-◌, ◌<◌, ◌≤◌, Bool, true, false, eqb, cond, ℤ, pos}
use Rattle.std.proofs.Common.{◌+ℤ◌, List, [], ◌∷◌, get_or, length, Option, Some, None, refl, sym, ap, ◌∙◌, arith, add-one, subst}
use Rattle.std.specs.Prelude.{IsSome, nat_eq}
use Rattle.std.specs.List.{AllByRecursion, insert}
use Rattle.std.specs.Map.{lookup}
use Rattle.std.proofs.lemmas.Bool.{ne_eqb, eq-eqb}
use Rattle.std.proofs.lemmas.List.Edits.{get_or-insert_at, get_or-insert_below, get_or-insert_above, length-insert}
use Rattle.plan_types.specs.Limits.{IsStop}
use Rattle.plan_types.specs.Request.{IsRequest, stop_in}
use Rattle.plan_types.specs.Instance.{Instance, IsInstance, stop_at}
use Rattle.plan_types.specs.Laws.{NamedRequestsAreFound}
use Rattle.plan_types.specs.declared.requests.Stop.{Stop}
use Rattle.plan_types.specs.declared.requests.Request.{Request}
use Rattle.plan_types.specs.declared.requests.Request.TheVariants.{Single, Pair}
use Rattle.route_sched.specs.Route.{place, stop_numbered}
use Rattle.route_sched.specs.Schedule.{route_length}
use Rattle.slack_tables.specs.Course.{Course, course_route, IsCourseIn}
use Rattle.slack_tables.specs.Along.{stop_on, length_along}
use Rattle.slack_tables.specs.DriveSteps.{walked, walk_to, with_stop, with_single, with_pair, IsSmallRow}
use Rattle.slack_tables.specs.TableFields.{IsInLimits, AreKnown}
use Rattle.slack_tables.specs.Insertion.{request_named, inserted, ArePlaces, IsAdded}
use Rattle.slack_tables.specs.Places.{IsAt, IsKnown}
use Rattle.slack_tables.specs.declared.progress.Limits.{Limits}
use Rattle.slack_tables.specs.declared.progress.Progress.{Progress}
use Rattle.slack_tables.specs.declared.progress.PlaceSlack.{PlaceSlack}
use Rattle.slack_tables.proofs.CourseLemmas.{places-on, long-on, length-is, limits-to, limits-from}
use Rattle.slack_tables.proofs.PrefixLemmas.{at-same, kept-same}
use Rattle.slack_tables.proofs.SpliceLemmas.{In, WalkIs, EndIs, kept-fewer, walk-on, end-then, stop-is}

-- ---- by place
abbrev pub limits_of : Course → Limits
limits_of c = record { kind = c.kind; capacity = c.capacity }

module _ (c : Course) (places : List PlaceSlack) (table : AreKnown c places) (b : ℕ → Stop) where
  -- o is the distance by which the new route is longer, or `None` if the new route breaks a limit
  abbrev pub IsEnd : ℕ → Option ℤ → Type 0
  IsEnd l o = EndIs (limits_of c) b l (length_along (stop_on c) (length c.stops + 1)) o

  module _ (m : ℕ) (prefix : (k : ℕ) → k ≤ m → b k ≡ stop_on c k) (within : m ≤ length c.stops) where
    -- the states at the places before the insertion are the old ones
    prefix-at : (d : PlaceSlack) → IsAt b m (get_or places m d).at
    prefix-at d = let long = table.long in at-same (stop_on c) b m prefix (get_or places m d).at (table.known m d (omega arith)).at

    prefix-in : In (limits_of c) b m
    prefix-in = kept-same (stop_on c) b m prefix c.kind c.capacity (kept-fewer (limits_of c) (stop_on c) m (length c.stops + 1) (omega arith) table.limits)

  -- the route continues with a stop at place j, then with place n of the table and all later places
  rest-is : (j n l : ℕ) (d : PlaceSlack) (at : Progress) (s : Stop) → 1 ≤ j → n ≤ length c.stops + 1 → l ≡ j + 1 + (length c.stops + 1 - n)
      → b j ≡ s → ((k : ℕ) → b (j + 1 + k) ≡ stop_on c (n + k)) → IsAt b (j - 1) at → In (limits_of c) b (j - 1)
      → IsEnd l (with_stop (limits_of c) at s (get_or places n d))
  rest-is j n l d at s one h end here same is kept =
      let rest = length c.stops + 1 - n in
      let total : n + rest ≡ length c.stops + 1 = omega arith in
      let known : IsKnown c.kind (stop_on c) (n + rest) n (get_or places n d) =
      subst (λ q. IsKnown c.kind (stop_on c) q n (get_or places n d)) (sym total) (table.known n d (omega arith)) in
      let small : IsSmallRow (get_or places n d) = table.small n d (omega arith) in
      let late : (get_or places n d).at.stop.latest ≡ (stop_on c n).latest = ap (λ s. s.latest) (known.at.stop) in
      let is_end = stop-is (limits_of c) (stop_on c) b n (j + 1) rest same (get_or places n d) known (omega arith) (j - 1) at s
      (omega arith) is kept (sym here ∙ ap b (sym (omega arith))) in
      subst (λ q. EndIs (limits_of c) b l (length_along (stop_on c) q) (with_stop (limits_of c) at s (get_or places n d))) total
      (subst (λ q. EndIs (limits_of c) b q (length_along (stop_on c) (n + rest)) (with_stop (limits_of c) at s (get_or places n d))) (sym end) is_end)

  pub single-is : (i : ℕ) (s : Stop) (d : PlaceSlack) → 1 ≤ i → i ≤ length c.stops + 1 → ((k : ℕ) → k ≤ i - 1 → b k ≡ stop_on c k) → b i ≡ s
      → ((k : ℕ) → b (i + 1 + k) ≡ stop_on c (i + k)) → IsEnd (length c.stops + 2) (with_single (limits_of c) places s i d)
  single-is i s d one most prefix here following =
      rest-is i i (length c.stops + 2) d (get_or places (i - 1) d).at s one most (omega arith) here following
      (prefix-at (i - 1) prefix (omega arith) d) (prefix-in (i - 1) prefix (omega arith))

  -- the trip through a pickup at place i and then n places of the table
  walked-is : (i n : ℕ) (p : Stop) (d : PlaceSlack) → 1 ≤ i → i + n ≤ length c.stops + 1 → ((k : ℕ) → k ≤ i - 1 → b k ≡ stop_on c k) → b i ≡ p
      → ((k : ℕ) → k < n → b (i + 1 + k) ≡ stop_on c (i + k)) → WalkIs (limits_of c) b (i + n) (walked (limits_of c) places p i d n)
  unfolding WalkIs
  walked-is i zero p d one most prefix first middle =
      subst (λ k. WalkIs (limits_of c) b k (walked (limits_of c) places p i d 0)) (omega arith)
      (walk-on (limits_of c) b (i - 1) (Some (get_or places (i - 1) d).at) p
      (prefix-at (i - 1) prefix (omega arith) d, prefix-in (i - 1) prefix (omega arith)) (sym (ap b (omega arith) ∙ first)))
  walked-is i (suc n) p d one most prefix first middle =
      subst (λ k. WalkIs (limits_of c) b k (walked (limits_of c) places p i d (suc n))) (omega arith)
      (walk-on (limits_of c) b (i + n) (walked (limits_of c) places p i d n) (get_or places (i + n) d).at.stop
      (walked-is i n p d one (omega arith) prefix first (λ k h. middle k (omega arith)))
      ((table.known (i + n) d (omega arith)).at.stop ∙ sym (ap b (omega arith) ∙ middle n (omega arith))))

  pub pair-is : (i j : ℕ) (p q : Stop) (d : PlaceSlack) → 1 ≤ i → i < j → j ≤ length c.stops + 2 → ((k : ℕ) → k ≤ i - 1 → b k ≡ stop_on c k)
      → b i ≡ p → ((k : ℕ) → i + 1 + k < j → b (i + 1 + k) ≡ stop_on c (i + k)) → b j ≡ q
      → ((k : ℕ) → b (j + 1 + k) ≡ stop_on c (j - 1 + k)) → IsEnd (length c.stops + 3) (with_pair (limits_of c) places p q i j d)
  unfolding walk_to
  pair-is i j p q d one order most prefix first middle second following =
      let walk = subst (λ k. WalkIs (limits_of c) b k (walked (limits_of c) places p i d (j - (i + 1)))) (omega arith)
      (walked-is i (j - (i + 1)) p d one (omega arith) prefix first (λ k h. middle k (omega arith))) in
      end-then (limits_of c) b (j - 1) (length c.stops + 3) _ _ (λ at. with_stop (limits_of c) at q (get_or places (j - 1) d)) (omega arith) walk
      (λ at is kept. rest-is j (j - 1) (length c.stops + 3) d at q (omega arith) (omega arith) (omega arith) second following is kept)

-- ---- by numbers
insert-before : (p : Instance) (route : List ℕ) (m x k : ℕ) → m ≤ length route → k ≤ m → place p (insert route m x) k ≡ place p route k
unfolding place
insert-before p route m x zero within h = refl
insert-before p route m x (suc k) within h = ap (stop_numbered p) (get_or-insert_below route m x 0 k (omega arith) within)

insert-at : (p : Instance) (route : List ℕ) (m x : ℕ) → m ≤ length route → place p (insert route m x) (m + 1) ≡ stop_numbered p x
unfolding place
insert-at p route m x within = rw (add-one m) (ap (stop_numbered p) (get_or-insert_at route m x 0 within))

insert-following : (p : Instance) (route : List ℕ) (m x k : ℕ) → m ≤ length route → m ≤ k → place p (insert route m x) (k + 1 + 1) ≡ place p route (k + 1)
unfolding place
insert-following p route m x k within h =
    rw (add-one (k + 1), add-one k)
    (ap (stop_numbered p)
    (subst (λ i. get_or (insert route m x) i 0 ≡ get_or route k 0) (add-one k) (get_or-insert_above route m x 0 k h within)))

-- the stop of a current request is found by its number
numbered-is : (p : Instance) (s : Stop) → IsStop s → stop_at p s.number ≡ Some s → stop_numbered p s.number ≡ s
numbered-is p s valid found =
    let positive : eqb s.number 0 ≡ false = ne_eqb s.number 0 (λ e. let one = valid.from_one in omega arith) in
    rw (positive, found) refl

pub valid-among : (name : ℕ) (es : List (ℕ × Request)) (r : Request) → AllByRecursion (λ e. IsRequest e.1) es → lookup (nat_eq name) es ≡ Some r → IsRequest r
valid-among name [] r valid is = absurd (cc)
valid-among name (e ∷ es) r valid is = by (eqb name e.0) refl (λ found. valid-among name es r valid.1 found)
  where
    by : (t : Bool) → eqb name e.0 ≡ t → (lookup (nat_eq name) es ≡ Some r → IsRequest r) → IsRequest r
    by true h later =
        let same : Some e.1 ≡ Some r = subst (λ t. cond t (Some e.1) (lookup (nat_eq name) es) ≡ Some r) h is in
        let one : e.1 ≡ r = cc in
        subst IsRequest one valid.0
    by false h later = later (subst (λ t. cond t (Some e.1) (lookup (nat_eq name) es) ≡ Some r) h is)

pub request-valid : (p : Instance) (name : ℕ) (r : Request) → IsInstance p → request_named p name ≡ Some r → IsRequest r
request-valid p name r valid is = valid-among name p.requests r valid.valid is

pub single-found : (s : Stop) → stop_in s.number (Single s) ≡ Some s
single-found s = rw (eq-eqb s.number s.number refl) refl

pickup-found : (p d : Stop) → stop_in p.number (Pair p d) ≡ Some p
pickup-found p d = rw (eq-eqb p.number p.number refl) refl

pub delivery-found : (p d : Stop) → p.number ≢ d.number → stop_in d.number (Pair p d) ≡ Some d
delivery-found p d apart = rw (ne_eqb p.number d.number apart, eq-eqb d.number d.number refl) refl

-- a stop of the request is found in the problem by its number
pub stop-is-found : (p : Instance) (name : ℕ) (r : Request) (s : Stop) → NamedRequestsAreFound → IsInstance p → request_named p name ≡ Some r
    → IsStop s → stop_in s.number r ≡ Some s → stop_numbered p s.number ≡ s
stop-is-found p name r s law valid named stop own =
    numbered-is p s stop ((law p s.number name r valid named (subst (λ o. IsSome o) (sym own) refl)).stop ∙ own)

-- ---- the result of try_insert
module _ (p : Instance) (c : Course) (places : List PlaceSlack) (table : AreKnown c places) (valid : IsInstance p) (is : IsCourseIn p c) where
  on_course : place p (course_route c) ≡ stop_on c
  on_course = places-on p (course_route c) c is

  at-course : (k : ℕ) → place p (course_route c) k ≡ stop_on c k
  at-course k = ap (λ f. f k) on_course

  long : length c.stops ≡ length (course_route c)
  long = long-on p (course_route c) c is

  same_kind : p.kind ≡ c.kind
  same_kind = ap (λ q. q.kind) is

  same_capacity : p.capacity ≡ c.capacity
  same_capacity = ap (λ q. q.capacity) is

  added-is : (new : List ℕ) (l : ℕ) (o : Option ℤ) → l ≡ length new + 1 → IsEnd c places table (place p new) l o → IsAdded p (course_route c) new o
  unfolding EndIs
  added-is new l None end never = λ keeps.
      never (subst (λ l. IsInLimits c.kind c.capacity (place p new) l) (sym end)
      (subst (λ q. IsInLimits c.kind q (place p new) (length new + 1)) same_capacity
      (subst (λ q. IsInLimits q p.capacity (place p new) (length new + 1)) same_kind (limits-to p new valid.depot.demand keeps))))
  added-is new l (Some added) end found =
      let keeps : IsInLimits c.kind c.capacity (place p new) (length new + 1) = subst (λ l. IsInLimits c.kind c.capacity (place p new) l) end found.0 in
      let by_capacity : IsInLimits c.kind p.capacity (place p new) (length new + 1) =
      subst (λ q. IsInLimits c.kind q (place p new) (length new + 1)) (sym same_capacity) keeps in
      let by_kind : IsInLimits p.kind p.capacity (place p new) (length new + 1) =
      subst (λ q. IsInLimits q p.capacity (place p new) (length new + 1)) (sym same_kind) by_capacity in
      let far : length_along (place p new) l ≡ route_length p new = ap (length_along (place p new)) end ∙ sym (length-is p new) in
      let near : length_along (stop_on c) (length c.stops + 1) ≡ route_length p (course_route c) =
      ap (λ f. length_along f (length c.stops + 1)) (sym on_course)
      ∙ (ap (λ n. length_along (place p (course_route c)) (n + 1)) long ∙ sym (length-is p (course_route c))) in
      (limits-from p new by_kind, ap pos (sym far) ∙ (found.1 ∙ ap (λ n. pos n +ℤ added) near))

  pub single-added : (law : NamedRequestsAreFound) (name i j : ℕ) (s : Stop) (d : PlaceSlack) (o : Option ℤ) → request_named p name ≡ Some (Single s)
      → ArePlaces (Single s) (length (course_route c)) i j → o ≡ with_single (limits_of c) places s i d
      → IsAdded p (course_route c) (inserted (Single s) i j (course_route c)) o
  single-added law name i j s d o named are made =
      let stop = request-valid p name (Single s) valid named in
      let own : stop_numbered p s.number ≡ s = stop-is-found p name (Single s) s law valid named stop.0 (single-found s) in
      let new = insert (course_route c) (i - 1) s.number in
      let one = are.0 in
      let fits : i - 1 ≤ length (course_route c) = omega arith in
      let end = single-is c places table (place p new) i s d one (omega (arith, long))
      (λ k h. insert-before p (course_route c) (i - 1) s.number k fits h ∙ at-course k)
      (let at : i - 1 + 1 ≡ i = omega arith in ap (place p new) (sym at) ∙ (insert-at p (course_route c) (i - 1) s.number fits ∙ own))
      (λ k. (let here : i + 1 + k ≡ (i - 1 + k) + 1 + 1 = omega arith in let there : (i - 1 + k) + 1 ≡ i + k = omega arith in
      ap (place p new) here
      ∙ (insert-following p (course_route c) (i - 1) s.number (i - 1 + k) fits (omega arith)
      ∙ (ap (place p (course_route c)) there ∙ at-course (i + k))))) in
      added-is new (length c.stops + 2) o (omega (arith, long, length-insert (course_route c) (i - 1) s.number fits))
      (subst (IsEnd c places table (place p new) (length c.stops + 2)) (sym made) end)

  pub pair-added : (law : NamedRequestsAreFound) (name i j : ℕ) (s t : Stop) (d : PlaceSlack) (o : Option ℤ) → request_named p name ≡ Some (Pair s t)
      → ArePlaces (Pair s t) (length (course_route c)) i j → o ≡ with_pair (limits_of c) places s t i j d
      → IsAdded p (course_route c) (inserted (Pair s t) i j (course_route c)) o
  pair-added law name i j s t d o named are made =
      let request = request-valid p name (Pair s t) valid named in
      let pickup : stop_numbered p s.number ≡ s = stop-is-found p name (Pair s t) s law valid named request.0 (pickup-found s t) in
      let delivery : stop_numbered p t.number ≡ t = stop-is-found p name (Pair s t) t law valid named request.1 (delivery-found s t request.2) in
      let inner = insert (course_route c) (i - 1) s.number in
      let new = insert (insert (course_route c) (i - 1) s.number) (j - 1) t.number in
      let one = are.0 in
      let order = are.1 in
      let fits : i - 1 ≤ length (course_route c) = omega arith in
      let longer : length (insert (course_route c) (i - 1) s.number) ≡ length (course_route c) + 1 = length-insert (course_route c) (i - 1) s.number fits in
      let fits_inner : j - 1 ≤ length (insert (course_route c) (i - 1) s.number) = omega arith in
      let end = pair-is c places table (place p new) i j s t d one order (omega (arith, long))
      (λ k h. insert-before p inner (j - 1) t.number k fits_inner (omega arith) ∙ (insert-before p (course_route c) (i - 1) s.number k fits h ∙ at-course k))
      (let at : i - 1 + 1 ≡ i = omega arith in
      insert-before p inner (j - 1) t.number i fits_inner (omega arith)
      ∙ (ap (place p inner) (sym at) ∙ (insert-at p (course_route c) (i - 1) s.number fits ∙ pickup)))
      (λ k h. (let here : i + 1 + k ≡ (i - 1 + k) + 1 + 1 = omega arith in let there : (i - 1 + k) + 1 ≡ i + k = omega arith in
      insert-before p inner (j - 1) t.number (i + 1 + k) fits_inner (omega arith) ∙
      (ap (place p inner) here
      ∙ (insert-following p (course_route c) (i - 1) s.number (i - 1 + k) fits (omega arith)
      ∙ (ap (place p (course_route c)) there ∙ at-course (i + k))))))
      (let at : j - 1 + 1 ≡ j = omega arith in ap (place p new) (sym at) ∙ (insert-at p inner (j - 1) t.number fits_inner ∙ delivery))
      (λ k.
      (let here : j + 1 + k ≡ (j - 1 + k) + 1 + 1 = omega arith in
      let there : (j - 1 + k) + 1 ≡ (j - 2 + k) + 1 + 1 = omega arith in
      let last_one : (j - 2 + k) + 1 ≡ j - 1 + k = omega arith in
      ap (place p new) here ∙ (insert-following p inner (j - 1) t.number (j - 1 + k) fits_inner (omega arith) ∙
      (ap (place p inner) there
      ∙ (insert-following p (course_route c) (i - 1) s.number (j - 2 + k) fits (omega arith)
      ∙ (ap (place p (course_route c)) last_one ∙ at-course (j - 1 + k))))))) in
      added-is new (length c.stops + 3) o (omega (arith, long, longer, length-insert inner (j - 1) t.number fits_inner))
      (subst (IsEnd c places table (place p new) (length c.stops + 3)) (sym made) end)
