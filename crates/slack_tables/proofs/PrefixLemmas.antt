-- A route with a shared prefix: up to its end the vehicle has the same states at the same places.
use Rattle.std.proofs.Common.{◌≡◌, ◌∙◌, ℕ, zero, suc, ◌+◌, ◌≤◌, ◌<◌, ◌≤ℤ◌, pos, List, ◌∷◌, get_or, length, refl, sym, ap, add-one, arith, subst}
use Rattle.std.proofs.lemmas.List.{get_or-map, get_or_default, length-map}
use Rattle.std.proofs.Math.ListN as lists
use Rattle.plan_types.specs.Instance.{Instance}
use Rattle.plan_types.specs.Limits.{IsVisit}
use Rattle.plan_types.specs.declared.requests.Stop.{Stop}
use Rattle.plan_types.specs.declared.requests.Kind.{Kind}
use Rattle.route_sched.specs.Route.{place, stop_numbered}
use Rattle.route_sched.proofs.KnownStops.{place-first}
use Rattle.slack_tables.specs.Along.{stop_on}
use Rattle.slack_tables.specs.Course.{Course, course_route, IsCourseIn}
use Rattle.slack_tables.specs.SharedPrefix.{IsSharedPrefix, HasReached, KnowsPrefixes}
use Rattle.slack_tables.specs.TableFields.{limits_of, AreKnown, IsInLimits}
use Rattle.slack_tables.specs.ForwardPass.{at_depot}
use Rattle.slack_tables.specs.TableCursor.{IsStopAt, KnowsStops}
use Rattle.slack_tables.specs.Places.{IsAt}
use Rattle.slack_tables.specs.declared.progress.PlaceSlack.{PlaceSlack}
use Rattle.slack_tables.specs.declared.progress.Progress.{Progress}
use Rattle.slack_tables.proofs.AlongLemmas.{same-start, same-load, same-length}
use Rattle.slack_tables.proofs.CourseLemmas.{places-on}
use Rattle.slack_tables.proofs.SpliceLemmas.{kept-fewer, kept-none}
use Rattle.slack_tables.proofs.OpenLemmas.{at-begin, within-begin}

-- ---- two routes with the same stops up to place n
module _ (a b : ℕ → Stop) (n : ℕ) (same : (k : ℕ) → k ≤ n → b k ≡ a k) where
  pub at-same : (x : Progress) → IsAt a n x → IsAt b n x
  at-same x is = record {
    stop = is.stop ∙ sym (same n (omega arith));
    start = is.start ∙ sym (same-start a b n same n (omega arith));
    load = is.load ∙ sym (same-load a b n same n (omega arith));
    distance = is.distance ∙ sym (same-length a b n same n (omega arith));
  }

  pub kept-same : (kind : Kind) (capacity : ℕ) → IsInLimits kind capacity a n → IsInLimits kind capacity b n
  kept-same kind capacity is = record {
    load = λ k h j. subst (λ x. x ≤ℤ pos capacity) (sym (same-load a b n same k j)) (is.load k h j);
    window = λ lilim k h j.
        (let start = same-start a b n same k j in
        let stop : (b k).latest ≡ (a k).latest = ap (λ s. s.latest) (same k j) in
        let le = is.window lilim k h j in
        omega arith);
  }

-- ---- the table of a route
module _ (p : Instance) (c : Course) (places : List PlaceSlack) (table : AreKnown c places) (course : IsCourseIn p c) (route : List ℕ) (n : ℕ)
    (d : PlaceSlack) (within : n + 1 < length places) (shared : IsSharedPrefix places route n) where
  on : place p (course_route c) ≡ stop_on c
  on = places-on p (course_route c) c course

  -- the number at a place of the route is the number at the same place of the table
  same-number : (k : ℕ) → k < n → get_or route k 0 ≡ get_or (course_route c) k 0
  same-number k h =
      let stop : (get_or places (k + 1) d).at.stop ≡ stop_on c (k + 1) = (table.known (k + 1) d (omega arith)).at.stop in
      let next : stop_on c (k + 1) ≡ get_or c.stops k c.depot = ap (stop_on c) (add-one k) in
      let read : get_or (course_route c) k c.depot.number ≡ (get_or c.stops k c.depot).number =
      get_or-map (λ (s : Stop). s.number) c.stops k c.depot c.depot.number (omega arith) in
      let default : get_or (course_route c) k 0 ≡ get_or (course_route c) k c.depot.number =
      get_or_default (course_route c) k 0 c.depot.number (omega (arith, length-map c.stops (λ (s : Stop). s.number))) in
      sym (shared k d h) ∙ (ap (λ s. s.number) (stop ∙ next) ∙ (sym read ∙ sym default))

  same-place : (k : ℕ) → k ≤ n → place p route k ≡ stop_on c k
  unfolding place
  same-place k h = by k h ∙ ap (λ f. f k) on
    where
      by : (k : ℕ) → k ≤ n → place p route k ≡ place p (course_route c) k
      by zero _ = refl
      by (suc k) h = ap (stop_numbered p) (same-number k (omega arith))

  has-come : HasReached p route n (get_or places n d).at
  has-come =
      record {
        at = at-same (stop_on c) (place p route) n same-place (get_or places n d).at ((table.known n d (omega arith)).at);
        within = table.within n d (omega arith);
        kept = kept-same (stop_on c) (place p route) n same-place p.kind p.capacity (kept-fewer-to n (omega arith));
      }
    where
      kind : c.kind ≡ p.kind
      kind = sym (ap (λ (q : Course). q.kind) course)

      capacity : c.capacity ≡ p.capacity
      capacity = sym (ap (λ (q : Course). q.capacity) course)

      kept-fewer-to : (m : ℕ) → m ≤ length c.stops + 1 → IsInLimits p.kind p.capacity (stop_on c) m
      kept-fewer-to m h =
          subst (λ x. IsInLimits x p.capacity (stop_on c) m) kind
          (subst (λ x. IsInLimits c.kind x (stop_on c) m) capacity
          (kept-fewer (record { kind = c.kind; capacity = c.capacity }) (stop_on c) m (length c.stops + 1) h table.limits))

pub knows-prefixes : (p : Instance) (c : Course) (places : List PlaceSlack) → AreKnown c places → IsCourseIn p c → KnowsPrefixes p places
knows-prefixes p c places table course = λ route n d within shared. has-come p c places table course route n d within shared

-- ---- the same numbers mean the same stops
module _ (p : Instance) (c : Course) (places : List PlaceSlack) (table : AreKnown c places) (course : IsCourseIn p c) (depot : p.depot.number ≡ 0) where
  none : c.depot.number ≡ 0
  none = ap (λ (q : Course). q.depot.number) (sym course) ∙ depot

  number-on : (n : ℕ) → get_or (0 ∷ course_route c) n 0 ≡ (stop_on c n).number
  number-on n = subst (λ m. get_or (m ∷ course_route c) n m ≡ (stop_on c n).number) none (lists.get_or-map (λ (s : Stop). s.number) (c.depot ∷ c.stops) n c.depot)

  numbered : (n : ℕ) → stop_on c n ≡ stop_numbered p (stop_on c n).number
  unfolding place
  numbered n = ap (λ f. f n) (sym (places-on p (course_route c) c course)) ∙ ap (stop_numbered p) (number-on n)

  as-place : (route : List ℕ) (k : ℕ) → stop_numbered p (get_or route k 0) ≡ place p route (k + 1)
  unfolding place
  as-place route k = ap (λ m. stop_numbered p (get_or (0 ∷ route) m 0)) (sym (add-one k))

  pub stop-at : (route : List ℕ) (n k : ℕ) (d : PlaceSlack) → n < length places → (get_or places n d).at.stop.number ≡ get_or route k 0
      → IsStopAt p route (k + 1) (get_or places n d).at.stop
  stop-at route n k d within same =
      let on : (get_or places n d).at.stop ≡ stop_on c n = (table.known n d within).at.stop in
      record {
        stop = on ∙ (numbered n ∙ (ap (stop_numbered p) (ap (λ s. s.number) (sym on) ∙ same) ∙ as-place route k));
        visit = (table.within n d within).visit;
      }

pub knows-stops : (p : Instance) (c : Course) (places : List PlaceSlack) → AreKnown c places → IsCourseIn p c → KnowsStops p places
knows-stops p c places table course = λ route n k d depot within same. stop-at p c places table course depot route n k d within same

-- the state before the first stop
pub come-begin : (p : Instance) (route : List ℕ) (n : ℕ) (depot : Stop) (a : Progress) → n ≡ 0 → depot ≡ p.depot → IsVisit depot
    → a ≡ at_depot depot → HasReached p route n a
come-begin p route n depot a none is visit made = subst (λ m. HasReached p route m a) (sym none) (record {
  at = at-begin (place p route) depot a (place-first p route ∙ sym is) made;
  within = within-begin depot a visit made;
  kept = kept-none (limits_of p) (place p route);
})
