-- The table that the two passes compute is that of the route's course.
use Rattle.std.proofs.Common.{◌≡◌, ℕ, suc, ◌+◌, ◌-◌, ◌<◌, ◌≤◌, Bool, true, false, cond, eqb, List, []}
use Rattle.std.proofs.Common.{◌∷◌, Option, Some, None, map, take, drop, get_or, length, refl, sym, ap, ◌∙◌, arith, subst}
use Rattle.std.specs.Prelude.{IsSome, unwrap_or}
use Rattle.std.specs.List.{AllByRecursion}
use Rattle.std.specs.Option.{option_or}
use Rattle.std.proofs.lemmas.Bool.{false≢true, eqb-true}
use Rattle.std.proofs.lemmas.List.Elements.{recursion_from_All}
use Rattle.std.proofs.Math.ListN.{length-map}
use Rattle.std.proofs.lemmas.List.{get_or-map, get_or-take, ext_get_or, length-take, length-drop}
use Rattle.std.proofs.lemmas.Grind.{get_or_after_one}
use Rattle.plan_types.specs.Instance.{Instance, IsInstance, stop_at, first_some}
use Rattle.plan_types.specs.Request.{stop_in}
use Rattle.plan_types.specs.declared.requests.Request.{Request}
use Rattle.plan_types.specs.declared.requests.Request.TheVariants.{Single, Pair}
use Rattle.plan_types.specs.declared.requests.Stop.{Stop}
use Rattle.route_sched.specs.Route.{AreDistinctStops, IsKnownStop, place, stop_numbered}
use Rattle.slack_tables.specs.Course.{Course, course_of, course_route}
use Rattle.slack_tables.specs.Along.{stop_on}
use Rattle.slack_tables.specs.BackwardPass.{EachIsTimely, IsFilled}
use Rattle.slack_tables.specs.Insertion.{KeepsLimits}
use Rattle.slack_tables.specs.TableFields.{stops_within, IsInLimits, AreKnown}
use Rattle.slack_tables.specs.ForwardPass.{AreForwardRows}
use Rattle.slack_tables.specs.Places.{IsKnown}
use Rattle.slack_tables.specs.declared.progress.PlaceSlack.{PlaceSlack}
use Rattle.slack_tables.proofs.CourseLemmas.{place-on, places-on, limits-to}
use Rattle.slack_tables.proofs.KnownLemmas.{timely, known, small, within}

module _ (p : Instance) (route : List ℕ) (valid : IsInstance p) (keeps : KeepsLimits p route) (old : List PlaceSlack)
    (opened : AreForwardRows (place p route) old) (long : length old ≡ length route + 2) where
  limits : IsInLimits p.kind p.capacity (place p route) (length route + 1)
  limits = limits-to p route valid.depot.demand keeps

  pub route_timely : EachIsTimely p.kind old
  route_timely = timely p.kind p.capacity (place p route) (length route + 1) limits old opened (omega arith)

  module _ (new : List PlaceSlack) (same_length : length new ≡ length old) (few : length route ≤ 40001) (filled : IsFilled p.kind old new) where
    known-at : (k : ℕ) (d : PlaceSlack) → k ≤ length route + 1 → IsKnown p.kind (place p route) (length route + 1) k (get_or new k d)
    known-at = known p.kind p.capacity (place p route) (length route + 1) limits old opened (omega arith) new filled

    stops-at : (d : PlaceSlack) (i : ℕ) → i < length route → get_or (stops_within new) i p.depot ≡ get_or (map (stop_numbered p) route) i p.depot
    stops-at d i h =
        let rest = take (length new - 2) (drop 1 new) in
        let rest_long : length (take (length new - 2) (drop 1 new)) ≡ length route =
        omega (arith, length-take (length new - 2) (drop 1 new), length-drop 1 new) in
        let read : get_or (stops_within new) i p.depot ≡ (get_or rest i d).at.stop = get_or-map (λ (e : PlaceSlack). e.at.stop) rest i d p.depot (omega arith) in
        let there : get_or rest i d ≡ get_or new (1 + i) d = get_or-take (length new - 2) (drop 1 new) i d (omega arith) ∙ get_or_after_one new i d in
        let stop : (get_or new (1 + i) d).at.stop ≡ place p route (suc i) = (known-at (1 + i) d (omega arith)).at.stop ∙ ap (place p route) (omega arith) in
        let far : get_or (map (stop_numbered p) route) i p.depot ≡ place p route (suc i) = sym (place-on p route (suc i)) in
        read ∙ (ap (λ e. e.at.stop) there ∙ (stop ∙ sym far))

    stops-are : (d : PlaceSlack) → stops_within new ≡ map (stop_numbered p) route
    stops-are d =
        let rest_long : length (take (length new - 2) (drop 1 new)) ≡ length route =
        omega (arith, length-take (length new - 2) (drop 1 new), length-drop 1 new) in
        let short : length (stops_within new) ≡ length route = length-map (take (length new - 2) (drop 1 new)) (λ (e : PlaceSlack). e.at.stop) ∙ rest_long in
        ext_get_or p.depot (stops_within new) (map (stop_numbered p) route) (short ∙ sym (length-map route (stop_numbered p)))
        (λ i h. stops-at d i (omega arith))

    -- the value of the table in contracts is the route's course
    pub course-is : (d : PlaceSlack)
        → ◌≡◌ {A = Course} (record { kind = p.kind; capacity = p.capacity; depot = p.depot; stops = stops_within new }) (course_of p route)
    course-is d = ap (λ (ss : List Stop). record { kind = p.kind; capacity = p.capacity; depot = p.depot; stops = ss }) (stops-are d)

    are-known : AreKnown (course_of p route) new
    are-known =
        let count : length (map (stop_numbered p) route) ≡ length route = length-map route (stop_numbered p) in
        let on : place p route ≡ stop_on (course_of p route) = places-on p route (course_of p route) refl in
        record {
          long = omega arith;
          few = omega arith;
          small = λ k d h. small p.kind p.capacity (place p route) (length route + 1) limits old opened (omega arith) new filled k d (omega arith);
          within = λ k d h. within p.kind p.capacity (place p route) (length route + 1) limits old opened (omega arith) new filled k d (omega arith);
          known = λ k d h.
              subst (λ n. IsKnown p.kind (stop_on (course_of p route)) (n + 1) k (get_or new k d)) (sym count)
              (subst (λ f. IsKnown p.kind f (length route + 1) k (get_or new k d)) on (known-at k d (omega arith)));
          limits =
              subst (λ n. IsInLimits p.kind p.capacity (stop_on (course_of p route)) (n + 1)) (sym count)
              (subst (λ f. IsInLimits p.kind p.capacity f (length route + 1)) on limits);
        }

    -- the places are also those of any course that equals the route's course
    pub known-as : (c : Course) → c ≡ course_of p route → AreKnown c new
    known-as c is = subst (λ c. AreKnown c new) (sym is) are-known

-- ---- the stop of a current request has its number
chosen : (t : Stop) (n : ℕ) (o : Option Stop) (s : Stop) → (o ≡ Some s → s.number ≡ n) → cond (eqb t.number n) (Some t) o ≡ Some s → s.number ≡ n
chosen t n o s other is = by (eqb t.number n) refl is
  where
    by : (b : Bool) → eqb t.number n ≡ b → cond b (Some t) o ≡ Some s → s.number ≡ n
    by true h same = let one : t ≡ s = cc in ap (λ x. x.number) (sym one) ∙ eqb-true t.number n h
    by false h same = other same

nothing : (n : ℕ) (s : Stop) → None ≡ Some s → s.number ≡ n
nothing n s h = absurd (cc)

number-in : (n : ℕ) (r : Request) (s : Stop) → stop_in n r ≡ Some s → s.number ≡ n
number-in n (Single t) s is = chosen t n None s (nothing n s) is
number-in n (Pair t u) s is = chosen t n (cond (eqb u.number n) (Some u) None) s (λ h. chosen u n None s (nothing n s) h) is

number-among : (n : ℕ) (es : List (ℕ × Request)) (s : Stop) → first_some (stop_in n) es ≡ Some s → s.number ≡ n
number-among n [] s is = nothing n s is
number-among n (e ∷ es) s is = by (stop_in n e.1) (number-in n e.1 s) (number-among n es s) is
  where
    by : (o : Option Stop) → (o ≡ Some s → s.number ≡ n) → (first_some (stop_in n) es ≡ Some s → s.number ≡ n)
        → option_or o (first_some (stop_in n) es) ≡ Some s → s.number ≡ n
    by None here later h = later h
    by (Some t) here later h = here h

known-number : (p : Instance) (n : ℕ) → IsInstance p → IsKnownStop p n → (stop_numbered p n).number ≡ n
known-number p n valid known = by (stop_at p n) refl known (eqb n 0) refl
  where
    by : (o : Option Stop) → stop_at p n ≡ o → IsSome o → (b : Bool) → eqb n 0 ≡ b → (cond b p.depot (unwrap_or o p.depot)).number ≡ n
    by None is some b h = absurd (false≢true some)
    by (Some s) is some true h = valid.depot.number ∙ sym (eqb-true n 0 h)
    by (Some s) is some false h = number-among n p.requests s is

numbers-by : (p : Instance) (route : List ℕ) → IsInstance p → AllByRecursion (IsKnownStop p) route
    → map (λ (s : Stop). s.number) (map (stop_numbered p) route) ≡ route
numbers-by p [] valid known = refl
numbers-by p (n ∷ route) valid known =
    ap (λ m. m ∷ map (λ (s : Stop). s.number) (map (stop_numbered p) route)) (known-number p n valid known.0)
    ∙ ap (λ ns. n ∷ ns) (numbers-by p route valid known.1)

-- the numbers of a route's course are the route
pub numbers-are : (p : Instance) (route : List ℕ) → IsInstance p → AreDistinctStops p route → course_route (course_of p route) ≡ route
numbers-are p route valid once = numbers-by p route valid (recursion_from_All (IsKnownStop p) route once.live)
