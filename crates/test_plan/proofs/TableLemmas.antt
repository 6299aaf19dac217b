-- The conditions on a route that the examples check before they build its table.
use Rattle.std.proofs.Common.{◌≡◌, ℕ, ◌+◌, ◌-◌, ◌<◌, ◌≤◌, ◌≤ℤ◌, ◌⊎◌, pos, List, get_or, length, sym, ap, ◌∙◌, arith, subst, inl, inr}
use Rattle.std.proofs.lemmas.Bool.{cases_lt}
use Rattle.std.proofs.lemmas.List.{get_or_default}
use Rattle.std.proofs.lemmas.List.FromFn.{get_or-map-range_with_len, length-map-range_with_len}
use Rattle.plan_types.specs.Instance.{Instance}
use Rattle.plan_types.specs.declared.requests.Kind.{Kind}
use Rattle.plan_types.specs.declared.requests.Kind.TheVariants.{LiLim}
use Rattle.route_sched.specs.Route.{place}
use Rattle.route_sched.specs.Schedule.{start, load}
use Rattle.route_sched.specs.VisitList.{visits_from, visit_after}
use Rattle.route_sched.specs.declared.visits.Visit.{Visit}
use Rattle.route_sched.proofs.KnownStops.{place-return}
use Rattle.slack_tables.specs.Course.{Course, course_of, course_route, IsCourseIn}
use Rattle.slack_tables.specs.Insertion.{KeepsLimits}

-- the load and the start keep their limits at this place
abbrev pub Keeps : Kind → ℕ → Visit → Type 0
Keeps kind capacity v = (v.load ≤ℤ pos capacity) × (kind ≡ LiLim → v.start ≤ v.stop.latest)

-- the load and the start keep their limits at the first n places
abbrev pub KeepTo : Kind → ℕ → List Visit → ℕ → Type 0
KeepTo kind capacity visits n = (k : ℕ) (d : Visit) → k < n → Keeps kind capacity (get_or visits k d)

pub keep-more : (kind : Kind) (capacity : ℕ) (visits : List Visit) (n : ℕ) (e : Visit) → KeepTo kind capacity visits n → n < length visits
    → Keeps kind capacity (get_or visits n e) → KeepTo kind capacity visits (n + 1)
keep-more kind capacity visits n e before within here k d h = by (cases_lt k n)
  where
    by : (k < n) ⊎ (n ≤ k) → Keeps kind capacity (get_or visits k d)
    by (inl lt) = before k d lt
    by (inr at) =
        let same : n ≡ k = omega arith in
        subst (λ i. Keeps kind capacity (get_or visits i d)) same (subst (Keeps kind capacity) (get_or_default visits n e d within) here)

-- if each visit keeps the limits, the route does
module _ (p : Instance) (route : List ℕ) (visits : List Visit) (is : visits ≡ visits_from p route 0) (keep : KeepTo p.kind p.capacity visits (length visits)) where
  seen : (i : ℕ) → i ≤ length route → Keeps p.kind p.capacity (visit_after p route i)
  seen i h =
      let long : length visits ≡ length route + 1 - 0 = ap length is ∙ length-map-range_with_len (visit_after p route) 0 (length route + 1 - 0) in
      let at : get_or visits i (visit_after p route 0) ≡ visit_after p route i = ap (λ vs. get_or vs i (visit_after p route 0)) is
      ∙ get_or-map-range_with_len (visit_after p route) 0 (length route + 1 - 0) i i _ (omega arith) (omega arith) in
      subst (Keeps p.kind p.capacity) at (keep i (visit_after p route 0) (omega arith))

  pub limits-seen : KeepsLimits p route
  limits-seen = record {
    load = λ i from to.
        (let e : i - 1 + 1 ≡ i = omega arith in
        subst (λ m. load p route m ≤ℤ pos p.capacity) e (seen (i - 1) (omega arith)).0);
    window = λ lilim i from to.
        (let e : i - 1 + 1 ≡ i = omega arith in
        subst (λ m. start p route m ≤ (place p route m).latest) e ((seen (i - 1) (omega arith)).1 lilim));
    return = λ lilim.
        subst (λ s. start p route (length route + 1) ≤ s.latest) (place-return p route (length route) (omega arith)) ((seen (length route) (omega arith)).1 lilim);
  }

-- a table that `build` returns belongs to this problem
pub built-is : (p : Instance) (route : List ℕ) (c : Course) → c ≡ course_of p route → course_route c ≡ route → IsCourseIn p c
built-is p route c course numbers = ap (course_of p) numbers ∙ sym course
