-- The lists of a state are short enough for the fields of their lengths
use Rattle.std.proofs.Common.{◌≡◌, ℕ, zero, suc, ◌<◌, ◌≤◌, Bool, true, false, List, [], ◌∷◌, ◌++◌, length, take, All, Option, Some, None, refl, sym, ap, ◌∙◌, arith, eqb, length-append, length-take}
use Rattle.std.specs.Prelude.{IsSome, not, is_some, ◌&&◌, ◌||◌, ◌==◌, ◌^◌}
use Rattle.std.specs.List.{list_all, list_any, AllByRecursion, IsDistinct, concat, starts_with}
use Rattle.std.proofs.lemmas.List.Elements.{All-from_recursion}
use Rattle.std.proofs.lemmas.Bool.{eqb-true, and_parts}
use Rattle.plan_types.specs.Request.{IsRequest, stop_in}
use Rattle.plan_types.specs.Instance.{Instance, IsInstance, stop_at, first_some}
use Rattle.plan_types.specs.Laws.{StopsAreBelowNext}
use Rattle.plan_types.specs.declared.requests.Request.{Request}
use Rattle.plan_types.specs.declared.requests.Request.TheVariants.{Single, Pair}
use Rattle.plan_audit.specs.Passes.{has, are_distinct, are_distinct_stops, feasible_alone, begin_with_pins, passes}
use Rattle.std.specs.Prelude.{nat_eq}
use Rattle.std.proofs.lemmas.Slice.Eq.{bytes_eq-Decides}
use Rattle.plan_types.proofs.RequestCounts.{AreBelow, few, few_requests, not_zero}
use Rattle.command_types.specs.Job.{JobValue, IsJob}
use Rattle.state_codec.proofs.RouteLaws.{BeginsRoute, ArePrefixes}

-- No stop has the depot's number
zero_in : (es : List (ℕ × Request)) → AllByRecursion (λ e. IsRequest e.1) es → first_some (stop_in 0) es ≡ None
zero_in [] h = refl
zero_in ((n, Single s) ∷ es) h = rw (not_zero s.number h.0.0.from_one) (zero_in es h.1)
zero_in ((n, Pair a b) ∷ es) h = rw (not_zero a.number h.0.0.from_one, not_zero b.number h.0.1.from_one) (zero_in es h.1)

not_true : (b : Bool) → not b ≡ true → b ≡ false
not_true true e = sym e
not_true false e = refl

parts_or : (a b : Bool) → (a || b) ≡ false → (a ≡ false) × (b ≡ false)
parts_or true b h = absurd cc
parts_or false b h = (refl, h)

all_other : (n : ℕ) (ns : List ℕ) → list_any (eqb n) ns ≡ false → AllByRecursion (λ m. eqb n m ≡ false) ns
all_other n [] h = tt
all_other n (m ∷ ns) h = let p = parts_or (eqb n m) (list_any (eqb n) ns) h in (p.0, all_other n ns p.1)

distinct_is : (ns : List ℕ) → are_distinct ns ≡ true → IsDistinct eqb ns
unfolding IsDistinct
distinct_is [] h = tt
distinct_is (n ∷ ns) h = let p = and_parts (not (has ns n)) (are_distinct ns) h in (all_other n ns (not_true (has ns n) p.0), distinct_is ns p.1)

module _ (law : StopsAreBelowNext) (p : Instance) (is : IsInstance p) where
  known_below : (ns : List ℕ) → list_all (λ n. is_some (stop_at p n)) ns ≡ true → AreBelow p.next_number ns
  known_below [] h = tt
  known_below (zero ∷ ns) h =
      let q = and_parts (is_some (stop_at p 0)) (list_all (λ n. is_some (stop_at p n)) ns) h in
      let none : is_some (stop_at p 0) ≡ false = ap is_some (zero_in p.requests is.valid) in
      absurd cc
  known_below (suc n ∷ ns) h =
      let q = and_parts (is_some (stop_at p (suc n))) (list_all (λ n. is_some (stop_at p n)) ns) h in
      ((omega arith, law p (suc n) is (some (stop_at p (suc n)) q.0)), known_below ns q.1)
    where
      some : {X : Type 0} (o : Option X) → is_some o ≡ true → IsSome o
      some None e = absurd cc
      some (Some x) e = refl

  -- A plan has fewer stops than `next_number`, and each has a number below it
  pub few_known : (ns : List ℕ) → are_distinct_stops p ns ≡ true → (length ns < p.next_number) × AreBelow p.next_number ns
  few_known ns h =
      let q = and_parts (list_all (λ n. is_some (stop_at p n)) ns) (are_distinct ns) h in
      let below = known_below ns q.0 in
      (few p.next_number ns (distinct_is ns q.1) below is.next_number_min, below)

-- ---- routes and pins

pub short_routes : (routes : List (List ℕ)) (n : ℕ) → length (concat routes) ≤ n → AllByRecursion (λ r. length r ≤ n) routes
short_routes [] n h = tt
short_routes (r ∷ routes) n h =
    let whole = length-append r (concat routes) in
    (omega (arith, h, whole), short_routes routes n (omega (arith, h, whole)))

begins : (route pin : List ℕ) → starts_with nat_eq route pin ≡ true → BeginsRoute pin route
begins route pin h =
    let same = (bytes_eq-Decides pin (take (length pin) route)).0 h in
    record { prefix = sym same; within = omega (arith, length-take (length pin) route, ap length same) }

prefixes : (routes pins : List (List ℕ)) → length pins ≡ length routes → begin_with_pins routes pins ≡ true → ArePrefixes pins routes
prefixes [] [] same h = tt
prefixes (r ∷ routes) [] same h = absurd (omega (arith, same))
prefixes [] (p ∷ pins) same h = absurd (omega (arith, same))
prefixes (r ∷ routes) (p ∷ pins) same h =
    let q = and_parts (starts_with nat_eq r p) (begin_with_pins routes pins) h in
    (begins r p q.0, prefixes routes pins (omega (arith, same)) q.1)

short_pins : (n : ℕ) (pins routes : List (List ℕ)) → ArePrefixes pins routes → AllByRecursion (λ r. length r ≤ n) routes → AllByRecursion (λ r. length r ≤ n) pins
short_pins n [] routes h s = tt
short_pins n (p ∷ pins) [] h s = absurd h
short_pins n (p ∷ pins) (r ∷ routes) h s = (omega (arith, h.0.within, s.0), short_pins n pins routes h.1 s.1)

parts_below : (next : ℕ) (routes : List (List ℕ)) → AreBelow next (concat routes) → AllByRecursion (AreBelow next) routes
parts_below next [] h = tt
parts_below next (r ∷ routes) h = let q = split_below next r (concat routes) h in (q.0, parts_below next routes q.1)
  where
    split_below : (next : ℕ) (xs ys : List ℕ) → AreBelow next (xs ++ ys) → AreBelow next xs × AreBelow next ys
    split_below next [] ys h = (tt, h)
    split_below next (x ∷ xs) ys h = let q = split_below next xs ys h.1 in ((h.0, q.0), q.1)

-- Facts about a plan that passes
pub record IsSized (p : Instance) (routes pins : List (List ℕ)) : Type 0 where
  pub total : length (concat routes) < p.next_number
  pub each : AllByRecursion (λ r. length r ≤ 40000) routes
  pub below : AllByRecursion (AreBelow p.next_number) routes
  pub fleet : length routes ≡ p.fleet
  pub begins : begin_with_pins routes pins ≡ true

pub sized : StopsAreBelowNext → (p : Instance) → IsInstance p → (routes pins : List (List ℕ)) → passes p pins routes ≡ true → IsSized p routes pins
unfolding passes
sized law p is routes pins h =
    let a = and_parts (are_distinct_stops p (concat routes)) ((length routes == p.fleet) && (list_all (feasible_alone p) routes && begin_with_pins routes pins)) h in
    let b = and_parts (length routes == p.fleet) (list_all (feasible_alone p) routes && begin_with_pins routes pins) a.1 in
    let d = and_parts (list_all (feasible_alone p) routes) (begin_with_pins routes pins) b.1 in
    let known = few_known law p is (concat routes) a.0 in
    record {
      total = known.0;
      each = short_routes routes 40000 (omega (arith, known.0, is.next_number_max));
      below = parts_below p.next_number routes known.1;
      fleet = eqb-true (length routes) p.fleet b.0;
      begins = d.1;
    }

-- Facts about a job
pub record Sizes (j : JobValue) : Type 0 where
  pub plan : IsSized j.problem j.plan j.pins
  pub work : IsSized j.problem j.work j.pins
  pub same : length j.pins ≡ length j.plan
  pub prefixes : ArePrefixes j.pins j.plan
  pub pins : AllByRecursion (λ r. length r ≤ 40000) j.pins
  pub requests : length j.problem.requests ≤ 40000

pub sizes : StopsAreBelowNext → (j : JobValue) → IsJob j → Sizes j
sizes law j is =
    let plan = sized law j.problem is.problem j.plan j.pins is.plan in
    let same : length j.pins ≡ length j.plan = is.fleet ∙ sym plan.fleet in
    let prefix = prefixes j.plan j.pins same plan.begins in
    record {
      plan = plan;
      work = sized law j.problem is.problem j.work j.pins is.work;
      same = same;
      prefixes = prefix;
      pins = short_pins 40000 j.pins j.plan prefix plan.each;
      requests = few_requests j.problem is.problem;
    }

-- Routes of at most 40,000 stops have lengths that fit into four bytes
pub fit : (routes : List (List ℕ)) → AllByRecursion (λ r. length r ≤ 40000) routes → All (λ r. length r < 2 ^ 32) routes
fit routes h = All-from_recursion (λ r. length r < 2 ^ 32) routes (by routes h)
  where
    by : (routes : List (List ℕ)) → AllByRecursion (λ r. length r ≤ 40000) routes → AllByRecursion (λ r. length r < 2 ^ 32) routes
    by [] h = tt
    by (r ∷ routes) h = (omega (arith, h.0), by routes h.1)
