-- The bytes of a state that satisfies its invariants are read as this state
use Rattle.std.proofs.Common.{
  ◌≡◌,
  ◌≢◌,
  ℕ,
  ◌+◌,
  ◌^◌,
  ◌<◌,
  ◌≤◌,
  Bool,
  true,
  false,
  cond,
  eqb,
  List,
  [],
  ◌∷◌,
  ◌++◌,
  length,
  Option,
  Some,
  None,
  Ok,
  refl,
  sym,
  ap,
  subst,
  ◌∙◌,
  append_assoc,
  arith,
  nat_lt,
}
use Rattle.std.specs.Prelude.{neg_ℤ, nat_eq, not, is_some, ◌==◌}
use Rattle.std.specs.List.{list_all, AllByRecursion, IsDistinct, concat}
use Rattle.std.specs.List.Sorted.{IsStrictlySortedBy}
use Rattle.std.specs.Ordering.{nat_cmp}
use Rattle.std.specs.declared.cmp.Ordering.TheVariants.{Less, Equal, Greater}
use Rattle.std.specs.Map.{keys_of}
use Rattle.std.specs.Option.{option_or}
use Rattle.std.proofs.lemmas.Int.{ints}
use Rattle.std.proofs.lemmas.List.{append-nil}
use Rattle.std.proofs.lemmas.List.Folds.{list_all-append}
use Rattle.std.proofs.lemmas.Bool.{lt-ltb, le-leb, and_from}
use Rattle.plan_types.specs.Laws.{StopsAreBelowNext}
use Rattle.plan_types.specs.Limits.{IsDemand, IsStop}
use Rattle.plan_types.specs.declared.limits.TheConstants.{MAX_DEVIATION}
use Rattle.plan_types.specs.Request.{IsRequest, request_name, stop_in}
use Rattle.plan_types.specs.Instance.{Instance, IsInstance, first_some, numbers_among}
use Rattle.plan_types.specs.declared.requests.Stop.{Stop}
use Rattle.plan_types.specs.declared.requests.Request.{Request}
use Rattle.plan_types.specs.declared.requests.Request.TheVariants.{Single, Pair}
use Rattle.command_types.specs.Job.{JobValue, IsJob}
use Rattle.state_codec.specs.declared.head.Head.{Head}
use Rattle.state_codec.specs.declared.version.Version.{Version}
use Rattle.state_codec.specs.declared.version.Version.TheVariants.{One, Two}
use Rattle.state_codec.specs.Bytes.{count_bytes, visit_bytes, stop_bytes, request_bytes, requests_bytes, vehicles_bytes, routes_bytes, work_bytes, head_bytes, job_bytes, width}
use Rattle.state_codec.specs.Limits.{most, IsJobOf}
use Rattle.state_codec.specs.Fields.{byte_at, number_at}
use Rattle.state_codec.specs.Reading.{
  is_free,
  is_name,
  is_delivery,
  is_expected_demand,
  first_at,
  delivery_at,
  single_at,
  pair_at,
  request_at,
  times,
  next_request,
  next_route,
  next_vehicle,
  work_at,
  problem_at,
  job_at,
  state_at,
  whole_state_at,
}
use Rattle.state_codec.proofs.FieldLaws.{number_again, only_again, small}
use Rattle.state_codec.proofs.RequestLaws.{visit_again, is_demand-holds, int_eq-same, IsNew}
use Rattle.state_codec.proofs.TimesLaws.{AreNext, times_again, added_after}
use Rattle.state_codec.proofs.RouteLaws.{IsWritable, HaveRoom, routes_again, more_vehicles}
use Rattle.state_codec.proofs.HeadLaws.{head_text, head_again, IsHeadOf, IsAllowance}
use Rattle.plan_types.proofs.RequestCounts.{AreBelow, requests_below}
use Rattle.state_codec.proofs.SizeLemmas.{sizes, short_routes}

-- ---- one request

room : (v : Version) (next n : ℕ) → next ≤ most v + 1 → n < next → n < 256 ^ width v
room One next n h lt = omega (arith, h, lt)
room Two next n h lt = omega (arith, h, lt)

first_again : (v : Version) (next : ℕ) (before : List (ℕ × Request)) (s : Stop) (rest : List ℕ) → next ≤ most v + 1 → IsStop s → IsDemand s.demand
    → is_name next before s.number ≡ true → s.number < next → first_at v next before (stop_bytes v s ++ rest) ≡ Ok (s, rest)
unfolding first_at
first_again v next before s rest most-is is goods name below =
    ap (first_at v next before) (append_assoc (count_bytes v s.number) (visit_bytes s) rest)
    ∙ rw (only_again (is_name next before) (number_at (width v) (count_bytes v s.number ++ (visit_bytes s ++ rest))) (s.number, visit_bytes s ++ rest)
    (number_again (width v) s.number (visit_bytes s ++ rest) (room v next s.number most-is below)) name)
    (visit_again s None rest is.visit (is_demand-holds s.demand goods) (small s.demand (grind (arith, ints, goods.0)) goods.1))

delivery_again : (v : Version) (next : ℕ) (before : List (ℕ × Request)) (p d : Stop) (rest : List ℕ) → next ≤ most v + 1 → IsStop d → IsDemand p.demand
    → d.demand ≡ neg_ℤ p.demand → is_delivery next before p.number d.number ≡ true → d.number < next
    → delivery_at v next before p (stop_bytes v d ++ rest) ≡ Ok (d, rest)
unfolding delivery_at
delivery_again v next before p d rest most-is is goods opposite name below =
    let wanted : is_expected_demand (Some (neg_ℤ p.demand)) d.demand ≡ true = rw opposite (int_eq-same (neg_ℤ p.demand)) in
    ap (delivery_at v next before p) (append_assoc (count_bytes v d.number) (visit_bytes d) rest)
    ∙ rw (only_again (is_delivery next before p.number) (number_at (width v) (count_bytes v d.number ++ (visit_bytes d ++ rest)))
    (d.number, visit_bytes d ++ rest) (number_again (width v) d.number (visit_bytes d ++ rest) (room v next d.number most-is below)) name)
    (visit_again d (Some (neg_ℤ p.demand)) rest is.visit wanted (small d.demand (grind (arith, ints, opposite, goods.0, goods.1)) (grind (arith, ints, opposite, goods.0, goods.1))))

not_eq : (a b : ℕ) → b ≢ a → not (a == b) ≡ true
not_eq a b h = grind (arith, h)

request_again : (v : Version) (next : ℕ) (before : List (ℕ × Request)) (r : Request) (rest : List ℕ) → next ≤ most v + 1 → IsNew next before r
    → request_at v next before (request_bytes v r ++ rest) ≡ Ok (r, rest)
unfolding request_at byte_at single_at pair_at
request_again v next before (Single s) rest most-is new =
    let name : is_name next before s.number ≡ true = and_from _ _ (le-leb 1 s.number new.request.0.from_one) (and_from _ _ (lt-ltb s.number next new.below.0) (and_from _ _ new.names new.free.0)) in
    rw (first_again v next before s rest most-is new.request.0 new.request.1 name new.below.0) refl
request_again v next before (Pair p d) rest most-is new =
    let name : is_name next before p.number ≡ true = and_from _ _ (le-leb 1 p.number new.request.0.from_one) (and_from _ _ (lt-ltb p.number next new.below.0) (and_from _ _ new.names new.free.0)) in
    let other : is_delivery next before p.number d.number
    ≡ true = and_from _ _ (le-leb 1 d.number new.request.1.from_one)
    (and_from _ _ (lt-ltb d.number next new.below.1.0) (and_from _ _ (not_eq d.number p.number new.request.2) new.free.1.0)) in
    let second = stop_bytes v d ++ rest in
    ap (λ t. request_at v next before (2 ∷ t)) (append_assoc (stop_bytes v p) (stop_bytes v d) rest)
    ∙ rw (first_again v next before p second most-is new.request.0 new.request.3 name new.below.0)
    (rw (delivery_again v next before p d rest most-is new.request.1 new.request.3 new.request.4 other new.below.1.0) refl)

-- ---- all requests of a problem

-- Names ascend, and no number occurs twice. So each request is new after those before it.
record AreNewAfter (next : ℕ) (before : List (ℕ × Request)) (es : List (ℕ × Request)) : Type 0 where
  pub names : AllByRecursion (λ e. list_all (λ f. nat_lt f.0 e.0) before ≡ true) es
  pub free : AllByRecursion (λ n. is_free before n ≡ true) (numbers_among es)
  pub ascending : IsStrictlySortedBy nat_cmp (keys_of es)
  pub distinct : IsDistinct nat_eq (numbers_among es)
  pub named : AllByRecursion (λ e. e.0 ≡ request_name e.1) es
  pub valid : AllByRecursion (λ e. IsRequest e.1) es
  pub below : AllByRecursion (λ n. n < next) (numbers_among es)

all_snoc : {X : Type 0} (t : X → Bool) (xs : List X) (x : X) → list_all t xs ≡ true → t x ≡ true → list_all t (xs ++ x ∷ []) ≡ true
all_snoc t xs x h e = list_all-append t xs (x ∷ []) ∙ rw (h, e) refl

free_or : {X : Type 0} (o a b : Option X) → (not (is_some a) ≡ true → not (is_some b) ≡ true) → not (is_some (option_or o a)) ≡ true → not (is_some (option_or o b)) ≡ true
free_or None a b f h = f h
free_or (Some x) a b f h = absurd cc

free_snoc : (n : ℕ) (xs : List (ℕ × Request)) (e : ℕ × Request) → is_free xs n ≡ true → stop_in n e.1 ≡ None → is_free (xs ++ e ∷ []) n ≡ true
free_snoc n [] e h none = rw none refl
free_snoc n (y ∷ xs) e h none = free_or (stop_in n y.1) (first_some (stop_in n) xs) (first_some (stop_in n) (xs ++ e ∷ [])) (λ g. free_snoc n xs e g none) h

free_all : (before : List (ℕ × Request)) (e : ℕ × Request) (ns : List ℕ) → AllByRecursion (λ n. is_free before n ≡ true) ns
    → AllByRecursion (λ n. stop_in n e.1 ≡ None) ns → AllByRecursion (λ n. is_free (before ++ e ∷ []) n ≡ true) ns
free_all before e [] h g = tt
free_all before e (n ∷ ns) h g = (free_snoc n before e h.0 g.0, free_all before e ns h.1 g.1)

single_apart : (s : Stop) (ns : List ℕ) → AllByRecursion (λ y. eqb s.number y ≡ false) ns → AllByRecursion (λ n. stop_in n (Single s) ≡ None) ns
single_apart s [] h = tt
single_apart s (n ∷ ns) h = (rw h.0 refl, single_apart s ns h.1)

pair_apart : (a b : Stop) (ns : List ℕ) → AllByRecursion (λ y. eqb a.number y ≡ false) ns → AllByRecursion (λ y. eqb b.number y ≡ false) ns → AllByRecursion (λ n. stop_in n (Pair a b) ≡ None) ns
pair_apart a b [] h g = tt
pair_apart a b (n ∷ ns) h g = (rw (h.0, g.0) refl, pair_apart a b ns h.1 g.1)

less_by : (lt eq : Bool) → cond lt Less (cond eq Equal Greater) ≡ Less → lt ≡ true
less_by true eq h = refl
less_by false true h = absurd cc
less_by false false h = absurd cc

names_all : (before : List (ℕ × Request)) (e : ℕ × Request) (es : List (ℕ × Request)) → AllByRecursion (λ f. list_all (λ g. nat_lt g.0 f.0) before ≡ true) es
    → AllByRecursion (λ y. nat_cmp e.0 y ≡ Less) (keys_of es) → AllByRecursion (λ f. list_all (λ g. nat_lt g.0 f.0) (before ++ e ∷ []) ≡ true) es
names_all before e [] h g = tt
names_all before e (f ∷ es) h g = (all_snoc (λ (k : ℕ × Request). nat_lt k.0 f.0) before e h.0 (less_by (nat_lt e.0 f.0) (e.0 == f.0) g.0), names_all before e es h.1 g.1)

IsNext : ℕ → List (ℕ × Request) → ℕ × Request → Type 0
IsNext next before e = IsNew next before e.1 × (e.0 ≡ request_name e.1)

new_after : (next : ℕ) (before : List (ℕ × Request)) (e : ℕ × Request) (es : List (ℕ × Request)) → AreNewAfter next before (e ∷ es) → IsNew next before e.1 × AreNewAfter next (before ++ e ∷ []) es
unfolding IsDistinct IsStrictlySortedBy
new_after next before (n, Single s) es is = (
  record { request = is.valid.0; names = subst (λ k. list_all (λ f. nat_lt f.0 k) before ≡ true) is.named.0 is.names.0; free = (is.free.0, tt); below = (is.below.0, tt) },
  record {
    names = names_all before (n, Single s) es is.names.1 is.ascending.0;
    free = free_all before (n, Single s) (numbers_among es) is.free.1 (single_apart s (numbers_among es) is.distinct.0);
    ascending = is.ascending.1;
    distinct = is.distinct.1;
    named = is.named.1;
    valid = is.valid.1;
    below = is.below.1;
  },
)
new_after next before (n, Pair a b) es is = (
  record {
    request = is.valid.0;
    names = subst (λ k. list_all (λ f. nat_lt f.0 k) before ≡ true) is.named.0 is.names.0;
    free = (is.free.0, (is.free.1.0, tt));
    below = (is.below.0, (is.below.1.0, tt));
  },
  record {
    names = names_all before (n, Pair a b) es is.names.1 is.ascending.0;
    free = free_all before (n, Pair a b) (numbers_among es) is.free.1.1 (pair_apart a b (numbers_among es) is.distinct.0.1 is.distinct.1.0);
    ascending = is.ascending.1;
    distinct = is.distinct.1.1;
    named = is.named.1;
    valid = is.valid.1;
    below = is.below.1.1;
  },
)

abbrev snoc : List (ℕ × Request) → ℕ × Request → List (ℕ × Request)
snoc before e = before ++ e ∷ []

abbrev request_word : Version → ℕ × Request → List ℕ
request_word v e = request_bytes v e.1

all_next : (v : Version) (next : ℕ) (es before : List (ℕ × Request)) → AreNewAfter next before es → AreNext snoc (request_word v) (IsNext next) before es
unfolding IsNext
all_next v next [] before is = tt
all_next v next (e ∷ es) before is = let b = new_after next before e es is in ((b.0, is.named.0), all_next v next es (before ++ e ∷ []) b.1)

one_again : (v : Version) (next : ℕ) → next ≤ most v + 1 → (a : List (ℕ × Request)) (e : ℕ × Request) (rest : List ℕ) → IsNext next a e
    → next_request v next a (request_word v e ++ rest) ≡ Ok (snoc a e, rest)
unfolding IsNext
one_again v next below a e rest is = rw (request_again v next a e.1 rest below is.0) (ap (λ n. Ok (a ++ (n, e.1) ∷ [], rest)) (sym is.1))

requests_again : (v : Version) (next : ℕ) (es : List (ℕ × Request)) (rest : List ℕ) → next ≤ most v + 1 → AreNewAfter next [] es
    → times (next_request v next) (length es) [] (requests_bytes v es ++ rest) ≡ Ok (es, rest)
requests_again v next es rest below is =
    times_again snoc (request_word v) (IsNext next) (next_request v next) (one_again v next below) es [] rest (all_next v next es [] is)
    ∙ ap (λ (s : List (ℕ × Request)). Ok (s, rest)) (added_after (request_word v) (IsNext next) es [])

all_true : {X : Type 0} (P : X → Type 0) → ((x : X) → P x) → (xs : List X) → AllByRecursion P xs
all_true P f [] = tt
all_true P f (x ∷ xs) = (f x, all_true P f xs)

all_new : (p : Instance) → IsInstance p → AreNewAfter p.next_number [] p.requests
all_new p is = record {
  names = all_true (λ (e : ℕ × Request). true ≡ true) (λ e. refl) p.requests;
  free = all_true (λ (n : ℕ). true ≡ true) (λ n. refl) (numbers_among p.requests);
  ascending = is.ascending;
  distinct = is.distinct;
  named = is.named;
  valid = is.valid;
  below = is.above;
}

-- ---- a job

next_most : (v : Version) (j : JobValue) → IsJobOf v j → IsInstance j.problem → j.problem.next_number ≤ most v + 1
next_most One j of is = of.next_number
next_most Two j of is = omega (arith, is.next_number_max)

fleet_most : (v : Version) (j : JobValue) → IsJobOf v j → IsInstance j.problem → j.problem.fleet ≤ most v
fleet_most One j of is = of.fleet
fleet_most Two j of is = is.fleet.1

allowance_of : (v : Version) (j : JobValue) → IsJobOf v j → j.deviation ≤ MAX_DEVIATION → IsAllowance v j.deviation
allowance_of One j of h = of.deviation
allowance_of Two j of h = h

abbrev head_of : JobValue → Head
head_of j = record {
  kind = j.problem.kind;
  seed = j.seed;
  steps = j.steps;
  capacity = j.problem.capacity;
  fleet = j.problem.fleet;
  next_number = j.problem.next_number;
  depot = j.problem.depot;
  deviation = j.deviation;
}

head_is : (v : Version) (j : JobValue) → IsJob j → IsJobOf v j → IsHeadOf v (head_of j)
head_is v j is of =
    let p = is.problem in
    record {
      head = record { depot = p.depot; capacity = p.capacity; fleet = p.fleet; next_number_min = p.next_number_min; next_number_max = p.next_number_max };
      fleet = fleet_most v j of p;
      next_number = next_most v j of p;
      deviation = allowance_of v j of is.deviation;
      seed = is.seed;
      steps = is.steps;
    }

room_all : (v : Version) (next : ℕ) (ns : List ℕ) → next ≤ most v + 1 → AreBelow next ns → HaveRoom v ns
room_all v next [] h b = tt
room_all v next (n ∷ ns) h b = (room v next n h b.0.1, room_all v next ns h b.1)

writable : (v : Version) (next n : ℕ) (routes : List (List ℕ)) → next ≤ most v + 1 → n < next → AllByRecursion (λ r. length r ≤ n) routes
    → AllByRecursion (AreBelow next) routes → AllByRecursion (IsWritable v) routes
writable v next n [] below lt s b = tt
writable v next n (r ∷ routes) below lt s b = (record { stops = room_all v next r below b.0; short = room v next (length r) below (omega (arith, s.0, lt)) }, writable v next n routes below lt s.1 b.1)

problem_again : (v : Version) (j : JobValue) (rest : List ℕ) → IsInstance j.problem → j.problem.next_number ≤ most v + 1
    → problem_at v (head_of j) (count_bytes v (length j.problem.requests) ++ (requests_bytes v j.problem.requests ++ rest)) ≡ Ok (j.problem, rest)
unfolding problem_at
problem_again v j rest is below =
    let es = j.problem.requests in
    rw (number_again (width v) (length es) (requests_bytes v es ++ rest) (room v j.problem.next_number (length es) below (requests_below j.problem is)))
    (rw (requests_again v j.problem.next_number es rest below (all_new j.problem is)) refl)

work_again : (v : Version) (j : JobValue) (rest : List ℕ) → IsJobOf v j → length j.work ≡ j.problem.fleet → AllByRecursion (IsWritable v) j.work
    → work_at v j.problem.fleet j.plan (work_bytes v j.work ++ rest) ≡ Ok (j.work, rest)
work_again One j rest of same fit = ap (λ (w : List (List ℕ)). Ok (w, rest)) (sym of.work)
work_again Two j rest of same fit = ap (λ n. times (next_route Two) n [] (routes_bytes Two j.work ++ rest)) (sym same) ∙ routes_again Two j.work rest fit

pub job_again : StopsAreBelowNext → (v : Version) (j : JobValue) (rest : List ℕ) → IsJob j → IsJobOf v j → job_at v (job_bytes v j ++ rest) ≡ Ok (j, rest)
unfolding job_at
job_again law v j rest is of =
    let s = sizes law j is in
    let next = j.problem.next_number in
    let below = next_most v j of is.problem in
    let plan-fit = writable v next (length (concat j.plan)) j.plan below s.plan.total (short_routes j.plan (length (concat j.plan)) (omega arith)) s.plan.below in
    let work-fit = writable v next (length (concat j.work)) j.work below s.work.total (short_routes j.work (length (concat j.work)) (omega arith)) s.work.below in
    let work = work_bytes v j.work ++ rest in
    let vehicles = vehicles_bytes v j.pins j.plan ++ work in
    let problem = count_bytes v (length j.problem.requests) ++ (requests_bytes v j.problem.requests ++ vehicles) in
    let new_after-head = count_bytes v (length j.problem.requests) ++ (requests_bytes v j.problem.requests ++ (vehicles_bytes v j.pins j.plan ++ work_bytes v j.work)) in
    let inner : new_after-head ++ rest ≡ problem = simp append_assoc in
    let regrouped : job_bytes v j ++ rest ≡ head_text v (head_of j) ++ problem = append_assoc (head_bytes v j) new_after-head rest ∙ ap (λ t. head_bytes v j ++ t) inner in
    let all-vehicles : times (next_vehicle v) j.problem.fleet ([], []) vehicles
    ≡ Ok ((j.pins, j.plan), work) = ap (λ n. times (next_vehicle v) n ([], []) vehicles) (sym s.plan.fleet)
    ∙ more_vehicles v j.pins j.plan [] [] work s.prefixes plan-fit in
    ap (job_at v) regrouped
    ∙ rw (head_again v (head_of j) problem (head_is v j is of))
    (rw (problem_again v j vehicles is.problem below)
    (rw all-vehicles
    (rw (work_again v j rest of s.work.fleet work-fit) refl)))

pub whole_again : StopsAreBelowNext → (v : Version) (j : JobValue) → IsJob j → IsJobOf v j → whole_state_at v (1 ∷ job_bytes v j) ≡ Ok (Some j)
unfolding whole_state_at state_at byte_at
whole_again law v j is of =
    let all = ap (job_at v) (sym (append-nil (job_bytes v j))) ∙ job_again law v j [] is of in
    rw all refl

pub empty_again : (v : Version) → whole_state_at v (0 ∷ []) ≡ Ok None
unfolding whole_state_at state_at byte_at
empty_again v = refl
