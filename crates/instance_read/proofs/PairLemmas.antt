-- The pairs of tasks in ascending order that are all paired: each can be added, and comes after those with
-- smaller names.
use Rattle.std.proofs.Common.{Less, Equal, Greater, ◌≡◌, ℕ, zero, suc, ◌+◌, ◌<◌, ◌≤◌, Bool, true, false, not, cond, ◌⊎◌, inl, inr, List, [], ◌∷◌, ◌++◌, length}
use Rattle.std.proofs.Common.{get_or, take, Option, Some, None, refl, sym, ap, subst, ◌∙◌, arith, eqb, ℤ, pos}
use Rattle.std.specs.Prelude.{◌||◌, ◌==◌, nat_lt, neg_ℤ, ◌≤ℤ◌, ◌+ℤ◌, int_lt, IsSome, find}
use Rattle.std.specs.List.{AllByRecursion, cons_option, filter_map}
use Rattle.std.specs.Option.{option_map, option_map_or, option_or}
use Rattle.std.specs.Ordering.{is_eq}
use Rattle.std.proofs.lemmas.Bool.{eqb-true, eq-eqb, ne_eqb, lt-ltb, le-ltb, or_parts, cond-true, cond-false, false≢true, not-false}
use Rattle.std.proofs.lemmas.Option.{none-some, same_Some, some_pair_parts}
use Rattle.std.proofs.lemmas.Int.{ints}
use Rattle.std.proofs.lemmas.List.{append-nil, get_or-take, length-take, take_more}
use Rattle.std.proofs.lemmas.List.Elements.{All-from_recursion, recursion_from_All, filter_map-append}
use Rattle.plan_types.specs.Instance.{Instance, IsTaken, first_some, lesser_names, greater_names, new_instance, numbers_among, stop_at, with_entry, with_request}
use Rattle.plan_types.specs.Request.{IsRequest, request_name, stop_in}
use Rattle.plan_types.specs.declared.requests.Request.{Request}
use Rattle.plan_types.specs.declared.requests.Request.TheVariants.{Pair}
use Rattle.instance_read.specs.declared.tasks.Task.{Task}
use Rattle.instance_read.specs.Pairs.{find_task, is_mismatched, is_uneven, is_wrong_delivery, last_number, pair_of, pairs_of}
use Rattle.instance_read.specs.Tables.{ArePaired, AreTasks, IsCustomer, AscendsFrom}
use Rattle.instance_read.specs.Lilim.{depot_from, problem_from}
use Rattle.instance_read.specs.declared.tasks.FleetLine.{FleetLine}
use Rattle.plan_types.specs.declared.requests.Kind.TheVariants.{LiLim}

-- the task that is found has this number
found_cond : (n : ℕ) (t u : Task) (ts : List Task) (b : Bool) → eqb t.stop.number n ≡ b → (find_task n ts ≡ Some u → u.stop.number ≡ n) → cond b (Some t) (find_task n ts) ≡ Some u → u.stop.number ≡ n
found_cond n t u ts true e h is = let same : t ≡ u = cc in ap (λ x. x.stop.number) (sym same) ∙ eqb-true t.stop.number n e
found_cond n t u ts false e h is = h is

found_number : (n : ℕ) (ts : List Task) (u : Task) → find_task n ts ≡ Some u → u.stop.number ≡ n
found_number n [] u e = absurd (cc)
found_number n (t ∷ ts) u e = found_cond n t u ts (eqb t.stop.number n) refl (found_number n ts u) e

-- the task that is found has what all tasks have
found_holds_cond : (P : Task → Type 0) (n : ℕ) (t u : Task) (ts : List Task) (b : Bool) → P t → (find_task n ts ≡ Some u → P u) → cond b (Some t) (find_task n ts) ≡ Some u → P u
found_holds_cond P n t u ts true here h is = let same : t ≡ u = cc in subst P same here
found_holds_cond P n t u ts false here h is = h is

found_holds : (P : Task → Type 0) (n : ℕ) (ts : List Task) (u : Task) → AllByRecursion P ts → find_task n ts ≡ Some u → P u
found_holds P n [] u all e = absurd (cc)
found_holds P n (t ∷ ts) u all e = found_holds_cond P n t u ts (eqb t.stop.number n) all.0 (found_holds P n ts u all.1) e

-- tasks in ascending order are found at their numbers
above_at : (n : ℕ) (ts : List Task) (i : ℕ) (d : Task) → AscendsFrom n ts → i < length ts → n < (get_or ts i d).stop.number
above_at n [] i d h l = absurd (omega arith)
above_at n (t ∷ ts) zero d h l = h.0
above_at n (t ∷ ts) (suc i) d h l = omega (arith, h.0, above_at t.stop.number ts i d h.1 (omega arith))

pub ascending_at : (n : ℕ) (ts : List Task) (k i : ℕ) (d e : Task) → AscendsFrom n ts → k < i → i < length ts → (get_or ts k e).stop.number < (get_or ts i d).stop.number
ascending_at n [] k i d e h l m = absurd (omega arith)
ascending_at n (t ∷ ts) k zero d e h l m = absurd (omega arith)
ascending_at n (t ∷ ts) zero (suc i) d e h l m = above_at t.stop.number ts i d h.1 (omega arith)
ascending_at n (t ∷ ts) (suc k) (suc i) d e h l m = ascending_at t.stop.number ts k i d e h.1 (omega arith) (omega arith)

found_at : (n : ℕ) (ts : List Task) (i : ℕ) (d : Task) → AscendsFrom n ts → i < length ts → find_task (get_or ts i d).stop.number ts ≡ Some (get_or ts i d)
found_at n [] i d h l = absurd (omega arith)
found_at n (t ∷ ts) zero d h l = cond-true (eqb t.stop.number t.stop.number) (Some t) (find_task t.stop.number ts) (eq-eqb t.stop.number t.stop.number refl)
found_at n (t ∷ ts) (suc i) d h l =
    let later = above_at t.stop.number ts i d h.1 (omega arith) in
    cond-false (eqb t.stop.number (get_or ts i d).stop.number) (Some t) (find_task (get_or ts i d).stop.number ts) (ne_eqb t.stop.number (get_or ts i d).stop.number (λ e. omega (arith, e, later)))
    ∙ found_at t.stop.number ts i d h.1 (omega arith)

-- a task that is itself found at its number, and is valid and paired
pub record IsGood (tasks : List Task) (t : Task) : Type 0 where
  pub found : find_task t.stop.number tasks ≡ Some t
  pub valid : IsCustomer t
  pub paired : is_mismatched tasks t ≡ false

good_at : (tasks : List Task) (i : ℕ) (d : Task) → AllByRecursion IsCustomer tasks → AscendsFrom 0 tasks → ArePaired tasks → i < length tasks → IsGood tasks (get_or tasks i d)
good_at tasks i d valid ascending paired l = record {
  found = found_at 0 tasks i d ascending l;
  valid = All-from_recursion IsCustomer tasks valid i d l;
  paired = All-from_recursion (λ t. is_mismatched tasks t ≡ false) tasks paired i d l;
}

-- p is a pickup, and d is its delivery
pub record IsPair (tasks : List Task) (p d : Task) : Type 0 where
  pub pickup : IsGood tasks p
  pub delivery : IsGood tasks d
  pub picks : p.pickup ≡ 0
  pub named : d.pickup ≡ p.stop.number
  pub even : d.stop.demand ≡ neg_ℤ p.stop.demand
  pub goods : pos 0 ≤ℤ p.stop.demand

even_from : (a b : ℤ) → int_lt (a +ℤ b) (pos 0) ≡ false → int_lt (pos 0) (a +ℤ b) ≡ false → b ≡ neg_ℤ a
even_from a b low high = grind (arith, ints)

goods_from : (a : ℤ) → int_lt a (pos 0) ≡ false → pos 0 ≤ℤ a
goods_from a e = grind (arith, ints)

found_good : (tasks : List Task) (n : ℕ) (d : Task) → AllByRecursion IsCustomer tasks → ArePaired tasks → find_task n tasks ≡ Some d → IsGood tasks d
found_good tasks n d valid paired e = record {
  found = ap (λ k. find_task k tasks) (found_number n tasks d e) ∙ e;
  valid = found_holds IsCustomer n tasks d valid e;
  paired = found_holds (λ t. is_mismatched tasks t ≡ false) n tasks d paired e;
}

-- equal numbers: neither is below the other
equal_parts : (a b : Bool) → not (is_eq (cond a Less (cond b Greater Equal))) ≡ false → (a ≡ false) × (b ≡ false)
equal_parts true b is = absurd (false≢true (sym is))
equal_parts false true is = absurd (false≢true (sym is))
equal_parts false false is = (refl, refl)

-- the parts of a request that a task makes
abbrev Parts : List Task → Task → ℕ → Request → Type 0
Parts tasks t k r = (k ≡ t.stop.number) × (d : Task) × IsPair tasks t d × (r ≡ Pair t.stop d.stop)

pair_cases : (tasks : List Task) (t : Task) (k : ℕ) (r : Request) (other b c : Bool) (o : Option Task) → AllByRecursion IsCustomer tasks → ArePaired tasks
    → IsGood tasks t → eqb t.pickup 0 ≡ b → find_task t.delivery tasks ≡ o → cond b (cond c true (option_map_or (is_wrong_delivery t) o true)) other ≡ false
    → cond b (option_map {U = ℕ × Request} (λ d. (t.stop.number, Pair t.stop d.stop)) o) None ≡ Some (k, r) → Parts tasks t k r
pair_cases tasks t k r other false c o valid paired good picks at right is = absurd (none-some (k, r) is)
pair_cases tasks t k r other true c None valid paired good picks at right is = absurd (none-some (k, r) is)
pair_cases tasks t k r other true true (Some d) valid paired good picks at right is = absurd (false≢true (sym right))
pair_cases tasks t k r other true false (Some d) valid paired good picks at right is =
    let parts = or_parts (not (d.pickup == t.stop.number) || is_uneven t d) (int_lt t.stop.demand (pos 0)) right in
    let first = or_parts (not (d.pickup == t.stop.number)) (is_uneven t d) parts.0 in
    let sum = equal_parts (int_lt (t.stop.demand +ℤ d.stop.demand) (pos 0)) (int_lt (pos 0) (t.stop.demand +ℤ d.stop.demand)) first.1 in
    let same = some_pair_parts t.stop.number k (Pair t.stop d.stop) r is in (
      sym same.0,
      d,
      record {
        pickup = good;
        delivery = found_good tasks t.delivery d valid paired at;
        picks = eqb-true t.pickup 0 picks;
        named = eqb-true d.pickup t.stop.number (not-false (d.pickup == t.stop.number) first.0);
        even = even_from t.stop.demand d.stop.demand sum.0 sum.1;
        goods = goods_from t.stop.demand parts.1;
      },
      sym same.1,
    )

pub pair_parts : (tasks : List Task) (t : Task) (k : ℕ) (r : Request) → AllByRecursion IsCustomer tasks → ArePaired tasks → IsGood tasks t → pair_of tasks t ≡ Some (k, r) → Parts tasks t k r
pair_parts tasks t k r valid paired good is =
    pair_cases tasks t k r _ (eqb t.pickup 0) (eqb t.delivery 0) (find_task t.delivery tasks) valid paired good refl refl good.paired is

-- tasks that are found at the same number are equal
same_task : (tasks : List Task) (a b : Task) → IsGood tasks a → IsGood tasks b → a.stop.number ≡ b.stop.number → a ≡ b
same_task tasks a b ga gb e = same_Some a b (sym ga.found ∙ ap (λ n. find_task n tasks) e ∙ gb.found)

-- two pairs with different pickups have four different stops
module _ (tasks : List Task) (p d p' d' : Task) (pair : IsPair tasks p d) (pair' : IsPair tasks p' d') (lesser : p'.stop.number < p.stop.number) where
  apart_1 : p'.stop.number ≡ d.stop.number → ⊥
  apart_1 e =
      let one = same_task tasks p' d pair'.pickup pair.delivery e in
      omega (arith, ap (λ t. t.pickup) one, pair'.picks, pair.named, pair.pickup.valid.stop.from_one)

  apart_2 : d'.stop.number ≡ p.stop.number → ⊥
  apart_2 e =
      let one = same_task tasks d' p pair'.delivery pair.pickup e in
      omega (arith, ap (λ t. t.pickup) one, pair.picks, pair'.named, pair'.pickup.valid.stop.from_one)

  apart_3 : d'.stop.number ≡ d.stop.number → ⊥
  apart_3 e =
      let one = same_task tasks d' d pair'.delivery pair.delivery e in
      omega (arith, ap (λ t. t.pickup) one, pair'.named, pair.named, lesser)

  neither : (n : ℕ) → (n ≡ p.stop.number) ⊎ (n ≡ d.stop.number) → (p'.stop.number ≡ n → ⊥) × (d'.stop.number ≡ n → ⊥)
  neither n (inl e) = (λ h. omega (arith, h, e, lesser), λ h. apart_2 (h ∙ e))
  neither n (inr e) = (λ h. apart_1 (h ∙ e), λ h. apart_3 (h ∙ e))

  stop_in-none : (n : ℕ) → (n ≡ p.stop.number) ⊎ (n ≡ d.stop.number) → stop_in n (Pair p'.stop d'.stop) ≡ None
  stop_in-none n e =
      let apart = neither n e in
      cond-false (eqb p'.stop.number n) (Some p'.stop) _ (ne_eqb p'.stop.number n apart.0)
      ∙ cond-false (eqb d'.stop.number n) (Some d'.stop) None (ne_eqb d'.stop.number n apart.1)

-- the task is found at its number, valid and paired, and its number is below n
abbrev IsEarlier : List Task → ℕ → Task → Type 0
IsEarlier tasks n t = IsGood tasks t × (t.stop.number < n)

-- the requests of earlier tasks have none of the numbers of a pair, and have smaller names
module _ (tasks : List Task) (valid : AllByRecursion IsCustomer tasks) (paired : ArePaired tasks) (p d : Task) (pair : IsPair tasks p d) where
  free_step : (n : ℕ) (t : Task) (o : Option (ℕ × Request)) (es : List (ℕ × Request)) → (n ≡ p.stop.number) ⊎ (n ≡ d.stop.number) → IsEarlier tasks p.stop.number t
      → pair_of tasks t ≡ o → first_some (stop_in n) es ≡ None → first_some (stop_in n) (cons_option o es) ≡ None
  free_step n t None es at before is rest = rest
  free_step n t (Some e) es at before is rest =
      let parts = pair_parts tasks t e.0 e.1 valid paired before.0 is in
      ap (λ r. option_or (stop_in n r) (first_some (stop_in n) es)) parts.3
      ∙ ap (λ o. option_or o (first_some (stop_in n) es)) (stop_in-none tasks p d t parts.1 pair parts.2 before.1 n at)
      ∙ rest

  free : (n : ℕ) (ts : List Task) → (n ≡ p.stop.number) ⊎ (n ≡ d.stop.number) → AllByRecursion (IsEarlier tasks p.stop.number) ts → first_some (stop_in n) (filter_map (pair_of tasks) ts) ≡ None
  free n [] at before = refl
  free n (t ∷ ts) at before = free_step n t (pair_of tasks t) (filter_map (pair_of tasks) ts) at before.0 refl (free n ts at before.1)

  lesser_step : (t : Task) (o : Option (ℕ × Request)) (es : List (ℕ × Request)) → IsEarlier tasks p.stop.number t → pair_of tasks t ≡ o
      → AllByRecursion (λ (e : ℕ × Request). e.0 < p.stop.number) es → AllByRecursion (λ (e : ℕ × Request). e.0 < p.stop.number) (cons_option o es)
  lesser_step t None es before is rest = rest
  lesser_step t (Some e) es before is rest =
      let parts = pair_parts tasks t e.0 e.1 valid paired before.0 is in (omega (arith, parts.0, before.1), rest)

  lesser : (ts : List Task) → AllByRecursion (IsEarlier tasks p.stop.number) ts → AllByRecursion (λ (e : ℕ × Request). e.0 < p.stop.number) (filter_map (pair_of tasks) ts)
  lesser [] before = tt
  lesser (t ∷ ts) before = lesser_step t (pair_of tasks t) (filter_map (pair_of tasks) ts) before.0 refl (lesser ts before.1)

-- if all names are below n, all of them are smaller names and none is a greater one
all_lesser : (n : ℕ) (es : List (ℕ × Request)) → AllByRecursion (λ (e : ℕ × Request). e.0 < n) es → lesser_names es n ≡ es
all_lesser n [] h = refl
all_lesser n (e ∷ es) h =
    cond-true (nat_lt e.0 n) (e ∷ lesser_names es n) (lesser_names es n) (lt-ltb e.0 n h.0) ∙ ap (λ xs. e ∷ xs) (all_lesser n es h.1)

none_greater : (n : ℕ) (es : List (ℕ × Request)) → AllByRecursion (λ (e : ℕ × Request). e.0 < n) es → greater_names es n ≡ []
none_greater n [] h = refl
none_greater n (e ∷ es) h =
    cond-false (nat_lt n e.0) (e ∷ greater_names es n) (greater_names es n) (le-ltb n e.0 (omega (arith, h.0))) ∙ none_greater n es h.1

pub with_entry-last : (n : ℕ) (es : List (ℕ × Request)) (r : Request) → request_name r ≡ n → AllByRecursion (λ (e : ℕ × Request). e.0 < n) es → with_entry es r ≡ es ++ (n, r) ∷ []
with_entry-last n es r name h =
    ap (λ k. lesser_names es k ++ (k, r) ∷ greater_names es k) name
    ∙ ap (λ xs. xs ++ (n, r) ∷ greater_names es n) (all_lesser n es h)
    ∙ ap (λ xs. es ++ (n, r) ∷ xs) (none_greater n es h)

-- the request of a pair keeps the limits
pub pair_request : (tasks : List Task) (p d : Task) → IsPair tasks p d → IsRequest (Pair p.stop d.stop)
pair_request tasks p d pair = (
  pair.pickup.valid.stop,
  pair.delivery.valid.stop,
  λ e. let one = same_task tasks p d pair.pickup pair.delivery e in omega (arith, ap (λ t. t.pickup) one, pair.picks, pair.named, pair.pickup.valid.stop.from_one),
  (pair.goods, pair.pickup.valid.demand),
  pair.even,
)

pub not_some : {X : Type 0} (o : Option X) → o ≡ None → IsSome o → ⊥
not_some None e h = false≢true h
not_some (Some x) e h = none-some x (sym e)

pub pair_free : (tasks ts : List Task) (p d : Task) (problem : Instance) → AllByRecursion IsCustomer tasks → ArePaired tasks → IsPair tasks p d
    → AllByRecursion (IsEarlier tasks p.stop.number) ts → problem.requests ≡ filter_map (pair_of tasks) ts → IsTaken problem (Pair p.stop d.stop) → ⊥
pair_free tasks ts p d problem valid paired pair before is (inl taken) =
    not_some (stop_at problem p.stop.number) (ap (first_some (stop_in p.stop.number)) is ∙ free tasks valid paired p d pair p.stop.number ts (inl refl) before) taken
pair_free tasks ts p d problem valid paired pair before is (inr taken) =
    not_some (stop_at problem d.stop.number) (ap (first_some (stop_in d.stop.number)) is ∙ free tasks valid paired p d pair d.stop.number ts (inr refl) before) taken

-- the tasks before the one at place i are found at their numbers, valid and paired, and have smaller numbers
pub earlier_at : (tasks : List Task) (i : ℕ) (d : Task) → AllByRecursion IsCustomer tasks → AscendsFrom 0 tasks → ArePaired tasks → i < length tasks
    → AllByRecursion (IsEarlier tasks (get_or tasks i d).stop.number) (take i tasks)
earlier_at tasks i d valid ascending paired l =
    recursion_from_All (IsEarlier tasks (get_or tasks i d).stop.number) (take i tasks) (λ k e h.
    let small : k < i = omega (arith, length-take i tasks) in
    rw get_or-take (good_at tasks k e valid ascending paired (omega arith), ascending_at 0 tasks k i d e ascending small l))

-- the pairs of the first i + 1 tasks are those of the first i tasks and that of the next task
more_pairs : (tasks : List Task) (i : ℕ) (t : Task) → i < length tasks → t ≡ get_or tasks i t
    → filter_map (pair_of tasks) (take (i + 1) tasks) ≡ filter_map (pair_of tasks) (take i tasks) ++ cons_option (pair_of tasks t) []
more_pairs tasks i t l at =
    ap (filter_map (pair_of tasks)) (take_more tasks i t l)
    ∙ filter_map-append (pair_of tasks) (take i tasks) (get_or tasks i t ∷ [])
    ∙ ap (λ u. filter_map (pair_of tasks) (take i tasks) ++ cons_option (pair_of tasks u) []) (sym at)

-- one step of a loop over the tasks: the request that it adds for the task t at place i
module _ (tasks : List Task) (i : ℕ) (t : Task) (valid : AllByRecursion IsCustomer tasks) (ascending : AscendsFrom 0 tasks) (paired : ArePaired tasks) (l : i < length tasks)
    (at : t ≡ get_or tasks i t) where
  good : IsGood tasks t
  good = let P : Task → Type 0 = IsGood tasks in subst P (sym at) (good_at tasks i t valid ascending paired l)

  earlier : AllByRecursion (IsEarlier tasks t.stop.number) (take i tasks)
  earlier = let P : Task → Type 0 = λ u. AllByRecursion (IsEarlier tasks u.stop.number) (take i tasks) in subst P (sym at) (earlier_at tasks i t valid ascending paired l)

  module _ (r : Request) (is : pair_of tasks t ≡ Some (t.stop.number, r)) where
    parts : Parts tasks t t.stop.number r
    parts = pair_parts tasks t t.stop.number r valid paired good is

    pub put_valid : IsRequest r
    put_valid = let P : Request → Type 0 = IsRequest in subst P (sym parts.3) (pair_request tasks t parts.1 parts.2)

    pub put_free : (problem : Instance) → problem.requests ≡ filter_map (pair_of tasks) (take i tasks) → IsTaken problem r → ⊥
    put_free problem same =
        let P : Request → Type 0 = λ q. IsTaken problem q → ⊥ in
        subst P (sym parts.3) (pair_free tasks (take i tasks) t parts.1 problem valid paired parts.2 earlier same)

    pub put_last : (es : List (ℕ × Request)) → es ≡ filter_map (pair_of tasks) (take i tasks) → with_entry es r ≡ filter_map (pair_of tasks) (take (i + 1) tasks)
    put_last es same =
        let before = let P : List (ℕ × Request) → Type 0 = AllByRecursion (λ (e : ℕ × Request). e.0 < t.stop.number) in subst P (sym same)
        (lesser tasks valid paired t parts.1 parts.2 (take i tasks) earlier) in
        with_entry-last t.stop.number es r (ap request_name parts.3) before
        ∙ ap (λ xs. xs ++ (t.stop.number, r) ∷ []) same
        ∙ ap (λ o. filter_map (pair_of tasks) (take i tasks) ++ cons_option o []) (sym is)
        ∙ sym (more_pairs tasks i t l at)

-- a task that makes no request adds none
pub put_none : (tasks : List Task) (i : ℕ) (t : Task) → i < length tasks → t ≡ get_or tasks i t → pair_of tasks t ≡ None
    → filter_map (pair_of tasks) (take (i + 1) tasks) ≡ filter_map (pair_of tasks) (take i tasks)
put_none tasks i t l at is = more_pairs tasks i t l at ∙ ap (λ o. filter_map (pair_of tasks) (take i tasks) ++ cons_option o []) is ∙ append-nil (filter_map (pair_of tasks) (take i tasks))

pub same_instance : (a base : Instance) (fs : List (ℕ × Request)) → a.kind ≡ base.kind → a.depot ≡ base.depot → a.capacity ≡ base.capacity → a.fleet ≡ base.fleet
    → a.requests ≡ fs → a ≡ record base { requests = fs; next_number = a.next_number }
same_instance a base fs kind depot capacity fleet requests =
    ap (λ k. record a { kind = k }) kind
    ∙ ap (λ s. record a { kind = base.kind; depot = s }) depot
    ∙ ap (λ q. record a { kind = base.kind; depot = base.depot; capacity = q }) capacity
    ∙ ap (λ k. record a { kind = base.kind; depot = base.depot; capacity = base.capacity; fleet = k }) fleet
    ∙ ap (λ xs. record a { kind = base.kind; depot = base.depot; capacity = base.capacity; fleet = base.fleet; requests = xs }) requests

-- adding a request to the problem makes the problem with one more request
pub put_step : (base before after : Instance) (r : Request) (es fs : List (ℕ × Request)) → before ≡ record base { requests = es; next_number = before.next_number }
    → after ≡ with_request before r → with_entry es r ≡ fs → after ≡ record base { requests = fs; next_number = after.next_number }
put_step base before after r es fs is put more =
    let requests = ap (λ (p : Instance). p.requests) is in
    let put_requests = ap (λ (p : Instance). p.requests) put ∙ ap (λ xs. with_entry xs r) requests ∙ more in
    let kind = ap (λ (p : Instance). p.kind) put ∙ ap (λ (p : Instance). p.kind) is in
    let depot = ap (λ (p : Instance). p.depot) put ∙ ap (λ (p : Instance). p.depot) is in
    let capacity = ap (λ (p : Instance). p.capacity) put ∙ ap (λ (p : Instance). p.capacity) is in
    let fleet = ap (λ (p : Instance). p.fleet) put ∙ ap (λ (p : Instance). p.fleet) is in
    same_instance after base fs kind depot capacity fleet put_requests

-- the default element of a list of tasks
abbrev pub no_task : Task
no_task = record { line = 0; stop = record { number = 0; x = pos 0; y = pos 0; demand = pos 0; earliest = 0; latest = 0; service = 0 }; pickup = 0; delivery = 0 }

-- no number is greater than the last one
last_ge : (t : Task) (ts : List Task) → AscendsFrom t.stop.number ts → t.stop.number ≤ last_number t ts
last_ge t [] h = omega arith
last_ge t (u ∷ ts) h = omega (arith, h.0, last_ge u ts h.1)

pub all_below_last : (t : Task) (ts : List Task) → AscendsFrom t.stop.number ts → AllByRecursion (λ u. u.stop.number ≤ last_number t ts) ts
all_below_last t [] h = tt
all_below_last t (u ∷ ts) h = (last_ge u ts h.1, all_below_last u ts h.1)

last_small : (t : Task) (ts : List Task) → t.stop.number ≤ 40000 → AllByRecursion IsCustomer ts → last_number t ts ≤ 40000
last_small t [] small valid = small
last_small t (u ∷ ts) small valid = last_small u ts valid.0.stop.to_max valid.1

-- there are at most 40,000 ascending numbers up to 40,000
pub few_tasks : (n : ℕ) (ts : List Task) → n ≤ 40000 → AllByRecursion IsCustomer ts → AscendsFrom n ts → n + length ts ≤ 40000
few_tasks n [] small valid ascending = omega arith
few_tasks n (t ∷ ts) small valid ascending = omega (arith, ascending.0, few_tasks t.stop.number ts valid.0.stop.to_max valid.1 ascending.1)

-- the numbers of requests are below n if those of their tasks are
below_step : (n : ℕ) (t : Task) (o : Option Task) (b : Bool) (es : List (ℕ × Request)) → t.stop.number < n → ((d : Task) → o ≡ Some d → d.stop.number < n)
    → AllByRecursion (λ m. m < n) (numbers_among es)
    → AllByRecursion (λ m. m < n) (numbers_among (cons_option (cond b (option_map {U = ℕ × Request} (λ d. (t.stop.number, Pair t.stop d.stop)) o) None) es))
below_step n t o false es here found rest = rest
below_step n t None true es here found rest = rest
below_step n t (Some d) true es here found rest = (here, (found d refl, rest))

numbers_below : (n : ℕ) (tasks ts : List Task) → AllByRecursion (λ t. t.stop.number < n) tasks → AllByRecursion (λ t. t.stop.number < n) ts
    → AllByRecursion (λ m. m < n) (numbers_among (filter_map (pair_of tasks) ts))
numbers_below n tasks [] all here = tt
numbers_below n tasks (t ∷ ts) all here =
    below_step n t (find_task t.delivery tasks) (eqb t.pickup 0) (filter_map (pair_of tasks) ts) here.0
    (λ d e. found_holds (λ u. u.stop.number < n) t.delivery tasks d all e) (numbers_below n tasks ts all here.1)

pub below_next : (n : ℕ) (ts : List Task) → AllByRecursion (λ t. t.stop.number ≤ n) ts → AllByRecursion (λ t. t.stop.number < n + 1) ts
below_next n [] h = tt
below_next n (t ∷ ts) h = (omega (arith, h.0), below_next n ts h.1)

-- the requirements for setting the next number
module _ (depot : Task) (tasks : List Task) (known : AreTasks depot tasks) where
  ascending_from : AscendsFrom depot.stop.number tasks
  ascending_from = let P : ℕ → Type 0 = λ n. AscendsFrom n tasks in subst P (sym known.first) known.ascending

  pub next_small : last_number depot tasks + 1 ≤ 40001
  next_small = omega (arith, last_small depot tasks (omega (arith, known.first)) known.valid)

  pub next_above : AllByRecursion (λ m. m < last_number depot tasks + 1) (numbers_among (pairs_of tasks))
  next_above =
      let all = below_next (last_number depot tasks) tasks (all_below_last depot tasks ascending_from) in
      numbers_below (last_number depot tasks + 1) tasks tasks all all

-- if a search finds nothing, no item passes its test
none_found_cond : {X : Type 0} (p : X → Bool) (x : X) (xs : List X) (b : Bool) → p x ≡ b → (find p xs ≡ None → AllByRecursion (λ y. p y ≡ false) xs)
    → cond b (Some x) (find p xs) ≡ None → (p x ≡ false) × AllByRecursion (λ y. p y ≡ false) xs
none_found_cond p x xs true e h is = absurd (none-some x (sym is))
none_found_cond p x xs false e h is = (e, h is)

pub none_found : {X : Type 0} (p : X → Bool) (xs : List X) → find p xs ≡ None → AllByRecursion (λ y. p y ≡ false) xs
none_found p [] is = tt
none_found p (x ∷ xs) is = none_found_cond p x xs (p x) refl (none_found p xs) is

-- the problem after its requests are added and its next number is set
pub finished : (header : FleetLine) (depot : Task) (tasks : List Task) (fresh put done : Instance) (n : ℕ)
    → fresh ≡ new_instance LiLim (depot_from depot) header.capacity header.fleet → put ≡ record fresh { requests = pairs_of tasks; next_number = put.next_number }
    → done ≡ record put { next_number = n } → n ≡ last_number depot tasks + 1 → done ≡ problem_from header.fleet header.capacity depot tasks
finished header depot tasks fresh put done n new puts sets next =
    sets
    ∙ ap (λ (p : Instance). record p { next_number = n }) puts
    ∙ ap (λ (p : Instance). record p { requests = pairs_of tasks; next_number = n }) new
    ∙ ap (λ k. record (new_instance LiLim (depot_from depot) header.capacity header.fleet) { requests = pairs_of tasks; next_number = k }) next
