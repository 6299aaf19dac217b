-- A valid problem stays valid with one more request.
use Rattle.std.proofs.Common.{◌≡◌, ℕ, ◌≤◌, List, [], ◌∷◌, refl, sym, ap, ◌∙◌, ◌++◌, map, filter, cond, Bool, true, false, nat_lt, max, ◌<◌, arith}
use Rattle.std.proofs.lemmas.List.{map-append}
use Rattle.std.proofs.lemmas.List.Concat.{flat_map-append}
use Rattle.std.specs.Map.{keys_of}
use Rattle.std.specs.Ordering.{nat_cmp}
use Rattle.std.specs.declared.cmp.Ordering.TheVariants.{Less}
use Rattle.std.specs.List.{AllByRecursion, IsDistinct}
use Rattle.std.specs.List.Sorted.{IsStrictlySortedBy}
use Rattle.plan_types.specs.Limits.{IsDepot, IsCapacity, IsFleet}
use Rattle.plan_types.specs.Instance.{Instance, IsInstance, IsTaken, Splits, new_instance, numbers_among, stops_among, with_request, lesser_names, greater_names}
use Rattle.plan_types.specs.Request.{stops_of, request_name, number_after, IsRequest}
use Rattle.plan_types.specs.declared.requests.Request.TheVariants.{Single, Pair}
use Rattle.plan_types.proofs.LookupLemmas.{numbers-free, none_from_not_some}
use Rattle.std.proofs.Common.{◌≢◌, ◌⊎◌, inl, inr, nat_eq, eqb}
use Rattle.std.proofs.lemmas.Bool.Decides.{eqb_tells}
use Rattle.std.proofs.lemmas.Cmp.{nat_eq_equiv}
use Rattle.std.proofs.lemmas.Map.Keys.{IsDistinct-cons, IsDistinct-IsPermutation}
use Rattle.std.proofs.lemmas.List.Sorted.{IsPermutation-sym, IsPermutation-middle}
use Rattle.plan_types.specs.declared.requests.Request.{Request}
use Rattle.plan_types.specs.declared.requests.Stop.{Stop}
use Rattle.plan_types.specs.declared.requests.Kind.{Kind}

pub IsInstance-new : (kind : Kind) (depot : Stop) (capacity fleet : ℕ) → IsDepot depot → IsCapacity capacity → IsFleet fleet
    → IsInstance (new_instance kind depot capacity fleet)
unfolding IsStrictlySortedBy IsDistinct
IsInstance-new kind depot capacity fleet d q k = record {
  depot = d;
  capacity = q;
  fleet = k;
  named = tt;
  valid = tt;
  ascending = tt;
  distinct = tt;
  above = tt;
  next_number_min = omega arith;
  next_number_max = omega arith;
}

all-insert : {X : Type 0} (P : X → Type 0) (xs ys : List X) (y : X) → AllByRecursion P (xs ++ ys) → P y → AllByRecursion P (xs ++ y ∷ ys)
all-insert P [] ys y all p = (p, all)
all-insert P (x ∷ xs) ys y all p = (all.0, all-insert P xs ys y all.1 p)

all-weaker : {X : Type 0} (P Q : X → Type 0) → ((x : X) → P x → Q x) → (xs : List X) → AllByRecursion P xs → AllByRecursion Q xs
all-weaker P Q f [] all = tt
all-weaker P Q f (x ∷ xs) all = (f x all.0, all-weaker P Q f xs all.1)

numbers-append : (xs ys : List (ℕ × Request)) → numbers_among (xs ++ ys) ≡ numbers_among xs ++ numbers_among ys
numbers-append xs ys = ap (map (λ s. s.number)) (flat_map-append (λ e. stops_of e.1) xs ys) ∙ map-append (λ s. s.number) (stops_among xs) (stops_among ys)

-- inserting a name between smaller and greater ones keeps the order
ascending-insert : (xs ys : List (ℕ × Request)) (e : ℕ × Request) → IsStrictlySortedBy nat_cmp (keys_of (xs ++ ys))
    → AllByRecursion (λ x. nat_lt x.0 e.0 ≡ true) xs → AllByRecursion (λ y. nat_lt e.0 y.0 ≡ true) ys → IsStrictlySortedBy nat_cmp (keys_of (xs ++ e ∷ ys))
unfolding IsStrictlySortedBy
ascending-insert [] ys e up lo hi = (above ys hi, up)
  where
    above : (ys : List (ℕ × Request)) → AllByRecursion (λ y. nat_lt e.0 y.0 ≡ true) ys → AllByRecursion (λ y. nat_cmp e.0 y ≡ Less) (keys_of ys)
    above [] all = tt
    above (y ∷ ys) all = (rw all.0 refl, above ys all.1)
ascending-insert (x ∷ xs) ys e up lo hi = (below xs up.0, ascending-insert xs ys e up.1 lo.1 hi)
  where
    below : (xs : List (ℕ × Request)) → AllByRecursion (λ y. nat_cmp x.0 y ≡ Less) (keys_of (xs ++ ys))
        → AllByRecursion (λ y. nat_cmp x.0 y ≡ Less) (keys_of (xs ++ e ∷ ys))
    below [] all = (rw lo.0 refl, all)
    below (z ∷ zs) all = (all.0, below zs all.1)

passes : {X : Type 0} (p : X → Bool) (xs : List X) → AllByRecursion (λ x. p x ≡ true) (filter p xs)
passes p [] = tt
passes p (x ∷ xs) = by (p x) refl (passes p xs)
  where
    by : (b : Bool) → p x ≡ b → AllByRecursion (λ x. p x ≡ true) (filter p xs) → AllByRecursion (λ x. p x ≡ true) (cond b (x ∷ filter p xs) (filter p xs))
    by true e rest = (e, rest)
    by false e rest = rest

-- inserting a number that differs from all others keeps them distinct
distinct-insert : (xs ys : List ℕ) (n : ℕ) → AllByRecursion (λ m. nat_eq n m ≡ false) (xs ++ ys) → IsDistinct nat_eq (xs ++ ys)
    → IsDistinct nat_eq (xs ++ n ∷ ys)
distinct-insert xs ys n apart distinct =
    IsDistinct-IsPermutation nat_eq nat_eq_equiv.symm (n ∷ (xs ++ ys)) (xs ++ n ∷ ys)
    (IsPermutation-sym (xs ++ n ∷ ys) (n ∷ (xs ++ ys)) (IsPermutation-middle xs n ys))
    (IsDistinct-cons nat_eq n (xs ++ ys) apart distinct)

-- the numbers of a new request differ from all others
distinct-request : (p : Instance) (r : Request) (xs ys : List ℕ) → IsRequest r → (IsTaken p r → ⊥) → xs ++ ys ≡ numbers_among p.requests
    → IsDistinct nat_eq (xs ++ ys) → IsDistinct nat_eq (xs ++ (map (λ s. s.number) (stops_of r) ++ ys))
distinct-request p (Single a) xs ys valid free is distinct =
    distinct-insert xs ys a.number (rw is (numbers-free p.requests a.number (none_from_not_some _ free))) distinct
distinct-request p (Pair a b) xs ys valid free is distinct =
    let second = distinct-insert xs ys b.number (rw is (numbers-free p.requests b.number (none_from_not_some _ (λ t. free (inr t))))) distinct in
    let first : AllByRecursion (λ m. nat_eq a.number m ≡ false) (xs ++ ys) =
    rw is (numbers-free p.requests a.number (none_from_not_some _ (λ t. free (inl t)))) in
    distinct-insert xs (b.number ∷ ys) a.number (all-insert (λ m. nat_eq a.number m ≡ false) xs ys b.number first (apart (eqb_tells a.number b.number))) second
  where
    apart : ((eqb a.number b.number ≡ true) × (a.number ≡ b.number)) ⊎ ((eqb a.number b.number ≡ false) × (a.number ≢ b.number))
        → nat_eq a.number b.number ≡ false
    apart (inl t) = absurd (valid.2 t.1)
    apart (inr t) = t.0

-- a bound on all numbers still holds if the new request's numbers keep it
above-request : (n m : ℕ) (r : Request) (xs ys : List ℕ) → number_after r ≤ m → n ≤ m → AllByRecursion (λ x. x < n) (xs ++ ys)
    → AllByRecursion (λ x. x < m) (xs ++ (map (λ s. s.number) (stops_of r) ++ ys))
above-request n m (Single a) xs ys after le all =
    all-insert (λ x. x < m) xs ys a.number (all-weaker (λ x. x < n) (λ x. x < m) (λ x h. omega arith) (xs ++ ys) all) (omega arith)
above-request n m (Pair a b) xs ys after le all =
    all-insert (λ x. x < m) xs (b.number ∷ ys) a.number
    (all-insert (λ x. x < m) xs ys b.number (all-weaker (λ x. x < n) (λ x. x < m) (λ x h. omega arith) (xs ++ ys) all) (omega arith)) (omega arith)

number_after-le : (r : Request) → IsRequest r → number_after r ≤ 40001
number_after-le (Single a) valid = let h = valid.0.to_max in omega arith
number_after-le (Pair a b) valid = let h = valid.0.to_max in let g = valid.1.to_max in omega arith

-- adding a valid request with free numbers keeps the problem valid
pub IsInstance-with_request : (p : Instance) (r : Request) → IsInstance p → IsRequest r → (IsTaken p r → ⊥) → Splits p.requests (request_name r)
    → IsInstance (with_request p r)
IsInstance-with_request p r valid fits free split =
    let name = request_name r in
    let lesser = lesser_names p.requests name in
    let greater = greater_names p.requests name in
    let entry : ℕ × Request = (name, r) in
    let numbers : numbers_among lesser ++ numbers_among greater ≡ numbers_among p.requests = sym (numbers-append lesser greater) ∙ ap numbers_among split in
    let after : numbers_among (lesser ++ entry ∷ greater) ≡ numbers_among lesser ++ (map (λ s. s.number) (stops_of r) ++ numbers_among greater) =
    numbers-append lesser (entry ∷ greater) ∙ ap (λ l. numbers_among lesser ++ l) (map-append (λ s. s.number) (stops_of r) (stops_among greater)) in
    let bound = number_after-le r fits in
    let old_bound = valid.next_number_max in
    let old_from = valid.next_number_min in
    record {
      depot = valid.depot;
      capacity = valid.capacity;
      fleet = valid.fleet;
      named = all-insert (λ e. e.0 ≡ request_name e.1) lesser greater entry (rw split valid.named) refl;
      valid = all-insert (λ e. IsRequest e.1) lesser greater entry (rw split valid.valid) fits;
      ascending = ascending-insert lesser greater entry (rw split valid.ascending) (passes (λ e. nat_lt e.0 name) p.requests) (passes (λ e. nat_lt name e.0) p.requests);
      distinct = rw after (distinct-request p r (numbers_among lesser) (numbers_among greater) fits free numbers (rw numbers valid.distinct));
      above = rw after
          (above-request p.next_number (max p.next_number (number_after r)) r (numbers_among lesser) (numbers_among greater) (omega arith) (omega arith)
          (rw numbers valid.above));
      next_number_min = omega arith;
      next_number_max = omega arith;
    }
