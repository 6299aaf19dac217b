-- Removing a request from a list that is in ascending order of name.
use Rattle.std.proofs.Common.{
  ◌≡◌,
  ◌≢◌,
  ℕ,
  ◌⊎◌,
  true,
  false,
  Bool,
  not,
  cond,
  List,
  [],
  ◌∷◌,
  map,
  ◌++◌,
  filter,
  Option,
  Some,
  None,
  refl,
  sym,
  ap,
  subst,
  ◌∙◌,
  inl,
  inr,
  eqb,
  nat_eq,
  ◌<◌,
  ◌≤◌,
  length,
  zero,
  suc,
  is_some,
  arith,
}
use Rattle.std.specs.List.{AllByRecursion, IsDistinct}
use Rattle.std.specs.List.Sorted.{IsStrictlySortedBy}
use Rattle.std.specs.Map.{lookup, keys_of, remove_entry}
use Rattle.std.specs.Ordering.{nat_cmp}
use Rattle.std.specs.declared.cmp.Ordering.TheVariants.{Less, Equal}
use Rattle.std.specs.Option.{option_map, option_or}
use Rattle.std.proofs.lemmas.Bool.{eq-eqb, le-ltb, ne_eqb}
use Rattle.std.proofs.lemmas.Bool.Decides.{eqb_tells}
use Rattle.plan_types.specs.Instance.{Instance, IsInstance, first_some, stops_among, numbers_among, without_entry, without_request}
use Rattle.plan_types.specs.Request.{request_name, stop_in, partner_in, stops_of, number_after, IsRequest}
use Rattle.plan_types.specs.StopEntry.{entry_in, table_entry}
use Rattle.plan_types.specs.declared.problems.StopEntry.{StopEntry}
use Rattle.plan_types.specs.declared.requests.Stop.{Stop}
use Rattle.plan_types.specs.declared.requests.Request.{Request}
use Rattle.plan_types.specs.declared.requests.Request.TheVariants.{Single, Pair}
use Rattle.plan_types.proofs.LookupLemmas.{none_some, itself, AsksStop, itself-asks, by_number-asks, none-asked, lookup-request_with}

none-filter : {X : Type 0} (f : Request → Option X) (q : ℕ × Request → Bool) (es : List (ℕ × Request)) → first_some f es ≡ None
    → first_some f (filter q es) ≡ None
none-filter f q [] h = refl
none-filter {X} f q (e ∷ es) h = by (f e.1) refl (λ g. none-filter f q es g)
  where
    by : (o : Option X) → f e.1 ≡ o → (first_some f es ≡ None → first_some f (filter q es) ≡ None)
        → first_some f (cond (q e) (e ∷ filter q es) (filter q es)) ≡ None
    by (Some x) o rest = absurd (none_some x (sym (let g : option_or (f e.1) (first_some f es) ≡ None = h in rw o at g)))
    by None o rest = kept (q e)
      where
        none : first_some f (filter q es) ≡ None
        none = rest (let g : option_or (f e.1) (first_some f es) ≡ None = h in rw o at g)

        kept : (b : Bool) → first_some f (cond b (e ∷ filter q es) (filter q es)) ≡ None
        kept true = rw o none
        kept false = none

-- if all numbers differ from n, no stop has number n
none-apart : (es : List (ℕ × Request)) (n : ℕ) → AllByRecursion (λ m. nat_eq n m ≡ false) (numbers_among es) → first_some (stop_in n) es ≡ None
none-apart [] n all = refl
none-apart (e ∷ es) n all = by e.1 all (λ h. none-apart es n h)
  where
    flip : (m : ℕ) → nat_eq n m ≡ false → eqb m n ≡ false
    flip m h = elim (eqb_tells m n) [ inl t ↦ absurd (let g : true ≡ false = sym (eq-eqb n m (sym t.1)) ∙ h in cc) | inr t ↦ t.0 ]

    by : (r : Request) → AllByRecursion (λ m. nat_eq n m ≡ false) (map (λ s. s.number) (stops_of r ++ stops_among es))
        → (AllByRecursion (λ m. nat_eq n m ≡ false) (numbers_among es) → first_some (stop_in n) es ≡ None)
        → option_or (stop_in n r) (first_some (stop_in n) es) ≡ None
    by (Single a) all rest = rw (flip a.number all.0) (rest all.1)
    by (Pair a b) all rest = rw (flip a.number all.0, flip b.number all.1.0) (rest all.1.1)

-- if a request has the stop, no later request has it
apart : (e : ℕ × Request) (es : List (ℕ × Request)) (n : ℕ) (s : Stop) → IsDistinct nat_eq (numbers_among (e ∷ es)) → stop_in n e.1 ≡ Some s
    → first_some (stop_in n) es ≡ None
unfolding IsDistinct
apart e es n s distinct is = by e.1 distinct is
  where
    by : (r : Request) → IsDistinct nat_eq (map (λ s. s.number) (stops_of r ++ stops_among es)) → stop_in n r ≡ Some s → first_some (stop_in n) es ≡ None
    by (Single a) d h = elim (eqb_tells a.number n) [
      | inl t ↦ none-apart es n (subst (λ m. AllByRecursion (λ x. nat_eq m x ≡ false) (numbers_among es)) t.1 d.0)
      | inr t ↦ absurd (none_some s (let g : cond (eqb a.number n) (Some a) None ≡ Some s = h in rw (t.0) at g))
    ]
    by (Pair a b) d h = elim (eqb_tells a.number n) [
      | inl t ↦ none-apart es n (subst (λ m. AllByRecursion (λ x. nat_eq m x ≡ false) (numbers_among es)) t.1 d.0.1)
      | inr t ↦ elim (eqb_tells b.number n) [
        | inl u ↦ none-apart es n (subst (λ m. AllByRecursion (λ x. nat_eq m x ≡ false) (numbers_among es)) u.1 d.1.0)
        | inr u ↦ absurd (none_some s (let g : cond (eqb a.number n) (Some a) (cond (eqb b.number n) (Some b) None) ≡ Some s = h in rw (t.0, u.0) at g))
      ]
    ]

distinct-rest : (e : ℕ × Request) (es : List (ℕ × Request)) → IsDistinct nat_eq (numbers_among (e ∷ es)) → IsDistinct nat_eq (numbers_among es)
unfolding IsDistinct
distinct-rest e es distinct = by e.1 distinct
  where
    by : (r : Request) → IsDistinct nat_eq (map (λ s. s.number) (stops_of r ++ stops_among es)) → IsDistinct nat_eq (numbers_among es)
    by (Single a) d = d.1
    by (Pair a b) d = d.1.1

-- a request that is stored under a name is found by a lookup of one of its stops
module _ {X : Type 0} (n : ℕ) (f : Request → Option X) (asks : AsksStop n f) where
  pub named-found : (es : List (ℕ × Request)) (name : ℕ) (r : Request) (s : Stop) (x : X) → IsDistinct nat_eq (numbers_among es)
      → lookup (nat_eq name) es ≡ Some r → stop_in n r ≡ Some s → f r ≡ Some x → first_some f es ≡ Some x
  named-found [] name r s x distinct at has is = absurd (none_some r at)
  named-found (e ∷ es) name r s x distinct at has is = by (eqb_tells name e.0) (λ h. named-found es name r s x (distinct-rest e es distinct) h has is)
    where
      by : ((eqb name e.0 ≡ true) × (name ≡ e.0)) ⊎ ((eqb name e.0 ≡ false) × (name ≢ e.0)) → (lookup (nat_eq name) es ≡ Some r → first_some f es ≡ Some x)
          → option_or (f e.1) (first_some f es) ≡ Some x
      by (inl t) rest =
          let same : e.1 ≡ r =
          (let g : cond (eqb name e.0) (Some e.1) (lookup (nat_eq name) es) ≡ Some r = at in let h : Some e.1 ≡ Some r = (rw (t.0) at g) in cc) in
          rw (ap f same ∙ is) refl
      by (inr t) rest = head (stop_in n e.1) refl
        where
          later : first_some f es ≡ Some x
          later = rest (let g : cond (eqb name e.0) (Some e.1) (lookup (nat_eq name) es) ≡ Some r = at in rw (t.0) at g)

          head : (o : Option Stop) → stop_in n e.1 ≡ o → option_or (f e.1) (first_some f es) ≡ Some x
          head None o = rw (asks e.1 o) later
          head (Some y) o = absurd (none_some x (sym (none-asked n f asks es (apart e es n y distinct o)) ∙ later))

-- a request that is found has the stop
pub found-has : (es : List (ℕ × Request)) (n : ℕ) (r : Request) → first_some (itself n) es ≡ Some r → stop_in n r ≢ None
found-has [] n r is none = none_some r is
found-has (e ∷ es) n r is none = by (stop_in n e.1) refl (λ h. found-has es n r h none)
  where
    by : (o : Option Stop) → stop_in n e.1 ≡ o → (first_some (itself n) es ≡ Some r → ⊥) → ⊥
    by None o rest = rest (let g : option_or (itself n e.1) (first_some (itself n) es) ≡ Some r = is in rw o at g)
    by (Some x) o rest =
        let same : e.1 ≡ r = (let g : option_or (itself n e.1) (first_some (itself n) es) ≡ Some r = is in let f : Some e.1 ≡ Some r = (rw o at g) in cc) in
        none_some x (sym none ∙ ap (stop_in n) (sym same) ∙ o)

-- after the removal, lookups of the request's numbers find nothing
pub freed : (es : List (ℕ × Request)) (n : ℕ) (r : Request) → AllByRecursion (λ e. e.0 ≡ request_name e.1) es → IsDistinct nat_eq (numbers_among es)
    → first_some (itself n) es ≡ Some r → first_some (stop_in n) (without_entry es (request_name r)) ≡ None
freed [] n r named distinct is = refl
freed (e ∷ es) n r named distinct is = by (stop_in n e.1) refl (λ h. freed es n r named.1 (distinct-rest e es distinct) h)
  where
    rest : List (ℕ × Request)
    rest = without_entry es (request_name r)

    by : (o : Option Stop) → stop_in n e.1 ≡ o → (first_some (itself n) es ≡ Some r → first_some (stop_in n) (without_entry es (request_name r)) ≡ None)
        → first_some (stop_in n) (cond (not (eqb e.0 (request_name r))) (e ∷ without_entry es (request_name r)) (without_entry es (request_name r))) ≡ None
    by None o later = kept (not (eqb e.0 (request_name r)))
      where
        none : first_some (stop_in n) (without_entry es (request_name r)) ≡ None
        none = later (let g : option_or (itself n e.1) (first_some (itself n) es) ≡ Some r = is in rw o at g)

        kept : (b : Bool) → first_some (stop_in n) (cond b (e ∷ without_entry es (request_name r)) (without_entry es (request_name r))) ≡ None
        kept true = rw o none
        kept false = none
    by (Some x) o later =
        let same : e.1 ≡ r = (let g : option_or (itself n e.1) (first_some (itself n) es) ≡ Some r = is in let f : Some e.1 ≡ Some r = (rw o at g) in cc) in
        let out : eqb e.0 (request_name r) ≡ true = eq-eqb e.0 (request_name r) (named.0 ∙ ap request_name same) in
        rw out (none-filter (stop_in n) (λ e. not (eqb e.0 (request_name r))) es (apart e es n x distinct o))

-- lookups of other numbers find what they found before
pub kept-others : {X : Type 0} (n name : ℕ) (f : Request → Option X) → AsksStop n f → (es : List (ℕ × Request))
    → AllByRecursion (λ e. e.0 ≡ request_name e.1) es → IsDistinct nat_eq (numbers_among es)
    → ((r : Request) → first_some (itself n) es ≡ Some r → request_name r ≢ name) → first_some f (without_entry es name) ≡ first_some f es
kept-others n name f asks [] named distinct other = refl
kept-others {X} n name f asks (e ∷ es) named distinct other =
    by (stop_in n e.1) refl (λ h. kept-others n name f asks es named.1 (distinct-rest e es distinct) h)
  where
    by : (o : Option Stop) → stop_in n e.1 ≡ o
        → (((r : Request) → first_some (itself n) es ≡ Some r → request_name r ≢ name) → first_some f (without_entry es name) ≡ first_some f es)
        → first_some f (cond (not (eqb e.0 name)) (e ∷ without_entry es name) (without_entry es name)) ≡ option_or (f e.1) (first_some f es)
    by None o rest = kept (not (eqb e.0 name))
      where
        same : first_some f (without_entry es name) ≡ first_some f es
        same = rest (λ r h. other r (let g : option_or None (first_some (itself n) es) ≡ Some r = h in rw o g))

        kept : (b : Bool) → first_some f (cond b (e ∷ without_entry es name) (without_entry es name)) ≡ option_or (f e.1) (first_some f es)
        kept true = ap (option_or (f e.1)) same
        kept false = rw (asks e.1 o) same
    by (Some x) o rest =
        let differ : e.0 ≢ name = λ h. other e.1 (rw o refl) (sym named.0 ∙ h) in
        let none = apart e es n x distinct o in
        let after : first_some f (without_entry es name) ≡ None = none-filter f (λ e. not (eqb e.0 name)) es (none-asked n f asks es none) in
        rw (ne_eqb e.0 name differ, after, none-asked n f asks es none) refl

-- after a removal, a lookup of the removed name finds nothing, and lookups of other names find what they found
-- before
pub lookup-without : (es : List (ℕ × Request)) (name m : ℕ) → lookup (nat_eq m) (without_entry es name) ≡ cond (eqb m name) None (lookup (nat_eq m) es)
lookup-without [] name m = by (eqb m name)
  where
    nothing : Option Request
    nothing = None

    by : (b : Bool) → nothing ≡ cond b nothing nothing
    by true = refl
    by false = refl
lookup-without (e ∷ es) name m = by (eqb_tells e.0 name) (eqb_tells m name) (lookup-without es name m)
  where
    by : ((eqb e.0 name ≡ true) × (e.0 ≡ name)) ⊎ ((eqb e.0 name ≡ false) × (e.0 ≢ name))
        → ((eqb m name ≡ true) × (m ≡ name)) ⊎ ((eqb m name ≡ false) × (m ≢ name))
        → lookup (nat_eq m) (without_entry es name) ≡ cond (eqb m name) None (lookup (nat_eq m) es)
        → lookup (nat_eq m) (cond (not (eqb e.0 name)) (e ∷ without_entry es name) (without_entry es name))
        ≡ cond (eqb m name) None (cond (eqb m e.0) (Some e.1) (lookup (nat_eq m) es))
    by (inl t) (inl u) rest =
        rw (t.0, u.0) (let g : lookup (nat_eq m) (without_entry es name) ≡ cond (eqb m name) None (lookup (nat_eq m) es) = rest in rw (u.0) at g)
    by (inl t) (inr u) rest =
        rw (t.0, u.0, ne_eqb m e.0 (λ h. u.1 (h ∙ t.1)))
        (let g : lookup (nat_eq m) (without_entry es name) ≡ cond (eqb m name) None (lookup (nat_eq m) es) = rest in rw (u.0) at g)
    by (inr t) (inl u) rest =
        rw (t.0, u.0, ne_eqb m e.0 (λ h. t.1 (sym h ∙ u.1)))
        (let g : lookup (nat_eq m) (without_entry es name) ≡ cond (eqb m name) None (lookup (nat_eq m) es) = rest in rw (u.0) at g)
    by (inr t) (inr u) rest =
        rw (t.0, u.0)
        (ap (cond (eqb m e.0) (Some e.1))
        (let g : lookup (nat_eq m) (without_entry es name) ≡ cond (eqb m name) None (lookup (nat_eq m) es) = rest in rw (u.0) at g))

pub without-none : (es : List (ℕ × Request)) (name : ℕ) → lookup (nat_eq name) es ≡ None → without_entry es name ≡ es
without-none [] name none = refl
without-none (e ∷ es) name none = by (eqb_tells name e.0) (λ h. without-none es name h)
  where
    by : ((eqb name e.0 ≡ true) × (name ≡ e.0)) ⊎ ((eqb name e.0 ≡ false) × (name ≢ e.0)) → (lookup (nat_eq name) es ≡ None → without_entry es name ≡ es)
        → cond (not (eqb e.0 name)) (e ∷ without_entry es name) (without_entry es name) ≡ e ∷ es
    by (inl t) rest = absurd (none_some e.1 (sym (let g : cond (eqb name e.0) (Some e.1) (lookup (nat_eq name) es) ≡ None = none in rw (t.0) at g)))
    by (inr t) rest =
        rw (ne_eqb e.0 name (λ h. t.1 (sym h)))
        (ap (λ l. e ∷ l) (rest (let g : cond (eqb name e.0) (Some e.1) (lookup (nat_eq name) es) ≡ None = none in rw (t.0) at g)))

-- a name below all names that follow is not one of these
lookup-below : (es : List (ℕ × Request)) (name : ℕ) → AllByRecursion (λ y. nat_cmp name y ≡ Less) (keys_of es) → lookup (nat_eq name) es ≡ None
lookup-below [] name all = refl
lookup-below (e ∷ es) name all = elim (eqb_tells name e.0) [
  | inl t ↦ absurd (let g : nat_cmp name e.0 ≡ Less = all.0 in let z : Equal ≡ Less = (rw (le-ltb name e.0 (omega arith), t.0) at g) in cc)
  | inr t ↦ rw (t.0) (lookup-below es name all.1)
]

-- if names are ascending, removing the first request of a name leaves exactly those with other names
pub removed : (es : List (ℕ × Request)) (name : ℕ) → IsStrictlySortedBy nat_cmp (keys_of es) → remove_entry (nat_eq name) es ≡ without_entry es name
unfolding IsStrictlySortedBy
removed [] name ascending = refl
removed (e ∷ es) name ascending = elim (eqb_tells name e.0) [
  | inl t ↦ rw (t.0, eq-eqb e.0 name (sym t.1))
      (sym (without-none es name (lookup-below es name (subst (λ m. AllByRecursion (λ y. nat_cmp m y ≡ Less) (keys_of es)) (sym t.1) ascending.0))))
  | inr t ↦ rw (t.0, ne_eqb e.0 name (λ h. t.1 (sym h))) (ap (λ l. e ∷ l) (removed es name ascending.1))
]

-- what is true for all elements is true for those that stay
all-filter : {X : Type 0} (P : X → Type 0) (q : X → Bool) (xs : List X) → AllByRecursion P xs → AllByRecursion P (filter q xs)
all-filter P q [] all = tt
all-filter P q (x ∷ xs) all = by (q x) (all-filter P q xs all.1)
  where
    by : (b : Bool) → AllByRecursion P (filter q xs) → AllByRecursion P (cond b (x ∷ filter q xs) (filter q xs))
    by true rest = (all.0, rest)
    by false rest = rest

keys-filter : (P : ℕ → Type 0) (q : ℕ × Request → Bool) (es : List (ℕ × Request)) → AllByRecursion P (keys_of es) → AllByRecursion P (keys_of (filter q es))
keys-filter P q [] all = tt
keys-filter P q (e ∷ es) all = by (q e) (keys-filter P q es all.1)
  where
    by : (b : Bool) → AllByRecursion P (keys_of (filter q es)) → AllByRecursion P (keys_of (cond b (e ∷ filter q es) (filter q es)))
    by true rest = (all.0, rest)
    by false rest = rest

ascending-filter : (q : ℕ × Request → Bool) (es : List (ℕ × Request)) → IsStrictlySortedBy nat_cmp (keys_of es)
    → IsStrictlySortedBy nat_cmp (keys_of (filter q es))
unfolding IsStrictlySortedBy
ascending-filter q [] ascending = tt
ascending-filter q (e ∷ es) ascending = by (q e) (ascending-filter q es ascending.1)
  where
    by : (b : Bool) → IsStrictlySortedBy nat_cmp (keys_of (filter q es)) → IsStrictlySortedBy nat_cmp (keys_of (cond b (e ∷ filter q es) (filter q es)))
    by true rest = (keys-filter (λ y. nat_cmp e.0 y ≡ Less) q es ascending.0, rest)
    by false rest = rest

numbers-filter : (P : ℕ → Type 0) (q : ℕ × Request → Bool) (es : List (ℕ × Request)) → AllByRecursion P (numbers_among es)
    → AllByRecursion P (numbers_among (filter q es))
numbers-filter P q [] all = tt
numbers-filter P q (e ∷ es) all = by e.1 refl all (λ h. numbers-filter P q es h)
  where
    by : (r : Request) → e.1 ≡ r → AllByRecursion P (map (λ s. s.number) (stops_of r ++ stops_among es))
        → (AllByRecursion P (numbers_among es) → AllByRecursion P (numbers_among (filter q es)))
        → AllByRecursion P (numbers_among (cond (q e) (e ∷ filter q es) (filter q es)))
    by (Single a) is all rest = kept (q e)
      where
        kept : (b : Bool) → AllByRecursion P (numbers_among (cond b (e ∷ filter q es) (filter q es)))
        kept true = rw is (all.0, rest all.1)
        kept false = rest all.1
    by (Pair a b) is all rest = kept (q e)
      where
        kept : (b : Bool) → AllByRecursion P (numbers_among (cond b (e ∷ filter q es) (filter q es)))
        kept true = rw is (all.0, (all.1.0, rest all.1.1))
        kept false = rest all.1.1

distinct-filter : (q : ℕ × Request → Bool) (es : List (ℕ × Request)) → IsDistinct nat_eq (numbers_among es) → IsDistinct nat_eq (numbers_among (filter q es))
unfolding IsDistinct
distinct-filter q [] distinct = tt
distinct-filter q (e ∷ es) distinct = by e.1 refl distinct (λ h. distinct-filter q es h)
  where
    by : (r : Request) → e.1 ≡ r → IsDistinct nat_eq (map (λ s. s.number) (stops_of r ++ stops_among es))
        → (IsDistinct nat_eq (numbers_among es) → IsDistinct nat_eq (numbers_among (filter q es)))
        → IsDistinct nat_eq (numbers_among (cond (q e) (e ∷ filter q es) (filter q es)))
    by (Single a) is d rest = kept (q e)
      where
        kept : (b : Bool) → IsDistinct nat_eq (numbers_among (cond b (e ∷ filter q es) (filter q es)))
        kept true = rw is (numbers-filter (λ y. nat_eq a.number y ≡ false) q es d.0, rest d.1)
        kept false = rest d.1
    by (Pair a b) is d rest = kept (q e)
      where
        kept : (c : Bool) → IsDistinct nat_eq (numbers_among (cond c (e ∷ filter q es) (filter q es)))
        kept true =
            rw is
            ((d.0.0, numbers-filter (λ y. nat_eq a.number y ≡ false) q es d.0.1), (numbers-filter (λ y. nat_eq b.number y ≡ false) q es d.1.0, rest d.1.1))
        kept false = rest d.1.1

-- removing a request keeps the problem valid
pub IsInstance-without_request : (p : Instance) (name : ℕ) → IsInstance p → IsInstance (without_request p name)
IsInstance-without_request p name valid =
    let other : ℕ × Request → Bool = λ e. not (eqb e.0 name) in
    record {
      depot = valid.depot;
      capacity = valid.capacity;
      fleet = valid.fleet;
      named = all-filter (λ e. e.0 ≡ request_name e.1) other p.requests valid.named;
      valid = all-filter (λ e. IsRequest e.1) other p.requests valid.valid;
      ascending = ascending-filter other p.requests valid.ascending;
      distinct = distinct-filter other p.requests valid.distinct;
      above = numbers-filter (λ n. n < p.next_number) other p.requests valid.above;
      next_number_min = valid.next_number_min;
      next_number_max = valid.next_number_max;
    }

-- a number with an entry is within the table
within : (xs : List (Option StopEntry)) (n : ℕ) (l : StopEntry) → table_entry xs n ≡ Some l → n < length xs
within [] n l is = absurd (none_some l is)
within (x ∷ xs) zero l is = omega arith
within (x ∷ xs) (suc n) l is = let h = within xs n l is in omega arith

-- the numbers of all stops of a request are within the table
pub reaches : (p : Instance) (name : ℕ) (r : Request) (xs : List (Option StopEntry)) → IsInstance p
    → ((n : ℕ) → table_entry xs n ≡ first_some (entry_in n) p.requests) → lookup (nat_eq name) p.requests ≡ Some r → number_after r ≤ length xs
reaches p name r xs valid table at = by r refl
  where
    each : (n : ℕ) (s : Stop) → stop_in n r ≡ Some s → n < length xs
    each n s has =
        let l : StopEntry = record { name = request_name r; partner = partner_in n r; stop = s } in
        within xs n l
        (table n
        ∙ named-found n (entry_in n) (by_number-asks n) p.requests name r s l valid.distinct at has
        (ap (option_map (λ s. record { name = request_name r; partner = partner_in n r; stop = s })) has))

    by : (q : Request) → r ≡ q → number_after q ≤ length xs
    by (Single a) is = let h = each a.number a (ap (stop_in a.number) is ∙ rw (eq-eqb a.number a.number refl) refl) in omega arith
    by (Pair a b) is =
        let first = each a.number a (ap (stop_in a.number) is ∙ rw (eq-eqb a.number a.number refl) refl) in
        let second : b.number < length xs = elim (eqb_tells a.number b.number) [
          | inl t ↦ subst (λ n. n < length xs) t.1 first
          | inr t ↦ each b.number b (ap (stop_in b.number) is ∙ rw (t.0, eq-eqb b.number b.number refl) refl)
        ] in
        omega arith

-- a request that is stored under a name has that name
named-own : (es : List (ℕ × Request)) (name : ℕ) (r : Request) → AllByRecursion (λ e. e.0 ≡ request_name e.1) es → lookup (nat_eq name) es ≡ Some r
    → request_name r ≡ name
named-own [] name r named at = absurd (none_some r at)
named-own (e ∷ es) name r named at = by (eqb_tells name e.0) (λ h. named-own es name r named.1 h)
  where
    by : ((eqb name e.0 ≡ true) × (name ≡ e.0)) ⊎ ((eqb name e.0 ≡ false) × (name ≢ e.0)) → (lookup (nat_eq name) es ≡ Some r → request_name r ≡ name)
        → request_name r ≡ name
    by (inl t) rest =
        let same : e.1 ≡ r =
        (let g : cond (eqb name e.0) (Some e.1) (lookup (nat_eq name) es) ≡ Some r = at in let h : Some e.1 ≡ Some r = (rw (t.0) at g) in cc) in
        sym (ap request_name same) ∙ sym named.0 ∙ sym t.1
    by (inr t) rest = rest (let g : cond (eqb name e.0) (Some e.1) (lookup (nat_eq name) es) ≡ Some r = at in rw (t.0) at g)

-- the entries that stay in the table are those of the other requests
pub cleared : (p : Instance) (name n : ℕ) (r : Request) → IsInstance p → lookup (nat_eq name) p.requests ≡ Some r
    → cond (is_some (stop_in n r)) None (first_some (entry_in n) p.requests) ≡ first_some (entry_in n) (without_entry p.requests name)
cleared p name n r valid at = by (stop_in n r) refl
  where
    own : request_name r ≡ name
    own = named-own p.requests name r valid.named at

    by : (o : Option Stop) → stop_in n r ≡ o
        → cond (is_some o) None (first_some (entry_in n) p.requests) ≡ first_some (entry_in n) (without_entry p.requests name)
    by (Some s) has =
        let found = named-found n (itself n) (itself-asks n) p.requests name r s r valid.distinct at has (ap (option_map (λ _. r)) has) in
        let none = freed p.requests n r valid.named valid.distinct found in
        sym (subst (λ m. first_some (entry_in n) (without_entry p.requests m) ≡ None) own
        (none-asked n (entry_in n) (by_number-asks n) (without_entry p.requests (request_name r)) none))
    by None has = sym (kept-others n name (entry_in n) (by_number-asks n) p.requests valid.named valid.distinct other)
      where
        other : (q : Request) → first_some (itself n) p.requests ≡ Some q → request_name q ≢ name
        other q found same =
            let there : lookup (nat_eq name) p.requests ≡ Some q =
            subst (λ m. lookup (nat_eq m) p.requests ≡ Some q) same (lookup-request_with p n q valid found) in
            let one : q ≡ r = (let g : Some q ≡ Some r = sym there ∙ at in cc) in
            found-has p.requests n q found (ap (stop_in n) one ∙ has)
