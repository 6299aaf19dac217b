-- A lookup among the requests returns the answer of the first request that has one.
use Rattle.std.proofs.Common.{◌≡◌, ℕ, ◌<◌, true, false, arith, cond, List, [], ◌∷◌, Option, Some, None, refl, sym, ap, subst, ◌∙◌, eqb, inl, inr, nat_eq, IsSome, IfSome}
use Rattle.std.proofs.lemmas.Bool.Decides.{eqb_tells}
use Rattle.std.proofs.lemmas.Bool.{eq-eqb, le-ltb}
use Rattle.std.specs.Map.{lookup, keys_of}
use Rattle.std.specs.List.Sorted.{IsStrictlySortedBy}
use Rattle.std.specs.Ordering.{nat_cmp}
use Rattle.std.specs.declared.cmp.Ordering.TheVariants.{Less, Equal}
use Rattle.std.specs.List.{AllByRecursion}
use Rattle.std.specs.Option.{option_map, option_and_then, option_or}
use Rattle.std.proofs.Common.{map, ◌++◌, length, take, drop}
use Rattle.std.proofs.Math.Seq.{take-append_seam}
use Rattle.plan_types.specs.Limits.{IsStop}
use Rattle.plan_types.specs.Request.{request_name, stop_in, partner_in, pickup_in, stops_of, IsRequest}
use Rattle.plan_types.specs.Instance.{
  Instance,
  first_some,
  stop_at,
  name_at,
  request_with,
  partner_at,
  pickup_at,
  stops_among,
  numbers_among,
  lesser_names,
  greater_names,
  with_entry,
  Splits,
  IsInstance,
  IsTaken,
}
use Rattle.plan_types.specs.StopEntry.{entry_in}
use Rattle.plan_types.specs.declared.requests.Stop.{Stop}
use Rattle.plan_types.specs.declared.problems.StopEntry.{StopEntry}
use Rattle.plan_types.specs.declared.requests.Request.{Request}
use Rattle.plan_types.specs.declared.requests.Request.TheVariants.{Single, Pair}

pub option_or-map : {X Y : Type 0} (g : X → Y) (o p : Option X) → option_or (option_map g o) (option_map g p) ≡ option_map g (option_or o p)
option_or-map g None p = refl
option_or-map g (Some x) p = refl

-- a lookup whose answers are a function of another lookup's answers
pub first_some-map : {X Y : Type 0} (g : X → Y) (f : Request → Option X) (h : Request → Option Y) → ((r : Request) → h r ≡ option_map g (f r))
    → (es : List (ℕ × Request)) → first_some h es ≡ option_map g (first_some f es)
first_some-map g f h same [] = refl
first_some-map g f h same (e ∷ es) = rw (same e.1, first_some-map g f h same es) (option_or-map g (f e.1) (first_some f es))

option_map-id : {X Y : Type 0} (g : X → Y) (back : Y → X) (id : (x : X) → back (g x) ≡ x) (o : Option X) → o ≡ option_map back (option_map g o)
option_map-id g back id None = refl
option_map-id g back id (Some x) = ap Some (sym (id x))

option_map-const : {X Y Z : Type 0} (g : X → Y) (z : Z) (back : Y → Z) (is : (x : X) → back (g x) ≡ z) (o : Option X)
    → option_map (λ _. z) o ≡ option_map back (option_map g o)
option_map-const g z back is None = refl
option_map-const g z back is (Some x) = ap Some (sym (is x))

-- the stop and the name that lookups find are those of the table's entry
pub stop_from_located : (es : List (ℕ × Request)) (n : ℕ) → first_some (stop_in n) es ≡ option_map (λ l. l.stop) (first_some (entry_in n) es)
stop_from_located es n = first_some-map (λ l. l.stop) (entry_in n) (stop_in n) (λ r. option_map-id _ (λ l. l.stop) (λ x. refl) (stop_in n r)) es

pub name_from_located : (p : Instance) (n : ℕ) → name_at p n ≡ option_map (λ l. l.name) (first_some (entry_in n) p.requests)
name_from_located p n =
    sym (first_some-map request_name (λ r. option_map (λ _. r) (stop_in n r)) (λ r. option_map (λ _. request_name r) (stop_in n r))
    (λ r. option_map-twice r (stop_in n r)) p.requests)
    ∙ first_some-map (λ l. l.name) (entry_in n) _ (λ r. option_map-const _ (request_name r) (λ l. l.name) (λ x. refl) (stop_in n r)) p.requests
  where
    option_map-twice : (r : Request) (o : Option Stop) → option_map (λ _. request_name r) o ≡ option_map request_name (option_map (λ _. r) o)
    option_map-twice r None = refl
    option_map-twice r (Some s) = refl

-- what is true for the answer of each request is true for the first answer
pub none_some : {X : Type 0} (x : X) → None ≡ Some x → ⊥
none_some x h = cc

pub first_some-holds : {X : Type 0} (f : Request → Option X) (P : Request → Type 0) (Q : X → Type 0) → ((r : Request) (x : X) → P r → f r ≡ Some x → Q x)
    → (es : List (ℕ × Request)) (x : X) → AllByRecursion (λ e. P e.1) es → first_some f es ≡ Some x → Q x
first_some-holds f P Q each [] x all is = absurd (none_some x is)
first_some-holds f P Q each (e ∷ es) x all is = by (f e.1) refl (λ h. first_some-holds f P Q each es x all.1 h)
  where
    by : (o : Option _) → f e.1 ≡ o → (first_some f es ≡ Some x → Q x) → Q x
    by None o rest = rest (let h : option_or (f e.1) (first_some f es) ≡ Some x = is in rw o at h)
    by (Some y) o rest = each e.1 x all.0 (o ∙ (let h : option_or (f e.1) (first_some f es) ≡ Some x = is in rw o at h))

-- the answer is s if its number a is n, else the answer of o; a property of both is a property of the answer
chosen : {X : Type 0} (a n : ℕ) (s : X) (o : Option X) (Q : X → Type 0) (x : X) → (a ≡ n → Q s) → (o ≡ Some x → Q x) → cond (eqb a n) (Some s) o ≡ Some x → Q x
chosen a n s o Q x here there is = elim (eqb_tells a n) [
  | inl t ↦ let e : cond (eqb a n) (Some s) o ≡ Some x = is in let h : s ≡ x = (let g : Some s ≡ Some x = (rw t.0 at e) in cc) in subst Q h (here t.1)
  | inr t ↦ let e : cond (eqb a n) (Some s) o ≡ Some x = is in there (rw t.0 at e)
]

pub stop_in-holds : (n : ℕ) (r : Request) (s : Stop) → IsRequest r → stop_in n r ≡ Some s → (s.number ≡ n) × IsStop s
stop_in-holds n (Single a) s valid is = chosen a.number n a None (λ s. (s.number ≡ n) × IsStop s) s (λ e. (e, valid.0)) (λ e. absurd (none_some s e)) is
stop_in-holds n (Pair a b) s valid is =
    chosen a.number n a _ (λ s. (s.number ≡ n) × IsStop s) s (λ e. (e, valid.0))
    (chosen b.number n b None (λ s. (s.number ≡ n) × IsStop s) s (λ e. (e, valid.1)) (λ e. absurd (none_some s e))) is

-- a stop that is found has the number searched for, and keeps its limits
pub stop_from_first : (p : Instance) (n : ℕ) (s : Stop) → IsInstance p → stop_at p n ≡ Some s → (s.number ≡ n) × IsStop s
stop_from_first p n s valid is =
    first_some-holds (stop_in n) IsRequest (λ s. (s.number ≡ n) × IsStop s) (λ r x v h. stop_in-holds n r x v h) p.requests s valid.valid is

-- the stop in the table's entry is the one that a lookup finds
pub stop_at_located : (p : Instance) (n : ℕ) (l : StopEntry) → first_some (entry_in n) p.requests ≡ Some l → stop_at p n ≡ Some l.stop
stop_at_located p n l h = stop_from_located p.requests n ∙ ap (option_map (λ l. l.stop)) h

pub stop_at_none : (p : Instance) (n : ℕ) → first_some (entry_in n) p.requests ≡ None → stop_at p n ≡ None
stop_at_none p n h = stop_from_located p.requests n ∙ ap (option_map (λ l. l.stop)) h

pub none_from_not_some : {X : Type 0} (o : Option X) → (IsSome o → ⊥) → o ≡ None
none_from_not_some None h = refl
none_from_not_some (Some x) h = absurd (h refl)

-- no lookup finds a stop of a request whose numbers are free
pub stop_at-free : (p : Instance) (r : Request) (n : ℕ) (s : Stop) → (IsTaken p r → ⊥) → stop_in n r ≡ Some s → stop_at p n ≡ None
stop_at-free p (Single a) n s free is =
    chosen a.number n a None (λ _. stop_at p n ≡ None) s (λ e. subst (λ m. stop_at p m ≡ None) e (none_from_not_some _ free)) (λ e. absurd (none_some s e)) is
stop_at-free p (Pair a b) n s free is =
    chosen a.number n a _ (λ _. stop_at p n ≡ None) s (λ e. subst (λ m. stop_at p m ≡ None) e (none_from_not_some _ (λ t. free (inl t))))
    (chosen b.number n b None (λ _. stop_at p n ≡ None) s (λ e. subst (λ m. stop_at p m ≡ None) e (none_from_not_some _ (λ t. free (inr t))))
    (λ e. absurd (none_some s e))) is

first_none : {X : Type 0} (o p : Option X) → option_or o p ≡ None → o ≡ None
first_none None p h = refl
first_none (Some x) p h = h

rest_none : {X : Type 0} (o p : Option X) → option_or o p ≡ None → p ≡ None
rest_none None p h = h
rest_none (Some x) p h = absurd (none_some x (sym h))

-- the name of a request is the number of one of its stops
stop_in-name : (r : Request) (n : ℕ) → stop_in n r ≡ None → nat_eq n (request_name r) ≡ false
stop_in-name (Single a) n h = elim (eqb_tells n a.number) [
  | inl t ↦ absurd (none_some a (sym h ∙ rw (eq-eqb a.number n (sym t.1)) refl))
  | inr t ↦ t.0
]
stop_in-name (Pair a b) n h = elim (eqb_tells n a.number) [
  | inl t ↦ absurd (none_some a (sym h ∙ rw (eq-eqb a.number n (sym t.1)) refl))
  | inr t ↦ t.0
]

-- if no stop has this number, no request has it as its name
pub lookup-free : (es : List (ℕ × Request)) (n : ℕ) → AllByRecursion (λ e. e.0 ≡ request_name e.1) es → first_some (stop_in n) es ≡ None
    → lookup (nat_eq n) es ≡ None
lookup-free [] n named h = refl
lookup-free (e ∷ es) n named h =
    let apart : nat_eq n e.0 ≡ false = rw named.0 (stop_in-name e.1 n (first_none _ _ h)) in
    rw apart (lookup-free es n named.1 (rest_none _ _ h))

stop_in-own : (r : Request) → (s : Stop) × (stop_in (request_name r) r ≡ Some s)
stop_in-own (Single a) = (a, rw (eq-eqb a.number a.number refl) refl)
stop_in-own (Pair a b) = (a, rw (eq-eqb a.number a.number refl) refl)

pub lookup-name-free : (p : Instance) (r : Request) → IsInstance p → (IsTaken p r → ⊥) → lookup (nat_eq (request_name r)) p.requests ≡ None
lookup-name-free p r valid free =
    let own = stop_in-own r in
    lookup-free p.requests (request_name r) valid.named (stop_at-free p r (request_name r) own.0 free own.1)

-- if a lookup finds no stop with this number, no request has such a stop
pub numbers-free : (es : List (ℕ × Request)) (n : ℕ) → first_some (stop_in n) es ≡ None → AllByRecursion (λ m. nat_eq n m ≡ false) (numbers_among es)
numbers-free [] n h = tt
numbers-free (e ∷ es) n h = by e.1 (first_none _ _ h) (numbers-free es n (rest_none _ _ h))
  where
    apart : (a : Stop) (o : Option Stop) → cond (eqb a.number n) (Some a) o ≡ None → (nat_eq n a.number ≡ false) × (o ≡ None)
    apart a o h = elim (eqb_tells n a.number) [
      | inl t ↦ absurd (none_some a (sym h ∙ rw (eq-eqb a.number n (sym t.1)) refl))
      | inr t ↦
          (t.0, let g : cond (eqb a.number n) (Some a) o ≡ None = h in elim (eqb_tells a.number n) [ inl u ↦ absurd (t.1 (sym u.1)) | inr u ↦ (rw u.0 at g) ])
    ]

    by : (r : Request) → stop_in n r ≡ None → AllByRecursion (λ m. nat_eq n m ≡ false) (numbers_among es)
        → AllByRecursion (λ m. nat_eq n m ≡ false) (map (λ s. s.number) (stops_of r ++ stops_among es))
    by (Single a) h rest = ((apart a None h).0, rest)
    by (Pair a b) h rest = let f = apart a _ h in (f.0, ((apart b None f.1).0, rest))

first_some-append : {X : Type 0} (f : Request → Option X) (xs ys : List (ℕ × Request)) → first_some f (xs ++ ys) ≡ option_or (first_some f xs) (first_some f ys)
first_some-append f [] ys = refl
first_some-append f (x ∷ xs) ys = ap (option_or (f x.1)) (first_some-append f xs ys) ∙ option_or-assoc (f x.1) (first_some f xs) (first_some f ys)
  where
    option_or-assoc : {X : Type 0} (a b c : Option X) → option_or a (option_or b c) ≡ option_or (option_or a b) c
    option_or-assoc None b c = refl
    option_or-assoc (Some x) b c = refl

-- if only the new request can answer, the lookup finds its answer, wherever the request is inserted
pub first_some-insert : {X : Type 0} (f : Request → Option X) (xs ys : List (ℕ × Request)) (e : ℕ × Request)
    → ((x : X) → f e.1 ≡ Some x → first_some f (xs ++ ys) ≡ None) → first_some f (xs ++ e ∷ ys) ≡ option_or (f e.1) (first_some f (xs ++ ys))
first_some-insert {X} f xs ys e apart = first_some-append f xs (e ∷ ys) ∙ by (f e.1) refl
  where
    by : (o : Option X) → f e.1 ≡ o → option_or (first_some f xs) (option_or o (first_some f ys)) ≡ option_or o (first_some f (xs ++ ys))
    by None h = sym (first_some-append f xs ys)
    by (Some x) h = ap (λ o. option_or o (Some x)) (first_none (first_some f xs) (first_some f ys) (sym (first_some-append f xs ys) ∙ apart x h))

-- the request itself, if it has the stop
abbrev pub itself : ℕ → Request → Option Request
itself n r = option_map (λ _. r) (stop_in n r)

-- the lookup finds nothing in a request that has no stop with number n
abbrev pub AsksStop : {X : Type 0} → ℕ → (Request → Option X) → Type 0
AsksStop n f = (r : Request) → stop_in n r ≡ None → f r ≡ None

pub itself-asks : (n : ℕ) → AsksStop n (itself n)
itself-asks n r h = ap (option_map (λ _. r)) h

pub by_number-asks : (n : ℕ) → AsksStop n (entry_in n)
by_number-asks n r h = ap (option_map (λ s. record { name = request_name r; partner = partner_in n r; stop = s })) h

-- a lookup that `AsksStop` describes finds nothing if no request has the stop
pub none-asked : {X : Type 0} (n : ℕ) (f : Request → Option X) → AsksStop n f → (es : List (ℕ × Request)) → first_some (stop_in n) es ≡ None
    → first_some f es ≡ None
none-asked n f asks [] h = refl
none-asked n f asks (e ∷ es) h = rw (asks e.1 (first_none _ _ h)) (none-asked n f asks es (rest_none _ _ h))

-- a lookup after a request with free numbers is added
pub found-with_entry : {X : Type 0} (p : Instance) (r : Request) (n : ℕ) (f : Request → Option X) → AsksStop n f → (IsTaken p r → ⊥)
    → Splits p.requests (request_name r) → first_some f (with_entry p.requests r) ≡ option_or (f r) (first_some f p.requests)
found-with_entry p r n f asks free split =
    let lesser = lesser_names p.requests (request_name r) in
    let greater = greater_names p.requests (request_name r) in
    let whole : first_some f (lesser ++ greater) ≡ first_some f p.requests = ap (first_some f) split in
    first_some-insert f lesser greater (request_name r, r) (λ x h. whole ∙ none-asked n f asks p.requests (nothing (stop_in n r) refl x h))
    ∙ ap (option_or (f r)) whole
  where
    nothing : (o : Option Stop) → stop_in n r ≡ o → (x : _) → f r ≡ Some x → stop_at p n ≡ None
    nothing None e x h = absurd (none_some x (sym (asks r e) ∙ h))
    nothing (Some s) e x h = stop_at-free p r n s free e

-- overwriting the first n items with n new ones leaves the new ones there
pub take-overwritten : {X : Type 0} (n : ℕ) (xs ys : List X) → length xs ≡ n → take n (xs ++ drop (length xs) ys) ≡ xs
take-overwritten n xs ys is = ap (λ m. take m (xs ++ drop (length xs) ys)) (sym is) ∙ take-append_seam xs (drop (length xs) ys)

-- what holds for all names holds for the name of a request that is found
found-name : (f : Request → Option Request) (own : (r q : Request) → f r ≡ Some q → q ≡ r) (es : List (ℕ × Request)) (r : Request) (P : ℕ → Type 0)
    → AllByRecursion (λ e. e.0 ≡ request_name e.1) es → AllByRecursion P (keys_of es) → first_some f es ≡ Some r → P (request_name r)
found-name f own [] r P named all is = absurd (none_some r is)
found-name f own (e ∷ es) r P named all is = by (f e.1) refl (λ h. found-name f own es r P named.1 all.1 h)
  where
    by : (o : Option Request) → f e.1 ≡ o → (first_some f es ≡ Some r → P (request_name r)) → P (request_name r)
    by None o rest = rest (let h : option_or (f e.1) (first_some f es) ≡ Some r = is in rw o at h)
    by (Some q) o rest =
        let h : f e.1 ≡ Some r = o ∙ (let h : option_or (f e.1) (first_some f es) ≡ Some r = is in rw o at h) in
        subst P (named.0 ∙ ap request_name (sym (own e.1 r h))) all.0

-- the request that has a stop is the one stored under its name
lookup-found : (f : Request → Option Request) (own : (r q : Request) → f r ≡ Some q → q ≡ r) (es : List (ℕ × Request)) (r : Request)
    → AllByRecursion (λ e. e.0 ≡ request_name e.1) es → IsStrictlySortedBy nat_cmp (keys_of es) → first_some f es ≡ Some r
    → lookup (nat_eq (request_name r)) es ≡ Some r
unfolding IsStrictlySortedBy
lookup-found f own [] r named ascending is = absurd (none_some r is)
lookup-found f own (e ∷ es) r named ascending is = by (f e.1) refl (λ h. lookup-found f own es r named.1 ascending.1 h)
  where
    by : (o : Option Request) → f e.1 ≡ o → (first_some f es ≡ Some r → lookup (nat_eq (request_name r)) es ≡ Some r)
        → lookup (nat_eq (request_name r)) (e ∷ es) ≡ Some r
    by None o rest =
        let h : first_some f es ≡ Some r = (let h : option_or (f e.1) (first_some f es) ≡ Some r = is in rw o at h) in
        let less : nat_cmp e.0 (request_name r) ≡ Less = found-name f own es r (λ y. nat_cmp e.0 y ≡ Less) named.1 ascending.0 h in
        let apart : nat_eq (request_name r) e.0 ≡ false = by_less e.0 (request_name r) less in
        rw apart (rest h)
      where
        by_less : (a b : ℕ) → nat_cmp a b ≡ Less → nat_eq b a ≡ false
        by_less a b h = elim (eqb_tells b a) [
          | inl t ↦ (let g : nat_cmp a b ≡ Less = h in let z : Equal ≡ Less = (rw (le-ltb a b (omega arith), eq-eqb a b (sym t.1)) at g) in cc)
          | inr t ↦ t.0
        ]
    by (Some q) o rest =
        let h : f e.1 ≡ Some r = o ∙ (let h : option_or (f e.1) (first_some f es) ≡ Some r = is in rw o at h) in
        let same = own e.1 r h in
        let hit : nat_eq (request_name r) e.0 ≡ true = eq-eqb (request_name r) e.0 (ap request_name same ∙ sym named.0) in
        rw hit (ap Some (sym same))

pub lookup-request_with : (p : Instance) (n : ℕ) (r : Request) → IsInstance p → request_with p n ≡ Some r → lookup (nat_eq (request_name r)) p.requests ≡ Some r
lookup-request_with p n r valid is =
    lookup-found (λ r. option_map (λ _. r) (stop_in n r)) (λ r q h. itself r q (stop_in n r) h) p.requests r valid.named valid.ascending is
  where
    itself : (r q : Request) (o : Option Stop) → option_map (λ _. r) o ≡ Some q → q ≡ r
    itself r q None h = absurd (none_some q h)
    itself r q (Some s) h = (cc)

-- each number of the request is below this bound
unfoldable pub NumbersBelow : ℕ → Request → Type 0
NumbersBelow m (Single s) = s.number < m
NumbersBelow m (Pair a b) = (a.number < m) × (b.number < m)

pub below-each : (m : ℕ) (es : List (ℕ × Request)) → AllByRecursion (λ n. n < m) (numbers_among es) → AllByRecursion (λ e. NumbersBelow m e.1) es
unfolding NumbersBelow
below-each m [] all = tt
below-each m (e ∷ es) all = by e.1 all (λ h. below-each m es h)
  where
    by : (r : Request) → AllByRecursion (λ n. n < m) (map (λ s. s.number) (stops_of r ++ stops_among es))
        → (AllByRecursion (λ n. n < m) (numbers_among es) → AllByRecursion (λ e. NumbersBelow m e.1) es)
        → NumbersBelow m r × AllByRecursion (λ e. NumbersBelow m e.1) es
    by (Single a) all rest = (all.0, rest all.1)
    by (Pair a b) all rest = ((all.0, all.1.0), rest all.1.1)

-- the number of a stop of the problem is below the next number
pub stop_at-below : (p : Instance) (n : ℕ) (s : Stop) → IsInstance p → stop_at p n ≡ Some s → n < p.next_number
unfolding NumbersBelow
stop_at-below p n s valid is =
    first_some-holds (stop_in n) (NumbersBelow p.next_number) (λ _. n < p.next_number) each p.requests s (below-each p.next_number p.requests valid.above) is
  where
    each : (r : Request) (x : Stop) → NumbersBelow p.next_number r → stop_in n r ≡ Some x → n < p.next_number
    each (Single a) x below h = chosen a.number n a None (λ _. n < p.next_number) x (λ e. omega arith) (λ e. absurd (none_some x e)) h
    each (Pair a b) x below h =
        chosen a.number n a _ (λ _. n < p.next_number) x (λ e. let g = below.0 in omega arith)
        (chosen b.number n b None (λ _. n < p.next_number) x (λ e. let g = below.1 in omega arith) (λ e. absurd (none_some x e))) h

-- the request stored under the name is the one that has the stop
pub lookup-name_at : (p : Instance) (n name : ℕ) → IsInstance p → name_at p n ≡ Some name → lookup (nat_eq name) p.requests ≡ request_with p n
lookup-name_at p n name valid is = by (request_with p n) refl
  where
    by : (o : Option Request) → request_with p n ≡ o → lookup (nat_eq name) p.requests ≡ o
    by None h = absurd (none_some name (sym (ap (option_map request_name) h) ∙ is))
    by (Some r) h =
        let same : request_name r ≡ name = (let g : Some (request_name r) ≡ Some name = sym (ap (option_map request_name) h) ∙ is in cc) in
        subst (λ m. lookup (nat_eq m) p.requests ≡ Some r) same (lookup-request_with p n r valid h)

-- if `of_entry` answers for an entry what `of_request` answers for its request, the lookups by both agree
module _ {X : Type 0} (n : ℕ) (of_request : Request → Option X) (of_entry : StopEntry → Option X)
    (same : (r : Request) (s : Stop) → stop_in n r ≡ Some s
    → of_request r ≡ of_entry (record { name = request_name r; partner = partner_in n r; stop = s })) where
  said : (es : List (ℕ × Request)) → option_and_then of_request (first_some (itself n) es) ≡ option_and_then of_entry (first_some (entry_in n) es)
  said [] = refl
  said (e ∷ es) = by (stop_in n e.1) refl (said es)
    where
      by : (o : Option Stop) → stop_in n e.1 ≡ o
          → option_and_then of_request (first_some (itself n) es) ≡ option_and_then of_entry (first_some (entry_in n) es)
          → option_and_then of_request (option_or (itself n e.1) (first_some (itself n) es))
          ≡ option_and_then of_entry (option_or (entry_in n e.1) (first_some (entry_in n) es))
      by None o rest = rw o rest
      by (Some s) o rest = rw o (same e.1 s o)

-- the partner, and the pickup of a delivery, are those of the table's entry
pub partner_from_located : (p : Instance) (n : ℕ) → partner_at p n ≡ option_and_then (λ l. l.partner) (first_some (entry_in n) p.requests)
partner_from_located p n = said n (partner_in n) (λ l. l.partner) (λ r s h. refl) p.requests

pub pickup_from_located : (p : Instance) (n : ℕ)
    → pickup_at p n ≡ option_and_then (λ l. cond (eqb l.name n) None (Some l.name)) (first_some (entry_in n) p.requests)
pickup_from_located p n = said n (pickup_in n) (λ l. cond (eqb l.name n) None (Some l.name)) same p.requests
  where
    same : (r : Request) (s : Stop) → stop_in n r ≡ Some s → pickup_in n r ≡ cond (eqb (request_name r) n) None (Some (request_name r))
    same (Single a) s h = elim (eqb_tells a.number n) [
      | inl t ↦ rw (t.0) refl
      | inr t ↦ absurd (none_some s (let g : cond (eqb a.number n) (Some a) None ≡ Some s = h in rw (t.0) at g))
    ]
    same (Pair a b) s h = elim (eqb_tells a.number n) [
      | inl t ↦ rw (t.0) refl
      | inr t ↦ elim (eqb_tells b.number n) [
        | inl u ↦ rw (t.0, u.0) refl
        | inr u ↦ absurd (none_some s (let g : cond (eqb a.number n) (Some a) (cond (eqb b.number n) (Some b) None) ≡ Some s = h in rw (t.0, u.0) at g))
      ]
    ]

-- a number that a lookup finds in a request is below the next number
below_of : (p : Instance) (n m : ℕ) (of_request : Request → Option ℕ)
    → ((r : Request) → NumbersBelow p.next_number r → of_request r ≡ Some m → m < p.next_number) → IsInstance p
    → option_and_then of_request (request_with p n) ≡ Some m → m < p.next_number
below_of p n m of_request each valid is = by (request_with p n) refl
  where
    by : (o : Option Request) → request_with p n ≡ o → m < p.next_number
    by None h = absurd (none_some m (sym (ap (option_and_then of_request) h) ∙ is))
    by (Some r) h =
        each r
        (first_some-holds (itself n) (NumbersBelow p.next_number) (NumbersBelow p.next_number) own p.requests r
        (below-each p.next_number p.requests valid.above) h)
        (sym (ap (option_and_then of_request) h) ∙ is)
      where
        own : (r q : Request) → NumbersBelow p.next_number r → itself n r ≡ Some q → NumbersBelow p.next_number q
        own r q below h = of_stop (stop_in n r) h
          where
            of_stop : (o : Option Stop) → option_map (λ _. r) o ≡ Some q → NumbersBelow p.next_number q
            of_stop None g = absurd (none_some q g)
            of_stop (Some s) g = let one : r ≡ q = (cc) in subst (NumbersBelow p.next_number) one below

pub partner-below : (p : Instance) (n m : ℕ) → IsInstance p → partner_at p n ≡ Some m → m < p.next_number
unfolding NumbersBelow
partner-below p n m valid is = below_of p n m (partner_in n) each valid is
  where
    each : (r : Request) → NumbersBelow p.next_number r → partner_in n r ≡ Some m → m < p.next_number
    each (Single a) below h = absurd (none_some m h)
    each (Pair a b) below h =
        chosen a.number n b.number _ (λ x. x < p.next_number) m (λ e. below.1)
        (chosen b.number n a.number None (λ x. x < p.next_number) m (λ e. below.0) (λ e. absurd (none_some m e))) h

pub pickup-below : (p : Instance) (n m : ℕ) → IsInstance p → pickup_at p n ≡ Some m → m < p.next_number
unfolding NumbersBelow
pickup-below p n m valid is = below_of p n m (pickup_in n) each valid is
  where
    each : (r : Request) → NumbersBelow p.next_number r → pickup_in n r ≡ Some m → m < p.next_number
    each (Single a) below h = absurd (none_some m h)
    each (Pair a b) below h = elim (eqb_tells a.number n) [
      | inl t ↦ absurd (none_some m (let g : cond (eqb a.number n) None (cond (eqb b.number n) (Some a.number) None) ≡ Some m = h in rw (t.0) at g))
      | inr t ↦ chosen b.number n a.number None (λ x. x < p.next_number) m (λ e. below.0) (λ e. absurd (none_some m e))
          (let g : cond (eqb a.number n) None (cond (eqb b.number n) (Some a.number) None) ≡ Some m = h in rw (t.0) at g)
    ]

-- a bound for an optional number
pub some_below : (b : ℕ) (o : Option ℕ) → ((m : ℕ) → o ≡ Some m → m < b) → IfSome o (λ m. m < b)
some_below b None each = tt
some_below b (Some m) each = each m refl
