-- Adding a request to a list that is in ascending order of name.
use Rattle.std.proofs.Common.{
  ◌≡◌,
  ◌≢◌,
  ◌⊎◌,
  ℕ,
  Bool,
  true,
  false,
  filter,
  subst,
  eqb,
  suc,
  zero,
  ◌<◌,
  ◌≤◌,
  cond,
  List,
  [],
  ◌∷◌,
  ◌++◌,
  length,
  get_or,
  take,
  drop,
  Option,
  Some,
  None,
  Result,
  Ok,
  Err,
  refl,
  sym,
  ap,
  ◌∙◌,
  nat_eq,
  inl,
  inr,
  arith,
  slice_get,
  ◌-◌,
  ◌↔◌,
  All,
  IsTrue,
  nat_lt,
}
use Rattle.std.proofs.lemmas.Bool.{lt-ltb, le-ltb, ltb-true, eq-eqb, ne_eqb, cases_lt, cases_order}
use Rattle.std.specs.List.{AllByRecursion}
use Rattle.std.specs.declared.cmp.Ordering.TheVariants.{Less, Equal, Greater}
use Rattle.std.proofs.lemmas.Bool.Decides.{eqb_tells}
use Rattle.std.proofs.Math.Seq.{get_or-append_seam}
use Rattle.std.proofs.lemmas.List.{length-append, take_all, drop_all}
use Rattle.std.proofs.lemmas.List.Edits.{remove-append_right}
use Rattle.std.proofs.lemmas.Option.{slice_get-get_or, slice_get-map, slice_get_within, get_or_from_slice_get}
use Rattle.std.specs.List.{remove}
use Rattle.std.specs.Map.{keys_of, lookup}
use Rattle.std.specs.List.{insert, position_or_len}
use Rattle.std.specs.List.Sorted.{IsStrictlySortedBy, IsBinarySearchResult}
use Rattle.std.specs.Option.{option_map, option_map_or}
use Rattle.std.specs.Ordering.{nat_cmp}
use Rattle.std.specs.Result.{MatchResult}
use Rattle.std.proofs.lemmas.List.Sorted.{searched}
use Rattle.std.proofs.lemmas.List.{length-map, append-nil}
use Rattle.std.proofs.lemmas.Map.Keys.{non_decreasing_from_sorted}
use Rattle.indexmap.proofs.MapLemmas.{absent_from_lookup, or_len-absent, insert_entry-absent}
use Rattle.indexmap.specs.IndexMap.{move_index, insert_entry, index_before}
use Rattle.plan_types.proofs.LookupLemmas.{none_some, lookup-name-free}
use Rattle.plan_types.specs.Instance.{Instance, IsInstance, IsTaken, lesser_names, greater_names, with_entry, Splits}
use Rattle.plan_types.specs.Request.{request_name}
use Rattle.plan_types.specs.declared.requests.Request.{Request}

-- if the first i names are smaller and the others greater, the names split at place i
pub names_split : (name : ℕ) (es : List (ℕ × Request)) (i : ℕ) → i ≤ length es
    → ((k : ℕ) → k < i → get_or (keys_of es) k 0 < name)
    → ((k : ℕ) → i ≤ k → k < length es → name < get_or (keys_of es) k 0)
    → (lesser_names es name ≡ take i es) × (greater_names es name ≡ drop i es)
names_split name [] zero le low high = (refl, refl)
names_split name [] (suc i) le low high = absurd (omega arith)
names_split name (e ∷ es) zero le low high =
    let above : name < e.0 = high 0 (omega arith) (omega arith) in
    let rest = names_split name es zero (omega arith) (λ k b. absurd (omega arith)) (λ k a b. high (suc k) (omega arith) (omega arith)) in
    (rw (le-ltb e.0 name (omega arith)) (rest.0), rw (lt-ltb name e.0 above) (ap (λ l. e ∷ l) rest.1))
names_split name (e ∷ es) (suc i) le low high =
    let below : e.0 < name = low 0 (omega arith) in
    let rest = names_split name es i (omega arith) (λ k b. low (suc k) (omega arith)) (λ k a b. high (suc k) (omega arith) (omega arith)) in
    (rw (lt-ltb e.0 name below) (ap (λ l. e ∷ l) rest.0), rw (le-ltb name e.0 (omega arith)) (rest.1))

-- a name that a lookup does not find is at no place
lookup-none_at : (name : ℕ) (es : List (ℕ × Request)) (i : ℕ) → lookup (nat_eq name) es ≡ None → i < length es → get_or (keys_of es) i 0 ≡ name → ⊥
lookup-none_at name [] i none within at = omega arith
lookup-none_at name (e ∷ es) i none within at = elim (eqb_tells name e.0) [
  | inl t ↦ none_some e.1 (sym none ∙ rw t.0 refl)
  | inr t ↦ further i within at t.1 (λ j b h. lookup-none_at name es j (let n : lookup (nat_eq name) (e ∷ es) ≡ None = none in rw t.0 at n) b h)
]
  where
    further : (i : ℕ) → i < length (e ∷ es) → get_or (keys_of (e ∷ es)) i 0 ≡ name → (name ≡ e.0 → ⊥)
        → ((j : ℕ) → j < length es → get_or (keys_of es) j 0 ≡ name → ⊥) → ⊥
    further zero b at apart rest = apart (sym at)
    further (suc j) b at apart rest = rest j (omega arith) at

-- the result of a binary search for a name that is not in the list
module _ (name : ℕ) (es : List (ℕ × Request)) (ascending : IsStrictlySortedBy nat_cmp (keys_of es)) (none : lookup (nat_eq name) es ≡ None) where
  pub search_split : (r : Result ℕ ℕ) → IsBinarySearchResult (λ y. nat_cmp y name) (keys_of es) r
      → MatchResult r (λ i. ⊥) (λ i. (lesser_names es name ≡ take i es) × (greater_names es name ≡ drop i es))
  search_split (Ok i) h =
      let s = searched (keys_of es) name (Ok i) h (λ i j a b. non_decreasing_from_sorted _ ascending i j 0 a b) in
      lookup-none_at name es i none (let b : i < length (keys_of es) = s.0 in rw length-map at b) s.1
  search_split (Err i) h =
      let s = searched (keys_of es) name (Err i) h (λ i j a b. non_decreasing_from_sorted _ ascending i j 0 a b) in
      names_split name es i (let b : i ≤ length (keys_of es) = s.0 in rw length-map at b) s.1 (λ k a b. s.2 k a (rw length-map b))

-- moving the last element to place i
pub move_index-last : (es : List (ℕ × Request)) (e : ℕ × Request) (i : ℕ) → move_index (es ++ e ∷ []) (length es) i ≡ take i es ++ e ∷ drop i es
move_index-last es e i =
    let there : slice_get (es ++ e ∷ []) (length es) ≡ Some e =
    slice_get-get_or (es ++ e ∷ []) (length es) e (simp length-append (omega arith)) ∙ ap Some (get_or-append_seam es e [] e) in
    let one : length es - length es ≡ 0 = omega arith in
    let front : remove (es ++ e ∷ []) (length es) ≡ es = remove-append_right es (e ∷ []) (length es) (length es) refl (omega arith) ∙ rw one (append-nil es) in
    ap (λ (o : Option (ℕ × Request)). option_map_or (λ x. insert (remove (es ++ e ∷ []) (length es)) i x) o (es ++ e ∷ [])) there ∙ ap (λ l. insert l i e) front

-- inserting a new name before place i
pub inserted_before : (name : ℕ) (r : Request) (es : List (ℕ × Request)) (i j : ℕ) → i ≤ length es → lookup (nat_eq name) es ≡ None
    → j ≡ index_before (position_or_len (nat_eq name) (keys_of es)) i
    → move_index (insert_entry nat_eq es name r) (position_or_len (nat_eq name) (keys_of es)) j ≡ take i es ++ (name, r) ∷ drop i es
inserted_before name r es i j le none is =
    let absent = absent_from_lookup (nat_eq name) es none in
    let last = or_len-absent (nat_eq name) es absent in
    let place : j ≡ i = is ∙ ap (λ n. index_before n i) last ∙ ap (λ b. cond b (i - 1) i) (le-ltb (length es) i le) in
    ap (λ l. move_index l (position_or_len (nat_eq name) (keys_of es)) j) (insert_entry-absent nat_eq name r es absent)
    ∙ ap (λ n. move_index (es ++ (name, r) ∷ []) n j) last ∙ ap (λ n. move_index (es ++ (name, r) ∷ []) (length es) n) place
    ∙ move_index-last es (name, r) i

-- if the names split at place i, the result is the list with the request inserted there
pub with_entry-at : (es : List (ℕ × Request)) (name : ℕ) (r : Request) (i : ℕ) → name ≡ request_name r → lesser_names es name ≡ take i es
    → greater_names es name ≡ drop i es → take i es ++ (name, r) ∷ drop i es ≡ with_entry es r
with_entry-at es name r i is lesser greater = rw (← lesser, ← greater) (ap (λ n. lesser_names es n ++ (n, r) ∷ greater_names es n) is)

-- the last of ascending names is the greatest
pub last_is_greatest : (name : ℕ) (es : List (ℕ × Request)) (e : ℕ × Request) → IsStrictlySortedBy nat_cmp (keys_of es) → slice_get es (length es - 1) ≡ Some e
    → IsTrue (nat_lt e.0 name) ↔ All (λ n. n < name) (keys_of es)
last_is_greatest name es e ascending at =
    let last = length es - 1 in
    let within = slice_get_within es last e at in
    let key : (d : ℕ) → get_or (keys_of es) last d ≡ e.0 =
    λ d. get_or_from_slice_get (keys_of es) last e.0 d (slice_get-map (λ e. e.0) es last ∙ ap (option_map (λ e. e.0)) at) in (
      λ less k d b.
          let greatest =
          non_decreasing_from_sorted _ ascending k last d (let short : k < length es = rw length-map at b in omega arith) (rw length-map (omega arith)) in
          omega (arith, key d, ltb-true e.0 name less),
      λ below. lt-ltb e.0 name (let least : get_or (keys_of es) last 0 < name = below last 0 (rw length-map (omega arith)) in rw (key 0) at least),
    )

-- if all names are smaller, the request goes last
module _ (name : ℕ) (es : List (ℕ × Request)) (below : All (λ n. n < name) (keys_of es)) where
  all_lesser : (lesser_names es name ≡ es) × (greater_names es name ≡ [])
  all_lesser =
      let split = names_split name es (length es) (omega arith) (λ k b. below k 0 (rw length-map b)) (λ k a b. absurd (omega arith)) in
      (split.0 ∙ take_all (length es) es (omega arith), split.1 ∙ drop_all (length es) es (omega arith))

  pub inserted_last : (r : Request) → name ≡ request_name r → lookup (nat_eq name) es ≡ None → insert_entry nat_eq es name r ≡ with_entry es r
  inserted_last r is none =
      insert_entry-absent nat_eq name r es (absent_from_lookup (nat_eq name) es none)
      ∙ sym (rw (sym is, all_lesser.0, all_lesser.1) refl)

less_is : (a b : ℕ) → nat_cmp a b ≡ Less → a < b
less_is a b h = elim (cases_lt a b) [
  | inl below ↦ below
  | inr above ↦ elim (eqb_tells a b) [
    | inl t ↦ absurd (let g : nat_cmp a b ≡ Less = h in let z : Equal ≡ Less = (rw (le-ltb a b above, t.0) at g) in cc)
    | inr t ↦ absurd (let g : nat_cmp a b ≡ Less = h in let z : Greater ≡ Less = (rw (le-ltb a b above, t.0) at g) in cc)
  ]
]

-- a name that is not in the list splits ascending names
splits_absent : (es : List (ℕ × Request)) (name : ℕ) → IsStrictlySortedBy nat_cmp (keys_of es) → lookup (nat_eq name) es ≡ None → Splits es name
unfolding IsStrictlySortedBy
splits_absent [] name ascending none = refl
splits_absent (e ∷ es) name ascending none = by (cases_order e.0 name) (λ h. splits_absent es name ascending.1 h)
  where
    others : (name ≡ e.0 → ⊥) → lookup (nat_eq name) es ≡ None
    others differ = let g : cond (eqb name e.0) (Some e.1) (lookup (nat_eq name) es) ≡ None = none in rw (ne_eqb name e.0 differ) at g

    all_greater : (n : ℕ) → name < n → (fs : List (ℕ × Request)) → AllByRecursion (λ y. nat_cmp n y ≡ Less) (keys_of fs)
        → (lesser_names fs name ≡ []) × (greater_names fs name ≡ fs)
    all_greater n below [] all = (refl, refl)
    all_greater n below (f ∷ fs) all =
        let next : n < f.0 = less_is n f.0 all.0 in
        let rest = all_greater n below fs all.1 in
        (rw (le-ltb f.0 name (omega arith)) (rest.0), rw (lt-ltb name f.0 (omega arith)) (ap (λ l. f ∷ l) rest.1))

    by : (e.0 ≡ name) ⊎ ((e.0 < name) ⊎ (name < e.0)) → (lookup (nat_eq name) es ≡ None → Splits es name)
        → lesser_names (e ∷ es) name ++ greater_names (e ∷ es) name ≡ e ∷ es
    by (inl same) rest =
        absurd (none_some e.1 (sym (let g : cond (eqb name e.0) (Some e.1) (lookup (nat_eq name) es) ≡ None = none in rw (eq-eqb name e.0 (sym same)) at g)))
    by (inr (inl below)) rest = rw (lt-ltb e.0 name below, le-ltb name e.0 (omega arith)) (ap (λ l. e ∷ l) (rest (others (λ h. omega arith))))
    by (inr (inr above)) rest =
        let more = all_greater e.0 above es ascending.0 in
        rw (le-ltb e.0 name (omega arith), lt-ltb name e.0 above, more.0, more.1) refl

pub splits_free : (p : Instance) (r : Request) → IsInstance p → (IsTaken p r → ⊥) → Splits p.requests (request_name r)
splits_free p r valid free = splits_absent p.requests (request_name r) valid.ascending (lookup-name-free p r valid free)

-- a lookup by name after an insertion
lookup-among : (xs ys : List (ℕ × Request)) (e : ℕ × Request) (m : ℕ) → (m ≡ e.0 → lookup (nat_eq m) xs ≡ None)
    → lookup (nat_eq m) (xs ++ e ∷ ys) ≡ cond (eqb m e.0) (Some e.1) (lookup (nat_eq m) (xs ++ ys))
lookup-among [] ys e m none = refl
lookup-among (x ∷ xs) ys e m none = by (eqb_tells m x.0) (λ h. lookup-among xs ys e m h)
  where
    by : ((eqb m x.0 ≡ true) × (m ≡ x.0)) ⊎ ((eqb m x.0 ≡ false) × (m ≢ x.0))
        → ((m ≡ e.0 → lookup (nat_eq m) xs ≡ None) → lookup (nat_eq m) (xs ++ e ∷ ys) ≡ cond (eqb m e.0) (Some e.1) (lookup (nat_eq m) (xs ++ ys)))
        → cond (eqb m x.0) (Some x.1) (lookup (nat_eq m) (xs ++ e ∷ ys))
        ≡ cond (eqb m e.0) (Some e.1) (cond (eqb m x.0) (Some x.1) (lookup (nat_eq m) (xs ++ ys)))
    by (inl t) rest =
        let differ : m ≡ e.0 → ⊥ = λ h. none_some x.1 (sym (let g : cond (eqb m x.0) (Some x.1) (lookup (nat_eq m) xs) ≡ None = none h in rw (t.0) at g)) in
        rw (t.0, ne_eqb m e.0 differ) refl
    by (inr t) rest = rw (t.0) (rest (λ h. let g : cond (eqb m x.0) (Some x.1) (lookup (nat_eq m) xs) ≡ None = none h in rw (t.0) at g))

lookup-filter : (q : ℕ × Request → Bool) (es : List (ℕ × Request)) (m : ℕ) → lookup (nat_eq m) es ≡ None → lookup (nat_eq m) (filter q es) ≡ None
lookup-filter q [] m none = refl
lookup-filter q (e ∷ es) m none = by (eqb_tells m e.0) (λ h. lookup-filter q es m h)
  where
    by : ((eqb m e.0 ≡ true) × (m ≡ e.0)) ⊎ ((eqb m e.0 ≡ false) × (m ≢ e.0)) → (lookup (nat_eq m) es ≡ None → lookup (nat_eq m) (filter q es) ≡ None)
        → lookup (nat_eq m) (cond (q e) (e ∷ filter q es) (filter q es)) ≡ None
    by (inl t) rest = absurd (none_some e.1 (sym (let g : cond (eqb m e.0) (Some e.1) (lookup (nat_eq m) es) ≡ None = none in rw (t.0) at g)))
    by (inr t) rest = kept (q e)
      where
        later : lookup (nat_eq m) (filter q es) ≡ None
        later = rest (let g : cond (eqb m e.0) (Some e.1) (lookup (nat_eq m) es) ≡ None = none in rw (t.0) at g)

        kept : (b : Bool) → lookup (nat_eq m) (cond b (e ∷ filter q es) (filter q es)) ≡ None
        kept true = rw (t.0) later
        kept false = later

pub lookup-with_entry : (es : List (ℕ × Request)) (r : Request) (m : ℕ) → Splits es (request_name r) → lookup (nat_eq (request_name r)) es ≡ None
    → lookup (nat_eq m) (with_entry es r) ≡ cond (eqb m (request_name r)) (Some r) (lookup (nat_eq m) es)
lookup-with_entry es r m split none =
    lookup-among (lesser_names es (request_name r)) (greater_names es (request_name r)) (request_name r, r) m
    (λ h. lookup-filter (λ e. nat_lt e.0 (request_name r)) es m (subst (λ n. lookup (nat_eq n) es ≡ None) (sym h) none))
    ∙ ap (λ (fs : List (ℕ × Request)). cond (eqb m (request_name r)) (Some r) (lookup (nat_eq m) fs)) split
