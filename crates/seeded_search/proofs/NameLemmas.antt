-- The names of requests that pass a test, and the lists that a step draws from.
use Rattle.std.proofs.Common.{
  ◌≡◌,
  ℕ,
  zero,
  suc,
  ◌+◌,
  ◌-◌,
  ◌<◌,
  ◌≤◌,
  ◌==◌,
  ◌&&◌,
  not,
  Bool,
  true,
  false,
  cond,
  List,
  [],
  ◌∷◌,
  ◌++◌,
  length,
  drop,
  filter,
  map,
  Some,
  None,
  slice_get,
  refl,
  sym,
  ap,
  ◌∙◌,
  inl,
  inr,
  arith,
}
use Rattle.std.specs.List.{range_with_len}
use Rattle.std.specs.Option.{option_and_then}
use Rattle.std.proofs.lemmas.Bool.{cases_Bool, not-false}
use Rattle.std.proofs.lemmas.List.Sums.{length-filter}
use Rattle.std.proofs.lemmas.List.{append-nil, append_assoc, drop_all, drop_more, nil_from_length}
use Rattle.std.proofs.lemmas.Option.{slice_get_cases}
use Rattle.plan_types.specs.Instance.{Instance}
use Rattle.plan_types.specs.declared.requests.Request.{Request}
use Rattle.route_sched.specs.Cost.{is_planned, unplanned_count}
use Rattle.move_ops.specs.Insertion.{route_of}
use Rattle.move_ops.specs.Drafts.{AreIdleAfter}
use Rattle.move_ops.specs.Moves.{is_movable}
use Rattle.move_ops.proofs.OccurrenceLemmas.{none_some, some_same}
use Rattle.seeded_search.specs.Names.{name_where, names_where}
use Rattle.seeded_search.specs.Steps.{movable_names, unplanned_names}

module _ (test : Request → Bool) where
  -- the names of a list are the name of its first request, if this request passes the test, and then the names of
  -- the later requests
  first_name : (e : ℕ × Request) (es : List (ℕ × Request)) → names_where test (e ∷ es) ≡ cond (test e.1) (e.0 ∷ names_where test es) (names_where test es)
  first_name e es = elim (cases_Bool (test e.1)) [ inl t ↦ rw t refl | inr f ↦ rw f refl ]

  name_is : (e : ℕ × Request) (n : ℕ) → name_where test e ≡ Some n → (test e.1 ≡ true) × (e.0 ≡ n)
  name_is e n is = elim (cases_Bool (test e.1)) [
    | inl t ↦ (t, some_same e.0 n (rw t at is))
    | inr f ↦ absurd (none_some n (rw f at is))
  ]

  name_is_not : (e : ℕ × Request) → name_where test e ≡ None → test e.1 ≡ false
  name_is_not e is = elim (cases_Bool (test e.1)) [
    | inl t ↦ absurd (none_some e.0 (sym (rw t at is)))
    | inr f ↦ f
  ]

  -- if the request at index k passes the test, its name is the first of the names from index k on
  pub name_here : (es : List (ℕ × Request)) (k n : ℕ) → option_and_then (name_where test) (slice_get es k) ≡ Some n → names_where test (drop k es) ≡ n ∷ names_where test (drop (k + 1) es)
  name_here es k n is = elim (slice_get_cases es k).1 [
    | inl t ↦ (
        let h = name_is t.0 n (ap (option_and_then (name_where test)) (sym t.2) ∙ is) in
        ap (names_where test) (drop_more es k t.0 t.1)
        ∙ (ap (λ e. names_where test (e ∷ drop (k + 1) es)) t.3
        ∙ (first_name t.0 (drop (k + 1) es)
        ∙ (ap (λ b. cond b (t.0.0 ∷ names_where test (drop (k + 1) es)) (names_where test (drop (k + 1) es))) h.0
        ∙ ap (λ m. m ∷ names_where test (drop (k + 1) es)) h.1))))
    | inr past ↦ absurd (none_some n (ap (option_and_then (name_where test)) (sym past.1) ∙ is))
  ]

  pub name_later : (es : List (ℕ × Request)) (k : ℕ) → option_and_then (name_where test) (slice_get es k) ≡ None → names_where test (drop k es) ≡ names_where test (drop (k + 1) es)
  name_later es k is = elim (slice_get_cases es k).1 [
    | inl t ↦ (
        let h = name_is_not t.0 (ap (option_and_then (name_where test)) (sym t.2) ∙ is) in
        ap (names_where test) (drop_more es k t.0 t.1)
        ∙ (ap (λ e. names_where test (e ∷ drop (k + 1) es)) t.3
        ∙ (first_name t.0 (drop (k + 1) es) ∙ ap (λ b. cond b (t.0.0 ∷ names_where test (drop (k + 1) es)) (names_where test (drop (k + 1) es))) h)))
    | inr past ↦ (let less = past.0 in ap (names_where test) (drop_all k es past.0 ∙ sym (drop_all (k + 1) es (omega arith))))
  ]

  -- if request k passes the test, its name is appended; the names so far, followed by those from request k + 1 on,
  -- are then again all names
  pub name_pushed : (names new : List ℕ) (es : List (ℕ × Request)) (k n : ℕ) (all : List ℕ) → names ++ names_where test (drop k es) ≡ all
      → option_and_then (name_where test) (slice_get es k) ≡ Some n → new ≡ names ++ n ∷ [] → new ++ names_where test (drop (k + 1) es) ≡ all
  name_pushed names new es k n all so_far is made =
      ap (λ l. l ++ names_where test (drop (k + 1) es)) made
      ∙ (append_assoc names (n ∷ []) (names_where test (drop (k + 1) es)) ∙ (ap (λ l. names ++ l) (sym (name_here es k n is)) ∙ so_far))

  pub name_passed : (names new : List ℕ) (es : List (ℕ × Request)) (k : ℕ) (all : List ℕ) → names ++ names_where test (drop k es) ≡ all
      → option_and_then (name_where test) (slice_get es k) ≡ None → new ≡ names → new ++ names_where test (drop (k + 1) es) ≡ all
  name_passed names new es k all so_far is made = ap (λ l. l ++ names_where test (drop (k + 1) es)) made ∙ (ap (λ l. names ++ l) (sym (name_later es k is)) ∙ so_far)

  -- after the last request, the names collected so far are all names
  pub name_end : (names : List ℕ) (es : List (ℕ × Request)) (k : ℕ) (all : List ℕ) → names ++ names_where test (drop k es) ≡ all → length es ≤ k → names ≡ all
  name_end names es k all so_far past = sym (append-nil names) ∙ (ap (λ l. names ++ names_where test l) (sym (drop_all k es past)) ∙ so_far)

-- if two tests agree on all requests of a list, the names are the same
pub names_same : (f g : Request → Bool) (es : List (ℕ × Request)) → ((k name : ℕ) (r : Request) → slice_get es k ≡ Some (name, r) → f r ≡ g r) → names_where f es ≡ names_where g es
names_same f g [] same = refl
names_same f g (e ∷ es) same =
    first_name f e es
    ∙ (ap (λ b. cond b (e.0 ∷ names_where f es) (names_where f es)) (same zero e.0 e.1 refl)
    ∙ (ap (λ ns. cond (g e.1) (e.0 ∷ ns) ns) (names_same f g es (λ k. same (suc k))) ∙ sym (first_name g e es)))

cons_none : {X : Type 0} (x : X) (xs : List X) → x ∷ xs ≡ [] → ⊥
cons_none x xs h = cc

-- if no name is in the list of a test, each request fails the test
none_named : (test : Request → Bool) (es : List (ℕ × Request)) → names_where test es ≡ [] → (k name : ℕ) (r : Request) → slice_get es k ≡ Some (name, r) → test r ≡ false
none_named test [] none zero name r at = absurd (none_some (name, r) at)
none_named test [] none (suc k) name r at = absurd (none_some (name, r) at)
none_named test (e ∷ es) none k name r at = elim (cases_Bool (test e.1)) [
  | inl t ↦ absurd (cons_none e.0 (names_where test es) (sym (first_name test e es ∙ ap (λ b. cond b (e.0 ∷ names_where test es) (names_where test es)) t) ∙ none))
  | inr f ↦ here (none_named test es) k at (sym (first_name test e es ∙ ap (λ b. cond b (e.0 ∷ names_where test es) (names_where test es)) f) ∙ none) f
]
  where
    here : (names_where test es ≡ [] → (k name : ℕ) (r : Request) → slice_get es k ≡ Some (name, r) → test r ≡ false)
        → (k : ℕ) → slice_get (e ∷ es) k ≡ Some (name, r) → names_where test es ≡ [] → test e.1 ≡ false → test r ≡ false
    here later zero at left f = ap test (sym (ap (λ t. t.1) (some_same e (name, r) at))) ∙ f
    here later (suc k) at left f = later left k name r at

module _ (p : Instance) where
  pub none_unplanned : (routes : List (List ℕ)) → unplanned_count p routes ≡ 0 → unplanned_names p routes ≡ []
  none_unplanned routes none =
      ap (map (λ (e : ℕ × Request). e.0))
      (nil_from_length (filter (λ (e : ℕ × Request). not (is_planned routes e.1)) p.requests)
      (length-filter (λ (e : ℕ × Request). not (is_planned routes e.1)) p.requests ∙ none))

  -- two plans without an unplanned request have the same movable requests
  pub movable_stay : (pins old new : List (List ℕ)) → unplanned_names p old ≡ [] → unplanned_names p new ≡ [] → movable_names p pins old ≡ movable_names p pins new
  movable_stay pins old new before after =
      names_same (is_movable pins old) (is_movable pins new) p.requests
      (λ k name r at.
      ap (λ b. b && not (is_planned pins r))
      (not-false (is_planned old r) (none_named (λ r. not (is_planned old r)) p.requests before k name r at)
      ∙ sym (not-false (is_planned new r) (none_named (λ r. not (is_planned new r)) p.requests after k name r at))))

-- the used vehicles from an index on
abbrev is_used : List (List ℕ) → ℕ → Bool
is_used routes v = not (length (route_of routes v) == 0)

abbrev used_from : List (List ℕ) → ℕ → List ℕ
used_from routes k = filter (λ v. not (length (route_of routes v) == 0)) (range_with_len (k + 1) (length routes - k))

used_more : (routes : List (List ℕ)) (k : ℕ) → k < length routes → used_from routes k ≡ cond (is_used routes (k + 1)) ((k + 1) ∷ used_from routes (k + 1)) (used_from routes (k + 1))
used_more routes k within =
    let one : length routes - k ≡ suc (length routes - (k + 1)) = omega arith in
    ap (λ n. filter (is_used routes) (range_with_len (k + 1) n)) one

pub used_pushed : (routes : List (List ℕ)) (used new all : List ℕ) (k : ℕ) → used ++ used_from routes k ≡ all → k < length routes → is_used routes (k + 1) ≡ true → new ≡ used ++ (k + 1) ∷ []
    → new ++ used_from routes (k + 1) ≡ all
used_pushed routes used new all k so_far within is made =
    ap (λ l. l ++ used_from routes (k + 1)) made
    ∙ (append_assoc used ((k + 1) ∷ []) (used_from routes (k + 1))
    ∙ (ap (λ l. used ++ l) (sym (used_more routes k within ∙ ap (λ b. cond b ((k + 1) ∷ used_from routes (k + 1)) (used_from routes (k + 1))) is)) ∙ so_far))

pub used_passed : (routes : List (List ℕ)) (used new all : List ℕ) (k : ℕ) → used ++ used_from routes k ≡ all → k < length routes → is_used routes (k + 1) ≡ false → new ≡ used
    → new ++ used_from routes (k + 1) ≡ all
used_passed routes used new all k so_far within is made =
    ap (λ l. l ++ used_from routes (k + 1)) made
    ∙ (ap (λ l. used ++ l) (sym (used_more routes k within ∙ ap (λ b. cond b ((k + 1) ∷ used_from routes (k + 1)) (used_from routes (k + 1))) is)) ∙ so_far)

-- if no vehicle after `used_len` has a stop, none of n vehicles from a later one on is used
unused : (routes : List (List ℕ)) (used_len a n : ℕ) → used_len < a → AreIdleAfter used_len routes → filter (is_used routes) (range_with_len a n) ≡ []
unused routes used_len a zero above idle = refl
unused routes used_len a (suc n) above idle =
    let not_here : is_used routes a ≡ false = ap (λ k. not (k == 0)) (idle a above) in
    ap (λ b. cond b (a ∷ filter (is_used routes) (range_with_len (a + 1) n)) (filter (is_used routes) (range_with_len (a + 1) n))) not_here ∙ unused routes used_len (a + 1) n (omega arith) idle

pub used_end : (routes : List (List ℕ)) (used all : List ℕ) (used_len : ℕ) → used ++ used_from routes used_len ≡ all → AreIdleAfter used_len routes → used ≡ all
used_end routes used all used_len so_far idle =
    sym (append-nil used) ∙ (ap (λ l. used ++ l) (sym (unused routes used_len (used_len + 1) (length routes - used_len) (omega arith) idle)) ∙ so_far)
