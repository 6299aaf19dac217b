-- The places of a request, as a list and as a test.
use Rattle.std.proofs.Common.{◌≡◌, ◌↔◌, ℕ, zero, suc, ◌+◌, ◌-◌, ◌<◌, ◌≤◌, ◌⊎◌, ◌&&◌, Bool, true, false, not, cond, eqb, ltb, leb}
use Rattle.std.proofs.Common.{rules, List, [], ◌∷◌, ◌++◌, map, filter, length, Option, Some, None, IsSome, refl, sym, ap, subst, ◌∙◌, inl, inr, arith}
use Rattle.std.specs.List.{Contains, flat_map, range_with_len}
use Rattle.std.specs.Option.{option_and_then, option_map_or}
use Rattle.std.proofs.lemmas.Bool.{and_from, and_parts, cases_Bool, cases_order, eq-eqb, eqb-true, ltb-true, lt-ltb, leb-true, le-leb}
use Rattle.std.proofs.lemmas.List.Elements.{All-contains, All-contains_itself, All-filter}
use Rattle.std.proofs.lemmas.List.Elements.{Contains-append_cases, Contains-append_left, Contains-append_right, filter_passes}
use Rattle.plan_types.specs.Instance.{Instance}
use Rattle.plan_types.specs.declared.requests.Request.{Request}
use Rattle.plan_types.specs.declared.requests.Request.TheVariants.{Single, Pair}
use Rattle.route_sched.specs.Cost.{is_planned}
use Rattle.plan_audit.specs.Passes.{passes}
use Rattle.move_ops.specs.Insertion.{Insertion, request_named, route_of, passing, places_in}
use Rattle.move_ops.specs.Insertion.{are_places, with_request_at, places_of, is_place_of, insertions_of}
use Rattle.move_ops.specs.Laws.{InsertionsAreFeasible}

-- x is in the list, by cases on the list
abbrev pub In : {X : Type 0} → List X → X → Type 0
In [] x = ⊥
In (y ∷ ys) x = (y ≡ x) ⊎ In ys x

pub contained : {X : Type 0} (xs : List X) (x : X) → In xs x → Contains xs x
contained [] x i = absurd i
contained (y ∷ ys) x (inl same) = (zero, omega arith, same)
contained (y ∷ ys) x (inr there) = let c = contained ys x there in (suc c.0, (let h = c.1 in omega arith), c.2)

pub within : {X : Type 0} (xs : List X) (x : X) → Contains xs x → In xs x
within [] x c = absurd (let h = c.1 in omega arith)
within (y ∷ ys) x (zero, less, at) = inl at
within (y ∷ ys) x (suc k, less, at) = inr (within ys x (k, omega arith, at))

in_left : {X : Type 0} (xs ys : List X) (x : X) → In xs x → In (xs ++ ys) x
in_left xs ys x i = within (xs ++ ys) x (Contains-append_left xs ys x (contained xs x i))

in_right : {X : Type 0} (xs ys : List X) (x : X) → In ys x → In (xs ++ ys) x
in_right xs ys x i = within (xs ++ ys) x (Contains-append_right xs ys x (contained ys x i))

in_either : {X : Type 0} (xs ys : List X) (x : X) → In (xs ++ ys) x → In xs x ⊎ In ys x
in_either xs ys x i = elim (Contains-append_cases xs ys x (contained (xs ++ ys) x i)) [ inl c ↦ inl (within xs x c) | inr c ↦ inr (within ys x c) ]

in_map : {X Y : Type 0} (f : X → Y) (xs : List X) (x : X) → In xs x → In (map f xs) (f x)
in_map f [] x i = absurd i
in_map f (y ∷ xs) x (inl same) = inl (ap f same)
in_map f (y ∷ xs) x (inr there) = inr (in_map f xs x there)

of_map : {X Y : Type 0} (f : X → Y) (xs : List X) (y : Y) → In (map f xs) y → (x : X) × In xs x × (f x ≡ y)
of_map f [] y i = absurd i
of_map f (x ∷ xs) y (inl same) = (x, inl refl, same)
of_map f (x ∷ xs) y (inr there) = let t = of_map f xs y there in (t.0, inr t.1, t.2)

in_flat_map : {X Y : Type 0} (f : X → List Y) (xs : List X) (x : X) (y : Y) → In xs x → In (f x) y → In (flat_map f xs) y
in_flat_map f [] x y i j = absurd i
in_flat_map f (z ∷ xs) x y (inl same) j = in_left (f z) (flat_map f xs) y (subst (λ u. In (f u) y) (sym same) j)
in_flat_map f (z ∷ xs) x y (inr there) j = in_right (f z) (flat_map f xs) y (in_flat_map f xs x y there j)

of_flat_map : {X Y : Type 0} (f : X → List Y) (xs : List X) (y : Y) → In (flat_map f xs) y → (x : X) × In xs x × In (f x) y
of_flat_map f [] y i = absurd i
of_flat_map f (x ∷ xs) y i = elim (in_either (f x) (flat_map f xs) y i) [
  | inl h ↦ (x, inl refl, h)
  | inr h ↦ (let t = of_flat_map f xs y h in (t.0, inr t.1, t.2))
]

in_range : (a n x : ℕ) → a ≤ x → x < a + n → In (range_with_len a n) x
in_range a zero x low high = absurd (omega arith)
in_range a (suc n) x low high = elim (cases_order a x) [
  | inl same ↦ inl same
  | inr apart ↦ inr (in_range (a + 1) n x (elim apart [ inl l ↦ omega arith | inr l ↦ omega arith ]) (omega arith))
]

of_range : (a n x : ℕ) → In (range_with_len a n) x → (a ≤ x) × (x < a + n)
of_range a zero x i = absurd i
of_range a (suc n) x (inl same) = (omega arith, omega arith)
of_range a (suc n) x (inr there) = let t = of_range (a + 1) n x there in ((let h = t.0 in omega arith), (let h = t.1 in omega arith))

in_filter : {X : Type 0} (test : X → Bool) (xs : List X) (x : X) → In xs x → test x ≡ true → In (filter test xs) x
in_filter test [] x i good = absurd i
in_filter test (y ∷ xs) x (inl same) good = let e : test y ≡ true = ap test same ∙ good in rw e (inl same)
in_filter test (y ∷ xs) x (inr there) good = elim (cases_Bool (test y)) [
  | inl e ↦ rw e (inr (in_filter test xs x there good))
  | inr e ↦ rw e (in_filter test xs x there good)
]

of_filter : {X : Type 0} (test : X → Bool) (xs : List X) (x : X) → In (filter test xs) x → In xs x × (test x ≡ true)
of_filter test xs x i =
    let c = contained (filter test xs) x i in (
      within xs x (All-contains (Contains xs) (filter test xs) x (All-filter test (Contains xs) xs (All-contains_itself xs)) c),
      All-contains (λ y. test y ≡ true) (filter test xs) x (filter_passes test xs) c,
    )

abbrev twice : ℕ → ℕ × ℕ
twice m = (m, m)

abbrev paired : ℕ → ℕ → ℕ × ℕ
paired m k = (m, k)

abbrev placed : ℕ → ℕ × ℕ → Insertion
placed v x = (v, x.0, x.1)

abbrev seconds : ℕ → ℕ → List (ℕ × ℕ)
seconds stops m = map (paired m) (range_with_len (m + 1) (stops + 2 - m))

-- a place that passes the test is in the list for its route, and conversely
in_places : (r : Request) (kept stops i j : ℕ) → are_places r kept stops i j ≡ true → In (places_in r kept stops) (paired i j)
in_places (Single s) kept stops i j good =
    let a = and_parts (ltb kept i) (leb i (stops + 1) && eqb i j) good in
    let b = and_parts (leb i (stops + 1)) (eqb i j) a.1 in
    let above = ltb-true kept i a.0 in
    let below = leb-true i (stops + 1) b.0 in
    subst (λ k. In (map twice (range_with_len (kept + 1) (stops + 1 - kept))) (paired i k)) (eqb-true i j b.1)
    (in_map twice (range_with_len (kept + 1) (stops + 1 - kept)) i (in_range (kept + 1) (stops + 1 - kept) i (omega arith) (omega arith)))
in_places (Pair c d) kept stops i j good =
    let a = and_parts (ltb kept i) (ltb i j && leb j (stops + 2)) good in
    let b = and_parts (ltb i j) (leb j (stops + 2)) a.1 in
    let above = ltb-true kept i a.0 in
    let order = ltb-true i j b.0 in
    let below = leb-true j (stops + 2) b.1 in
    in_flat_map (seconds stops) (range_with_len (kept + 1) (stops + 1 - kept)) i (paired i j)
    (in_range (kept + 1) (stops + 1 - kept) i (omega arith) (omega arith))
    (in_map (paired i) (range_with_len (i + 1) (stops + 2 - i)) j (in_range (i + 1) (stops + 2 - i) j (omega arith) (omega arith)))

of_places : (r : Request) (kept stops : ℕ) (x : ℕ × ℕ) → In (places_in r kept stops) x → are_places r kept stops x.0 x.1 ≡ true
of_places (Single s) kept stops x there =
    let t = of_map twice (range_with_len (kept + 1) (stops + 1 - kept)) x there in
    let range = of_range (kept + 1) (stops + 1 - kept) t.0 t.1 in
    let low = range.0 in
    let high = range.1 in
    subst (λ (y : ℕ × ℕ). (ltb kept y.0 && (leb y.0 (stops + 1) && eqb y.0 y.1)) ≡ true) t.2
    (and_from (ltb kept t.0) (leb t.0 (stops + 1) && eqb t.0 t.0) (lt-ltb kept t.0 (omega arith))
    (and_from (leb t.0 (stops + 1)) (eqb t.0 t.0) (le-leb t.0 (stops + 1) (omega arith)) (eq-eqb t.0 t.0 refl)))
of_places (Pair c d) kept stops x there =
    let t = of_flat_map (seconds stops) (range_with_len (kept + 1) (stops + 1 - kept)) x there in
    let range = of_range (kept + 1) (stops + 1 - kept) t.0 t.1 in
    let u = of_map (paired t.0) (range_with_len (t.0 + 1) (stops + 2 - t.0)) x t.2 in
    let second = of_range (t.0 + 1) (stops + 2 - t.0) u.0 u.1 in
    subst (λ (y : ℕ × ℕ). (ltb kept y.0 && (ltb y.0 y.1 && leb y.1 (stops + 2))) ≡ true) u.2
    (and_from (ltb kept t.0) (ltb t.0 u.0 && leb u.0 (stops + 2)) (lt-ltb kept t.0 (omega arith))
    (and_from (ltb t.0 u.0) (leb u.0 (stops + 2)) (lt-ltb t.0 u.0 (omega arith)) (le-leb u.0 (stops + 2) (omega arith))))

module _ (pins routes : List (List ℕ)) (r : Request) where
  abbrev at_vehicle : ℕ → List Insertion
  at_vehicle v = map (placed v) (places_in r (length (route_of pins v)) (length (route_of routes v)))

  in_places_of : (x : Insertion) → is_place_of pins routes r x ≡ true → In (places_of pins routes r) x
  in_places_of x good =
      let a = and_parts (leb 1 x.0) (leb x.0 (length routes) && are_places r (length (route_of pins x.0)) (length (route_of routes x.0)) x.1 x.2) good in
      let b = and_parts (leb x.0 (length routes)) (are_places r (length (route_of pins x.0)) (length (route_of routes x.0)) x.1 x.2) a.1 in
      let low = leb-true 1 x.0 a.0 in
      let high = leb-true x.0 (length routes) b.0 in
      in_flat_map at_vehicle (range_with_len 1 (length routes)) x.0 x (in_range 1 (length routes) x.0 low (omega arith))
      (in_map (placed x.0) (places_in r (length (route_of pins x.0)) (length (route_of routes x.0))) (paired x.1 x.2)
      (in_places r (length (route_of pins x.0)) (length (route_of routes x.0)) x.1 x.2 b.1))

  of_places_of : (x : Insertion) → In (places_of pins routes r) x → is_place_of pins routes r x ≡ true
  of_places_of x there =
      let t = of_flat_map at_vehicle (range_with_len 1 (length routes)) x there in
      let range = of_range 1 (length routes) t.0 t.1 in
      let low = range.0 in
      let u = of_map (placed t.0) (places_in r (length (route_of pins t.0)) (length (route_of routes t.0))) x t.2 in
      subst (λ (z : Insertion). is_place_of pins routes r z ≡ true) u.2
      (and_from (leb 1 t.0)
      (leb t.0 (length routes) && are_places r (length (route_of pins t.0)) (length (route_of routes t.0)) u.0.0 u.0.1)
      (le-leb 1 t.0 low)
      (and_from (leb t.0 (length routes)) (are_places r (length (route_of pins t.0)) (length (route_of routes t.0)) u.0.0 u.0.1)
      (le-leb t.0 (length routes) (omega arith))
      (of_places r (length (route_of pins t.0)) (length (route_of routes t.0)) u.0 u.1)))

module _ (p : Instance) (pins routes : List (List ℕ)) where
  abbrev passing_at : Request → Insertion → Bool
  passing_at r x = passes p pins (with_request_at routes r x)

  -- the list of insertions, for a current request
  pub listed : (r : Request) (x : Insertion) → In (insertions_of p pins routes r) x
      → (is_planned routes r ≡ false) × (is_place_of pins routes r x ≡ true) × (passing_at r x ≡ true)
  listed r x there = elim (cases_Bool (is_planned routes r)) [
    | inl taken ↦ absurd (rw taken at there)
    | inr free ↦ (
        let t = of_filter (passing_at r) (places_of pins routes r) x (rw free at there) in
        (free, of_places_of pins routes r x t.0, t.1))
  ]

  pub to_list : (r : Request) (x : Insertion) → is_planned routes r ≡ false → is_place_of pins routes r x ≡ true → passing_at r x ≡ true
      → In (insertions_of p pins routes r) x
  to_list r x free place good = rw free (in_filter (passing_at r) (places_of pins routes r) x (in_places_of pins routes r x place) good)

  abbrev put_of : Request → Insertion → Option (List (List ℕ))
  put_of r x = cond (not (is_planned routes r) && is_place_of pins routes r x) (passing p pins (with_request_at routes r x)) None

  some_put : (r : Request) (x : Insertion) → is_planned routes r ≡ false → is_place_of pins routes r x ≡ true → passing_at r x ≡ true → IsSome (put_of r x)
  some_put r x free place good = rw (free, place, good) (search rules)

  abbrev no_plan : Option (List (List ℕ))
  no_plan = None

  put_parts : (r : Request) (x : Insertion) → IsSome (put_of r x)
      → (is_planned routes r ≡ false) × (is_place_of pins routes r x ≡ true) × (passing_at r x ≡ true)
  put_parts r x some = elim (cases_Bool (is_planned routes r)) [
    | inl taken ↦ absurd (none (rw taken at some))
    | inr free ↦ elim (cases_Bool (is_place_of pins routes r x)) [
      | inr off ↦ absurd (none (rw (free, off) at some))
      | inl place ↦ elim (cases_Bool (passing_at r x)) [
        | inr bad ↦ absurd (none (rw (free, place, bad) at some))
        | inl good ↦ (free, place, good)
      ]
    ]
  ]
    where
      none : IsSome no_plan → ⊥
      none h = let k : false ≡ true = h in cc

  same_named : (name : ℕ) (x : Insertion) (o : Option Request) → request_named p name ≡ o
      → Contains (option_map_or (insertions_of p pins routes) o []) x ↔ IsSome (option_and_then (λ r. put_of r x) o)
  same_named name x None is = (λ c. absurd (within [] x c), λ some. absurd (let k : false ≡ true = some in cc))
  same_named name x (Some r) is = (
    λ c. (let t = listed r x (within (insertions_of p pins routes r) x c) in some_put r x t.0 t.1 t.2),
    λ some. (let t = put_parts r x some in contained (insertions_of p pins routes r) x (to_list r x t.0 t.1 t.2)),
  )

pub insertions_are_feasible : InsertionsAreFeasible
insertions_are_feasible p pins routes name x = same_named p pins routes name x (request_named p name) refl
