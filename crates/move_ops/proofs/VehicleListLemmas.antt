-- The changes of the vehicles that have some stops.
use Rattle.std.proofs.Common.{rules, ◌≡◌, ℕ, zero, suc, ◌+◌, ◌-◌, ◌<◌, ◌≤◌, ◌⊎◌, not, Bool, true, false, eqb, List, [], ◌∷◌}
use Rattle.std.proofs.Common.{◌++◌, length, map, filter, set, Option, Some, None, IsSome, slice_get, refl, sym, ap, subst, ◌∙◌, inl, inr, arith, nat_eq}
use Rattle.std.specs.List.{AllByRecursion, IsDistinct, concat}
use Rattle.std.specs.Map.{lookup}
use Rattle.std.specs.Option.{option_map, option_map_or}
use Rattle.std.proofs.lemmas.Bool.{cases_Bool, or_cases, eqb-true, eq-eqb, or_left, or_right, false≢true}
use Rattle.std.proofs.lemmas.Bool.Decides.{eqb_tells}
use Rattle.std.proofs.lemmas.List.{length-map, length-set}
use Rattle.std.proofs.lemmas.List.Elements.{All-append, All-from_recursion, recursion_from_All}
use Rattle.std.proofs.lemmas.List.Folds.{list_any-append}
use Rattle.plan_types.specs.Instance.{Instance, IsInstance, name_at, request_with}
use Rattle.plan_types.specs.Laws.{RequestsAreStoredByName}
use Rattle.plan_types.specs.Request.{request_name, stop_in}
use Rattle.plan_types.specs.declared.requests.Request.{Request}
use Rattle.plan_types.specs.declared.requests.Request.TheVariants.{Single, Pair}
use Rattle.plan_types.specs.declared.requests.Stop.{Stop}
use Rattle.route_sched.specs.Cost.{has_stop}
use Rattle.plan_audit.specs.Passes.{has}
use Rattle.move_ops.specs.Insertion.{route_of, with_route}
use Rattle.move_ops.specs.Moves.{counterpart, is_of_named, without_named}
use Rattle.move_ops.specs.Changes.{with_routes, AreChanges, AreIn, AreVehiclesOf, IsVehicleWith, Collects}
use Rattle.move_ops.specs.declared.changes.Change.{Change}
use Rattle.move_ops.proofs.OccurrenceLemmas.{some_same, times, times-append, at_most_once}
use Rattle.move_ops.proofs.InsertionLemmas.{in_numbers}
use Rattle.move_ops.proofs.ReplacementLemmas.{get_set, get_set_other, at_vehicle}
use Rattle.move_ops.proofs.FitLemmas.{had_often}
use Rattle.move_ops.proofs.ChangeListLemmas.{of_map}
use Rattle.move_ops.proofs.DraftLemmas.{has_in_vehicle}
use Rattle.move_ops.proofs.PlanRemovalLemmas.{found_has}

-- ---- a stop that occurs once is in one route only
one_vehicle : (n : ℕ) (routes : List (List ℕ)) (u v : ℕ) → times n (concat routes) ≤ 1 → has (route_of routes u) n ≡ true
    → has (route_of routes v) n ≡ true → u ≡ v
one_vehicle n routes zero v few one two = absurd (false≢true one)
one_vehicle n routes (suc i) zero few one two = absurd (false≢true two)
one_vehicle n [] (suc i) (suc j) few one two = absurd (false≢true one)
one_vehicle n (r ∷ routes) (suc zero) (suc zero) few one two = refl
one_vehicle n (r ∷ routes) (suc zero) (suc (suc j)) few one two =
    let e = times-append n r (concat routes) in
    let f = had_often r n one in
    let g = had_often (concat routes) n (has_in_vehicle routes (suc j) n two) in
    absurd (omega arith)
one_vehicle n (r ∷ routes) (suc (suc i)) (suc zero) few one two =
    let e = times-append n r (concat routes) in
    let f = had_often r n two in
    let g = had_often (concat routes) n (has_in_vehicle routes (suc i) n one) in
    absurd (omega arith)
one_vehicle n (r ∷ routes) (suc (suc i)) (suc (suc j)) few one two =
    let e = times-append n r (concat routes) in
    ap suc (one_vehicle n routes (suc i) (suc j) (omega arith) one two)

in_fleet : (n : ℕ) (routes : List (List ℕ)) (v : ℕ) → has (route_of routes v) n ≡ true → v ≤ length routes
in_fleet n routes zero had = omega arith
in_fleet n [] (suc i) had = absurd (false≢true had)
in_fleet n (r ∷ routes) (suc zero) had = omega arith
in_fleet n (r ∷ routes) (suc (suc i)) had = let h = in_fleet n routes (suc i) had in omega arith

-- ---- one stop's vehicle
module _ (routes : List (List ℕ)) (stop : ℕ) (before : List ℕ) where
  pub noted_none : has_stop routes stop ≡ false → Collects routes (λ n. n ≡ stop) before before
  noted_none none = record {
    within = λ all. all;
    stays = λ v h. h;
    found = λ v n is had. absurd (false≢true (sym none ∙ has_in_vehicle routes v stop (subst (λ (m : ℕ). has (route_of routes v) m ≡ true) is had)));
  }

  module _ (once : IsDistinct nat_eq (concat routes)) (vehicle : ℕ) (there : has (route_of routes vehicle) stop ≡ true) where
    is_it : (v n : ℕ) → n ≡ stop → has (route_of routes v) n ≡ true → v ≡ vehicle
    is_it v n is had =
        one_vehicle stop routes v vehicle (at_most_once (concat routes) once stop)
        (subst (λ (m : ℕ). has (route_of routes v) m ≡ true) is had) there

    pub noted_old : has before vehicle ≡ true → Collects routes (λ n. n ≡ stop) before before
    noted_old among = record {
      within = λ all. all;
      stays = λ v h. h;
      found = λ v n is had. ap (has before) (is_it v n is had) ∙ among;
    }

    pub noted_new : 1 ≤ vehicle → (after : List ℕ) → after ≡ before ++ vehicle ∷ [] → Collects routes (λ n. n ≡ stop) before after
    noted_new from after are = subst (Collects routes (λ n. n ≡ stop) before) (sym are) (record {
      within = λ all. All-append (λ (v : ℕ). (1 ≤ v) × (v ≤ length routes)) before (vehicle ∷ []) all
          (All-from_recursion (λ (v : ℕ). (1 ≤ v) × (v ≤ length routes)) (vehicle ∷ []) ((from, in_fleet stop routes vehicle there), tt));
      stays = λ v h. list_any-append (nat_eq v) before (vehicle ∷ []) ∙ or_left (has before v) (has (vehicle ∷ []) v) h;
      found = λ v n is had. list_any-append (nat_eq v) before (vehicle ∷ []) ∙ or_right (has before v) (has (vehicle ∷ []) v) (here v (is_it v n is had));
    })
      where
        here : (v : ℕ) → v ≡ vehicle → has (vehicle ∷ []) v ≡ true
        here v same = elim (eqb_tells v vehicle) [
          | inl t ↦ rw t.0 refl
          | inr t ↦ absurd (t.1 same)
        ]

-- ---- the vehicles of a request's stops
module _ (routes : List (List ℕ)) where
  pub noted_pair : (a b : Stop) (before mid after : List ℕ) → Collects routes (λ n. n ≡ a.number) before mid
      → Collects routes (λ n. n ≡ b.number) mid after → Collects routes (λ n. IsSome (stop_in n (Pair a b))) before after
  noted_pair a b before mid after one two = record {
    within = λ all. two.within (one.within all);
    stays = λ v h. two.stays v (one.stays v h);
    found = λ v n some had. elim (eqb_tells a.number n) [
      | inl t ↦ two.stays v (one.found v n (sym t.1) had)
      | inr t ↦ elim (eqb_tells b.number n) [
        | inl u ↦ two.found v n (sym u.1) had
        | inr u ↦ absurd (false≢true (rw (t.0, u.0) at some))
      ]
    ];
  }

  -- ---- the vehicles of a name
  module _ (by_name : RequestsAreStoredByName) (p : Instance) (valid : IsInstance p) (name : ℕ) where
    named_by : (n : ℕ) → is_of_named p (name ∷ []) n ≡ true → (q : Request) × (lookup (nat_eq name) p.requests ≡ Some q) × (IsSome (stop_in n q))
    named_by n = by (request_with p n) refl
      where
        by : (o : Option Request) → request_with p n ≡ o → option_map_or (has (name ∷ [])) (option_map request_name o) false ≡ true
            → (q : Request) × (lookup (nat_eq name) p.requests ≡ Some q) × (IsSome (stop_in n q))
        by None e named = absurd (false≢true named)
        by (Some q) e named = elim (or_cases (eqb (request_name q) name) false named) [
          | inl t ↦ (
            q,
            subst (λ (k : ℕ). lookup (nat_eq k) p.requests ≡ Some q) (eqb-true (request_name q) name t) (by_name p n q valid e),
            in_numbers n q (found_has n q p.requests e),
          )
          | inr f ↦ absurd (false≢true f)
        ]

    pub noted_named : (r : Request) → lookup (nat_eq name) p.requests ≡ Some r → (before after : List ℕ)
        → Collects routes (λ n. IsSome (stop_in n r)) before after → Collects routes (λ n. is_of_named p (name ∷ []) n ≡ true) before after
    noted_named r at before after is = record {
      within = is.within;
      stays = is.stays;
      found = λ v n named had.
          (let q = named_by n named in
          is.found v n (subst (λ (x : Request). IsSome (stop_in n x)) (some_same q.0 r (sym q.1 ∙ at)) q.2) had);
    }

  -- ---- the vehicles of the names so far
  module _ (p : Instance) where
    first_or_later : (name : ℕ) (rest : List ℕ) (n : ℕ) → is_of_named p (name ∷ rest) n ≡ true
        → (is_of_named p (name ∷ []) n ≡ true) ⊎ (is_of_named p rest n ≡ true)
    first_or_later name rest n = by (name_at p n)
      where
        by : (o : Option ℕ) → option_map_or (has (name ∷ rest)) o false ≡ true
            → (option_map_or (has (name ∷ [])) o false ≡ true) ⊎ (option_map_or (has rest) o false ≡ true)
        by None named = absurd (false≢true named)
        by (Some k) named = elim (or_cases (eqb k name) (has rest k) named) [
          | inl t ↦ inl (or_left (eqb k name) false t)
          | inr t ↦ inr t
        ]

    abbrev pub FoundSoFar : List ℕ → List ℕ → List ℕ → Type 0
    FoundSoFar names left vs = (v n : ℕ) → is_of_named p names n ≡ true → has (route_of routes v) n ≡ true → (has vs v ≡ true) ⊎ (is_of_named p left n ≡ true)

    pub found_more : (names left rest : List ℕ) (name : ℕ) (before after : List ℕ) → left ≡ name ∷ rest → FoundSoFar names left before
        → Collects routes (λ n. is_of_named p (name ∷ []) n ≡ true) before after → FoundSoFar names rest after
    found_more names left rest name before after are so_far is v n named had = elim (so_far v n named had) [
      | inl there ↦ inl (is.stays v there)
      | inr later ↦ elim (first_or_later name rest n (subst (λ (l : List ℕ). is_of_named p l n ≡ true) are later)) [
        | inl now ↦ inl (is.found v n now had)
        | inr then ↦ inr then
      ]
    ]

-- ---- the changes of these vehicles
kept_whole : (keep : ℕ → Bool) (xs : List ℕ) → ((n : ℕ) → has xs n ≡ true → keep n ≡ true) → filter keep xs ≡ xs
kept_whole keep [] all = refl
kept_whole keep (x ∷ xs) all =
    let t : keep x ≡ true = all x (or_left (eqb x x) (has xs x) (eq-eqb x x refl)) in
    rw t (ap (λ l. x ∷ l) (kept_whole keep xs (λ n h. all n (or_right (eqb n x) (has xs n) h))))

same_lists : (xs ys : List (List ℕ)) → length xs ≡ length ys → ((k : ℕ) → k < length ys → slice_get xs k ≡ slice_get ys k) → xs ≡ ys
same_lists [] [] long same = refl
same_lists [] (y ∷ ys) long same = absurd (omega arith)
same_lists (x ∷ xs) [] long same = absurd (omega arith)
same_lists (x ∷ xs) (y ∷ ys) long same =
    let e : x ≡ y = some_same x y (same zero (omega arith)) in
    let f = same_lists xs ys (omega arith) (λ k below. same (suc k) (omega arith)) in
    ap (λ z. z ∷ xs) e ∙ ap (λ l. y ∷ l) f

long_with : (cs : List Change) (routes : List (List ℕ)) → length (with_routes routes cs) ≡ length routes
long_with [] routes = refl
long_with (c ∷ cs) routes = long_with cs (with_route routes c.vehicle c.route) ∙ length-set routes (c.vehicle - 1) c.route

module _ (f : List ℕ → List ℕ) (old : List (List ℕ)) where
  abbrev pub change_at : ℕ → Change
  change_at v = record { vehicle = v; route = f (route_of old v) }

  reached : (vs : List ℕ) (cur : List (List ℕ)) (k : ℕ) → k < length cur → AllByRecursion (λ v. (1 ≤ v) × (v ≤ length old)) vs
      → (has vs (k + 1) ≡ true) ⊎ (slice_get cur k ≡ Some (f (route_of old (k + 1))))
      → slice_get (with_routes cur (map change_at vs)) k ≡ Some (f (route_of old (k + 1)))
  reached [] cur k below all reported = elim reported [
    | inl had ↦ absurd (false≢true had)
    | inr at ↦ at
  ]
  reached (v ∷ vs) cur k below all reported =
      let long = length-set cur (v - 1) (f (route_of old v)) in
      reached vs (with_route cur v (f (route_of old v))) k (omega arith) all.1 (elim (eqb_tells (k + 1) v) [
        | inl t ↦ (
            let e : v - 1 ≡ k = omega arith in
            inr (subst (λ (j : ℕ). slice_get (set cur j (f (route_of old v))) k ≡ Some (f (route_of old v))) (sym e)
            (get_set cur k (f (route_of old v)) below)
            ∙ ap (λ (u : ℕ). Some (f (route_of old u))) (sym t.1)))
        | inr t ↦ elim reported [
          | inl had ↦ inl (rw t.0 at had)
          | inr at ↦ (let apart = t.1 in inr (get_set_other cur (v - 1) k (f (route_of old v)) (λ same. apart (omega arith)) ∙ at))
        ]
      ])

  routes_there : (vs : List ℕ) → AllByRecursion (λ v. (1 ≤ v) × (v ≤ length old)) vs
      → AllByRecursion (λ c. c.route ≡ route_of (map f old) c.vehicle) (map change_at vs)
  routes_there [] all = tt
  routes_there (v ∷ vs) all = (sym (of_map f old v all.0.0 all.0.1), routes_there vs all.1)

  all_in : (vs : List ℕ) → AllByRecursion (λ v. (1 ≤ v) × (v ≤ length old)) vs
      → AllByRecursion (λ c. (1 ≤ c.vehicle) × (c.vehicle ≤ length old)) (map change_at vs)
  all_in [] all = tt
  all_in (v ∷ vs) all = (all.0, all_in vs all.1)

  get_mapped : (k : ℕ) → k < length old → slice_get (map f old) k ≡ Some (f (route_of old (k + 1)))
  get_mapped k below =
      let m = length-map old f in
      let e : k + 1 - 1 ≡ k = omega arith in
      subst (λ (j : ℕ). slice_get (map f old) j ≡ Some (route_of (map f old) (k + 1))) e
      (at_vehicle (map f old) (k + 1) (omega arith) (omega arith))
      ∙ ap (λ (l : List ℕ). Some l) (of_map f old (k + 1) (omega arith) (omega arith))

  get_old : (k : ℕ) → k < length old → slice_get old k ≡ Some (route_of old (k + 1))
  get_old k below =
      let e : k + 1 - 1 ≡ k = omega arith in
      subst (λ (j : ℕ). slice_get old j ≡ Some (route_of old (k + 1))) e (at_vehicle old (k + 1) (omega arith) (omega arith))

  gathered : (vs : List ℕ) → AreIn old vs → ((v : ℕ) → has vs v ≡ false → f (route_of old v) ≡ route_of old v)
      → AreChanges old (map f old) (map change_at vs)
  gathered vs within others =
      let all = recursion_from_All (λ (v : ℕ). (1 ≤ v) × (v ≤ length old)) vs within in
      record {
        within = all_in vs all;
        there = routes_there vs all;
        plan = same_lists (with_routes old (map change_at vs)) (map f old) (long_with (map change_at vs) old ∙ sym (length-map old f))
            (λ k below. let m = length-map old f in
            reached vs old k (omega arith) all (reported k (omega arith)) ∙ sym (get_mapped k (omega arith)));
      }
    where
      reported : (k : ℕ) → k < length old → (has vs (k + 1) ≡ true) ⊎ (slice_get old k ≡ Some (f (route_of old (k + 1))))
      reported k below = elim (cases_Bool (has vs (k + 1))) [
        | inl t ↦ inl t
        | inr g ↦ inr (get_old k below ∙ ap (λ (l : List ℕ). Some l) (sym (others (k + 1) g)))
      ]

pub named_changes : (p : Instance) (names : List ℕ) (old : List (List ℕ)) (vs : List ℕ) → AreIn old vs
    → AreVehiclesOf old (λ n. is_of_named p names n ≡ true) vs
    → AreChanges old (without_named p names old) (map (change_at (filter (λ n. not (is_of_named p names n))) old) vs)
named_changes p names old vs within found =
    gathered (filter (λ n. not (is_of_named p names n))) old vs within
    (λ v out. kept_whole (λ n. not (is_of_named p names n)) (route_of old v) (λ n had. elim (cases_Bool (is_of_named p names n)) [
      | inl named ↦ absurd (false≢true (sym out ∙ found v n named had))
      | inr free ↦ rw free refl
    ]))

-- ---- the vehicles of two requests' stops
in_single : (s : Stop) (n : ℕ) → n ≡ s.number → IsSome (stop_in n (Single s))
in_single s n is = rw (eq-eqb s.number n (sym is)) (search rules)

in_pair : (a b : Stop) (n : ℕ) → (n ≡ a.number) ⊎ (n ≡ b.number) → IsSome (stop_in n (Pair a b))
in_pair a b n one = elim (eqb_tells a.number n) [
  | inl t ↦ rw t.0 (search rules)
  | inr t ↦ elim one [
    | inl first ↦ absurd (t.1 (sym first))
    | inr second ↦ rw (t.0, eq-eqb b.number n (sym second)) (search rules)
  ]
]

-- a number of neither request is its own counterpart
counterpart_stays : (r s : Request) (n : ℕ) → (IsSome (stop_in n r) ⊎ IsSome (stop_in n s)) ⊎ (counterpart r s n ≡ n)
counterpart_stays (Single s) (Single t) n = elim (eqb_tells n s.number) [
  | inl here ↦ inl (inl (in_single s n here.1))
  | inr away ↦ elim (eqb_tells n t.number) [
    | inl here ↦ inl (inr (in_single t n here.1))
    | inr out ↦ inr (rw (away.0, out.0) refl)
  ]
]
counterpart_stays (Single s) (Pair c d) n = inr refl
counterpart_stays (Pair a b) (Single t) n = inr refl
counterpart_stays (Pair a b) (Pair c d) n = elim (eqb_tells n b.number) [
  | inl here ↦ inl (inl (in_pair a b n (inr here.1)))
  | inr no_b ↦ elim (eqb_tells n d.number) [
    | inl here ↦ inl (inr (in_pair c d n (inr here.1)))
    | inr no_d ↦ elim (eqb_tells n a.number) [
      | inl here ↦ inl (inl (in_pair a b n (inl here.1)))
      | inr no_a ↦ elim (eqb_tells n c.number) [
        | inl here ↦ inl (inr (in_pair c d n (inl here.1)))
        | inr no_c ↦ inr (rw (no_b.0, no_d.0, no_a.0, no_c.0) refl)
      ]
    ]
  ]
]

mapped_whole : (f : ℕ → ℕ) (xs : List ℕ) → ((n : ℕ) → has xs n ≡ true → f n ≡ n) → map f xs ≡ xs
mapped_whole f [] all = refl
mapped_whole f (x ∷ xs) all =
    let same : f x ≡ x = all x (or_left (eqb x x) (has xs x) (eq-eqb x x refl)) in
    ap (λ (y : ℕ). y ∷ map f xs) same ∙ ap (λ (l : List ℕ). x ∷ l) (mapped_whole f xs (λ n h. all n (or_right (eqb n x) (has xs n) h)))

pub exchanged_changes : (r s : Request) (old : List (List ℕ)) (vs : List ℕ) → AreIn old vs
    → AreVehiclesOf old (λ n. IsSome (stop_in n r) ⊎ IsSome (stop_in n s)) vs
    → AreChanges old (map (map (counterpart r s)) old) (map (change_at (map (counterpart r s)) old) vs)
exchanged_changes r s old vs within found =
    gathered (map (counterpart r s)) old vs within
    (λ v out. mapped_whole (counterpart r s) (route_of old v) (λ n had. elim (counterpart_stays r s n) [
      | inl named_one ↦ absurd (false≢true (sym out ∙ found v n named_one had))
      | inr same ↦ same
    ]))

-- ---- whether a stop has a vehicle
pub has_by_vehicle : (routes : List (List ℕ)) (n v : ℕ) → IsVehicleWith routes n v → not (eqb v 0) ≡ has_stop routes n
has_by_vehicle routes n v is = elim (eqb_tells v 0) [
  | inl t ↦ rw t.0 (sym (is.1 t.1))
  | inr t ↦ (let apart = t.1 in rw t.0 (sym (has_in_vehicle routes v n (is.0 (omega arith)))))
]
