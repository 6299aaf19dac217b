-- The number of requests that a plan leaves out after some are removed, or two are exchanged.
use Rattle.std.proofs.Common.{◌≡◌, ℕ, zero, suc, ◌+◌, ◌<◌, ◌≤◌, ◌&&◌, ◌||◌, not, Bool, true, false, cond, eqb, List, []}
use Rattle.std.proofs.Common.{◌∷◌, map, filter, length, get_or, Option, Some, None, IsSome, refl, sym, ap, subst, ◌∙◌, inl, inr, arith, nat_eq}
use Rattle.std.specs.List.{AllByRecursion, list_all, concat}
use Rattle.std.specs.Map.{lookup}
use Rattle.std.specs.Option.{option_map, option_map_or}
use Rattle.std.proofs.lemmas.Bool.{cases_Bool, and_parts, eq-eqb, ne_eqb, or_right}
use Rattle.std.proofs.lemmas.Bool.Decides.{eqb_tells}
use Rattle.std.proofs.lemmas.List.Sums.{count_by-le-length}
use Rattle.std.proofs.lemmas.Map.Steps.{length-le_from_distinct_below}
use Rattle.plan_types.specs.Instance.{Instance, IsInstance, name_at, request_with, numbers_among}
use Rattle.plan_types.specs.Laws.{NamedRequestsAreFound, RequestsAreStoredByName}
use Rattle.plan_types.specs.Request.{request_name, stop_in}
use Rattle.plan_types.specs.declared.requests.Request.{Request}
use Rattle.plan_types.specs.declared.requests.Request.TheVariants.{Single, Pair}
use Rattle.route_sched.specs.Cost.{has_stop, is_planned, unplanned_count}
use Rattle.plan_audit.specs.Passes.{has}
use Rattle.move_ops.specs.Insertion.{request_named}
use Rattle.move_ops.specs.Moves.{counterpart, have_same_form, are_exchangeable, is_movable, is_movable_name, is_of_named, without_named}
use Rattle.move_ops.specs.Changes.{distinct_count}
use Rattle.move_ops.proofs.OccurrenceLemmas.{none_some, some_same, times, one_here, none_here, times-append}
use Rattle.move_ops.proofs.InsertionLemmas.{numbers_of, in_numbers}
use Rattle.move_ops.proofs.ChoiceLemmas.{name_of}
use Rattle.move_ops.proofs.InsertionCosts.{any_same, unplanned_same}
use Rattle.move_ops.proofs.UnplannedCountLemmas.{one_more_planned}
use Rattle.move_ops.proofs.DraftLemmas.{named_gone}
use Rattle.move_ops.proofs.PlanExchangeLemmas.{counterpart_other, times_exchanged, first_for_second, second_for_first}
use Rattle.move_ops.proofs.PlanRemovalLemmas.{found_has}

-- ---- the stops of a name
pub has_item : (ns : List ℕ) (k : ℕ) → k < length ns → has ns (get_or ns k 0) ≡ true
has_item [] k below = absurd (omega arith)
has_item (n ∷ ns) zero below = rw (eq-eqb n n refl) refl
has_item (n ∷ ns) (suc k) below = or_right (eqb (get_or ns k 0) n) (has ns (get_or ns k 0)) (has_item ns k (omega arith))

pub named_stop : NamedRequestsAreFound → (p : Instance) → IsInstance p → (names : List ℕ) (name : ℕ) (r : Request) → has names name ≡ true
    → lookup (nat_eq name) p.requests ≡ Some r → (n : ℕ) → IsSome (stop_in n r) → is_of_named p names n ≡ true
named_stop found p valid names name r there at n some =
    ap (λ (o : Option ℕ). option_map_or (has names) o false) ((found p n name r valid at some).name)
    ∙ (ap (has names) (name_of p.requests name r (valid.named) at) ∙ there)

-- ---- a number among those that are kept
module _ (keep : ℕ → Bool) (n : ℕ) where
  kept_times : keep n ≡ true → (xs : List ℕ) → times n (filter keep xs) ≡ times n xs
  kept_times k [] = refl
  kept_times k (x ∷ xs) = elim (cases_Bool (keep x)) [
    | inl t ↦ rw t (let h = kept_times k xs in omega arith)
    | inr f ↦ rw f (
        let apart : eqb n x ≡ false = ne_eqb n x (λ u. let e : true ≡ false = sym k ∙ (ap keep u ∙ f) in cc) in
        let e = none_here n x apart in
        let h = kept_times k xs in
        omega arith)
  ]

  gone_times : keep n ≡ false → (xs : List ℕ) → times n (filter keep xs) ≡ 0
  gone_times k [] = refl
  gone_times k (x ∷ xs) = elim (cases_Bool (keep x)) [
    | inl t ↦ rw t (
        let apart : eqb n x ≡ false = ne_eqb n x (λ u. let e : true ≡ false = sym t ∙ (ap keep (sym u) ∙ k) in cc) in
        let e = none_here n x apart in
        let h = gone_times k xs in
        omega arith)
    | inr f ↦ rw f (gone_times k xs)
  ]

  pub kept_all : keep n ≡ true → (routes : List (List ℕ)) → times n (concat (map (filter keep) routes)) ≡ times n (concat routes)
  kept_all k [] = refl
  kept_all k (r ∷ routes) =
      let e = times-append n (filter keep r) (concat (map (filter keep) routes)) in
      let f = times-append n r (concat routes) in
      let g = kept_times k r in
      let h = kept_all k routes in
      omega arith

  pub gone_all : keep n ≡ false → (routes : List (List ℕ)) → times n (concat (map (filter keep) routes)) ≡ 0
  gone_all k [] = refl
  gone_all k (r ∷ routes) =
      let e = times-append n (filter keep r) (concat (map (filter keep) routes)) in
      let g = gone_times k r in
      let h = gone_all k routes in
      omega arith

alike : (keep other : ℕ → Bool) (n : ℕ) → keep n ≡ other n → (routes : List (List ℕ))
    → times n (concat (map (filter keep) routes)) ≡ times n (concat (map (filter other) routes))
alike keep other n same routes = elim (cases_Bool (keep n)) [
  | inl t ↦ kept_all keep n t routes ∙ sym (kept_all other n (sym same ∙ t) routes)
  | inr f ↦ gone_all keep n f routes ∙ sym (gone_all other n (sym same ∙ f) routes)
]

-- ---- the numbers of a named request
module _ (found : NamedRequestsAreFound) (by_name : RequestsAreStoredByName) (p : Instance) (valid : IsInstance p) where
  pub is_named : (name m : ℕ) (r : Request) → lookup (nat_eq name) p.requests ≡ Some r → 1 ≤ times m (numbers_of r) → name_at p m ≡ Some name
  is_named name m r at some = (found p m name r valid at (in_numbers m r some)).name ∙ ap (λ (k : ℕ). Some k) (name_of p.requests name r (valid.named) at)

  not_named : (name m : ℕ) (r : Request) → lookup (nat_eq name) p.requests ≡ Some r → times m (numbers_of r) ≡ 0 → name_at p m ≡ Some name → ⊥
  not_named name m r at none = by (request_with p m) refl
    where
      by : (o : Option Request) → request_with p m ≡ o → option_map request_name o ≡ Some name → ⊥
      by None e is = none_some name is
      by (Some q) e is =
          let same : request_name q ≡ name = some_same (request_name q) name is in
          let there : lookup (nat_eq name) p.requests ≡ Some q = subst (λ (k : ℕ). lookup (nat_eq k) p.requests ≡ Some q) same (by_name p m q valid e) in
          let equal : q ≡ r = some_same q r (sym there ∙ at) in
          let one = found_has m q p.requests e in
          let two = ap (λ (x : Request). times m (numbers_of x)) equal in
          omega arith

  -- the stops of some names and one more
  module _ (name : ℕ) (names : List ℕ) (r : Request) (at : lookup (nat_eq name) p.requests ≡ Some r) where
    pub others_as : (m : ℕ) → times m (numbers_of r) ≡ 0 → is_of_named p (name ∷ names) m ≡ is_of_named p names m
    others_as m none = by (name_at p m) refl
      where
        by : (o : Option ℕ) → name_at p m ≡ o → option_map_or (has (name ∷ names)) o false ≡ option_map_or (has names) o false
        by None e = refl
        by (Some k) e = elim (eqb_tells k name) [
          | inl t ↦ absurd (not_named name m r at none (e ∙ ap (λ (j : ℕ). Some j) t.1))
          | inr t ↦ rw t.0 refl
        ]

    pub stops_of_it : (m : ℕ) → 1 ≤ times m (numbers_of r) → is_of_named p (name ∷ names) m ≡ true
    stops_of_it m some = ap (λ o. option_map_or (has (name ∷ names)) o false) (is_named name m r at some) ∙ rw (eq-eqb name name refl) refl

    stops_not_of : has names name ≡ false → (m : ℕ) → 1 ≤ times m (numbers_of r) → is_of_named p names m ≡ false
    stops_not_of fresh m some = ap (λ o. option_map_or (has names) o false) (is_named name m r at some) ∙ fresh

    pub gone_now : (routes : List (List ℕ)) → is_planned (without_named p (name ∷ names) routes) r ≡ false
    gone_now routes = by r (λ m some. named_gone p (name ∷ names) routes (without_named p (name ∷ names) routes) refl m (stops_of_it m some))
      where
        by : (q : Request) → ((m : ℕ) → 1 ≤ times m (numbers_of q) → has_stop (without_named p (name ∷ names) routes) m ≡ false)
            → is_planned (without_named p (name ∷ names) routes) q ≡ false
        by (Single s) none = rw (none s.number (let e = one_here s.number s.number refl in omega arith)) refl
        by (Pair a b) none =
            rw (
              none a.number (let e = one_here a.number a.number refl in omega arith),
              none b.number (let e = one_here b.number b.number refl in omega arith),
            ) refl

    still_there : has names name ≡ false → (routes : List (List ℕ)) → is_planned (without_named p names routes) r ≡ is_planned routes r
    still_there fresh routes =
        by r (λ m some. any_same m (concat (without_named p names routes)) (concat routes)
        (kept_all (λ n. not (is_of_named p names n)) m (rw (stops_not_of fresh m some) refl) routes))
      where
        by : (q : Request) → ((m : ℕ) → 1 ≤ times m (numbers_of q) → has_stop (without_named p names routes) m ≡ has_stop routes m)
            → is_planned (without_named p names routes) q ≡ is_planned routes q
        by (Single s) same = ap (λ b. b || false) (same s.number (let e = one_here s.number s.number refl in omega arith))
        by (Pair a b) same =
            ap (λ h. h || (has_stop (without_named p names routes) b.number || false)) (same a.number (let e = one_here a.number a.number refl in omega arith))
            ∙ ap (λ h. has_stop routes a.number || (h || false)) (same b.number (let e = one_here b.number b.number refl in omega arith))

    one_fewer : (routes : List (List ℕ)) → is_planned routes r ≡ true → has names name ≡ false
        → unplanned_count p (without_named p (name ∷ names) routes) ≡ unplanned_count p (without_named p names routes) + 1
    one_fewer routes planned fresh =
        one_more_planned (without_named p (name ∷ names) routes) (without_named p names routes) r
        (λ m none. alike (λ n. not (is_of_named p (name ∷ names) n)) (λ n. not (is_of_named p names n)) m (ap not (others_as m none)) routes)
        (gone_now routes) (still_there fresh routes ∙ planned) p valid name at

  -- a repeated name counts once
  again_as : (name : ℕ) (names : List ℕ) → has names name ≡ true → (m : ℕ) → is_of_named p (name ∷ names) m ≡ is_of_named p names m
  again_as name names twice m = by (name_at p m)
    where
      by : (o : Option ℕ) → option_map_or (has (name ∷ names)) o false ≡ option_map_or (has names) o false
      by None = refl
      by (Some k) = elim (eqb_tells k name) [
        | inl t ↦ rw t.0 (sym (ap (has names) t.1 ∙ twice))
        | inr t ↦ rw t.0 refl
      ]

  pub none_named : (m : ℕ) → is_of_named p [] m ≡ false
  none_named m = by (name_at p m)
    where
      by : (o : Option ℕ) → option_map_or (has []) o false ≡ false
      by None = refl
      by (Some k) = refl

  module _ (routes : List (List ℕ)) where
    abbrev pub IsThere : ℕ → Type 0
    IsThere name = (r : Request) × (lookup (nat_eq name) p.requests ≡ Some r) × (is_planned routes r ≡ true)

    pub left_out : (names : List ℕ) → AllByRecursion IsThere names
        → unplanned_count p (without_named p names routes) ≡ unplanned_count p routes + distinct_count names
    left_out [] all =
        let e = unplanned_same (without_named p [] routes) routes (λ m. kept_all (λ n. not (is_of_named p [] n)) m (rw (none_named m) refl) routes) p in
        omega arith
    left_out (name ∷ names) all =
        let h = left_out names all.1 in
        elim (cases_Bool (has names name)) [
          | inl twice ↦ (
              let e = unplanned_same (without_named p (name ∷ names) routes) (without_named p names routes)
              (λ m. alike (λ n. not (is_of_named p (name ∷ names) n)) (λ n. not (is_of_named p names n)) m (ap not (again_as name names twice m)) routes) p in
              let d : ◌≡◌ {A = ℕ} (cond (has names name) 0 1) 0 = rw twice refl in
              omega arith)
          | inr fresh ↦ (
              let e = one_fewer name names all.0.0 all.0.1 routes all.0.2 fresh in
              let d : ◌≡◌ {A = ℕ} (cond (has names name) 0 1) 1 = rw fresh refl in
              omega arith)
        ]

    there : (pins : List (List ℕ)) (names : List ℕ) → list_all (is_movable_name p pins routes) names ≡ true → AllByRecursion IsThere names
    there pins [] all = tt
    there pins (name ∷ names) all =
        let both = and_parts (is_movable_name p pins routes name) (list_all (is_movable_name p pins routes) names) all in
        (by (request_named p name) refl both.0, there pins names both.1)
      where
        by : (o : Option Request) → request_named p name ≡ o → option_map_or (is_movable pins routes) o false ≡ true → IsThere name
        by None e t = absurd (let k : false ≡ true = t in cc)
        by (Some r) e t = (r, e, (and_parts (is_planned routes r) (not (is_planned pins r)) t).0)

    pub taken_out : (pins : List (List ℕ)) (names : List ℕ) → list_all (is_movable_name p pins routes) names ≡ true
        → unplanned_count p (without_named p names routes) ≡ unplanned_count p routes + distinct_count names
    taken_out pins names movable = left_out names (there pins names movable)

-- ---- two requests exchanged
module _ (found : NamedRequestsAreFound) (by_name : RequestsAreStoredByName) (p : Instance) (valid : IsInstance p) (a b : ℕ) (apart : a ≡ b → ⊥) (r s : Request)
    (is_r : lookup (nat_eq a) p.requests ≡ Some r) (is_s : lookup (nat_eq b) p.requests ≡ Some s) (pins routes : List (List ℕ))
    (can : are_exchangeable pins routes r s ≡ true) where
  none_of : (names : List ℕ) (name m : ℕ) (q : Request) → lookup (nat_eq name) p.requests ≡ Some q → has names name ≡ true
      → is_of_named p names m ≡ false → times m (numbers_of q) ≡ 0
  none_of names name m q at among out = elim (eqb_tells (times m (numbers_of q)) 0) [
    | inl t ↦ t.1
    | inr t ↦ absurd (
        let named = is_named found by_name p valid name m q at (omega arith) in
        let it : is_of_named p names m ≡ true = ap (λ o. option_map_or (has names) o false) named ∙ among in
        cc)
  ]

  has_first : has (a ∷ b ∷ []) a ≡ true
  has_first = rw (eq-eqb a a refl) refl

  has_second : has (a ∷ b ∷ []) b ≡ true
  has_second = elim (cases_Bool (eqb b a)) [
    | inl t ↦ rw t refl
    | inr f ↦ rw (f, eq-eqb b b refl) refl
  ]

  same_left : (m : ℕ)
      → times m (concat (without_named p (a ∷ b ∷ []) routes))
      ≡ times m (concat (without_named p (a ∷ b ∷ []) (map (map (counterpart r s)) routes)))
  same_left m = elim (cases_Bool (is_of_named p (a ∷ b ∷ []) m)) [
    | inl t ↦ gone_all (λ n. not (is_of_named p (a ∷ b ∷ []) n)) m (rw t refl) routes
        ∙ sym (gone_all (λ n. not (is_of_named p (a ∷ b ∷ []) n)) m (rw t refl) (map (map (counterpart r s)) routes))
    | inr f ↦
        kept_all (λ n. not (is_of_named p (a ∷ b ∷ []) n)) m (rw f refl) routes
        ∙ (sym (times_exchanged found p valid a b apart r s is_r is_s m routes
        ∙ ap (λ (k : ℕ). times k (concat routes))
        (counterpart_other r s m (none_of (a ∷ b ∷ []) a m r is_r has_first f) (none_of (a ∷ b ∷ []) b m s is_s has_second f)))
        ∙ sym (kept_all (λ n. not (is_of_named p (a ∷ b ∷ []) n)) m (rw f refl) (map (map (counterpart r s)) routes)))
  ]

  pub as_many : unplanned_count p routes ≡ unplanned_count p (map (map (counterpart r s)) routes)
  as_many =
      let one = and_parts (is_movable pins routes r) (is_movable pins routes s && have_same_form r s) can in
      let two = and_parts (is_movable pins routes s) (have_same_form r s) one.1 in
      let r_there = (and_parts (is_planned routes r) (not (is_planned pins r)) one.0).0 in
      let s_there = (and_parts (is_planned routes s) (not (is_planned pins s)) two.0).0 in
      let r_then = first_for_second found p valid a b apart r s is_r is_s routes two.1 ∙ s_there in
      let s_then = second_for_first found p valid a b apart r s is_r is_s routes two.1 ∙ r_there in
      let e = left_out found by_name p valid routes (a ∷ b ∷ []) ((r, is_r, r_there), ((s, is_s, s_there), tt)) in
      let f = left_out found by_name p valid (map (map (counterpart r s)) routes) (a ∷ b ∷ []) ((r, is_r, r_then), ((s, is_s, s_then), tt)) in
      let g = unplanned_same (without_named p (a ∷ b ∷ []) routes) (without_named p (a ∷ b ∷ []) (map (map (counterpart r s)) routes)) same_left p in
      omega arith

-- ---- there are few requests
few_among : (es : List (ℕ × Request)) → length es ≤ length (numbers_among es)
few_among [] = omega arith
few_among ((m, Single s) ∷ es) = let h = few_among es in omega arith
few_among ((m, Pair a b) ∷ es) = let h = few_among es in omega arith

below_each : (m q : ℕ) (xs : List ℕ) → AllByRecursion (λ n. n < m) xs → has xs q ≡ true → q < m
below_each m q [] all there = absurd (let k : false ≡ true = there in cc)
below_each m q (x ∷ xs) all there = elim (eqb_tells q x) [
  | inl t ↦ (let e = t.1 in let f = all.0 in omega arith)
  | inr t ↦ below_each m q xs all.1 (rw t.0 at there)
]

few_numbers : (p : Instance) → IsInstance p → length (numbers_among p.requests) ≤ 40001
few_numbers p valid =
    length-le_from_distinct_below (numbers_among p.requests) 40001 (valid.distinct)
    (λ q there. let most = valid.next_number_max in let less = below_each p.next_number q (numbers_among p.requests) (valid.above) there in omega arith)

pub few_left_out : (p : Instance) → IsInstance p → (routes : List (List ℕ)) → unplanned_count p routes ≤ 40001
few_left_out p valid routes =
    let e = count_by-le-length (λ (q : ℕ × Request). not (is_planned routes q.1)) p.requests in
    let f = few_among p.requests in
    let g = few_numbers p valid in
    omega arith
