-- The exchange of two requests of a plan that passes.
use Rattle.std.proofs.Common.{◌≡◌, ℕ, ◌+◌, ◌≤◌, ◌&&◌, ◌||◌, Bool, true, false, cond, eqb, nat_eq, List, []}
use Rattle.std.proofs.Common.{◌∷◌, All, map, Some, None, slice_get, refl, sym, ap, subst, ◌∙◌, inl, inr, arith}
use Rattle.std.specs.List.{list_all, list_any, concat}
use Rattle.std.specs.Map.{lookup}
use Rattle.std.specs.Option.{option_map}
use Rattle.std.proofs.lemmas.Bool.{cases_lt, and_parts, eq-eqb, ne_eqb}
use Rattle.std.proofs.lemmas.Bool.Decides.{eqb_tells}
use Rattle.std.proofs.lemmas.List.{length-map}
use Rattle.std.proofs.lemmas.Option.{slice_get-map}
use Rattle.plan_types.specs.Instance.{Instance, IsInstance}
use Rattle.plan_types.specs.Laws.{NamedRequestsAreFound}
use Rattle.plan_types.specs.Request.{request_name, IsRequest}
use Rattle.plan_types.specs.declared.requests.Request.{Request}
use Rattle.plan_types.specs.declared.requests.Request.TheVariants.{Single, Pair}
use Rattle.route_sched.specs.Cost.{has_stop, is_planned}
use Rattle.route_sched.specs.Route.{IsKnownStop, AreDistinctStops, IsPlan}
use Rattle.plan_audit.specs.Laws.{KeepsPins}
use Rattle.plan_audit.specs.Locality.{PassingIsLocal, PlansAreDisjointRoutes, FeasibleAloneDecidesFeasibility}
use Rattle.plan_audit.specs.Passes.{feasible_alone, passes}
use Rattle.slack_tables.proofs.InsertLemmas.{request-valid}
use Rattle.move_ops.specs.Moves.{is_movable, have_same_form, are_exchangeable, swapped, counterpart, exchanged}
use Rattle.move_ops.proofs.OccurrenceLemmas.{some_same, times, one_here, none_here, times-append, once_from, once_few, once_known}
use Rattle.move_ops.proofs.ChoiceLemmas.{name_of}
use Rattle.move_ops.proofs.FitLemmas.{had_often, often_had}
use Rattle.move_ops.proofs.ReplacementLemmas.{parts}
use Rattle.move_ops.proofs.InsertionLemmas.{numbers_of, in_numbers, found_known}
use Rattle.move_ops.proofs.PlanChangeLemmas.{passes_where_feasible, each_once, pins_map}
use Rattle.move_ops.proofs.PlanRemovalLemmas.{unpinned}

-- one of two numbers replaced by the other
pub swap_left : (a b : ℕ) → swapped a b a ≡ b
swap_left a b = rw (eq-eqb a a refl) refl

pub swap_right : (a b : ℕ) → swapped a b b ≡ a
swap_right a b = elim (eqb_tells b a) [
  | inl t ↦ rw t.0 t.1
  | inr t ↦ rw (t.0, eq-eqb b b refl) refl
]

pub swap_other : (a b n : ℕ) → (n ≡ a → ⊥) → (n ≡ b → ⊥) → swapped a b n ≡ n
swap_other a b n left right = rw (ne_eqb n a left, ne_eqb n b right) refl

swap_turned : (a b n : ℕ) → swapped a b n ≡ swapped b a n
swap_turned a b n = elim (eqb_tells n a) [
  | inl t ↦ subst (λ m. swapped a b m ≡ swapped b a m) (sym t.1) (swap_left a b ∙ sym (swap_right b a))
  | inr t ↦ elim (eqb_tells n b) [
    | inl u ↦ rw (t.0, u.0) refl
    | inr u ↦ rw (t.0, u.0) refl
  ]
]

swap_back : (a b n : ℕ) → swapped a b (swapped a b n) ≡ n
swap_back a b n = elim (eqb_tells n a) [
  | inl t ↦ ap (λ m. swapped a b (swapped a b m)) t.1 ∙ (ap (swapped a b) (swap_left a b) ∙ (swap_right a b ∙ sym t.1))
  | inr t ↦ elim (eqb_tells n b) [
    | inl u ↦ ap (λ m. swapped a b (swapped a b m)) u.1 ∙ (ap (swapped a b) (swap_right a b) ∙ (swap_left a b ∙ sym u.1))
    | inr u ↦ ap (swapped a b) (swap_other a b n t.1 u.1) ∙ swap_other a b n t.1 u.1
  ]
]

-- two swaps, of a with c and of b with d, of four numbers
module _ (a b c d : ℕ) (a_b : a ≡ b → ⊥) (a_d : a ≡ d → ⊥) (c_b : c ≡ b → ⊥) (c_d : c ≡ d → ⊥) where
  abbrev both : ℕ → ℕ
  both n = swapped a c (swapped b d n)

  both_a : both a ≡ c
  both_a = ap (swapped a c) (swap_other b d a a_b a_d) ∙ swap_left a c

  both_c : both c ≡ a
  both_c = ap (swapped a c) (swap_other b d c c_b c_d) ∙ swap_right a c

  both_b : both b ≡ d
  both_b = ap (swapped a c) (swap_left b d) ∙ swap_other a c d (λ e. a_d (sym e)) (λ e. c_d (sym e))

  both_d : both d ≡ b
  both_d = ap (swapped a c) (swap_right b d) ∙ swap_other a c b (λ e. a_b (sym e)) (λ e. c_b (sym e))

  both_other : (n : ℕ) → (n ≡ a → ⊥) → (n ≡ c → ⊥) → (n ≡ b → ⊥) → (n ≡ d → ⊥) → both n ≡ n
  both_other n e f g h = ap (swapped a c) (swap_other b d n g h) ∙ swap_other a c n e f

  both_back : (n : ℕ) → both (both n) ≡ n
  both_back n = elim (eqb_tells n a) [
    | inl t ↦ ap (λ m. both (both m)) t.1 ∙ (ap both both_a ∙ (both_c ∙ sym t.1))
    | inr t ↦ elim (eqb_tells n c) [
      | inl u ↦ ap (λ m. both (both m)) u.1 ∙ (ap both both_c ∙ (both_a ∙ sym u.1))
      | inr u ↦ elim (eqb_tells n b) [
        | inl v ↦ ap (λ m. both (both m)) v.1 ∙ (ap both both_b ∙ (both_d ∙ sym v.1))
        | inr v ↦ elim (eqb_tells n d) [
          | inl w ↦ ap (λ m. both (both m)) w.1 ∙ (ap both both_d ∙ (both_b ∙ sym w.1))
          | inr w ↦ ap both (both_other n t.1 u.1 v.1 w.1) ∙ both_other n t.1 u.1 v.1 w.1
        ]
      ]
    ]
  ]

-- numbers mapped by a function that is its own inverse
module _ (f : ℕ → ℕ) (back : (n : ℕ) → f (f n) ≡ n) where
  times_mapped : (n : ℕ) (xs : List ℕ) → times n (map f xs) ≡ times (f n) xs
  times_mapped n [] = refl
  times_mapped n (x ∷ xs) = elim (eqb_tells n (f x)) [
    | inl t ↦ (
        let e = one_here n (f x) t.1 in
        let g = one_here (f n) x (ap f t.1 ∙ back x) in
        let h = times_mapped n xs in
        omega arith)
    | inr t ↦ (
        let e = none_here n (f x) t.0 in
        let g = none_here (f n) x (ne_eqb (f n) x (λ same. t.1 (sym (back n) ∙ ap f same))) in
        let h = times_mapped n xs in
        omega arith)
  ]

  pub times_all_mapped : (n : ℕ) (routes : List (List ℕ)) → times n (concat (map (map f) routes)) ≡ times (f n) (concat routes)
  times_all_mapped n [] = refl
  times_all_mapped n (route ∷ routes) =
      let e = times-append n (map f route) (concat (map (map f) routes)) in
      let g = times-append (f n) route (concat routes) in
      let h = times_mapped n route in
      let i = times_all_mapped n routes in
      omega arith

  pub mapped_plan : (p : Instance) (routes : List (List ℕ)) → IsPlan p routes → ((n : ℕ) → IsKnownStop p (f n) → IsKnownStop p n) → IsPlan p (map (map f) routes)
  mapped_plan p routes plan known =
      once_from p (concat (map (map f) routes))
      (λ n. let e = times_all_mapped n routes in let g = once_few p (concat routes) plan (f n) in omega arith)
      (λ n some. let e = times_all_mapped n routes in known n (once_known p (concat routes) plan (f n) (omega arith)))

-- a number that f leaves unchanged stays at its index
prefix_mapped : (f : ℕ → ℕ) (route : List ℕ) (k n : ℕ) → slice_get route k ≡ Some n → f n ≡ n → slice_get (map f route) k ≡ Some n
prefix_mapped f route k n at stays = slice_get-map f route k ∙ (ap (option_map f) at ∙ ap Some stays)

mapped_pinned : (f : ℕ → ℕ) (routes pins : List (List ℕ)) → KeepsPins routes pins → ((n : ℕ) → 1 ≤ times n (concat pins) → f n ≡ n)
    → KeepsPins (map (map f) routes) pins
mapped_pinned f routes pins kept stays =
    pins_map (map f) routes pins kept (λ pin route same pinned k n at. prefix_mapped f route k n (same k n at) (stays n (pinned k n at)))

-- a number of neither request is unchanged
not_among : (n m : ℕ) (xs : List ℕ) → cond (eqb n m) 1 0 + times n xs ≡ 0 → n ≡ m → ⊥
not_among n m xs none same = let e = one_here n m same in omega arith

pub counterpart_other : (r s : Request) (n : ℕ) → times n (numbers_of r) ≡ 0 → times n (numbers_of s) ≡ 0 → counterpart r s n ≡ n
counterpart_other (Single s) (Single t) n one two = swap_other s.number t.number n (not_among n s.number [] one) (not_among n t.number [] two)
counterpart_other (Single s) (Pair c d) n one two = refl
counterpart_other (Pair a b) (Single t) n one two = refl
counterpart_other (Pair a b) (Pair c d) n one two =
    let in_b : times n (b.number ∷ []) ≡ 0 = omega arith in
    let in_d : times n (d.number ∷ []) ≡ 0 = omega arith in
    ap (swapped a.number c.number) (swap_other b.number d.number n (not_among n b.number [] in_b) (not_among n d.number [] in_d))
    ∙ swap_other a.number c.number n (not_among n a.number (b.number ∷ []) one) (not_among n c.number (d.number ∷ []) two)

-- if two requests share no number, the counterpart of the counterpart is the stop itself
first_among : (n m : ℕ) (xs : List ℕ) → n ≡ m → 1 ≤ times n (m ∷ xs)
first_among n m xs same = let e = one_here n m same in omega arith

second_among : (n m l : ℕ) → n ≡ m → 1 ≤ times n (l ∷ m ∷ [])
second_among n m l same = let e = one_here n m same in omega arith

counterpart_back : (r s : Request) → IsRequest r → IsRequest s → ((n : ℕ) → 1 ≤ times n (numbers_of r) → 1 ≤ times n (numbers_of s) → ⊥)
    → (n : ℕ) → counterpart r s (counterpart r s n) ≡ n
counterpart_back (Single s) (Single t) valid too apart n = swap_back s.number t.number n
counterpart_back (Single s) (Pair c d) valid too apart n = refl
counterpart_back (Pair a b) (Single t) valid too apart n = refl
counterpart_back (Pair a b) (Pair c d) valid too apart n =
    both_back a.number b.number c.number d.number (valid.2)
    (λ same. apart a.number (first_among a.number a.number (b.number ∷ []) refl) (second_among a.number d.number c.number same))
    (λ same. apart c.number (second_among c.number b.number a.number same) (first_among c.number c.number (d.number ∷ []) refl))
    (too.2) n

-- the order of the two requests doesn't matter
counterpart_turned : (r s : Request) (n : ℕ) → counterpart r s n ≡ counterpart s r n
counterpart_turned (Single s) (Single t) n = swap_turned s.number t.number n
counterpart_turned (Single s) (Pair c d) n = refl
counterpart_turned (Pair a b) (Single t) n = refl
counterpart_turned (Pair a b) (Pair c d) n =
    ap (swapped a.number c.number) (swap_turned b.number d.number n) ∙ swap_turned a.number c.number (swapped d.number b.number n)

same_form_turned : (r s : Request) → have_same_form r s ≡ have_same_form s r
same_form_turned (Single s) (Single t) = refl
same_form_turned (Single s) (Pair c d) = refl
same_form_turned (Pair a b) (Single t) = refl
same_form_turned (Pair a b) (Pair c d) = refl

-- each request is planned if the other was
any_two : (n m : ℕ) (xs ys : List ℕ) → times n xs ≡ times m ys → list_any (nat_eq n) xs ≡ list_any (nat_eq m) ys
any_two n m xs ys same = by (list_any (nat_eq n) xs) (list_any (nat_eq m) ys) refl refl
  where
    by : (a b : Bool) → list_any (nat_eq n) xs ≡ a → list_any (nat_eq m) ys ≡ b → list_any (nat_eq n) xs ≡ list_any (nat_eq m) ys
    by true true d e = d ∙ sym e
    by false false d e = d ∙ sym e
    by true false d e = absurd (let h = often_had ys m (let k = had_often xs n d in omega arith) in let c : true ≡ false = sym h ∙ e in cc)
    by false true d e = absurd (let h = often_had xs n (let k = had_often ys m e in omega arith) in let c : true ≡ false = sym h ∙ d in cc)

module _ (routes others : List (List ℕ)) where
  first_planned : (r s : Request) → IsRequest r → IsRequest s → ((n : ℕ) → 1 ≤ times n (numbers_of r) → 1 ≤ times n (numbers_of s) → ⊥)
      → have_same_form r s ≡ true
      → ((n : ℕ) → has_stop others n ≡ has_stop routes (counterpart r s n)) → is_planned others r ≡ is_planned routes s
  first_planned (Single s) (Single t) valid too apart form had = ap (λ h. h || false) (had s.number ∙ ap (has_stop routes) (swap_left s.number t.number))
  first_planned (Single s) (Pair c d) valid too apart form had = absurd (let k : false ≡ true = form in cc)
  first_planned (Pair a b) (Single t) valid too apart form had = absurd (let k : false ≡ true = form in cc)
  first_planned (Pair a b) (Pair c d) valid too apart form had =
      let a_d = λ (same : a.number ≡ d.number). apart a.number (first_among a.number a.number (b.number ∷ []) refl)
      (second_among a.number d.number c.number same) in
      let c_b = λ (same : c.number ≡ b.number). apart c.number (second_among c.number b.number a.number same)
      (first_among c.number c.number (d.number ∷ []) refl) in
      ap (λ h. h || (has_stop others b.number || false))
      (had a.number ∙ ap (has_stop routes) (both_a a.number b.number c.number d.number (valid.2) a_d c_b (too.2)))
      ∙ ap (λ h. has_stop routes c.number || (h || false))
      (had b.number ∙ ap (has_stop routes) (both_b a.number b.number c.number d.number (valid.2) a_d c_b (too.2)))

-- requests with different names share no number
module _ (found : NamedRequestsAreFound) (p : Instance) (valid : IsInstance p) (a b : ℕ) (apart : a ≡ b → ⊥) (r s : Request)
    (is_r : lookup (nat_eq a) p.requests ≡ Some r) (is_s : lookup (nat_eq b) p.requests ≡ Some s) where
  share_none : (n : ℕ) → 1 ≤ times n (numbers_of r) → 1 ≤ times n (numbers_of s) → ⊥
  share_none n one two =
      let e = (found p n a r valid is_r (in_numbers n r one)).name in
      let f = (found p n b s valid is_s (in_numbers n s two)).name in
      apart (sym (name_of p.requests a r (valid.named) is_r)
      ∙ (some_same (request_name r) (request_name s) (sym e ∙ f) ∙ name_of p.requests b s (valid.named) is_s))

  back : (n : ℕ) → counterpart r s (counterpart r s n) ≡ n
  back = counterpart_back r s (request-valid p a r valid is_r) (request-valid p b s valid is_s) share_none

  -- a stop is in a route as often as its counterpart was
  pub times_exchanged : (n : ℕ) (routes : List (List ℕ)) → times n (concat (map (map (counterpart r s)) routes)) ≡ times (counterpart r s n) (concat routes)
  times_exchanged n routes = times_all_mapped (counterpart r s) back n routes

  had_exchanged : (routes : List (List ℕ)) (n : ℕ) → has_stop (map (map (counterpart r s)) routes) n ≡ has_stop routes (counterpart r s n)
  had_exchanged routes n = any_two n (counterpart r s n) (concat (map (map (counterpart r s)) routes)) (concat routes) (times_exchanged n routes)

  pub first_for_second : (routes : List (List ℕ)) → have_same_form r s ≡ true → is_planned (map (map (counterpart r s)) routes) r ≡ is_planned routes s
  first_for_second routes form =
      first_planned routes (map (map (counterpart r s)) routes) r s (request-valid p a r valid is_r)
      (request-valid p b s valid is_s) share_none form (had_exchanged routes)

  pub second_for_first : (routes : List (List ℕ)) → have_same_form r s ≡ true → is_planned (map (map (counterpart r s)) routes) s ≡ is_planned routes r
  second_for_first routes form =
      first_planned routes (map (map (counterpart r s)) routes) s r (request-valid p b s valid is_s) (request-valid p a r valid is_r)
      (λ n two one. share_none n one two)
      (same_form_turned s r ∙ form) (λ n. had_exchanged routes n ∙ ap (has_stop routes) (counterpart_turned r s n))

  stays_known : (n : ℕ) → IsKnownStop p (counterpart r s n) → IsKnownStop p n
  stays_known n known = elim (cases_lt 0 (times n (numbers_of r))) [
    | inl one ↦ found_known found p a n r valid is_r (in_numbers n r (omega arith))
    | inr not_r ↦ elim (cases_lt 0 (times n (numbers_of s))) [
      | inl two ↦ found_known found p b n s valid is_s (in_numbers n s (omega arith))
      | inr not_s ↦ subst (IsKnownStop p) (counterpart_other r s n (omega arith) (omega arith)) known
    ]
  ]

  module _ (local : PassingIsLocal) (plans : PlansAreDisjointRoutes) (says : FeasibleAloneDecidesFeasibility) (pins routes : List (List ℕ))
      (good : passes p pins routes ≡ true) (can : are_exchangeable pins routes r s ≡ true) where
    both_movable : (is_movable pins routes r ≡ true) × (is_movable pins routes s ≡ true)
    both_movable =
        let one = and_parts (is_movable pins routes r) (is_movable pins routes s && have_same_form r s) can in
        (one.0, (and_parts (is_movable pins routes s) (have_same_form r s) one.1).0)

    abbrev others : List (List ℕ)
    others = map (map (counterpart r s)) routes

    pub others_plan : IsPlan p others
    others_plan = mapped_plan (counterpart r s) back p routes ((parts local p pins routes good).plan) stays_known

    pub others_pinned : KeepsPins others pins
    others_pinned =
        mapped_pinned (counterpart r s) routes pins ((parts local p pins routes good).pinned)
        (λ n pinned. counterpart_other r s n (unpinned pins routes r both_movable.0 n pinned) (unpinned pins routes s both_movable.1 n pinned))

    pub others_once : All (AreDistinctStops p) (map (map (counterpart r s)) routes)
    others_once = each_once plans p others others_plan

    pub exchanged_is : (t : Bool) → t ≡ list_all (feasible_alone p) (map (map (counterpart r s)) routes)
        → exchanged p pins routes a b ≡ cond t (Some (map (map (counterpart r s)) routes)) None
    exchanged_is t e =
        rw (
          ne_eqb a b apart,
          is_r,
          is_s,
          can,
          passes_where_feasible local says p pins routes good others others_plan
              (length-map routes (map (counterpart r s))) others_pinned t e,
        ) refl
