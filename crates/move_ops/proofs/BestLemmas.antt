-- The first item of a list by an order, and the order of insertions.
use Rattle.std.proofs.Common.{◌≡◌, ℕ, zero, suc, ◌<◌, ◌≤◌, ◌⊎◌, ◌&&◌, ◌||◌, Bool, true, false, not, eqb, ltb}
use Rattle.std.proofs.Common.{leb, List, [], ◌∷◌, length, Option, Some, None, refl, sym, ap, subst, ◌∙◌, inl, inr, arith}
use Rattle.std.specs.List.{Contains}
use Rattle.std.specs.Option.{MatchOption}
use Rattle.std.proofs.lemmas.Bool.{and_from, and_parts, or_cases, cases_order, cases_lt, eq-eqb, eqb-true}
use Rattle.std.proofs.lemmas.Bool.{ltb-true, lt-ltb, leb-true, le-leb, or_left, or_right, not-true, both_ways}
use Rattle.plan_types.specs.Cost.{cost_below, cost_at_most, CostsAreTotal, CostsAreTransitive, BelowThenAtMost, AtMostThenBelow, BelowIsAtMost}
use Rattle.plan_types.specs.declared.plans.Cost.{Cost}
use Rattle.move_ops.specs.Insertion.{Insertion, insertions, insertions_of, is_no_later, is_no_worse, cost_with, better, least_by, best_insertion}
use Rattle.move_ops.specs.Laws.{IsBest, BestInsertionsAreLeast, BestInsertionsAreUnique}

module _ {X : Type 0} (at_most : X → X → Bool) (total : (x y : X) → (at_most x y ≡ true) ⊎ (at_most y x ≡ true))
    (transitive : (x y z : X) → at_most x y ≡ true → at_most y z ≡ true → at_most x z ≡ true) where
  itself : (x : X) → at_most x x ≡ true
  itself x = elim (total x x) [ inl h ↦ h | inr h ↦ h ]

  -- an item of a list is its head or an item of its tail
  one_of : (x y : X) (xs : List X) → Contains (x ∷ xs) y → (x ≡ y) ⊎ Contains xs y
  one_of x y xs (zero, within, at) = inl at
  one_of x y xs (suc k, within, at) = inr (k, omega arith, at)

  in_tail : (x y : X) (xs : List X) → Contains xs y → Contains (x ∷ xs) y
  in_tail x y xs c = (suc c.0, (let h = c.1 in omega arith), c.2)

  pub least : (xs : List X) → MatchOption (least_by at_most xs) (xs ≡ []) (λ x. Contains xs x × ((y : X) → Contains xs y → at_most x y ≡ true))
  least [] = refl
  least (x ∷ xs) = by (least_by at_most xs) (least xs)
    where
      by : (o : Option X) → MatchOption o (xs ≡ []) (λ z. Contains xs z × ((y : X) → Contains xs y → at_most z y ≡ true))
          → Contains (x ∷ xs) (better at_most x o) × ((y : X) → Contains (x ∷ xs) y → at_most (better at_most x o) y ≡ true)
      by None none = (
        (zero, omega arith, refl),
        λ y c. elim (one_of x y xs c) [
          | inl same ↦ subst (λ z. at_most x z ≡ true) same (itself x)
          | inr there ↦ absurd (let h = there.1 in let e = ap length none in omega arith)
        ],
      )
      by (Some z) best = choose (at_most x z) refl
        where
          choose : (b : Bool) → at_most x z ≡ b
              → Contains (x ∷ xs) (better at_most x (Some z))
              × ((y : X) → Contains (x ∷ xs) y → at_most (better at_most x (Some z)) y ≡ true)
          choose true e = rw e (
            (zero, omega arith, refl),
            λ y c. elim (one_of x y xs c) [
              | inl same ↦ subst (λ u. at_most x u ≡ true) same (itself x)
              | inr there ↦ transitive x z y e (best.1 y there)
            ],
          )
          choose false e = rw e (
            in_tail x z xs best.0,
            λ y c. elim (one_of x y xs c) [
              | inl same ↦ subst (λ u. at_most z u ≡ true) same (elim (total x z) [ inl h ↦ absurd (let k : true ≡ false = sym h ∙ e in cc) | inr h ↦ h ])
              | inr there ↦ best.1 y there
            ],
          )

not_cases : (b : Bool) → (b ≡ true) ⊎ (not b ≡ true)
not_cases true = inl refl
not_cases false = inr refl

-- the order of places: b before e, or equal and c no later than f
abbrev pub IsAfter : ℕ → ℕ → ℕ → ℕ → Type 0
IsAfter b c e f = (b < e) ⊎ ((b ≡ e) × (c ≤ f))

abbrev pub Later : Insertion → Insertion → Type 0
Later x y = (x.0 < y.0) ⊎ ((x.0 ≡ y.0) × IsAfter x.1 x.2 y.1 y.2)

after_from_test : (b c e f : ℕ) → (ltb b e || (eqb b e && leb c f)) ≡ true → IsAfter b c e f
after_from_test b c e f h = elim (or_cases (ltb b e) (eqb b e && leb c f) h) [
  | inl l ↦ inl (ltb-true b e l)
  | inr r ↦ (let both = and_parts (eqb b e) (leb c f) r in inr (eqb-true b e both.0, leb-true c f both.1))
]

test_from_after : (b c e f : ℕ) → IsAfter b c e f → (ltb b e || (eqb b e && leb c f)) ≡ true
test_from_after b c e f h = elim h [
  | inl l ↦ or_left (ltb b e) (eqb b e && leb c f) (lt-ltb b e l)
  | inr r ↦ or_right (ltb b e) (eqb b e && leb c f) (and_from (eqb b e) (leb c f) (eq-eqb b e r.0) (le-leb c f r.1))
]

later_said : (x y : Insertion) → is_no_later x y ≡ true → Later x y
later_said x y h = elim (or_cases (ltb x.0 y.0) (eqb x.0 y.0 && (ltb x.1 y.1 || (eqb x.1 y.1 && leb x.2 y.2))) h) [
  | inl l ↦ inl (ltb-true x.0 y.0 l)
  | inr r ↦ (
      let both = and_parts (eqb x.0 y.0) (ltb x.1 y.1 || (eqb x.1 y.1 && leb x.2 y.2)) r in
      inr (eqb-true x.0 y.0 both.0, after_from_test x.1 x.2 y.1 y.2 both.1))
]

pub said_later : (x y : Insertion) → Later x y → is_no_later x y ≡ true
said_later x y h = elim h [
  | inl l ↦ or_left (ltb x.0 y.0) (eqb x.0 y.0 && (ltb x.1 y.1 || (eqb x.1 y.1 && leb x.2 y.2))) (lt-ltb x.0 y.0 l)
  | inr r ↦ or_right (ltb x.0 y.0) (eqb x.0 y.0 && (ltb x.1 y.1 || (eqb x.1 y.1 && leb x.2 y.2)))
      (and_from (eqb x.0 y.0) (ltb x.1 y.1 || (eqb x.1 y.1 && leb x.2 y.2)) (eq-eqb x.0 y.0 r.0) (test_from_after x.1 x.2 y.1 y.2 r.1))
]

after_total : (b c e f : ℕ) → IsAfter b c e f ⊎ IsAfter e f b c
after_total b c e f = elim (cases_order b e) [
  | inl same ↦ elim (cases_lt c f) [
    | inl l ↦ inl (inr (same, omega arith))
    | inr l ↦ inr (inr (sym same, l))
  ]
  | inr apart ↦ elim apart [ inl l ↦ inl (inl l) | inr l ↦ inr (inl l) ]
]

after_transitive : (b c e f g h : ℕ) → IsAfter b c e f → IsAfter e f g h → IsAfter b c g h
after_transitive b c e f g h s t = elim s [
  | inl l ↦ elim t [
    | inl m ↦ inl (omega arith)
    | inr m ↦ inl (let same = m.0 in omega arith)
  ]
  | inr l ↦ elim t [
    | inl m ↦ inl (let same = l.0 in omega arith)
    | inr m ↦ inr (l.0 ∙ m.0, (let one = l.1 in let two = m.1 in omega arith))
  ]
]

later_total : (x y : Insertion) → (is_no_later x y ≡ true) ⊎ (is_no_later y x ≡ true)
later_total x y = elim (cases_order x.0 y.0) [
  | inl same ↦ elim (after_total x.1 x.2 y.1 y.2) [
    | inl l ↦ inl (said_later x y (inr (same, l)))
    | inr l ↦ inr (said_later y x (inr (sym same, l)))
  ]
  | inr apart ↦ elim apart [ inl l ↦ inl (said_later x y (inl l)) | inr l ↦ inr (said_later y x (inl l)) ]
]

later_sentence : (x y z : Insertion) → Later x y → Later y z → Later x z
later_sentence x y z s t = elim s [
  | inl l ↦ elim t [
    | inl m ↦ inl (omega arith)
    | inr m ↦ inl (let same = m.0 in omega arith)
  ]
  | inr l ↦ elim t [
    | inl m ↦ inl (let same = l.0 in omega arith)
    | inr m ↦ inr (l.0 ∙ m.0, after_transitive x.1 x.2 y.1 y.2 z.1 z.2 l.1 m.1)
  ]
]

later_transitive : (x y z : Insertion) → is_no_later x y ≡ true → is_no_later y z ≡ true → is_no_later x z ≡ true
later_transitive x y z h k = said_later x z (later_sentence x y z (later_said x y h) (later_said y z k))

after_both : (b c e f : ℕ) → IsAfter b c e f → IsAfter e f b c → (b ≡ e) × (c ≡ f)
after_both b c e f s t = elim s [
  | inl l ↦ elim t [
    | inl m ↦ absurd (omega arith)
    | inr m ↦ absurd (let same = m.0 in omega arith)
  ]
  | inr l ↦ elim t [
    | inl m ↦ absurd (let same = l.0 in omega arith)
    | inr m ↦ (l.0, (let one = l.1 in let two = m.1 in omega arith))
  ]
]

abbrev placed : ℕ → ℕ → ℕ → Insertion
placed v i j = (v, i, j)

same_parts : (x y : Insertion) → x.0 ≡ y.0 → x.1 ≡ y.1 → x.2 ≡ y.2 → x ≡ y
same_parts x y d e f =
    let first : ◌≡◌ {A = Insertion} (x.0, x.1, x.2) (y.0, x.1, x.2) = ap (λ (n : ℕ). placed n x.1 x.2) d in
    let second : ◌≡◌ {A = Insertion} (y.0, x.1, x.2) (y.0, y.1, x.2) = ap (λ (n : ℕ). placed y.0 n x.2) e in
    let third : ◌≡◌ {A = Insertion} (y.0, y.1, x.2) (y.0, y.1, y.2) = ap (λ (n : ℕ). placed y.0 y.1 n) f in
    first ∙ (second ∙ third)

same_place : (x y : Insertion) → Later x y → Later y x → x ≡ y
same_place x y s t = elim s [
  | inl l ↦ elim t [
    | inl m ↦ absurd (omega arith)
    | inr m ↦ absurd (let same = m.0 in omega arith)
  ]
  | inr l ↦ elim t [
    | inl m ↦ absurd (let same = l.0 in omega arith)
    | inr m ↦ (let both = after_both x.1 x.2 y.1 y.2 l.1 m.1 in same_parts x y l.0 both.0 both.1)
  ]
]

-- the order by cost, and then by place
module _ (costs_total : CostsAreTotal) (costs_transitive : CostsAreTransitive) (below_at_most : BelowThenAtMost)
    (at_most_below : AtMostThenBelow) (weaken : BelowIsAtMost) where
  abbrev by_both : Cost → Cost → Insertion → Insertion → Bool
  by_both a b x y = cost_below a b || (cost_at_most a b && is_no_later x y)

  both_total : (a b : Cost) (x y : Insertion) → (by_both a b x y ≡ true) ⊎ (by_both b a y x ≡ true)
  both_total a b x y = elim (not_cases (cost_below a b)) [
    | inl lt ↦ inl (or_left (cost_below a b) (cost_at_most a b && is_no_later x y) lt)
    | inr ge ↦ elim (not_cases (cost_below b a)) [
      | inl gt ↦ inr (or_left (cost_below b a) (cost_at_most b a && is_no_later y x) gt)
      | inr le ↦ elim (later_total x y) [
        | inl h ↦ inl (or_right (cost_below a b) (cost_at_most a b && is_no_later x y) (and_from (cost_at_most a b) (is_no_later x y) le h))
        | inr h ↦ inr (or_right (cost_below b a) (cost_at_most b a && is_no_later y x) (and_from (cost_at_most b a) (is_no_later y x) ge h))
      ]
    ]
  ]

  pub both_transitive : (a b c : Cost) (x y z : Insertion) → by_both a b x y ≡ true → by_both b c y z ≡ true → by_both a c x z ≡ true
  both_transitive a b c x y z h k = elim (or_cases (cost_below a b) (cost_at_most a b && is_no_later x y) h) [
    | inl lt ↦ or_left (cost_below a c) (cost_at_most a c && is_no_later x z) (elim (or_cases (cost_below b c) (cost_at_most b c && is_no_later y z) k) [
      | inl lt2 ↦ below_at_most a b c lt (weaken b c lt2)
      | inr both ↦ below_at_most a b c lt (and_parts (cost_at_most b c) (is_no_later y z) both).0
    ])
    | inr one ↦ (
        let first = and_parts (cost_at_most a b) (is_no_later x y) one in
        elim (or_cases (cost_below b c) (cost_at_most b c && is_no_later y z) k) [
          | inl lt2 ↦ or_left (cost_below a c) (cost_at_most a c && is_no_later x z) (at_most_below a b c first.0 lt2)
          | inr two ↦ (
              let second = and_parts (cost_at_most b c) (is_no_later y z) two in
              or_right (cost_below a c) (cost_at_most a c && is_no_later x z)
              (and_from (cost_at_most a c) (is_no_later x z) (costs_transitive a b c first.0 second.0) (later_transitive x y z first.1 second.1)))
        ])
  ]

  -- two insertions that are no worse than one another are equal
  both_antisymmetric : (a b : Cost) (x y : Insertion) → by_both a b x y ≡ true → by_both b a y x ≡ true → x ≡ y
  both_antisymmetric a b x y h k = elim (or_cases (cost_below a b) (cost_at_most a b && is_no_later x y) h) [
    | inl less ↦ elim (or_cases (cost_below b a) (cost_at_most b a && is_no_later y x) k) [
      | inl more ↦ absurd (both_ways (cost_below a b) (not-true (cost_below a b) (weaken b a more)) less)
      | inr two ↦ absurd (both_ways (cost_below a b) (not-true (cost_below a b) (and_parts (cost_at_most b a) (is_no_later y x) two).0) less)
    ]
    | inr one ↦ elim (or_cases (cost_below b a) (cost_at_most b a && is_no_later y x) k) [
      | inl more ↦ absurd (both_ways (cost_below b a) (not-true (cost_below b a) (and_parts (cost_at_most a b) (is_no_later x y) one).0) more)
      | inr two ↦ same_place x y (later_said x y (and_parts (cost_at_most a b) (is_no_later x y) one).1)
          (later_said y x (and_parts (cost_at_most b a) (is_no_later y x) two).1)
    ]
  ]

  pub best_is_unique : BestInsertionsAreUnique
  best_is_unique p pins routes r x y one two =
      both_antisymmetric (cost_with p routes r x) (cost_with p routes r y) x y (one.least y two.among) (two.least x one.among)

  pub best_is_least : BestInsertionsAreLeast
  best_is_least p pins routes name r named =
      by (least_by (is_no_worse p routes r) (insertions_of p pins routes r))
      (least (is_no_worse p routes r) (λ x y. both_total (cost_with p routes r x) (cost_with p routes r y) x y)
      (λ x y z h k. both_transitive (cost_with p routes r x) (cost_with p routes r y) (cost_with p routes r z) x y z h k) (insertions_of p pins routes r)) refl
    where
      by : (o : Option Insertion)
          → MatchOption o (insertions_of p pins routes r ≡ [])
          (λ x. Contains (insertions_of p pins routes r) x
          × ((y : Insertion) → Contains (insertions_of p pins routes r) y → is_no_worse p routes r x y ≡ true))
          → least_by (is_no_worse p routes r) (insertions_of p pins routes r) ≡ o
          → MatchOption (best_insertion p pins routes name) (insertions p pins routes name ≡ []) (IsBest p pins routes r)
      by None none e = rw (named, e) none
      by (Some x) best e = rw (named, e) (record { among = best.0; least = best.1 })
