-- A first answer is an answer at some place, with none before.
use Rattle.std.proofs.Common.{◌≡◌, ℕ, zero, suc, ◌+◌, ◌≤◌, List, [], ◌∷◌, Option, Some, None, slice_get, refl, sym, ap, subst, ◌∙◌, arith}
use Rattle.std.specs.Option.{option_map, option_or}
use Rattle.std.proofs.lemmas.Option.{same_Some}
use Rattle.plan_types.proofs.LookupLemmas.{option_or-map}
use Rattle.plan_audit.specs.FirstFault.{first_place_fault, first_fault}
use Rattle.plan_audit.specs.declared.faults.PlaceFault.{PlaceFault}
use Rattle.plan_audit.specs.declared.faults.Fault.{Fault}

pub none_some : {X : Type 0} (x : X) → None ≡ Some x → ⊥
none_some x h = cc

-- the first answer of a test on the items of a list, with its place, counted from k
unfoldable pub first_answer : {X Y : Type 0} → (ℕ → X → Option Y) → ℕ → List X → Option (ℕ × Y)
first_answer test k [] = None
first_answer test k (x ∷ xs) = option_or (option_map (λ y. (k, y)) (test k x)) (first_answer test (k + 1) xs)

-- the test answers a.1 at place a.0, and does not answer before
pub record IsFirst {X Y : Type 0} (test : ℕ → X → Option Y) (k : ℕ) (xs : List X) (a : ℕ × Y) : Type 0 where
  pub index : ℕ
  pub item : X
  pub place : a.0 ≡ k + index
  pub stands : slice_get xs index ≡ Some item
  pub reported : test a.0 item ≡ Some a.1
  pub least : (j : ℕ) (x : X) (y : Y) → slice_get xs j ≡ Some x → test (k + j) x ≡ Some y → index ≤ j

-- the test answers at no place
unfoldable pub AnswersNothing : {X Y : Type 0} (test : ℕ → X → Option Y) (k : ℕ) (xs : List X) → Type 0
AnswersNothing {X} test k xs = (j : ℕ) (x : X) → slice_get xs j ≡ Some x → test (k + j) x ≡ None

module _ {X Y : Type 0} (test : ℕ → X → Option Y) where
  here : (k : ℕ) (x y : X) (o : Option Y) → Some x ≡ Some y → test (k + 0) y ≡ o → test k x ≡ o
  here k x y o same reported =
      let at : k + 0 ≡ k = omega arith in
      subst (λ a. test a x ≡ o) at (subst (λ b. test (k + 0) b ≡ o) (sym (same_Some x y same)) reported)

  there : (k j : ℕ) (x : X) (o : Option Y) → test (k + suc j) x ≡ o → test (k + 1 + j) x ≡ o
  there k j x o reported = let at : k + suc j ≡ k + 1 + j = omega arith in subst (λ a. test a x ≡ o) at reported

  here-none : (k : ℕ) (x y : X) → Some x ≡ Some y → test k x ≡ None → test (k + 0) y ≡ None
  here-none k x y same none =
      let at : k ≡ k + 0 = omega arith in
      subst (λ a. test a y ≡ None) at (subst (λ b. test k b ≡ None) (same_Some x y same) none)

  there-none : (k j : ℕ) (x : X) → test (k + 1 + j) x ≡ None → test (k + suc j) x ≡ None
  there-none k j x reported = let at : k + 1 + j ≡ k + suc j = omega arith in subst (λ a. test a x ≡ None) at reported

  later-least : (k : ℕ) (x : X) (xs : List X) (a : ℕ × Y) (later : IsFirst test (k + 1) xs a) → test k x ≡ None → (j : ℕ) (z : X) (y : Y)
      → slice_get (x ∷ xs) j ≡ Some z → test (k + j) z ≡ Some y → suc (later.index) ≤ j
  later-least k x xs a later none zero z y at reported = absurd (none_some y (sym none ∙ here k x z (Some y) at reported))
  later-least k x xs a later none (suc j) z y at reported = let le = later.least j z y at (there k j z (Some y) reported) in omega arith

  pub first_found : (k : ℕ) (xs : List X) (a : ℕ × Y) → first_answer test k xs ≡ Some a → IsFirst test k xs a
  unfolding first_answer
  first_found k [] a is = absurd (none_some a is)
  first_found k (x ∷ xs) a is = by (test k x) refl (λ h. first_found (k + 1) xs a h)
    where
      by : (o : Option Y) → test k x ≡ o → (first_answer test (k + 1) xs ≡ Some a → IsFirst test (k + 1) xs a) → IsFirst test k (x ∷ xs) a
      by None o rest =
          let later = rest (let h : option_or (option_map (λ y. (k, y)) (test k x)) (first_answer test (k + 1) xs) ≡ Some a = is in rw o at h) in
          record {
            index = suc (later.index);
            item = later.item;
            place = (let e = later.place in omega arith);
            stands = later.stands;
            reported = later.reported;
            least = later-least k x xs a later o;
          }
      by (Some y) o rest =
          let same : ◌≡◌ {A = ℕ × Y} (k, y) a =
          same_Some _ _ (let h : option_or (option_map (λ y. (k, y)) (test k x)) (first_answer test (k + 1) xs) ≡ Some a = is in rw o at h) in
          record {
            index = 0;
            item = x;
            place = (let e = ap (λ (p : ℕ × Y). p.0) same in omega arith);
            stands = refl;
            reported = subst (λ (p : ℕ × Y). test p.0 x ≡ Some p.1) same o;
            least = λ j z y at reported. omega arith;
          }

  pub first_nothing : (k : ℕ) (xs : List X) → first_answer test k xs ≡ None → AnswersNothing test k xs
  unfolding first_answer AnswersNothing
  first_nothing k [] is j x at = absurd (none_some x at)
  first_nothing k (x ∷ xs) is j z at = by (test k x) refl (λ h. first_nothing (k + 1) xs h) j at
    where
      by : (o : Option Y) → test k x ≡ o → (first_answer test (k + 1) xs ≡ None → (j : ℕ) (z : X) → slice_get xs j ≡ Some z → test (k + 1 + j) z ≡ None)
          → (j : ℕ) → slice_get (x ∷ xs) j ≡ Some z → test (k + j) z ≡ None
      by None o rest zero at = here-none k x z at o
      by None o rest (suc j) at =
          there-none k j z (rest (let h : option_or (option_map (λ y. (k, y)) (test k x)) (first_answer test (k + 1) xs) ≡ None = is in rw o at h) j z at)
      by (Some y) o rest j at =
          absurd (none_some _ (sym (let h : option_or (option_map (λ y. (k, y)) (test k x)) (first_answer test (k + 1) xs) ≡ None = is in rw o at h)))

pub map-map : {X Y Z : Type 0} (f : X → Y) (g : Y → Z) (o : Option X) → option_map g (option_map f o) ≡ option_map (λ x. g (f x)) o
map-map f g None = refl
map-map f g (Some x) = refl

told_of : ℕ × ℕ → PlaceFault
told_of a = record { place = a.0; stop = a.1 }

fault_of : ℕ × PlaceFault → Fault
fault_of a = record { route = a.0; place = a.1.place; stop = a.1.stop }

place_is : (test : ℕ → ℕ → Option ℕ) (k : ℕ) (ns : List ℕ) → first_place_fault test k ns ≡ option_map told_of (first_answer test k ns)
unfolding first_answer told_of
place_is test k [] = refl
place_is test k (n ∷ ns) =
    ap (option_or (option_map (λ s. record { place = k; stop = s }) (test k n))) (place_is test (k + 1) ns)
    ∙ ap (λ (o : Option PlaceFault). option_or o (option_map told_of (first_answer test (k + 1) ns))) (sym (map-map (λ s. (k, s)) told_of (test k n)))
    ∙ option_or-map told_of (option_map (λ s. (k, s)) (test k n)) (first_answer test (k + 1) ns)

route_is : (test : ℕ → List ℕ → Option PlaceFault) (k : ℕ) (rs : List (List ℕ)) → first_fault test k rs ≡ option_map fault_of (first_answer test k rs)
unfolding first_answer fault_of
route_is test k [] = refl
route_is test k (r ∷ rs) =
    ap (option_or (option_map (λ t. record { route = k; place = t.place; stop = t.stop }) (test k r))) (route_is test (k + 1) rs)
    ∙ ap (λ (o : Option Fault). option_or o (option_map fault_of (first_answer test (k + 1) rs))) (sym (map-map (λ t. (k, t)) fault_of (test k r)))
    ∙ option_or-map fault_of (option_map (λ t. (k, t)) (test k r)) (first_answer test (k + 1) rs)

-- the place of the first answer about a route
pub fault_found : (test : ℕ → List ℕ → Option PlaceFault) (rs : List (List ℕ)) (f : Fault) → first_fault test 0 rs ≡ Some f
    → IsFirst test 0 rs (f.route, record { place = f.place; stop = f.stop })
unfolding fault_of
fault_found test rs f is = by (first_answer test 0 rs) refl
  where
    by : (o : Option (ℕ × PlaceFault)) → first_answer test 0 rs ≡ o → IsFirst test 0 rs (f.route, record { place = f.place; stop = f.stop })
    by None e = absurd (none_some f (sym (route_is test 0 rs ∙ ap (option_map fault_of) e) ∙ is))
    by (Some a) e =
        let same : fault_of a ≡ f = same_Some _ _ (sym (route_is test 0 rs ∙ ap (option_map fault_of) e) ∙ is) in
        subst (λ (f : Fault). IsFirst test 0 rs (f.route, record { place = f.place; stop = f.stop })) same (first_found test 0 rs a e)

pub reported_found : (test : ℕ → ℕ → Option ℕ) (ns : List ℕ) (t : PlaceFault) → first_place_fault test 0 ns ≡ Some t → IsFirst test 0 ns (t.place, t.stop)
unfolding told_of
reported_found test ns t is = by (first_answer test 0 ns) refl
  where
    by : (o : Option (ℕ × ℕ)) → first_answer test 0 ns ≡ o → IsFirst test 0 ns (t.place, t.stop)
    by None e = absurd (none_some t (sym (place_is test 0 ns ∙ ap (option_map told_of) e) ∙ is))
    by (Some a) e =
        let same : told_of a ≡ t = same_Some _ _ (sym (place_is test 0 ns ∙ ap (option_map told_of) e) ∙ is) in
        subst (λ (t : PlaceFault). IsFirst test 0 ns (t.place, t.stop)) same (first_found test 0 ns a e)

pub map-none : {X Y : Type 0} (g : X → Y) (o : Option X) → option_map g o ≡ None → o ≡ None
map-none g None h = refl
map-none g (Some x) h = absurd (none_some _ (sym h))

zero-plus : (j : ℕ) → j ≡ 0 + j
zero-plus j = omega arith

pub fault_nothing : (test : ℕ → List ℕ → Option PlaceFault) (rs : List (List ℕ)) → first_fault test 0 rs ≡ None → (j : ℕ) (r : List ℕ) → slice_get rs j ≡ Some r
    → test j r ≡ None
unfolding AnswersNothing
fault_nothing test rs is j r at =
    subst (λ i. test i r ≡ None) (sym (zero-plus j)) (first_nothing test 0 rs (map-none fault_of _ (sym (route_is test 0 rs) ∙ is)) j r at)

pub reported_nothing : (test : ℕ → ℕ → Option ℕ) (ns : List ℕ) → first_place_fault test 0 ns ≡ None → (j n : ℕ) → slice_get ns j ≡ Some n → test j n ≡ None
unfolding AnswersNothing
reported_nothing test ns is j n at =
    subst (λ i. test i n ≡ None) (sym (zero-plus j)) (first_nothing test 0 ns (map-none told_of _ (sym (place_is test 0 ns) ∙ is)) j n at)

pub least_at : {X Y : Type 0} (test : ℕ → X → Option Y) (xs : List X) (a : ℕ × Y) (first : IsFirst test 0 xs a) (j : ℕ) (x : X) (y : Y)
    → slice_get xs j ≡ Some x → test j x ≡ Some y → first.index ≤ j
least_at test xs a first j x y at reported = first.least j x y at (subst (λ i. test i x ≡ Some y) (zero-plus j) reported)
