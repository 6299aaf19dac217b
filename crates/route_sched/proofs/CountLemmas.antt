-- Planned requests, counted by their stops in the routes.
use Rattle.std.proofs.Common.{◌≡◌, ◌≢◌, ℕ, ◌+◌, ◌≤◌, Bool, true, false, not, ◌&&◌, ◌||◌, cond, eqb, List, [], ◌∷◌, ◌++◌, map, length, Option, Some, None, inl, inr, refl, sym, ap, ◌∙◌, arith}
use Rattle.std.specs.Prelude.{is_some, count_by}
use Rattle.std.specs.List.{AllByRecursion, IsDistinct, list_any, concat}
use Rattle.std.specs.Option.{option_map, option_or}
use Rattle.std.proofs.Math.Bool.{or-false}
use Rattle.std.proofs.lemmas.Bool.{eq-eqb, ne_eqb}
use Rattle.std.proofs.lemmas.Bool.Decides.{eqb_tells}
use Rattle.std.proofs.lemmas.List.{map-append}
use Rattle.std.proofs.lemmas.List.Sums.{sum_by-cons, sum_by-append, count_by-le-length}
use Rattle.plan_types.specs.Request.{request_name, stops_of, stop_in, IsRequest}
use Rattle.plan_types.specs.Instance.{Instance, IsInstance, first_some, numbers_among, stops_among}
use Rattle.plan_types.specs.declared.requests.Stop.{Stop}
use Rattle.plan_types.specs.declared.requests.Request.{Request}
use Rattle.plan_types.specs.declared.requests.Request.TheVariants.{Single, Pair}
use Rattle.route_sched.specs.RequestCount.{holds_for_name, is_counted, counts, count_among}
use Rattle.route_sched.specs.Cost.{is_planned, unplanned_count}

-- ---- sums
abbrev pub bit : Bool → ℕ
bit b = cond b 1 0

abbrev pub total : {X : Type 0} → (X → ℕ) → List X → ℕ
total f [] = 0
total f (x ∷ xs) = f x + total f xs

pub count_by_is : {X : Type 0} (p : X → Bool) (xs : List X) → count_by p xs ≡ total (λ x. bit (p x)) xs
count_by_is p [] = refl
count_by_is p (x ∷ xs) = sum_by-cons (λ x. bit (p x)) x xs ∙ ap (λ n. bit (p x) + n) (count_by_is p xs)

total-append : {X : Type 0} (f : X → ℕ) (xs ys : List X) → total f (xs ++ ys) ≡ total f xs + total f ys
total-append f [] ys = omega arith
total-append f (x ∷ xs) ys = omega (arith, total-append f xs ys)

total-add : {X : Type 0} (f g : X → ℕ) (xs : List X) → total (λ x. f x + g x) xs ≡ total f xs + total g xs
total-add f g [] = refl
total-add f g (x ∷ xs) = omega (arith, total-add f g xs)

total-zero : {X : Type 0} (xs : List X) → total (λ (x : X). 0) xs ≡ 0
total-zero [] = refl
total-zero (x ∷ xs) = omega (arith, total-zero xs)

total-swap : {X Y : Type 0} (f : X → Y → ℕ) (xs : List X) (ys : List Y) → total (λ x. total (f x) ys) xs ≡ total (λ y. total (λ x. f x y) xs) ys
total-swap f [] ys = sym (total-zero ys)
total-swap f (x ∷ xs) ys = ap (λ n. total (f x) ys + n) (total-swap f xs ys) ∙ sym (total-add (f x) (λ y. total (λ x. f x y) xs) ys)

total-same : {X : Type 0} (f g : X → ℕ) (xs : List X) → AllByRecursion (λ x. f x ≡ g x) xs → total f xs ≡ total g xs
total-same f g [] same = refl
total-same f g (x ∷ xs) same = omega (arith, same.0, total-same f g xs same.1)

total-le : {X : Type 0} (f g : X → ℕ) (xs : List X) → ((x : X) → f x ≤ g x) → total f xs ≤ total g xs
total-le f g [] each = omega arith
total-le f g (x ∷ xs) each = omega (arith, each x, total-le f g xs each)

every : {X : Type 0} {P : X → Type 0} → ((x : X) → P x) → (xs : List X) → AllByRecursion P xs
every each [] = tt
every each (x ∷ xs) = (each x, every each xs)

-- ---- a number in a list of distinct ones
member : List ℕ → ℕ → Bool
member xs n = list_any (eqb n) xs

absent : (x : ℕ) (xs : List ℕ) → AllByRecursion (λ y. eqb x y ≡ false) xs → member xs x ≡ false
unfolding member
absent x [] apart = refl
absent x (y ∷ xs) apart = rw apart.0 (absent x xs apart.1)

-- a number occurs in a list of distinct ones once or not at all
total_member : (n : ℕ) (xs : List ℕ) → IsDistinct eqb xs → total (λ m. bit (eqb n m)) xs ≡ bit (member xs n)
unfolding member IsDistinct
total_member n [] distinct = refl
total_member n (x ∷ xs) distinct =
    elim (eqb_tells n x) [
      | inl t ↦ let none : member xs n ≡ false = rw t.1 (absent x xs distinct.0) in rw t.0 (omega (arith, total_member n xs distinct.1, ap bit none))
      | inr t ↦ rw t.0 (omega (arith, total_member n xs distinct.1))
    ]

-- ---- the request that owns a number
owns : ℕ → ℕ × Request → Bool
owns n e = is_some (stop_in n e.1)

numbers_of : Request → List ℕ
numbers_of r = map (λ s. s.number) (stops_of r)

owned_le : (n : ℕ) (s : Stop) (o : Option Stop) (rest : ℕ) → bit (is_some o) ≤ rest
    → bit (is_some (cond (eqb s.number n) (Some s) o)) ≤ bit (eqb n s.number) + rest
owned_le n s o rest h =
    elim (eqb_tells s.number n) [
      | inl t ↦ let back : eqb n s.number ≡ true = eq-eqb n s.number (sym t.1) in rw (t.0, back) (omega arith)
      | inr t ↦ rw t.0 (omega (arith, h))
    ]

-- a request that owns number n has n among its numbers
owned_once : (n : ℕ) (e : ℕ × Request) → bit (owns n e) ≤ total (λ m. bit (eqb n m)) (numbers_of e.1)
unfolding owns numbers_of
owned_once n (a, Single s) = owned_le n s None 0 (omega arith)
owned_once n (a, Pair p d) = owned_le n p (cond (eqb d.number n) (Some d) None) _ (owned_le n d None 0 (omega arith))

numbers_among-cons : (e : ℕ × Request) (es : List (ℕ × Request)) → numbers_among (e ∷ es) ≡ numbers_of e.1 ++ numbers_among es
unfolding numbers_of
numbers_among-cons e es = map-append (λ s. s.number) (stops_of e.1) (stops_among es)

owners_le : (n : ℕ) (es : List (ℕ × Request)) → total (λ e. bit (owns n e)) es ≤ total (λ m. bit (eqb n m)) (numbers_among es)
owners_le n [] = omega arith
owners_le n (e ∷ es) =
    rw (numbers_among-cons e es, total-append (λ m. bit (eqb n m)) (numbers_of e.1) (numbers_among es))
    (omega (arith, owned_once n e, owners_le n es))

bit_le : (b : Bool) → bit b ≤ 1
bit_le true = omega arith
bit_le false = omega arith

total_le_one : (n : ℕ) (xs : List ℕ) → IsDistinct eqb xs → total (λ m. bit (eqb n m)) xs ≤ 1
total_le_one n xs distinct = omega (arith, total_member n xs distinct, bit_le (member xs n))

-- if the first request owns a number, no other request does
others_own_none : (n : ℕ) (e : ℕ × Request) (es : List (ℕ × Request)) → IsDistinct eqb (numbers_among (e ∷ es)) → owns n e ≡ true
    → total (λ e. bit (owns n e)) es ≡ 0
others_own_none n e es distinct own =
    let once = total_le_one n (numbers_among (e ∷ es)) distinct in
    let parts = rw (numbers_among-cons e es, total-append (λ m. bit (eqb n m)) (numbers_of e.1) (numbers_among es)) at once in
    omega (arith, parts, owned_once n e, ap bit own, owners_le n es)

pub distinct_right : (xs ys : List ℕ) → IsDistinct eqb (xs ++ ys) → IsDistinct eqb ys
unfolding IsDistinct
distinct_right [] ys distinct = distinct
distinct_right (x ∷ xs) ys distinct = distinct_right xs ys distinct.1

bit_and_le : (a b : Bool) → bit (a && b) ≤ bit a
bit_and_le true b = bit_le b
bit_and_le false b = omega arith

-- If the requests have distinct numbers, the owner of n is counted exactly if q holds for its name.
owner_total : (n : ℕ) (q : ℕ → Bool) (es : List (ℕ × Request)) → IsDistinct eqb (numbers_among es)
    → total (λ e. bit (owns n e && q (request_name e.1))) es ≡ bit (holds_for_name q (option_map request_name (first_some (λ r. option_map (λ _. r) (stop_in n r)) es)))
unfolding owns
owner_total n q [] distinct = refl
owner_total n q (e ∷ es) distinct =
    from (stop_in n e.1) none_else (owner_total n q es (distinct_right (numbers_of e.1) (numbers_among es) (rw (numbers_among-cons e es) at distinct)))
  where
    rest : ℕ
    rest = total (λ e. bit (owns n e && q (request_name e.1))) es

    none_else : is_some (stop_in n e.1) ≡ true → rest ≡ 0
    none_else own =
        omega (
          arith,
          others_own_none n e es distinct own,
          total-le (λ e. bit (owns n e && q (request_name e.1))) (λ e. bit (owns n e)) es (λ e. bit_and_le (owns n e) (q (request_name e.1))),
        )

    later : ℕ
    later = bit (holds_for_name q (option_map request_name (first_some (λ r. option_map (λ _. r) (stop_in n r)) es)))

    from : (o : Option Stop) → (is_some o ≡ true → rest ≡ 0) → rest ≡ later
        → bit (is_some o && q (request_name e.1)) + rest
        ≡ bit (holds_for_name q (option_map request_name (option_or (option_map (λ _. e.1) o) (first_some (λ r. option_map (λ _. r) (stop_in n r)) es))))
    from None others ih = omega (arith, ih)
    from (Some s) others ih = omega (arith, others refl)

-- ---- a request is counted at one of its stops in a route: the one that gives the name, or else the other one
total_single : (xs : List ℕ) (s : Stop) → IsDistinct eqb xs
    → total (λ n. bit (is_some (stop_in n (Single s)) && is_counted xs n s.number)) xs ≡ bit (list_any (eqb s.number) xs || false)
unfolding member
total_single xs s distinct =
    total-same _ (λ n. bit (eqb s.number n)) xs (every each xs) ∙ (total_member s.number xs distinct ∙ ap bit (sym (or-false (list_any (eqb s.number) xs))))
  where
    each : (n : ℕ) → bit (is_some (cond (eqb s.number n) (Some s) None) && is_counted xs n s.number) ≡ bit (eqb s.number n)
    each n = elim (eqb_tells s.number n) [ inl t ↦ rw t.0 refl | inr t ↦ rw t.0 refl ]

-- the number of occurrences of b in the list, or 0 if m holds
total_unless : (b : ℕ) (m : Bool) (xs : List ℕ) → IsDistinct eqb xs → total (λ n. bit (eqb b n && not m)) xs ≡ bit (not m && list_any (eqb b) xs)
unfolding member
total_unless b true xs distinct = total-same _ (λ _. 0) xs (every (λ n. none (eqb b n)) xs) ∙ total-zero xs
  where
    none : (t : Bool) → bit (t && false) ≡ 0
    none true = refl
    none false = refl
total_unless b false xs distinct = total-same _ (λ n. bit (eqb b n)) xs (every (λ n. same (eqb b n)) xs) ∙ total_member b xs distinct
  where
    same : (t : Bool) → bit (t && true) ≡ bit t
    same true = refl
    same false = refl

total_pair : (xs : List ℕ) (p d : Stop) → IsDistinct eqb xs → p.number ≢ d.number
    → total (λ n. bit (is_some (stop_in n (Pair p d)) && is_counted xs n p.number)) xs
    ≡ bit (list_any (eqb p.number) xs || (list_any (eqb d.number) xs || false))
unfolding member
total_pair xs p d distinct apart =
    total-same _ (λ n. bit (eqb p.number n) + bit (eqb d.number n && not m)) xs (every (λ n. each n m) xs)
    ∙ (total-add (λ n. bit (eqb p.number n)) (λ n. bit (eqb d.number n && not m)) xs
    ∙ joined m (list_any (eqb d.number) xs) _ _ (total_member p.number xs distinct) (total_unless d.number m xs distinct))
  where
    m : Bool
    m = list_any (eqb p.number) xs

    each : (n : ℕ) (m : Bool)
        → bit (is_some (cond (eqb p.number n) (Some p) (cond (eqb d.number n) (Some d) None)) && (eqb p.number n || not m))
        ≡ bit (eqb p.number n) + bit (eqb d.number n && not m)
    each n m =
        elim (eqb_tells p.number n) [
          | inl t ↦ let other : eqb d.number n ≡ false = ne_eqb d.number n (λ e. apart (t.1 ∙ sym e)) in rw (t.0, other) refl
          | inr t ↦ elim (eqb_tells d.number n) [ inl u ↦ rw (t.0, u.0) (omega arith) | inr u ↦ rw (t.0, u.0) refl ]
        ]

    joined : (m k : Bool) (x y : ℕ) → x ≡ bit m → y ≡ bit (not m && k) → x + y ≡ bit (m || (k || false))
    joined true k x y p q = omega (arith, p, q)
    joined false true x y p q = omega (arith, p, q)
    joined false false x y p q = omega (arith, p, q)

-- ---- all requests
total_request : (routes : List (List ℕ)) (r : Request) → IsDistinct eqb (concat routes) → IsRequest r
    → total (λ n. bit (is_some (stop_in n r) && is_counted (concat routes) n (request_name r))) (concat routes) ≡ bit (is_planned routes r)
total_request routes (Single s) distinct valid = total_single (concat routes) s distinct
total_request routes (Pair p d) distinct valid = total_pair (concat routes) p d distinct valid.2

total_requests : (routes : List (List ℕ)) (es : List (ℕ × Request)) → IsDistinct eqb (concat routes) → AllByRecursion (λ e. IsRequest e.1) es
    → total (λ e. total (λ n. bit (is_some (stop_in n e.1) && is_counted (concat routes) n (request_name e.1))) (concat routes)) es
    ≡ total (λ e. bit (is_planned routes e.1)) es
total_requests routes [] distinct valid = refl
total_requests routes (e ∷ es) distinct valid = omega (arith, total_request routes e.1 distinct valid.0, total_requests routes es distinct valid.1)

both_ways : (f : ℕ × Request → Bool) (es : List (ℕ × Request)) → total (λ e. bit (f e)) es + total (λ e. bit (not (f e))) es ≡ length es
both_ways f [] = refl
both_ways f (e ∷ es) = omega (arith, one (f e), both_ways f es)
  where
    one : (b : Bool) → bit b + bit (not b) ≡ 1
    one true = refl
    one false = refl

-- a request that is not counted is unplanned
pub counted_unplanned : (p : Instance) (routes : List (List ℕ)) → IsInstance p → IsDistinct eqb (concat routes)
    → count_among p (concat routes) (concat routes) + unplanned_count p routes ≡ length p.requests
unfolding owns
counted_unplanned p routes valid distinct =
    let by_stop = count_by_is (counts p (concat routes)) (concat routes) in
    let by_owner =
    total-same (λ n. bit (counts p (concat routes) n)) _ (concat routes)
    (every (λ n. sym (owner_total n (is_counted (concat routes) n) p.requests valid.distinct)) (concat routes)) in
    let by_request = total-swap (λ n e. bit (owns n e && is_counted (concat routes) n (request_name e.1))) (concat routes) p.requests in
    let planned = by_stop ∙ (by_owner ∙ (by_request ∙ total_requests routes p.requests distinct valid.valid)) in
    omega (arith, planned, count_by_is (λ e. not (is_planned routes e.1)) p.requests, both_ways (λ e. is_planned routes e.1) p.requests)

-- ---- route by route
pub counted_more : (p : Instance) (all xs ys : List ℕ) → count_among p all (xs ++ ys) ≡ count_among p all xs + count_among p all ys
counted_more p all xs ys = sum_by-append (λ n. bit (counts p all n)) xs ys

pub counted_le : (p : Instance) (all xs : List ℕ) → count_among p all xs ≤ length xs
counted_le p all xs = count_by-le-length (counts p all) xs
