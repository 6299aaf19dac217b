-- The vehicles of an attempt: their number, and that no other vehicle has a pin.
use Rattle.std.proofs.Common.{
  ◌≡◌,
  ◌∙◌,
  ℕ,
  zero,
  suc,
  ◌+◌,
  ◌-◌,
  ◌<◌,
  ◌≤◌,
  Bool,
  true,
  false,
  cond,
  not,
  ◌==◌,
  ◌&&◌,
  ◌||◌,
  List,
  [],
  ◌∷◌,
  ◌++◌,
  append_assoc,
  All,
  map,
  filter,
  take,
  length,
  replicate,
  unwrap_or,
  refl,
  sym,
  ap,
  subst,
  inl,
  inr,
  arith,
  nat_eq,
}
use Rattle.std.specs.Prelude.{count_by, slice_get}
use Rattle.std.specs.List.{range_with_len}
use Rattle.std.proofs.lemmas.Bool.{cases_Bool, ne_eqb, or_left, or_right, eq-eqb, both_ways}
use Rattle.std.proofs.lemmas.Bool.Decides.{eqb_tells}
use Rattle.std.proofs.lemmas.List.Elements.{All-cons, All-filter, All-weaker}
use Rattle.std.proofs.lemmas.List.Sums.{length-filter, sum_by-cons}
use Rattle.route_sched.specs.Cost.{used_count}
use Rattle.plan_audit.specs.Passes.{has}
use Rattle.move_ops.proofs.OccurrenceLemmas.{none_here, one_here, times}
use Rattle.anneal_search.specs.Sorting.{put, put_all}
use Rattle.anneal_search.proofs.SortLemmas.{all_put_all, length_put_all}
use Rattle.fleet_reduction.specs.Fleets.{free_vehicles, has_any_stop, is_kept, is_longer, kept, marked, picked, put_back}
use Rattle.fleet_reduction.specs.Laws.{ArePinsOf, KeptAreSubfleets}
use Rattle.fleet_reduction.proofs.PickedLemmas.{marked_more}

abbrev Test : Type 0
Test = ℕ → Bool

counted_more : (f : Test) (n : ℕ) (ns : List ℕ) → count_by f (n ∷ ns) ≡ cond (f n) 1 0 + count_by f ns
counted_more f n ns = sum_by-cons (λ n. cond (f n) 1 0) n ns

marked_map : (f : Test) (ns : List ℕ) → marked (map f ns) ≡ count_by f ns
marked_map f [] = refl
marked_map f (n ∷ ns) = let h = marked_map f ns in let a = marked_more (f n) (map f ns) in let b = counted_more f n ns in omega (arith, h, a, b)

-- ---- counts of two tests
one_or : (a b : Bool) → cond (a || b) 1 0 ≤ cond a 1 0 + cond b 1 0
one_or true b = omega arith
one_or false true = omega arith
one_or false false = omega arith

count_or : (f g : Test) (ns : List ℕ) → count_by (λ n. f n || g n) ns ≤ count_by f ns + count_by g ns
count_or f g [] = omega arith
count_or f g (n ∷ ns) =
    let h = count_or f g ns in
    let o = one_or (f n) (g n) in
    omega (arith, h, o, counted_more (λ n. f n || g n) n ns, counted_more f n ns, counted_more g n ns)

one_split : (a b : Bool) → cond a 1 0 ≤ cond (a && not b) 1 0 + cond b 1 0
one_split false b = omega arith
one_split true true = omega arith
one_split true false = omega arith

count_split : (f g : Test) (ns : List ℕ) → count_by f ns ≤ count_by (λ n. f n && not (g n)) ns + count_by g ns
count_split f g [] = omega arith
count_split f g (n ∷ ns) =
    let h = count_split f g ns in
    let o = one_split (f n) (g n) in
    omega (arith, h, o, counted_more (λ n. f n && not (g n)) n ns, counted_more f n ns, counted_more g n ns)

pub one_more : (a b : Bool) → (b ≡ true → a ≡ true) → cond b 1 0 ≤ cond a 1 0
one_more a false so = omega arith
one_more a true so = rw (so refl) (omega arith)

-- if g passes only items that f passes, g counts at most as many
pub count_more : {X : Type 0} (f g : X → Bool) (xs : List X) → ((x : X) → g x ≡ true → f x ≡ true) → count_by g xs ≤ count_by f xs
count_more f g [] each = omega arith
count_more f g (x ∷ xs) each =
    let a = sum_by-cons (λ x. cond (f x) 1 0) x xs in
    let b = sum_by-cons (λ x. cond (g x) 1 0) x xs in
    let h = count_more f g xs each in
    let here = one_more (f x) (g x) (each x) in
    omega arith

-- ---- numbers from a on
range_times : (x n a : ℕ) → (x < a → times x (range_with_len a n) ≡ 0) × (times x (range_with_len a n) ≤ 1)
range_times x zero a = (λ below. refl, omega arith)
range_times x (suc n) a =
    let rest = range_times x n (a + 1) in (
      λ below. (let e = none_here x a (ne_eqb x a (λ same. omega (arith, below, same))) in let h = rest.0 (omega (arith, below)) in omega (arith, e, h)),
      elim (eqb_tells x a) [
        | inl t ↦ (let e = one_here x a t.1 in let h = rest.0 (omega (arith, t.1)) in omega (arith, e, h))
        | inr t ↦ (let e = none_here x a t.0 in let h = rest.1 in omega (arith, e, h))
      ],
    )

in_range : (n a : ℕ) → All (λ x. 1 ≤ times x (range_with_len a n)) (range_with_len a n)
in_range zero a = λ k d below. absurd (omega (arith, below))
in_range (suc n) a =
    All-cons (λ x. 1 ≤ times x (range_with_len a (suc n))) a (range_with_len (a + 1) n) (let e = one_here a a refl in omega (arith, e))
    (All-weaker (λ x. 1 ≤ times x (range_with_len (a + 1) n)) (λ x. 1 ≤ times x (range_with_len a (suc n))) (λ x some. omega (arith, some)) (range_with_len (a + 1) n) (in_range n (a + 1)))

is_one : (x n : ℕ) → nat_eq n x ≡ true → nat_eq x n ≡ true
is_one x n is = elim (eqb_tells n x) [ inl t ↦ eq-eqb x n (sym t.1) | inr t ↦ absurd (both_ways (nat_eq n x) t.0 is) ]

times_count : (x : ℕ) (ns : List ℕ) → times x ns ≡ count_by (λ n. nat_eq x n) ns
times_count x [] = refl
times_count x (n ∷ ns) = let h = times_count x ns in omega (arith, h, counted_more (λ n. nat_eq x n) n ns)

-- a list contains at most as many of some distinct numbers as it has items
none_counted : (ns : List ℕ) → count_by (has []) ns ≡ 0
none_counted [] = refl
none_counted (n ∷ ns) = let h = none_counted ns in omega (arith, h, counted_more (has []) n ns)

count_has : (xs ns : List ℕ) → ((x : ℕ) → times x ns ≤ 1) → count_by (has xs) ns ≤ length xs
count_has [] ns once = omega (arith, none_counted ns)
count_has (x ∷ xs) ns once =
    let either = count_or (λ n. nat_eq n x) (has xs) ns in
    let one = count_more (λ n. nat_eq x n) (λ n. nat_eq n x) ns (λ n is. is_one x n is) in
    let same = times_count x ns in
    omega (arith, either, one, same, once x, count_has xs ns once)

-- ---- which vehicles have a pin
at_number : (a : ℕ) (f : Test) (b : Bool) → f (a + 0) ≡ b → f a ≡ b
at_number a f b is = let same : a + 0 ≡ a = omega arith in subst (λ n. f n ≡ b) same is

count_some : (lists : List (List ℕ)) (a : ℕ) (f : Test) → ((k : ℕ) → f (a + k) ≡ not (length (unwrap_or (slice_get lists k) []) == 0)) → count_by f (range_with_len a (length lists)) ≡ used_count lists
count_some [] a f each = refl
count_some (l ∷ lists) a f each =
    let here : f a ≡ not (length l == 0) = at_number a f (not (length l == 0)) (each 0) in
    let same : ◌≡◌ {A = ℕ} (cond (f a) 1 0) (cond (not (length l == 0)) 1 0) = ap (λ b. cond b 1 0) here in
    let rest = count_some lists (a + 1) f (λ k. (let n : a + 1 + k ≡ a + suc k = omega arith in subst (λ m. f m ≡ not (length (unwrap_or (slice_get lists k) []) == 0)) (sym n) (each (suc k)))) in
    omega (arith, same, rest, counted_more f a (range_with_len (a + 1) (length lists)), sum_by-cons (λ (route : List ℕ). cond (not (length route == 0)) 1 0) l lists)

some_of : (lists : List (List ℕ)) → count_by (has_any_stop lists) (range_with_len 1 (length lists)) ≡ used_count lists
some_of lists = count_some lists 1 (has_any_stop lists) (λ k. (let same : 1 + k ≡ suc k = omega arith in ap (has_any_stop lists) same))

own_pins : (pins : List (List ℕ)) (a : ℕ) (f : Test) → ((k : ℕ) → not (length (unwrap_or (slice_get pins k) []) == 0) ≡ true → f (a + k) ≡ true)
    → ArePinsOf (map f (range_with_len a (length pins))) pins
own_pins [] a f each = refl
own_pins (pin ∷ pins) a f each =
    let rest = own_pins pins (a + 1) f (λ k some. (let n : a + 1 + k ≡ a + suc k = omega arith in subst (λ m. f m ≡ true) (sym n) (each (suc k) some))) in
    elim (cases_Bool (f a)) [
      | inl t ↦ rw t (ap (λ l. pin ∷ l) rest)
      | inr u ↦ rw u (by pin (λ some. at_number a f true (each 0 some)) u rest)
    ]
  where
    by : (pin : List ℕ) → (not (length pin == 0) ≡ true → f a ≡ true) → f a ≡ false
        → put_back (map f (range_with_len (a + 1) (length pins))) (picked (map f (range_with_len (a + 1) (length pins))) pins) ≡ pins
        → [] ∷ put_back (map f (range_with_len (a + 1) (length pins))) (picked (map f (range_with_len (a + 1) (length pins))) pins) ≡ pin ∷ pins
    by [] so off rest = ap (λ l. [] ∷ l) rest
    by (n ∷ ns) so off rest = absurd (both_ways (f a) off (so (ap not (ne_eqb (length (n ∷ ns)) 0 (λ e. omega (arith, e))))))

-- if all vehicles are marked, only marked ones have a pin
pub all_own : (pins : List (List ℕ)) → ArePinsOf (replicate (length pins) true) pins
all_own [] = refl
all_own (pin ∷ pins) = ap (λ l. pin ∷ l) (all_own pins)

pub all_marked : (n : ℕ) → marked (replicate n true) ≡ n
all_marked zero = refl
all_marked (suc n) = let h = all_marked n in let m = marked_more true (replicate n true) in omega (arith, h, m)

module _ (pins routes : List (List ℕ)) (long : length pins ≡ length routes) (m : ℕ) where
  pub kept_own : ArePinsOf (kept pins routes m) pins
  kept_own =
      subst (λ n. ArePinsOf (map (is_kept pins routes m) (range_with_len 1 n)) pins) long
      (own_pins pins 1 (is_kept pins routes m) (λ k some.
      (let same : 1 + k ≡ suc k = omega arith in or_left (has_any_stop pins (1 + k)) (has (take (m - used_count pins) (free_vehicles pins routes)) (1 + k))
      (ap (has_any_stop pins) same ∙ some))))

  abbrev vehicles : List ℕ
  vehicles = range_with_len 1 (length routes)

  with_pins : count_by (has_any_stop pins) vehicles ≡ used_count pins
  with_pins = subst (λ n. count_by (has_any_stop pins) (range_with_len 1 n) ≡ used_count pins) long (some_of pins)

  abbrev chosen : List ℕ
  chosen = take (m - used_count pins) (free_vehicles pins routes)

  few_taken : (n : ℕ) (xs : List ℕ) → length (take n xs) ≤ n
  few_taken zero xs = omega arith
  few_taken (suc n) [] = omega arith
  few_taken (suc n) (x ∷ xs) = let h = few_taken n xs in omega (arith, h)

  pub kept_few : used_count pins ≤ m → marked (kept pins routes m) ≤ m
  kept_few room =
      let a = marked_map (is_kept pins routes m) vehicles in
      let b = count_or (has_any_stop pins) (has chosen) vehicles in
      let c = count_has chosen vehicles (λ x. (range_times x (length routes) 1).1) in
      let d = few_taken (m - used_count pins) (free_vehicles pins routes) in
      omega (arith, a, b, c, d, with_pins, room)

  first_kept : (v : ℕ) (vs : List ℕ) → chosen ≡ v ∷ vs → 1 ≤ times v vehicles → 1 ≤ count_by (is_kept pins routes m) vehicles
  first_kept v vs is some =
      let there : (n : ℕ) → nat_eq v n ≡ true → is_kept pins routes m n ≡ true =
      λ n same. or_right (has_any_stop pins n) (has chosen n) (let h : has (v ∷ vs) n ≡ true = or_left (nat_eq n v) (has vs n) (is_one n v same) in subst (λ l. has l n ≡ true) (sym is) h) in
      omega (arith, some, times_count v vehicles, count_more (is_kept pins routes m) (λ n. nat_eq v n) vehicles there)

  pub kept_some : 1 ≤ m → 1 ≤ used_count routes → 1 ≤ marked (kept pins routes m)
  kept_some some used = by (used_count pins) refl
    where
      free : Test
      free = λ v. has_any_stop routes v && not (has_any_stop pins v)

      of_kept : marked (kept pins routes m) ≡ count_by (is_kept pins routes m) vehicles
      of_kept = marked_map (is_kept pins routes m) vehicles

      by_first : (xs : List ℕ) → free_vehicles pins routes ≡ xs → 1 ≤ length xs → 1 ≤ m - used_count pins → 1 ≤ marked (kept pins routes m)
      by_first [] is some more = absurd (omega (arith, some))
      by_first (v ∷ vs) is some more = from (m - used_count pins) refl more
        where
          in_it : 1 ≤ times v vehicles
          in_it =
              let all = all_put_all (is_longer routes) (λ x. 1 ≤ times x vehicles) [] (filter free vehicles) (λ k d below. absurd (omega (arith, below)))
              (All-filter free (λ x. 1 ≤ times x vehicles) vehicles (in_range (length routes) 1)) in
              subst (All (λ x. 1 ≤ times x vehicles)) is all zero v (omega arith)

          from : (n : ℕ) → m - used_count pins ≡ n → 1 ≤ n → 1 ≤ marked (kept pins routes m)
          from zero e none = absurd (omega (arith, none))
          from (suc n) e more =
              let h = first_kept v (take n vs) (ap (λ k. take k (free_vehicles pins routes)) e ∙ ap (take (suc n)) is) in_it in omega (arith, h, of_kept)

      by : (k : ℕ) → used_count pins ≡ k → 1 ≤ marked (kept pins routes m)
      by (suc k) e =
          let h = count_more (is_kept pins routes m) (has_any_stop pins) vehicles (λ v is. or_left (has_any_stop pins v) (has chosen v) is) in omega (arith, h, e, with_pins, of_kept)
      by zero e =
          let a = count_split (has_any_stop routes) (has_any_stop pins) vehicles in
          let b = some_of routes in
          let c = length-filter free vehicles in
          let d : length (free_vehicles pins routes) ≡ 0 + length (filter free vehicles) = length_put_all (is_longer routes) [] (filter free vehicles) in
          by_first (free_vehicles pins routes) refl (omega (arith, a, b, c, d, with_pins, e, used)) (omega (arith, e, some))

pub kept_are_subfleets : KeptAreSubfleets
kept_are_subfleets pins routes count long room = record { own = kept_own pins routes long count; few = kept_few pins routes long count room }

-- ---- vehicle by vehicle
range_next : (n i : ℕ) → i < n → range_with_len (i + 1) (n - i) ≡ (i + 1) ∷ range_with_len (i + 1 + 1) (n - (i + 1))
range_next n i within = let one : n - i ≡ suc (n - (i + 1)) = omega (arith, within) in ap (range_with_len (i + 1)) one

pub free_next : (before : ℕ → ℕ → Bool) (f : Test) (n i : ℕ) (free new all : List ℕ) → i < n → new ≡ cond (f (i + 1)) (put before (i + 1) free) free
    → put_all before free (filter f (range_with_len (i + 1) (n - i))) ≡ all
    → put_all before new (filter f (range_with_len (i + 1 + 1) (n - (i + 1)))) ≡ all
free_next before f n i free new all within is so_far =
    let rest = range_with_len (i + 1 + 1) (n - (i + 1)) in
    let opened : put_all before free (filter f (range_with_len (i + 1) (n - i))) ≡ put_all before free (filter f ((i + 1) ∷ range_with_len (i + 1 + 1) (n - (i + 1)))) =
    ap (λ vs. put_all before free (filter f vs)) (range_next n i within) in
    by (f (i + 1)) refl ∙ (sym opened ∙ so_far)
  where
    by : (b : Bool) → f (i + 1) ≡ b → put_all before new (filter f (range_with_len (i + 1 + 1) (n - (i + 1)))) ≡ put_all before free (filter f ((i + 1) ∷ range_with_len (i + 1 + 1) (n - (i + 1))))
    by true e = rw e (ap (λ l. put_all before l (filter f (range_with_len (i + 1 + 1) (n - (i + 1))))) (is ∙ ap (λ b. cond b (put before (i + 1) free) free) e))
    by false e = rw e (ap (λ l. put_all before l (filter f (range_with_len (i + 1 + 1) (n - (i + 1))))) (is ∙ ap (λ b. cond b (put before (i + 1) free) free) e))

pub kept_next : (f : Test) (n i : ℕ) (marks new all : List Bool) (b : Bool) → i < n → b ≡ f (i + 1) → new ≡ marks ++ b ∷ [] → marks ++ map f (range_with_len (i + 1) (n - i)) ≡ all
    → new ++ map f (range_with_len (i + 1 + 1) (n - (i + 1))) ≡ all
kept_next f n i marks new all b within is pushed so_far =
    let rest = map f (range_with_len (i + 1 + 1) (n - (i + 1))) in
    ap (λ l. l ++ rest) pushed
    ∙ (append_assoc marks (b ∷ []) rest
    ∙ (ap (λ x. marks ++ x ∷ rest) is
    ∙ (ap (λ vs. marks ++ map f vs) (sym (range_next n i within)) ∙ so_far)))
