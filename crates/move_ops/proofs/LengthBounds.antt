-- No route is so long that the sum of its distances overflows. The bound is generous: a distance is taken to be
-- at most its own square.
use Rattle.std.proofs.Common.{◌≡◌, ℕ, zero, suc, ◌+◌, ◌*◌, ◌/◌, ◌≤◌, ℤ, ◌-ℤ◌, eqb, leb, ltb, cond, Bool, true, false}
use Rattle.std.proofs.Common.{List, [], ◌∷◌, length, map, sum, fold, mul-le-mul, Option, Some, None, get_or, refl, subst, ◌∙◌, inl, inr, arith}
use Rattle.std.specs.Prelude.{unsigned_abs, unwrap_or}
use Rattle.std.specs.List.{AllByRecursion, range_with_len}
use Rattle.std.proofs.lemmas.Bool.{leb-true}
use Rattle.std.proofs.lemmas.Bool.Decides.{eqb_tells}
use Rattle.std.proofs.lemmas.Int.{ints}
use Rattle.plan_types.specs.Limits.{IsCoordinate}
use Rattle.plan_types.specs.Instance.{Instance, IsInstance, first_some, stop_at}
use Rattle.plan_types.specs.Request.{IsRequest, stop_in}
use Rattle.plan_types.specs.declared.requests.Stop.{Stop}
use Rattle.plan_types.specs.declared.requests.Request.{Request}
use Rattle.plan_types.specs.declared.requests.Request.TheVariants.{Single, Pair}
use Rattle.nint_dist.specs.Distance.{HasValidCoordinates, squared_distance, distance}
use Rattle.nint_dist.specs.NearestRoot.{doubled_root, whole_root, nearest_root}
use Rattle.route_sched.specs.Route.{stop_numbered, place}
use Rattle.route_sched.specs.Schedule.{leg, route_length}
use Rattle.move_ops.proofs.OccurrenceLemmas.{none_some, some_same}

-- ---- roots
doubled_small : (s r : ℕ) → r ≤ s / 4 → doubled_root s r ≤ s
doubled_small s r le = by (leb ((2 * r + 1) * (2 * r + 1)) s) refl
  where
    by : (b : Bool) → leb ((2 * r + 1) * (2 * r + 1)) s ≡ b → cond b (2 * r + 1) (2 * r) ≤ s
    by true e = (let h = leb-true ((2 * r + 1) * (2 * r + 1)) s e in let k : 2 * r + 1 ≤ (2 * r + 1) * (2 * r + 1) = omega arith in omega arith)
    by false e = omega arith

whole_small : (depth s : ℕ) → whole_root depth s ≤ s
unfolding whole_root
whole_small zero s = omega arith
whole_small (suc depth) zero = omega arith
whole_small (suc depth) (suc s) = doubled_small (suc s) (whole_root depth (suc s / 4)) (whole_small depth (suc s / 4))

nearest_small : (s : ℕ) → nearest_root s ≤ s + 1
unfolding nearest_root
nearest_small s = by (ltb (whole_root s s * (whole_root s s + 1)) s)
  where
    by : (b : Bool) → cond b (whole_root s s + 1) (whole_root s s) ≤ s + 1
    by true = let h = whole_small s s in omega arith
    by false = let h = whole_small s s in omega arith

-- ---- distances
gap : (x y : ℤ) → IsCoordinate x → IsCoordinate y → unsigned_abs (x -ℤ y) ≤ 2000000
gap x y a b = let xl = a.0 in let xh = a.1 in let yl = b.0 in let yh = b.1 in omega (arith, ints)

square : (n : ℕ) → n ≤ 2000000 → n * n ≤ 4000000000000
square n le = mul-le-mul le le

far : (a b : Stop) → HasValidCoordinates a → HasValidCoordinates b → distance a b ≤ 8000000000001
unfolding distance
far a b one two =
    let x = square (unsigned_abs (a.x -ℤ b.x)) (gap a.x b.x one.0 two.0) in
    let y = square (unsigned_abs (a.y -ℤ b.y)) (gap a.y b.y one.1 two.1) in
    let h = nearest_small (squared_distance a b) in
    omega arith

-- ---- stops
placed_in : (n : ℕ) (r : Request) (s : Stop) → IsRequest r → stop_in n r ≡ Some s → HasValidCoordinates s
placed_in n (Single a) s valid is = elim (eqb_tells a.number n) [
  | inl t ↦ (let e : Some a ≡ Some s = rw t.0 at is in subst HasValidCoordinates (some_same a s e) (valid.0.visit.x, valid.0.visit.y))
  | inr t ↦ absurd (let e : None ≡ Some s = rw t.0 at is in none_some s e)
]
placed_in n (Pair a b) s valid is = elim (eqb_tells a.number n) [
  | inl t ↦ (let e : Some a ≡ Some s = rw t.0 at is in subst HasValidCoordinates (some_same a s e) (valid.0.visit.x, valid.0.visit.y))
  | inr t ↦ elim (eqb_tells b.number n) [
    | inl u ↦ (let e : Some b ≡ Some s = rw (t.0, u.0) at is in subst HasValidCoordinates (some_same b s e) (valid.1.visit.x, valid.1.visit.y))
    | inr u ↦ absurd (let e : None ≡ Some s = rw (t.0, u.0) at is in none_some s e)
  ]
]

placed_among : (n : ℕ) (es : List (ℕ × Request)) (s : Stop) → AllByRecursion (λ e. IsRequest e.1) es → first_some (stop_in n) es ≡ Some s → HasValidCoordinates s
placed_among n [] s valid is = absurd (none_some s is)
placed_among n (e ∷ es) s valid is = by (stop_in n e.1) refl (λ there. placed_among n es s valid.1 there)
  where
    by : (o : Option Stop) → stop_in n e.1 ≡ o → (first_some (stop_in n) es ≡ Some s → HasValidCoordinates s) → HasValidCoordinates s
    by (Some t) at later = placed_in n e.1 s valid.0 (at ∙ (let h : Some t ≡ Some s = rw at at is in h))
    by None at later = later (rw at at is)

module _ (p : Instance) (valid : IsInstance p) where
  placed_numbered : (n : ℕ) → HasValidCoordinates (stop_numbered p n)
  placed_numbered n = by (eqb n 0) (stop_at p n) refl
    where
      depot : HasValidCoordinates p.depot
      depot = (valid.depot.visit.x, valid.depot.visit.y)

      at : (o : Option Stop) → stop_at p n ≡ o → HasValidCoordinates (unwrap_or o p.depot)
      at None e = depot
      at (Some s) e = placed_among n p.requests s (valid.valid) e

      by : (b : Bool) (o : Option Stop) → stop_at p n ≡ o → HasValidCoordinates (cond b p.depot (unwrap_or o p.depot))
      by true o e = depot
      by false o e = at o e

  leg_small : (route : List ℕ) (k : ℕ) → leg p route k ≤ 8000000000001
  unfolding place
  leg_small route k = far (place p route k) (place p route (k + 1)) (placed_numbered (get_or (0 ∷ route) k 0)) (placed_numbered (get_or (0 ∷ route) (k + 1) 0))

  fold_small : (f : ℕ → ℕ) (m a n s : ℕ) → ((k : ℕ) → f k ≤ m) → fold ◌+◌ s (map f (range_with_len a n)) ≤ s + n * m
  fold_small f m a zero s each = omega arith
  fold_small f m a (suc n) s each = let h = fold_small f m (a + 1) n (s + f a) each in let e = each a in omega arith

  sum_small : (f : ℕ → ℕ) (m a n : ℕ) → ((k : ℕ) → f k ≤ m) → sum (map f (range_with_len a n)) ≤ n * m
  sum_small f m a n each = let h = fold_small f m a n 0 each in omega arith

  pub route_small : (route : List ℕ) → route_length p route ≤ (length route + 1) * 8000000000001
  unfolding route_length
  route_small route = sum_small (leg p route) 8000000000001 0 (length route + 1) (leg_small route)
