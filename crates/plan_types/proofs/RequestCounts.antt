-- Bounds for the numbers of stops and requests of a problem
use Rattle.std.proofs.Common.{◌≡◌, ℕ, zero, suc, ◌<◌, ◌≤◌, Bool, true, false, List, [], ◌∷◌, length, refl, subst, arith, eqb}
use Rattle.std.specs.Prelude.{◌||◌}
use Rattle.std.specs.List.{list_any, AllByRecursion, IsDistinct}
use Rattle.std.proofs.lemmas.Map.Steps.{length-le_from_distinct_below}
use Rattle.std.proofs.lemmas.Bool.{eqb-true}
use Rattle.plan_types.specs.Request.{IsRequest}
use Rattle.plan_types.specs.Instance.{Instance, IsInstance, numbers_among}
use Rattle.plan_types.specs.declared.requests.Request.{Request}
use Rattle.plan_types.specs.declared.requests.Request.TheVariants.{Single, Pair}

pub not_zero : (n : ℕ) → 1 ≤ n → eqb n 0 ≡ false
not_zero n h = grind (arith, h)

zero_not : (n : ℕ) → 1 ≤ n → eqb 0 n ≡ false
zero_not n h = grind (arith, h)

-- The numbers are from 1 on and below a bound
abbrev pub AreBelow : ℕ → List ℕ → Type 0
AreBelow next ns = AllByRecursion (λ n. (1 ≤ n) × (n < next)) ns

no_zero : (next : ℕ) (ns : List ℕ) → AreBelow next ns → AllByRecursion (λ n. eqb 0 n ≡ false) ns
no_zero next [] h = tt
no_zero next (n ∷ ns) h = (zero_not n h.0.0, no_zero next ns h.1)

head_among : (q n : ℕ) (b rest : Bool) (P : Type 0) → eqb q n ≡ b → (b || rest) ≡ true → (q ≡ n → P) → (rest ≡ true → P) → P
head_among q n true rest P is e f g = f (eqb-true q n is)
head_among q n false rest P is e f g = g e

among : (next q : ℕ) (ns : List ℕ) → AreBelow next ns → list_any (eqb q) ns ≡ true → q < next
among next q [] h e = absurd cc
among next q (n ∷ ns) h e = head_among q n (eqb q n) (list_any (eqb q) ns) (q < next) refl e (λ same. omega (arith, same, h.0.1)) (λ f. among next q ns h.1 f)

pub few : (next : ℕ) (ns : List ℕ) → IsDistinct eqb ns → AreBelow next ns → 1 ≤ next → length ns < next
unfolding IsDistinct
few next ns distinct below one =
    let all = length-le_from_distinct_below (0 ∷ ns) next (no_zero next ns below, distinct) within in
    omega (arith, all)
  where
    within : (q : ℕ) → list_any (eqb q) (0 ∷ ns) ≡ true → q < next
    within zero e = omega (arith, one)
    within (suc q) e = among next (suc q) ns below (subst (λ b. (b || list_any (eqb (suc q)) ns) ≡ true) (not_zero (suc q) (omega arith)) e)

numbered : (es : List (ℕ × Request)) (next : ℕ) → AllByRecursion (λ e. IsRequest e.1) es → AllByRecursion (λ n. n < next) (numbers_among es) → AreBelow next (numbers_among es)
numbered [] next h b = tt
numbered ((n, Single s) ∷ es) next h b = ((h.0.0.from_one, b.0), numbered es next h.1 b.1)
numbered ((n, Pair x y) ∷ es) next h b = ((h.0.0.from_one, b.0), ((h.0.1.from_one, b.1.0), numbered es next h.1 b.1.1))

fewer : (es : List (ℕ × Request)) → length es ≤ length (numbers_among es)
fewer [] = omega arith
fewer ((n, Single s) ∷ es) = let h = fewer es in omega (arith, h)
fewer ((n, Pair x y) ∷ es) = let h = fewer es in omega (arith, h)

-- The stops of the requests are fewer than the next number
pub few_numbers : (p : Instance) → IsInstance p → length (numbers_among p.requests) < p.next_number
few_numbers p is = few p.next_number (numbers_among p.requests) is.distinct (numbered p.requests p.next_number is.valid is.above) is.next_number_min

pub few_requests : (p : Instance) → IsInstance p → length p.requests ≤ 40000
few_requests p is = let a = few_numbers p is in let b = fewer p.requests in omega (arith, a, b, is.next_number_max)

pub requests_below : (p : Instance) → IsInstance p → length p.requests < p.next_number
requests_below p is = let a = few_numbers p is in let b = fewer p.requests in omega (arith, a, b)
