-- The requests of a problem that a `.vrp` text can express: stops numbered from 1.
use Rattle.std.proofs.Common.{◌≡◌, ℕ, zero, suc, ◌+◌, ◌<◌, ◌≤◌, true, eqb, List, [], ◌∷◌, length, map, refl, sym, ap, ap₂, ◌∙◌, arith}
use Rattle.std.specs.List.{AllByRecursion, cons_option, filter_map, range_with_len}
use Rattle.std.proofs.lemmas.Bool.{and_parts, eq-eqb, eqb-true, false≢true, ne_eqb}
use Rattle.plan_types.specs.Instance.{first_some, numbers_among, stops_among}
use Rattle.plan_types.specs.Limits.{IsDemand, IsStop}
use Rattle.plan_types.specs.Request.{IsRequest, request_name, stop_in}
use Rattle.plan_types.specs.declared.requests.Request.{Request}
use Rattle.plan_types.specs.declared.requests.Request.TheVariants.{Single, Pair}
use Rattle.plan_types.specs.declared.requests.Stop.{Stop}
use Rattle.instance_text.specs.Formats.{are_customers, is_customer, is_open}

-- the numbers count from this one on
abbrev pub AreNumbered : ℕ → List Stop → Type 0
AreNumbered n [] = Unit {0}
AreNumbered n (s ∷ ss) = (s.number ≡ n) × AreNumbered (n + 1) ss

-- the first request is customer n, and the other requests are the customers from n + 1 on
pub record IsFirst (n m : ℕ) (s : Stop) (es : List (ℕ × Request)) : Type 0 where
  pub number : s.number ≡ n
  pub is_open : is_open s ≡ true
  pub others : are_customers (n + 1) es ≡ true

first_is : (n m : ℕ) (s : Stop) (es : List (ℕ × Request)) → are_customers n ((m, Single s) ∷ es) ≡ true → IsFirst n m s es
first_is n m s es is =
    let parts = and_parts (is_customer n (Single s)) (are_customers (n + 1) es) is in
    let own = and_parts (eqb s.number n) (is_open s) parts.0 in
    record { number = eqb-true s.number n own.0; is_open = own.1; others = parts.1 }

pub customers_numbered : (n : ℕ) (es : List (ℕ × Request)) → are_customers n es ≡ true → AreNumbered n (stops_among es)
customers_numbered n [] is = tt
customers_numbered n ((m, Single s) ∷ es) is = let first = first_is n m s es is in (first.number, customers_numbered (n + 1) es first.others)
customers_numbered n ((m, Pair a b) ∷ es) is = absurd (false≢true is)

pub customers_counted : (n : ℕ) (es : List (ℕ × Request)) → are_customers n es ≡ true → length (stops_among es) ≡ length es
customers_counted n [] is = refl
customers_counted n ((m, Single s) ∷ es) is = ap suc (customers_counted (n + 1) es (first_is n m s es is).others)
customers_counted n ((m, Pair a b) ∷ es) is = absurd (false≢true is)

pub customers_open : (n : ℕ) (es : List (ℕ × Request)) → are_customers n es ≡ true → AllByRecursion (λ s. is_open s ≡ true) (stops_among es)
customers_open n [] is = tt
customers_open n ((m, Single s) ∷ es) is = let first = first_is n m s es is in (first.is_open, customers_open (n + 1) es first.others)
customers_open n ((m, Pair a b) ∷ es) is = absurd (false≢true is)

pub customers_valid : (n : ℕ) (es : List (ℕ × Request)) → are_customers n es ≡ true → AllByRecursion (λ e. IsRequest e.1) es → AllByRecursion (λ s. IsStop s × IsDemand s.demand) (stops_among es)
customers_valid n [] is all = tt
customers_valid n ((m, Single s) ∷ es) is all = (all.0, customers_valid (n + 1) es (first_is n m s es is).others all.1)
customers_valid n ((m, Pair a b) ∷ es) is all = absurd (false≢true is)

-- there are no more customers than stop numbers
pub customers_few : (n next : ℕ) (es : List (ℕ × Request)) → are_customers n es ≡ true → AllByRecursion (λ m. m < next) (numbers_among es) → n ≤ next → n + length es ≤ next
customers_few n next [] is below le = omega (arith, le)
customers_few n next ((m, Single s) ∷ es) is below le =
    let first = first_is n m s es is in
    omega (arith, customers_few (n + 1) next es first.others below.1 (omega (arith, first.number, below.0)))
customers_few n next ((m, Pair a b) ∷ es) is below le = absurd (false≢true is)

-- lookups by ascending number return the customers in order
none_listed : (n count : ℕ) → filter_map (λ m. first_some (stop_in m) []) (range_with_len n count) ≡ []
none_listed n zero = refl
none_listed n (suc count) = none_listed (n + 1) count

later_listed : (m : ℕ) (s : Stop) (es : List (ℕ × Request)) (n count : ℕ) → s.number < n
    → filter_map (λ k. first_some (stop_in k) ((m, Single s) ∷ es)) (range_with_len n count) ≡ filter_map (λ k. first_some (stop_in k) es) (range_with_len n count)
later_listed m s es n zero less = refl
later_listed m s es n (suc count) less =
    rw (ne_eqb s.number n (λ h. absurd (omega (arith, less, h))))
    (ap (cons_option (first_some (stop_in n) es)) (later_listed m s es (n + 1) count (omega (arith, less))))

pub customers_listed : (n count : ℕ) (es : List (ℕ × Request)) → are_customers n es ≡ true → length es ≤ count → filter_map (λ k. first_some (stop_in k) es) (range_with_len n count) ≡ stops_among es
customers_listed n count [] is few = none_listed n count
customers_listed n zero (e ∷ es) is few = absurd (omega (arith, few))
customers_listed n (suc count) ((m, Single s) ∷ es) is few =
    let first = first_is n m s es is in
    rw (eq-eqb s.number n first.number)
    (ap (λ ss. s ∷ ss) (later_listed m s es (n + 1) count (omega (arith, first.number)) ∙ customers_listed (n + 1) count es first.others (omega (arith, few))))
customers_listed n (suc count) ((m, Pair a b) ∷ es) is few = absurd (false≢true is)

-- the customers are the values of a function of their numbers
pub customers_made : (f : ℕ → Stop) (n : ℕ) (es : List (ℕ × Request)) → are_customers n es ≡ true → AllByRecursion (λ e. e.0 ≡ request_name e.1) es
    → AllByRecursion (λ s. f s.number ≡ s) (stops_among es) → map (λ k. (k, Single (f k))) (range_with_len n (length es)) ≡ es
customers_made f n [] is named made = refl
customers_made f n ((m, Single s) ∷ es) is named made =
    let first = first_is n m s es is in
    let head : (n, Single (f n)) ≡ (m, Single s) = ap₂ {C = ℕ × Request} (λ k x. (k, Single x)) (sym (named.0 ∙ first.number)) (ap f (sym first.number) ∙ made.0) in
    ap₂ (λ e rest. e ∷ rest) head (customers_made f (n + 1) es first.others named.1 made.1)
customers_made f n ((m, Pair a b) ∷ es) is named made = absurd (false≢true is)
