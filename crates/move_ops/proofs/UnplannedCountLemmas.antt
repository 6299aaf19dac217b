-- The number of requests that a plan leaves out after one is inserted; and no plan is so long that its total
-- distance overflows.
use Rattle.std.proofs.Common.{◌≡◌, ℕ, ◌+◌, ◌*◌, ◌^◌, ◌≤◌, ◌||◌, not, true, false, cond, List}
use Rattle.std.proofs.Common.{[], ◌∷◌, length, length-append, Some, refl, sym, ap, ◌∙◌, inl, inr, arith, nat_eq}
use Rattle.std.specs.List.{concat, count_by}
use Rattle.std.specs.Map.{lookup}
use Rattle.std.proofs.lemmas.Bool.Decides.{eqb_tells}
use Rattle.std.proofs.lemmas.List.Sums.{sum_by-cons}
use Rattle.std.proofs.lemmas.Map.Steps.{length-le_from_distinct_below}
use Rattle.plan_types.specs.Instance.{Instance, IsInstance, numbers_among}
use Rattle.plan_types.specs.Laws.{StopsAreBelowNext}
use Rattle.plan_types.specs.declared.requests.Request.{Request}
use Rattle.plan_types.specs.declared.requests.Request.TheVariants.{Single, Pair}
use Rattle.route_sched.specs.Cost.{has_stop, is_planned, unplanned_count, total_length}
use Rattle.route_sched.specs.Route.{IsPlan}
use Rattle.route_sched.specs.Schedule.{route_length}
use Rattle.plan_audit.specs.Passes.{passes}
use Rattle.plan_audit.specs.Locality.{PassingIsLocal}
use Rattle.move_ops.proofs.OccurrenceLemmas.{none_some, some_same, times, one_here, at_most_once, once_known}
use Rattle.move_ops.proofs.FitLemmas.{had_often, often_had}
use Rattle.move_ops.proofs.InsertionLemmas.{numbers_of}
use Rattle.move_ops.proofs.InsertionCosts.{any_same}
use Rattle.move_ops.proofs.LengthBounds.{route_small}
use Rattle.move_ops.proofs.ReplacementLemmas.{parts}

-- ---- the numbers of requests
among_more : (n : ℕ) (e : ℕ × Request) (es : List (ℕ × Request)) → times n (numbers_among (e ∷ es)) ≡ times n (numbers_of e.1) + times n (numbers_among es)
among_more n (m, Single s) es = omega arith
among_more n (m, Pair a b) es = omega arith

-- the numbers of a request that is found are among those of all requests
found_among : (es : List (ℕ × Request)) (name : ℕ) (r : Request) → lookup (nat_eq name) es ≡ Some r → (n : ℕ)
    → times n (numbers_of r) ≤ times n (numbers_among es)
found_among [] name r at n = absurd (none_some r at)
found_among (e ∷ es) name r at n = elim (eqb_tells name e.0) [
  | inl t ↦ (let same : e.1 ≡ r = some_same e.1 r (rw t.0 at at) in let m = among_more n e es in let f = ap (λ q. times n (numbers_of q)) same in omega arith)
  | inr t ↦ (let m = among_more n e es in let h = found_among es name r (rw t.0 at at) n in omega arith)
]

-- ---- one more request
has_same : (n : ℕ) (routes others : List (List ℕ)) → times n (concat routes) ≡ times n (concat others) → has_stop routes n ≡ has_stop others n
has_same n routes others same = any_same n (concat routes) (concat others) same

module _ (routes others : List (List ℕ)) (r : Request)
    (outside : (n : ℕ) → times n (numbers_of r) ≡ 0 → times n (concat routes) ≡ times n (concat others)) where
  stays : (n : ℕ) → times n (numbers_of r) ≡ 0 → has_stop routes n ≡ has_stop others n
  stays n none = has_same n routes others (outside n none)

  -- other requests are planned as before
  planned_as : (q : Request) → ((n : ℕ) → 1 ≤ times n (numbers_of q) → times n (numbers_of r) ≡ 0) → is_planned routes q ≡ is_planned others q
  planned_as (Single s) apart = ap (λ b. b || false) (stays s.number (apart s.number (let e = one_here s.number s.number refl in omega arith)))
  planned_as (Pair a b) apart =
      ap (λ h. h || (has_stop routes b.number || false)) (stays a.number (apart a.number (let e = one_here a.number a.number refl in omega arith)))
      ∙ ap (λ h. has_stop others a.number || (h || false)) (stays b.number (apart b.number (let e = one_here b.number b.number refl in omega arith)))

  counted_more : (lists : List (List ℕ)) (e : ℕ × Request) (es : List (ℕ × Request))
      → count_by (λ d. not (is_planned lists d.1)) (e ∷ es)
      ≡ cond (not (is_planned lists e.1)) 1 0 + count_by (λ d. not (is_planned lists d.1)) es
  counted_more lists e es = sum_by-cons (λ (d : ℕ × Request). cond (not (is_planned lists d.1)) 1 0) e es

  all_as : (es : List (ℕ × Request)) → ((n : ℕ) → 1 ≤ times n (numbers_among es) → times n (numbers_of r) ≡ 0)
      → count_by (λ e. not (is_planned routes e.1)) es ≡ count_by (λ e. not (is_planned others e.1)) es
  all_as [] apart = refl
  all_as (e ∷ es) apart =
      counted_more routes e es
      ∙ (ap (λ b. cond (not b) 1 0 + count_by (λ d. not (is_planned routes d.1)) es)
      (planned_as e.1 (λ n some. apart n (let m = among_more n e es in omega arith)))
      ∙ (ap (λ k. cond (not (is_planned others e.1)) 1 0 + k) (all_as es (λ n some. apart n (let m = among_more n e es in omega arith)))
      ∙ sym (counted_more others e es)))

  module _ (before : is_planned routes r ≡ false) (after : is_planned others r ≡ true) where
    one_as : (es : List (ℕ × Request)) (name : ℕ) → ((n : ℕ) → times n (numbers_among es) ≤ 1) → lookup (nat_eq name) es ≡ Some r
        → count_by (λ e. not (is_planned routes e.1)) es ≡ count_by (λ e. not (is_planned others e.1)) es + 1
    one_as [] name once at = absurd (none_some r at)
    one_as (e ∷ es) name once at = elim (eqb_tells name e.0) [
      | inl t ↦ (
          let same : e.1 ≡ r = some_same e.1 r (rw t.0 at at) in
          let f = counted_more routes e es in
          let g = counted_more others e es in
          let out : ◌≡◌ {A = ℕ} (cond (not (is_planned routes e.1)) 1 0) 1 = ap (λ q. cond (not (is_planned routes q)) 1 0) same
          ∙ ap (λ b. cond (not b) 1 0) before in
          let in_it : ◌≡◌ {A = ℕ} (cond (not (is_planned others e.1)) 1 0) 0 = ap (λ q. cond (not (is_planned others q)) 1 0) same
          ∙ ap (λ b. cond (not b) 1 0) after in
          let rest = all_as es (λ n some. let m = among_more n e es in let o = once n in let i = ap (λ q. times n (numbers_of q)) same in omega arith) in
          omega arith)
      | inr t ↦ (
          let there : lookup (nat_eq name) es ≡ Some r = rw t.0 at at in
          let f = counted_more routes e es in
          let g = counted_more others e es in
          let alike : ◌≡◌ {A = ℕ} (cond (not (is_planned routes e.1)) 1 0) (cond (not (is_planned others e.1)) 1 0) =
          ap (λ b. cond (not b) 1 0)
          (planned_as e.1
          (λ n some. let m = among_more n e es in let o = once n in let i = found_among es name r there n in omega arith)) in
          let rest = one_as es name (λ n. let m = among_more n e es in let o = once n in omega arith) there in
          omega arith)
    ]

    pub one_more_planned : (p : Instance) → IsInstance p → (name : ℕ) → lookup (nat_eq name) p.requests ≡ Some r
        → unplanned_count p routes ≡ unplanned_count p others + 1
    one_more_planned p valid name at = one_as p.requests name (λ n. at_most_once (numbers_among p.requests) (valid.distinct) n) at

-- a request is planned if its numbers are in the lists
pub planned_where : (lists : List (List ℕ)) (r : Request) → ((n : ℕ) → times n (numbers_of r) ≤ times n (concat lists)) → is_planned lists r ≡ true
planned_where lists (Single s) occur =
    let e = one_here s.number s.number refl in let f = occur s.number in rw (often_had (concat lists) s.number (omega arith)) refl
planned_where lists (Pair a b) occur =
    let e = one_here a.number a.number refl in let f = occur a.number in rw (often_had (concat lists) a.number (omega arith)) refl

-- ---- a plan is not too long
module _ (below : StopsAreBelowNext) (local : PassingIsLocal) (p : Instance) (valid : IsInstance p) where
  few_stops : (routes : List (List ℕ)) → IsPlan p routes → length (concat routes) ≤ 40001
  few_stops routes once =
      length-le_from_distinct_below (concat routes) 40001 (once.distinct)
      (λ q there. let most = valid.next_number_max in
      let less = below p q valid (once_known p (concat routes) once q (had_often (concat routes) q there)) in
      omega arith)

  total_few : (routes : List (List ℕ)) → total_length p routes ≤ (length (concat routes) + length routes) * 8000000000001
  total_few [] = omega arith
  total_few (r ∷ routes) =
      let e = sum_by-cons (route_length p) r routes in
      let f = route_small p valid r in
      let g = length-append r (concat routes) in
      let h = total_few routes in
      omega arith

  pub plan_small : (pins routes : List (List ℕ)) → passes p pins routes ≡ true → total_length p routes ≤ 2 ^ 63
  plan_small pins routes good =
      let is = parts local p pins routes good in
      let e = few_stops routes (is.plan) in
      let g = valid.fleet in
      let h = total_few routes in
      omega arith
