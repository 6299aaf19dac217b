-- Requests that no route serves, one after another.
use Rattle.std.proofs.Common.{
  ◌≡◌,
  ℕ,
  zero,
  suc,
  ◌+◌,
  ◌<◌,
  Bool,
  true,
  false,
  not,
  cond,
  List,
  [],
  ◌∷◌,
  length,
  take,
  drop,
  count_by,
  slice_get,
  Option,
  Some,
  None,
  is_some,
  refl,
  sym,
  ap,
  ◌∙◌,
  inl,
  inr,
  add-one,
  arith,
}
use Rattle.std.specs.Option.{option_and_then, option_or}
use Rattle.std.proofs.lemmas.List.Sums.{sum_by_more}
use Rattle.std.proofs.lemmas.Option.{slice_get_cases}
use Rattle.route_sched.specs.Cost.{is_planned}
use Rattle.plan_audit.specs.FirstFault.{unserved_in, first_unserved}
use Rattle.plan_audit.proofs.FirstLemmas.{none_some}
use Rattle.plan_types.specs.Instance.{Instance, IsInstance}
use Rattle.plan_types.specs.Laws.{IsBelowNext, RequestsAreBelowNext}
use Rattle.plan_types.specs.declared.requests.Request.{Request}

-- the answer for the request at an index
pub unserved_is : RequestsAreBelowNext → (p : Instance) (routes : List (List ℕ)) (k n : ℕ) (r : Request) (b : Bool) → IsInstance p
    → slice_get p.requests k ≡ Some (n, r) → (IsBelowNext p r → b ≡ is_planned routes r)
    → cond b None (Some n) ≡ option_and_then (unserved_in routes) (slice_get p.requests k)
unserved_is below p routes k n r b valid at served =
    ap (λ c. cond c None (Some n)) (served (below p k n r valid at)) ∙ sym (ap (option_and_then (unserved_in routes)) at)

-- if the request at index k is not served, it is the first such request from index k on
pub unserved_here : (routes : List (List ℕ)) (es : List (ℕ × Request)) (k n : ℕ) → option_and_then (unserved_in routes) (slice_get es k) ≡ Some n
    → first_unserved routes (drop k es) ≡ Some n
unserved_here routes [] k n is = absurd (none_some n is)
unserved_here routes (e ∷ es) zero n is = ap (λ (o : Option ℕ). option_or o (first_unserved routes es)) is
unserved_here routes (e ∷ es) (suc k) n is = unserved_here routes es k n is

pub unserved_later : (routes : List (List ℕ)) (es : List (ℕ × Request)) (k : ℕ) → option_and_then (unserved_in routes) (slice_get es k) ≡ None
    → first_unserved routes (drop k es) ≡ first_unserved routes (drop (k + 1) es)
unserved_later routes es k is = by es k is ∙ ap (λ n. first_unserved routes (drop n es)) (sym (add-one k))
  where
    by : (es : List (ℕ × Request)) (k : ℕ) → option_and_then (unserved_in routes) (slice_get es k) ≡ None
        → first_unserved routes (drop k es) ≡ first_unserved routes (drop (suc k) es)
    by [] zero is = refl
    by [] (suc k) is = refl
    by (e ∷ es) zero is = ap (λ (o : Option ℕ). option_or o (first_unserved routes es)) is
    by (e ∷ es) (suc k) is = by es k is

-- the number of unserved requests grows by one or not at all
abbrev is_left_out : List (List ℕ) → ℕ × Request → Bool
is_left_out routes e = not (is_planned routes e.1)

pub left_out_more : (routes : List (List ℕ)) (es : List (ℕ × Request)) (k : ℕ) (b : Bool) → k < length es
    → is_some (option_and_then (unserved_in routes) (slice_get es k)) ≡ b
    → count_by (is_left_out routes) (take (k + 1) es) ≡ count_by (is_left_out routes) (take k es) + cond b 1 0
left_out_more routes es k b lt is = elim (slice_get_cases es k).1 [
  | inl t ↦ (
      let tells = ap (λ (o : Option (ℕ × Request)). is_some (option_and_then (unserved_in routes) o)) (sym t.2) ∙ is in
      let adds = ap (λ c. cond {A = ℕ} c 1 0) (ap (is_left_out routes) t.3 ∙ sym (one t.0) ∙ tells) in
      sum_by_more (λ e. cond {A = ℕ} (is_left_out routes e) 1 0) es k t.0 lt ∙ ap (λ n. count_by (is_left_out routes) (take k es) + n) adds)
  | inr past ↦ absurd (omega arith)
]
  where
    one : (e : ℕ × Request) → is_some (unserved_in routes e) ≡ is_left_out routes e
    one e = elim (is_planned routes e.1) as (λ c. is_some (cond c None (Some e.0)) ≡ not c) [ true ↦ refl | false ↦ refl ]
