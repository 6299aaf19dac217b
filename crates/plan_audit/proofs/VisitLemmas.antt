-- The visits of a route, one after another.
use Rattle.std.proofs.Common.{◌≡◌, ℕ, zero, suc, slice_get, ◌+◌, ◌-◌, ◌<◌, ◌≤◌, List, ◌∷◌, map, length, sym, ap, ◌∙◌, arith, Some, None, Option, Bool, cond, get_or, drop, drop-cons, add-one}
use Rattle.std.specs.Option.{option_map, option_or}
use Rattle.plan_audit.specs.FirstFault.{first_place_fault, visit_fault}
use Rattle.std.specs.List.{range_with_len}
use Rattle.route_sched.proofs.VisitLemmas.{visits_from-cons}
use Rattle.plan_types.specs.Instance.{Instance}
use Rattle.plan_audit.proofs.FirstLemmas.{none_some}
use Rattle.route_sched.specs.VisitList.{visits_from, visit_after}
use Rattle.route_sched.specs.declared.visits.Visit.{Visit}

-- one visit, and the visits after it
pub visits_from-step : (p : Instance) (route : List ℕ) (k : ℕ) → k ≤ length route → visits_from p route k ≡ visit_after p route k ∷ visits_from p route (k + 1)
visits_from-step = visits_from-cons

heads : {X : Type 0} (x y : X) (xs ys : List X) → x ∷ xs ≡ y ∷ ys → x ≡ y
heads x y xs ys h = cc

tails : {X : Type 0} (x y : X) (xs ys : List X) → x ∷ xs ≡ y ∷ ys → xs ≡ ys
tails x y xs ys h = cc

-- the next visit, and the visits that are left
pub visit_is : (p : Instance) (route : List ℕ) (k : ℕ) (v : Visit) (before after : List Visit) → k ≤ length route → before ≡ visits_from p route k
    → before ≡ v ∷ after → v ≡ visit_after p route k
visit_is p route k v before after le is step = sym (heads _ _ _ _ (sym (visits_from-step p route k le) ∙ sym is ∙ step))

pub visits_left : (p : Instance) (route : List ℕ) (k : ℕ) (v : Visit) (before after : List Visit) → k ≤ length route → before ≡ visits_from p route k
    → before ≡ v ∷ after → after ≡ visits_from p route (k + 1)
visits_left p route k v before after le is step = sym (tails _ _ _ _ (sym (visits_from-step p route k le) ∙ sym is ∙ step))

-- the first answer from place k on: the answer at place k, or the first one after it
pub reported_here : (test : ℕ → ℕ → Option ℕ) (k : ℕ) (ns : List ℕ) (s : ℕ) → k < length ns → test k (get_or ns k 0) ≡ Some s
    → first_place_fault test k (drop k ns) ≡ Some (record { place = k; stop = s })
reported_here test k ns s lt reported =
    ap (first_place_fault test k) (drop-cons ns k 0 lt)
    ∙ ap (λ (o : Option ℕ). option_or (option_map (λ s. record { place = k; stop = s }) o) (first_place_fault test (k + 1) (drop (suc k) ns))) reported

pub reported_later : (test : ℕ → ℕ → Option ℕ) (k : ℕ) (ns : List ℕ) → k < length ns → test k (get_or ns k 0) ≡ None
    → first_place_fault test k (drop k ns) ≡ first_place_fault test (k + 1) (drop (k + 1) ns)
reported_later test k ns lt reported =
    ap (first_place_fault test k) (drop-cons ns k 0 lt)
    ∙ ap (λ (o : Option ℕ). option_or (option_map (λ s. record { place = k; stop = s }) o) (first_place_fault test (k + 1) (drop (suc k) ns))) reported
    ∙ ap (λ n. first_place_fault test (k + 1) (drop n ns)) (sym (add-one k))

-- the test of the visit at place k
pub visit_fails : (p : Instance) (test : Visit → Bool) (route : List ℕ) (k : ℕ) (v : Visit) (b : Bool) → v ≡ visit_after p route k → b ≡ test v
    → visit_fault p test route k (get_or route k 0) ≡ cond b (Some (get_or route k 0)) None
visit_fails p test route k v b is answer = ap (λ c. cond c (Some (get_or route k 0)) None) (sym (answer ∙ ap test is))

pub nth-range : {X : Type 0} (f : ℕ → X) (a n k : ℕ) → k < n → slice_get (map f (range_with_len a n)) k ≡ Some (f (a + k))
nth-range f a zero k lt = absurd (omega arith)
nth-range f a (suc n) zero lt = ap (λ i. Some (f i)) (let e : a ≡ a + 0 = omega arith in e)
nth-range f a (suc n) (suc k) lt = nth-range f (a + 1) n k (omega arith) ∙ ap (λ i. Some (f i)) (let e : a + 1 + k ≡ a + suc k = omega arith in e)

-- the last visit is the return
pub visits_from-return : (p : Instance) (route : List ℕ) → slice_get (visits_from p route 0) (length route) ≡ Some (visit_after p route (length route))
visits_from-return p route =
    nth-range (visit_after p route) 0 (length route + 1 - 0) (length route) (omega arith)
    ∙ ap (λ i. Some (visit_after p route i)) (let e : 0 + length route ≡ length route = omega arith in e)

same_visit : {X : Type 0} (x y : X) (o : Option X) → o ≡ Some x → option_map (λ z. z) o ≡ Some y → x ≡ y
same_visit x y None e h = absurd (none_some x e)
same_visit x y (Some z) e h = (cc)

pub return_is : (p : Instance) (route : List ℕ) (o : Option Visit) (v : Visit) → o ≡ Some v
    → option_map (λ z. z) o ≡ slice_get (visits_from p route 0) (length route) → v ≡ visit_after p route (length route)
return_is p route o v e h = same_visit v _ o e (h ∙ visits_from-return p route)

pub return_there : (p : Instance) (route : List ℕ) (o : Option Visit) → o ≡ None → option_map (λ z. z) o ≡ slice_get (visits_from p route 0) (length route) → ⊥
return_there p route o e h = none_some _ (sym (ap (option_map (λ z. z)) e) ∙ h ∙ visits_from-return p route)
