-- Steps of the loops: the violations of one more item, and the visits of a route.
use Rattle.std.proofs.Common.{◌≡◌, ℕ, zero, suc, ◌+◌, ◌-◌, ◌<◌, ◌≤◌, List, [], ◌∷◌, ◌++◌, length, drop, get_or, map, slice_get, Option, Some, None, refl, sym, ap, ◌∙◌, add-one, arith}
use Rattle.std.specs.List.{flat_map, range_with_len}
use Rattle.std.specs.Option.{option_and_then, option_map, option_to_list}
use Rattle.std.proofs.lemmas.List.{append-nil, flat_map_more}
use Rattle.std.proofs.lemmas.List.FromFn.{map-range_with_len_more}
use Rattle.std.proofs.lemmas.Option.{same_Some}
use Rattle.plan_types.specs.Instance.{Instance}
use Rattle.plan_types.specs.declared.requests.Request.{Request}
use Rattle.route_sched.specs.VisitList.{visit_after, visits_from}
use Rattle.route_sched.specs.declared.visits.Visit.{Visit}
use Rattle.plan_audit.specs.declared.rules.Rule.{Rule}
use Rattle.plan_audit.proofs.FirstLemmas.{none_some}
use Rattle.plan_audit.proofs.VisitLemmas.{nth-range}
use Rattle.rule_violations.specs.Violations.{position_at, violations_from, unserved_violation, visit_violation, visit_test}
use Rattle.rule_violations.specs.declared.violations.Violation.{Violation}
use Rattle.rule_violations.specs.declared.positions.PrintedPosition.{PrintedPosition}

together : (xs ys zs : List Violation) → (xs ++ ys) ++ zs ≡ xs ++ (ys ++ zs)
together [] ys zs = refl
together (x ∷ xs) ys zs = ap (λ l. x ∷ l) (together xs ys zs)

-- the violations from the next item on are its own and those of the later items
next_item : {X : Type 0} (of_item : ℕ → X → List Violation) (i : ℕ) (xs : List X) (k : ℕ) (x : X) → slice_get xs k ≡ Some x
    → violations_from of_item i (drop k xs) ≡ of_item i x ++ violations_from of_item (i + 1) (drop (suc k) xs)
next_item of_item i [] k x at = absurd (none_some x at)
next_item of_item i (y ∷ xs) zero x at = ap (λ z. of_item i z ++ violations_from of_item (i + 1) xs) (same_Some y x at)
next_item of_item i (y ∷ xs) (suc k) x at = next_item of_item i xs k x at

pub kept_on : {X : Type 0} (of_item : ℕ → X → List Violation) (xs : List X) (k : ℕ) (x : X) (before after all : List Violation) → slice_get xs k ≡ Some x
    → after ≡ before ++ of_item k x → before ++ violations_from of_item k (drop k xs) ≡ all → after ++ violations_from of_item (k + 1) (drop (k + 1) xs) ≡ all
kept_on of_item xs k x before after all at added is =
    ap (λ l. l ++ violations_from of_item (k + 1) (drop (k + 1) xs)) added
    ∙ together before _ _
    ∙ ap (λ n. before ++ (of_item k x ++ violations_from of_item (k + 1) (drop n xs))) (add-one k)
    ∙ ap (λ l. before ++ l) (sym (next_item of_item k xs k x at))
    ∙ is

-- the violations of the next visit, and of the visits after it
pub visit_kept : (p : Instance) (rule : Rule) (r : ℕ) (route : List ℕ) (k : ℕ) (v : Visit) (position : PrintedPosition) (before after all : List Violation) (o : Option Violation)
    → k < length route → v ≡ visit_after p route k → position ≡ position_at r k
    → o ≡ visit_violation p rule position (get_or route k 0) v → after ≡ before ++ option_to_list o
    → before ++ violations_from (λ i n. option_to_list (visit_test p rule r route i n)) k (drop k route) ≡ all
    → after ++ violations_from (λ i n. option_to_list (visit_test p rule r route i n)) (k + 1) (drop (k + 1) route) ≡ all
visit_kept p rule r route k v position before after all o lt is at reported added so_far =
    let here : o ≡ visit_test p rule r route k (get_or route k 0) =
    reported ∙ ap (λ s. visit_violation p rule s (get_or route k 0) v) at ∙ ap (λ w. visit_violation p rule (position_at r k) (get_or route k 0) w) is in
    kept_on (λ i n. option_to_list (visit_test p rule r route i n)) route k (get_or route k 0) before after all (item_at_index route k lt)
    (added ∙ ap (λ q. before ++ option_to_list q) here) so_far
  where
    item_at_index : (ns : List ℕ) (k : ℕ) → k < length ns → slice_get ns k ≡ Some (get_or ns k 0)
    item_at_index [] k lt = absurd (omega arith)
    item_at_index (n ∷ ns) zero lt = refl
    item_at_index (n ∷ ns) (suc k) lt = item_at_index ns k (omega arith)

-- the violations of the next request, if there is one
none_left : (es : List (ℕ × Request)) (k : ℕ) → slice_get es k ≡ None → (drop k es ≡ []) × (drop (suc k) es ≡ [])
none_left [] zero none = (refl, refl)
none_left [] (suc k) none = (refl, refl)
none_left (e ∷ es) zero none = absurd (none_some e (sym none))
none_left (e ∷ es) (suc k) none = none_left es k none

pub unserved_kept : (routes : List (List ℕ)) (es : List (ℕ × Request)) (k : ℕ) (before after all : List Violation) (o : Option Violation)
    → after ≡ before ++ option_to_list o → o ≡ option_and_then (unserved_violation routes) (slice_get es k)
    → before ++ violations_from (λ _ e. option_to_list (unserved_violation routes e)) k (drop k es) ≡ all
    → after ++ violations_from (λ _ e. option_to_list (unserved_violation routes e)) (k + 1) (drop (k + 1) es) ≡ all
unserved_kept routes es k before after all o added is so_far = by (slice_get es k) refl
  where
    by : (item : Option (ℕ × Request)) → slice_get es k ≡ item
        → after ++ violations_from (λ _ e. option_to_list (unserved_violation routes e)) (k + 1) (drop (k + 1) es) ≡ all
    by None at =
        ap (λ l. after ++ violations_from (λ _ e. option_to_list (unserved_violation routes e)) (k + 1) l) (ap (λ n. drop n es) (add-one k) ∙ (none_left es k at).1)
        ∙ ap (λ l. l ++ []) (added ∙ ap (λ q. before ++ option_to_list q) (is ∙ ap (option_and_then (unserved_violation routes)) at))
        ∙ append-nil (before ++ [])
        ∙ ap (λ l. before ++ violations_from (λ _ e. option_to_list (unserved_violation routes e)) k l) (sym (none_left es k at).0)
        ∙ so_far
    by (Some e) at =
        kept_on (λ _ e. option_to_list (unserved_violation routes e)) es k e before after all at
        (added ∙ ap (λ q. before ++ option_to_list q) (is ∙ ap (option_and_then (unserved_violation routes)) at)) so_far

ids : (xs : List ℕ) → map (λ x. x) xs ≡ xs
ids [] = refl
ids (x ∷ xs) = ap (λ ys. x ∷ ys) (ids xs)

one_more : (n : ℕ) → range_with_len 0 (n + 1) ≡ range_with_len 0 n ++ n ∷ []
one_more n = sym (ids _) ∙ map-range_with_len_more (λ x. x) 0 n n (omega arith) ∙ ap (λ xs. xs ++ n ∷ []) (ids _)

-- the results for the numbers so far, and for the next one
pub next_number : (f : ℕ → List ℕ) (n : ℕ) → flat_map f (range_with_len 0 n) ++ f n ≡ flat_map f (range_with_len 0 (n + 1))
next_number f n = flat_map_more f [] (range_with_len 0 n) n ∙ sym (ap (flat_map f) (one_more n))

module _ (p : Instance) (route : List ℕ) (k : ℕ) (o : Option Visit) where
  here : k ≤ length route → slice_get (visits_from p route 0) k ≡ Some (visit_after p route k)
  here within =
      nth-range (visit_after p route) 0 (length route + 1 - 0) k (omega arith) ∙ ap (λ i. Some (visit_after p route i)) (let e : 0 + k ≡ k = omega arith in e)

  same : (o : Option Visit) (v w : Visit) → o ≡ Some v → option_map (λ z. z) o ≡ Some w → v ≡ w
  same None v w e h = absurd (none_some v e)
  same (Some z) v w e h = cc

  -- `nth` returns a visit, and it is the visit after this place
  pub visit_reported : (v : Visit) → k ≤ length route → o ≡ Some v → option_map (λ z. z) o ≡ slice_get (visits_from p route 0) k → v ≡ visit_after p route k
  visit_reported v within e h = same o v _ e (h ∙ here within)

  pub visit_there : k ≤ length route → o ≡ None → option_map (λ z. z) o ≡ slice_get (visits_from p route 0) k → ⊥
  visit_there within e h = none_some _ (sym (ap (option_map (λ z. z)) e) ∙ h ∙ here within)
