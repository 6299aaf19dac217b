-- A route without the stops of some requests: the remaining pairs stay whole, with each pickup before its
-- delivery.
use Rattle.std.proofs.Common.{◌≡◌, ℕ, ◌≤◌, Bool, true, false, not, List, [], ◌∷◌, All, filter, Option, Some, None, refl, sym, ap, ◌∙◌, inl, inr, arith}
use Rattle.std.specs.List.{AllByRecursion, list_all}
use Rattle.std.specs.Option.{option_map, option_map_or}
use Rattle.std.proofs.lemmas.Bool.{cases_Bool, and_from, and_parts}
use Rattle.std.proofs.lemmas.Bool.Decides.{eqb_tells}
use Rattle.std.proofs.lemmas.List.Elements.{All-from_recursion}
use Rattle.plan_types.specs.Instance.{Instance, IsInstance, request_with, name_at, partner_at, pickup_at}
use Rattle.plan_types.specs.Laws.{NamedRequestsAreFound, RequestsAreStoredByName}
use Rattle.plan_types.specs.Request.{request_name, partner_in}
use Rattle.plan_types.specs.declared.requests.Request.{Request}
use Rattle.plan_audit.specs.Passes.{has, has_whole_pairs, picks_up_first, feasible_alone}
use Rattle.move_ops.specs.Moves.{is_of_named, without_named}
use Rattle.move_ops.specs.WholePairs.{are_paired}
use Rattle.move_ops.proofs.OccurrenceLemmas.{none_some, times, one_here, none_here}
use Rattle.move_ops.proofs.InsertionLemmas.{in_numbers}
use Rattle.move_ops.proofs.FitLemmas.{all_by_times, times_by_all, there_whole, whole_there, none_ahead, ahead_none, partner_numbers, had_often, often_had}
use Rattle.move_ops.proofs.PlanRemovalLemmas.{times_kept}

-- a number that is kept occurs as often as before, and a number that occurs is kept
kept_often : (n : ℕ) (keep : ℕ → Bool) (xs : List ℕ) → keep n ≡ true → times n (filter keep xs) ≡ times n xs
kept_often n keep [] kept = refl
kept_often n keep (x ∷ xs) kept = elim (cases_Bool (keep x)) [
  | inl t ↦ rw t (by_same (kept_often n keep xs kept))
  | inr f ↦ rw f (elim (eqb_tells n x) [
    | inl same ↦ absurd (let h : keep n ≡ false = ap keep same.1 ∙ f in let k : true ≡ false = sym kept ∙ h in cc)
    | inr other ↦ (let e = none_here n x other.0 in let h = kept_often n keep xs kept in omega arith)
  ])
]
  where
    by_same : times n (filter keep xs) ≡ times n xs → times n (x ∷ filter keep xs) ≡ times n (x ∷ xs)
    by_same same = elim (eqb_tells n x) [
      | inl here ↦ (let e = one_here n x here.1 in omega arith)
      | inr other ↦ (let e = none_here n x other.0 in omega arith)
    ]

stays_kept : (n : ℕ) (keep : ℕ → Bool) (xs : List ℕ) → 1 ≤ times n (filter keep xs) → keep n ≡ true
stays_kept n keep [] some = absurd (omega arith)
stays_kept n keep (x ∷ xs) some = by (keep x) refl (λ more. stays_kept n keep xs more)
  where
    by : (b : Bool) → keep x ≡ b → (1 ≤ times n (filter keep xs) → keep n ≡ true) → keep n ≡ true
    by false f rest = rest (let h : 1 ≤ times n (filter keep (x ∷ xs)) = some in rw f at h)
    by true t rest = elim (eqb_tells n x) [
      | inl here ↦ ap keep here.1 ∙ t
      | inr other ↦ rest
          (let h : 1 ≤ times n (x ∷ filter keep xs) = (let k : 1 ≤ times n (filter keep (x ∷ xs)) = some in rw t at k) in
          let e = none_here n x other.0 in
          omega arith)
    ]

module _ (found : NamedRequestsAreFound) (stored : RequestsAreStoredByName) (p : Instance) (valid : IsInstance p) where
  -- both stops of a pair belong to one request
  partner_name : (n m : ℕ) → partner_at p n ≡ Some m → name_at p m ≡ name_at p n
  partner_name n m is = by (request_with p n) refl
    where
      by : (o : Option Request) → request_with p n ≡ o → name_at p m ≡ name_at p n
      by None e = absurd (let h : None ≡ Some m = rw e at is in none_some m h)
      by (Some r) e =
          let partner : partner_in n r ≡ Some m = rw e at is in
          (found p m (request_name r) r valid (stored p n r valid e) (in_numbers m r (partner_numbers r n m partner))).name
          ∙ sym (ap (option_map request_name) e)

  module _ (names : List ℕ) where
    abbrev keep : ℕ → Bool
    keep n = not (is_of_named p names n)

    whole_left : (route : List ℕ) → has_whole_pairs p route ≡ true → has_whole_pairs p (filter keep route) ≡ true
    whole_left route whole =
        all_by_times (λ n. option_map_or (has (filter keep route)) (partner_at p n) true) (filter keep route)
        (λ n some. there_whole (filter keep route) (partner_at p n) (λ m is. often_had (filter keep route) m (there n m some is)))
      where
        there : (n m : ℕ) → 1 ≤ times n (filter keep route) → partner_at p n ≡ Some m → 1 ≤ times m (filter keep route)
        there n m some is =
            let few = times_kept n keep route in
            let reported = times_by_all (λ n. option_map_or (has route) (partner_at p n) true) route n whole (omega arith) in
            let in_it = had_often route m (whole_there route (partner_at p n) m is reported) in
            let kept : keep m ≡ true = ap (λ (o : Option ℕ). not (option_map_or (has names) o false)) (partner_name n m is) ∙ stays_kept n keep route some in
            let same = kept_often m keep route kept in
            omega arith

    first_left : (route : List ℕ) → picks_up_first p route ≡ true → picks_up_first p (filter keep route) ≡ true
    first_left [] first = refl
    first_left (n ∷ ns) first =
        let both = and_parts (not (option_map_or (has ns) (pickup_at p n) false)) (picks_up_first p ns) first in
        let rest = first_left ns both.1 in
        elim (cases_Bool (keep n)) [
          | inl t ↦ rw t
              (and_from (not (option_map_or (has (filter keep ns)) (pickup_at p n) false)) (picks_up_first p (filter keep ns))
              (none_ahead (filter keep ns) (pickup_at p n)
              (λ m is. (let none = ahead_none ns (pickup_at p n) m is both.0 in let few = times_kept m keep ns in omega arith))) rest)
          | inr f ↦ rw f rest
        ]

    paired_left : (route : List ℕ) → feasible_alone p route ≡ true → are_paired p (filter keep route) ≡ true
    unfolding feasible_alone
    paired_left route feasible =
        let all = and_parts (has_whole_pairs p route) _ feasible in
        let rest = and_parts (picks_up_first p route) _ all.1 in
        and_from (has_whole_pairs p (filter keep route)) (picks_up_first p (filter keep route)) (whole_left route all.0) (first_left route rest.0)

    each_left : (routes : List (List ℕ)) → list_all (feasible_alone p) routes ≡ true
        → AllByRecursion (λ route. are_paired p route ≡ true) (without_named p names routes)
    each_left [] all = tt
    each_left (route ∷ routes) all =
        let both = and_parts (feasible_alone p route) (list_all (feasible_alone p) routes) all in
        (paired_left route both.0, each_left routes both.1)

    pub left_paired : (routes : List (List ℕ)) → list_all (feasible_alone p) routes ≡ true
        → All (λ route. are_paired p route ≡ true) (without_named p names routes)
    left_paired routes all = All-from_recursion (λ route. are_paired p route ≡ true) (without_named p names routes) (each_left routes all)
