-- The fact that each step of `route_fault` has established.
use Rattle.std.proofs.Common.{◌≡◌, ℕ, zero, suc, ◌≤◌, true, false, List, [], ◌∷◌, Option, Some, None, is_some, slice_get, refl, sym, subst, ◌∙◌, inl, inr, arith, nat_eq}
use Rattle.std.specs.List.{AllByRecursion, IsDistinct}
use Rattle.std.proofs.lemmas.Bool.{eqb-false}
use Rattle.std.proofs.lemmas.Option.{same_Some}
use Rattle.plan_types.specs.Instance.{Instance}
use Rattle.plan_types.specs.declared.requests.Kind.TheVariants.{LiLim, Vrp}
use Rattle.route_sched.specs.Route.{AreDistinctStops}
use Rattle.plan_audit.specs.Rules.{item_at, IsRepeated, IsMissing, IsSplit, IsEarlyDelivery, IsOverloaded, IsLate}
use Rattle.plan_audit.specs.FirstFault.{first_place_fault, first_fault, place_fault_by, missing_at, early_delivery_at, visit_fault, is_overloaded, is_late, late_return_fault}
use Rattle.plan_audit.specs.Verdict.{rule_number, Breaks, KeepsRules}
use Rattle.plan_audit.specs.Alone.{alone, IsFirstBrokenAlone}
use Rattle.plan_audit.specs.declared.faults.PlaceFault.{PlaceFault}
use Rattle.plan_audit.specs.declared.faults.Fault.{Fault}
use Rattle.plan_audit.specs.declared.rules.Rule.{Rule}
use Rattle.plan_audit.specs.declared.rules.Rule.TheVariants.{MissingStop, SplitPair, EarlyDelivery, Load, Late, LateReturn}
use Rattle.plan_audit.proofs.FirstLemmas.{none_some}
use Rattle.plan_audit.proofs.FailingPlaces.{IsLeastOf, rule_nothing, rule_found}
use Rattle.plan_audit.proofs.RuleLemmas.{missing_rule, delivered_rule}
use Rattle.plan_audit.proofs.TimeLemmas.{load_rule, late_rule, late_return_nothing, late_return_found}
use Rattle.plan_audit.proofs.VerdictLemmas.{KeepsBelow, Keeps, keeps_none, keeps_more, keeps_rules, least_broken}

-- the only route is the first one
pub only_route : (route other : List ℕ) (r : ℕ) → item_at (route ∷ []) r ≡ Some other → (r ≡ 1) × (route ≡ other)
only_route route other zero at = absurd (none_some other at)
only_route route other (suc zero) at = (omega arith, same_Some route other at)
only_route route other (suc (suc r)) at = absurd (none_some other at)

-- a property of the only route holds for the given route
pub in_route : (route : List ℕ) (P : List ℕ → Type 0) (r : ℕ) (other : List ℕ) → item_at (route ∷ []) r ≡ Some other → P other → P route
in_route route P r other at b = subst P (sym (only_route route other r at).1) b

-- no pair is split if there is only one route
pub not_split : (p : Instance) (route : List ℕ) (r i n : ℕ) → IsSplit p (route ∷ []) r i n → ⊥
not_split p route r i n b =
    let a = only_route route b.0.0 r b.0.1 in
    let c = only_route route b.1.2.3.0 b.1.2.0 b.1.2.3.1 in
    b.1.2.2 (c.0 ∙ sym a.0)

-- no number is at two places of a list of distinct numbers
pub item_holds : (P : ℕ → Type 0) (ns : List ℕ) (k n : ℕ) → AllByRecursion P ns → slice_get ns k ≡ Some n → P n
item_holds P [] k n all at = absurd (none_some n at)
item_holds P (m ∷ ns) zero n all at = subst P (same_Some m n at) all.0
item_holds P (m ∷ ns) (suc k) n all at = item_holds P ns k n all.1 at

pub distinct_places : (ns : List ℕ) (j i n : ℕ) → IsDistinct nat_eq ns → slice_get ns j ≡ Some n → slice_get ns i ≡ Some n → j ≡ i
unfolding IsDistinct
distinct_places [] j i n once a b = absurd (none_some n a)
distinct_places (m ∷ ns) zero zero n once a b = refl
distinct_places (m ∷ ns) zero (suc i) n once a b = absurd (eqb-false m n (item_holds (λ y. nat_eq m y ≡ false) ns i n once.0 b) (same_Some m n a))
distinct_places (m ∷ ns) (suc j) zero n once a b = absurd (eqb-false m n (item_holds (λ y. nat_eq m y ≡ false) ns j n once.0 a) (same_Some m n b))
distinct_places (m ∷ ns) (suc j) (suc i) n once a b = let e = distinct_places ns j i n once.1 a b in omega arith

-- the fault of the only route is the first fault
one_none : (test : ℕ → List ℕ → Option PlaceFault) (route : List ℕ) (o : Option PlaceFault) → o ≡ test 0 route → is_some o ≡ false → first_fault test 0 (route ∷ []) ≡ None
one_none test route None is none = rw (sym is) refl
one_none test route (Some t) is none = absurd (let h : true ≡ false = none in cc)

one_some : (test : ℕ → List ℕ → Option PlaceFault) (route : List ℕ) (o : Option PlaceFault) → o ≡ test 0 route → is_some o ≡ true
    → (f : Fault) × (first_fault test 0 (route ∷ []) ≡ Some f)
one_some test route None is some = absurd (let h : false ≡ true = some in cc)
one_some test route (Some t) is some = (record { route = 0; place = t.place; stop = t.stop }, rw (sym is) refl)

module _ (p : Instance) (route : List ℕ) (live : AreDistinctStops p route) where
  once : (r i n : ℕ) → IsRepeated p (route ∷ []) r i n → ⊥
  once r i n b =
      let here = b.0 in
      let there = b.1.3 in
      let a = only_route route here.0 r here.1 in
      let c = only_route route there.0 b.1.0 there.1 in
      twice here.0 there.0 i b.1.1 a.1 c.1 here.2 there.2
      (elim b.1.2 [ inl lt ↦ (let e = a.0 in let f = c.0 in absurd (omega arith)) | inr e ↦ (let ne = e.1 in λ same. omega arith) ])
    where
      twice : (one other : List ℕ) (i j : ℕ) → route ≡ one → route ≡ other → item_at one i ≡ Some n → item_at other j ≡ Some n → (i ≡ j → ⊥) → ⊥
      twice one other zero j is are at on ne = none_some n at
      twice one other (suc i) zero is are at on ne = none_some n on
      twice one other (suc i) (suc j) is are at on ne =
          let e =
          distinct_places route i j n live.distinct (subst (λ (l : List ℕ). slice_get l i ≡ Some n) (sym is) at)
          (subst (λ (l : List ℕ). slice_get l j ≡ Some n) (sym are) on) in
          ne (omega arith)

  whole : (r i n : ℕ) → IsSplit p (route ∷ []) r i n → ⊥
  whole r i n b = not_split p route r i n b

  abbrev pub Alone-missing : Option PlaceFault → Type 0
  Alone-missing o = o ≡ first_place_fault (λ _ n. missing_at p (route ∷ []) n) 0 route

  abbrev pub Alone-early_delivery_in : Option PlaceFault → Type 0
  Alone-early_delivery_in o = o ≡ first_place_fault (early_delivery_at p (route ∷ [])) 0 route

  abbrev pub Alone-loaded : Option PlaceFault → Type 0
  Alone-loaded o = o ≡ first_place_fault (visit_fault p (is_overloaded p) route) 0 route

  abbrev pub Alone-late : Option PlaceFault → Type 0
  Alone-late o = o ≡ first_place_fault (visit_fault p is_late route) 0 route

  abbrev pub Alone-returned : Option PlaceFault → Type 0
  Alone-returned o = o ≡ late_return_fault p route

  -- if rule k is broken at a place, and no rule from 3 on before rule k is broken, rule k is the first broken
  -- one
  least_alone : (k : Rule) (f : Fault) → 3 ≤ rule_number k → rule_number k ≤ 8 → KeepsBelow 3 (rule_number k) p (alone route)
      → IsLeastOf (Breaks p (alone route) k) (suc f.route) (suc f.place) f.stop → IsFirstBrokenAlone p route k
  least_alone k f from to kept one = (suc f.route, suc f.place, f.stop, least_broken p (alone route) 3 8 k (suc f.route) (suc f.place) f.stop from to kept one)

  after_missing : (o : Option PlaceFault) → Alone-missing o → is_some o ≡ false → KeepsBelow 3 5 p (alone route)
  after_missing o is none =
      keeps_more p (alone route) 3 SplitPair
      (keeps_more p (alone route) 3 MissingStop (keeps_none p (alone route) 3)
      (rule_nothing (IsMissing p (route ∷ [])) _ (route ∷ []) (missing_rule p (route ∷ []))
      (one_none (place_fault_by (λ _ _ _ n. missing_at p (route ∷ []) n)) route o is none)))
      whole

  pub missing_fault : (o : Option PlaceFault) → Alone-missing o → is_some o ≡ true → IsFirstBrokenAlone p route MissingStop
  missing_fault o is some =
      let f = one_some (place_fault_by (λ _ _ _ n. missing_at p (route ∷ []) n)) route o is some in
      least_alone MissingStop f.0 (omega arith) (omega arith) (keeps_none p (alone route) 3)
      (rule_found (IsMissing p (route ∷ [])) _ (route ∷ []) (missing_rule p (route ∷ [])) f.0 f.1)

  module _ (m : Option PlaceFault) (m_is : Alone-missing m) (m_no : is_some m ≡ false) where
    pub delivered_fault : (o : Option PlaceFault) → Alone-early_delivery_in o → is_some o ≡ true → IsFirstBrokenAlone p route EarlyDelivery
    delivered_fault o is some =
        let f = one_some (place_fault_by (λ _ _ i n. early_delivery_at p (route ∷ []) i n)) route o is some in
        least_alone EarlyDelivery f.0 (omega arith) (omega arith) (after_missing m m_is m_no)
        (rule_found (IsEarlyDelivery p (route ∷ [])) _ (route ∷ []) (delivered_rule p (route ∷ []) once whole) f.0 f.1)

    module _ (d : Option PlaceFault) (d_is : Alone-early_delivery_in d) (d_no : is_some d ≡ false) where
      after_delivered : KeepsBelow 3 6 p (alone route)
      after_delivered =
          keeps_more p (alone route) 3 EarlyDelivery (after_missing m m_is m_no)
          (rule_nothing (IsEarlyDelivery p (route ∷ [])) _ (route ∷ []) (delivered_rule p (route ∷ []) once whole)
          (one_none (place_fault_by (λ _ _ i n. early_delivery_at p (route ∷ []) i n)) route d d_is d_no))

      pub load_fault : (o : Option PlaceFault) → Alone-loaded o → is_some o ≡ true → IsFirstBrokenAlone p route Load
      load_fault o is some =
          let f = one_some (place_fault_by (λ _ route i n. visit_fault p (is_overloaded p) route i n)) route o is some in
          least_alone Load f.0 (omega arith) (omega arith) after_delivered
          (rule_found (IsOverloaded p (route ∷ [])) _ (route ∷ []) (load_rule p (route ∷ [])) f.0 f.1)

      module _ (l : Option PlaceFault) (l_is : Alone-loaded l) (l_no : is_some l ≡ false) where
        after_load : KeepsBelow 3 7 p (alone route)
        after_load =
            keeps_more p (alone route) 3 Load after_delivered
            (rule_nothing (IsOverloaded p (route ∷ [])) _ (route ∷ []) (load_rule p (route ∷ []))
            (one_none (place_fault_by (λ _ route i n. visit_fault p (is_overloaded p) route i n)) route l l_is l_no))

        -- without time windows nothing is late
        pub untimed_alone : p.kind ≡ Vrp → KeepsRules 3 8 p (alone route)
        untimed_alone kind =
            let late : Keeps p (alone route) Late = λ r i n b. no_windows (b.0) in
            let back : Keeps p (alone route) LateReturn = λ r i n b. no_windows (b.0) in
            keeps_rules p (alone route) 3 8 (keeps_more p (alone route) 3 LateReturn (keeps_more p (alone route) 3 Late after_load late) back)
          where
            no_windows : p.kind ≡ LiLim → ⊥
            no_windows e = let h : Vrp ≡ LiLim = sym kind ∙ e in cc

        module _ (kind : p.kind ≡ LiLim) where
          pub late_fault : (o : Option PlaceFault) → Alone-late o → is_some o ≡ true → IsFirstBrokenAlone p route Late
          late_fault o is some =
              let f = one_some (place_fault_by (λ _ route i n. visit_fault p is_late route i n)) route o is some in
              least_alone Late f.0 (omega arith) (omega arith) after_load
              (rule_found (IsLate p (route ∷ [])) _ (route ∷ []) (late_rule p (route ∷ []) kind) f.0 f.1)

          module _ (t : Option PlaceFault) (t_is : Alone-late t) (t_no : is_some t ≡ false) where
            after_late : KeepsBelow 3 8 p (alone route)
            after_late =
                keeps_more p (alone route) 3 Late after_load
                (rule_nothing (IsLate p (route ∷ [])) _ (route ∷ []) (late_rule p (route ∷ []) kind)
                (one_none (place_fault_by (λ _ route i n. visit_fault p is_late route i n)) route t t_is t_no))

            pub return_fault : (o : Option PlaceFault) → Alone-returned o → is_some o ≡ true → IsFirstBrokenAlone p route LateReturn
            return_fault o is some =
                let f = one_some (λ _ route. late_return_fault p route) route o is some in
                least_alone LateReturn f.0 (omega arith) (omega arith) after_late (late_return_found p (route ∷ []) kind f.0 f.1)

            pub timed_alone : (o : Option PlaceFault) → Alone-returned o → is_some o ≡ false → KeepsRules 3 8 p (alone route)
            timed_alone o is none =
                keeps_rules p (alone route) 3 8
                (keeps_more p (alone route) 3 LateReturn after_late
                (late_return_nothing p (route ∷ []) (one_none (λ _ route. late_return_fault p route) route o is none)))
