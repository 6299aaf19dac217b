-- Tours for some vehicles, and the changes of routes that they make.
use Rattle.std.proofs.Common.{◌≡◌, ℕ, ◌+◌, ◌-◌, ◌<◌, ◌≤◌, ◌++◌, ◌&&◌, Bool, true, false, cond, List}
use Rattle.std.proofs.Common.{[], ◌∷◌, length, drop, set, get_or, Option, Some, None, refl, sym, ap, subst, ◌∙◌}
use Rattle.std.specs.Prelude.{◌↔◌, IfSome, IsSome, MatchOption}
use Rattle.std.specs.List.{AllByRecursion, list_all}
use Rattle.std.specs.Option.{option_map}
use Rattle.std.proofs.lemmas.List.{append_assoc, drop_more}
use Rattle.plan_types.specs.Instance.{Instance, IsInstance}
use Rattle.slack_tables.specs.Course.{Course, course_of, course_route, IsCourseIn}
use Rattle.slack_tables.specs.Insertion.{KeepsLimits}
use Rattle.move_ops.specs.Changes.{changes_of, distinct_count, with_routes, AreCourses, AreToursOf, IsChange, IsRemoval, IsTourIfFeasible}
use Rattle.move_ops.specs.Moves.{without_named}
use Rattle.move_ops.specs.WholePairs.{are_paired}
use Rattle.move_ops.specs.FreshTables.{AreWithin}
use Rattle.move_ops.specs.Tables.{plan_of}
use Rattle.move_ops.specs.declared.changes.Change.{Change}
use Rattle.move_ops.proofs.DraftLemmas.{plan_with}
use Rattle.move_ops.proofs.FitLemmas.{paired}

changes_more : (tours : List (ℕ × Course)) (v : ℕ) (t : Course)
    → changes_of (tours ++ (v, t) ∷ []) ≡ changes_of tours ++ record { vehicle = v; route = course_route t } ∷ []
changes_more [] v t = refl
changes_more (e ∷ tours) v t = ap (λ (l : List Change). record { vehicle = e.0; route = course_route e.1 } ∷ l) (changes_more tours v t)

courses_more : (p : Instance) (tours : List (ℕ × Course)) (v : ℕ) (t : Course) → IsCourseIn p t → AreCourses p tours → AreCourses p (tours ++ (v, t) ∷ [])
courses_more p [] v t is all = (is, tt)
courses_more p (e ∷ tours) v t is all = (all.0, courses_more p tours v t is all.1)

-- the tours so far are those of the first k changes
pub record AreToursTo (p : Instance) (cs : List Change) (k : ℕ) (tours : List (ℕ × Course)) : Type 0 where
  pub changes : changes_of tours ++ drop k cs ≡ cs
  pub courses : AreCourses p tours

pub tours_more : (p : Instance) (cs : List Change) (k : ℕ) (x : Change) (tours more : List (ℕ × Course)) (t : Course)
    → x ≡ get_or cs k x → k < length cs → t ≡ course_of p x.route → course_route t ≡ x.route
    → more ≡ tours ++ (x.vehicle, t) ∷ [] → AreToursTo p cs k tours → AreToursTo p cs (k + 1) more
tours_more p cs k x tours more t at below course route is before = subst (AreToursTo p cs (k + 1)) (sym is) (record {
  changes =
      ap (λ l. l ++ drop (k + 1) cs) (changes_more tours x.vehicle t)
      ∙ (append_assoc (changes_of tours) (record { vehicle = x.vehicle; route = course_route t } ∷ []) (drop (k + 1) cs)
      ∙ (ap (λ (r : List ℕ). changes_of tours ++ record { vehicle = x.vehicle; route = r } ∷ drop (k + 1) cs) route
      ∙ (ap (λ l. changes_of tours ++ l) (ap (λ (y : Change). y ∷ drop (k + 1) cs) at ∙ sym (drop_more cs k x below)) ∙ before.changes)));
  courses = courses_more p tours x.vehicle t (ap (course_of p) route ∙ sym course) before.courses;
})

-- if change k passes a test, all changes from k on pass it exactly when all after k do
pub all_more : (test : Change → Bool) (cs : List Change) (k : ℕ) (x : Change) → x ≡ get_or cs k x → k < length cs → test x ≡ true
    → list_all test (drop (k + 1) cs) ≡ list_all test (drop k cs)
all_more test cs k x at below t =
    sym (ap (list_all test) (drop_more cs k x below ∙ ap (λ (y : Change). y ∷ drop (k + 1) cs) (sym at)) ∙ ap (λ b. b && list_all test (drop (k + 1) cs)) t)

pub all_broken : (test : Change → Bool) (cs : List Change) (k : ℕ) (x : Change) → x ≡ get_or cs k x → k < length cs → test x ≡ false
    → list_all test (drop k cs) ≡ false
all_broken test cs k x at below f =
    ap (list_all test) (drop_more cs k x below ∙ ap (λ (y : Change). y ∷ drop (k + 1) cs) (sym at)) ∙ ap (λ b. b && list_all test (drop (k + 1) cs)) f

-- setting one more tour makes one more change of the plan
pub routes_with : (tours new : List Course) (v : ℕ) (t : Course) (rest : List (ℕ × Course)) → new ≡ set tours (v - 1) t
    → with_routes (plan_of new) (changes_of rest) ≡ with_routes (plan_of tours) (changes_of ((v, t) ∷ rest))
routes_with tours new v t rest is = ap (λ (l : List (List ℕ)). with_routes l (changes_of rest)) (ap plan_of is ∙ plan_with tours (v - 1) t)

pub within_from : (n : ℕ) (tours : List (ℕ × Course)) → AllByRecursion (λ c. (1 ≤ c.vehicle) × (c.vehicle ≤ n)) (changes_of tours) → AreWithin n tours
within_from n [] all = tt
within_from n (t ∷ tours) all = (all.0, within_from n tours all.1)

-- a tour is built exactly when its route is feasible
pub tour_if_feasible : (p : Instance) → IsInstance p → (route : List ℕ) → are_paired p route ≡ true → (o : Option Course)
    → (IsSome o) ↔ KeepsLimits p route → IfSome o (λ t. t ≡ course_of p route) → IfSome o (λ t. course_route t ≡ route)
    → IsTourIfFeasible p route o
tour_if_feasible p valid route pairs None kept course same =
    sym (paired p valid route false pairs
    (λ h. absurd (let k : false ≡ true = h in cc), λ keep. absurd (let k : false ≡ true = kept.1 keep in cc)))
tour_if_feasible p valid route pairs (Some t) kept course same = (sym (paired p valid route true pairs (λ h. kept.0 refl, λ keep. refl)), course, same)

-- the result of a removal if all changed routes are feasible alone, or if one is not
module _ {V : Type 0} (items : V → List (ℕ × Course)) (p : Instance) (routes others : List (List ℕ)) (cs : List Change) (all : Bool)
    (plan : with_routes routes cs ≡ others) where
  abbrev pub RemovalResult : Option V → Type 0
  RemovalResult o = MatchOption o (all ≡ false) (λ ts. (all ≡ true) × AreToursOf p cs (items ts))

  pub removed_routes : (answer : Option (List (List ℕ))) → ((b : Bool) → b ≡ all → cond b (Some others) None ≡ answer) → (o : Option V)
      → RemovalResult o → option_map (λ ts. with_routes routes (changes_of (items ts))) o ≡ answer
  removed_routes answer by None reported = by false (sym reported)
  removed_routes answer by (Some ts) reported = ap (λ l. Some (with_routes routes l)) (reported.1.changes) ∙ (ap Some plan ∙ by true (sym reported.0))

  pub removal : (pins : List (List ℕ)) (names : List ℕ) (left : ℕ) → others ≡ without_named p names routes
      → (true ≡ all → IsChange p pins routes cs (left + distinct_count names)) → (o : Option V) → RemovalResult o
      → IfSome o (λ ts. IsRemoval p pins routes names left (items ts))
  removal pins names left are made None reported = tt
  removal pins names left are made (Some ts) reported = record {
    plan = ap (with_routes routes) (reported.1.changes) ∙ (plan ∙ are);
    change = subst (λ (l : List Change). IsChange p pins routes l (left + distinct_count names)) (sym (reported.1.changes)) (made (sym reported.0));
    courses = reported.1.courses;
  }
