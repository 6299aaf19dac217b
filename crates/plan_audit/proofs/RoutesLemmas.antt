-- Routes without a printed cost.
use Rattle.std.proofs.Common.{◌≢◌, ℕ, ◌≤◌, List, refl, arith}
use Rattle.plan_types.specs.Instance.{Instance}
use Rattle.plan_types.specs.declared.plans.Cost.{Cost}
use Rattle.route_sched.specs.Cost.{total_length}
use Rattle.plan_audit.specs.Laws.{RoutesAreJudgedByTrueCost}
use Rattle.plan_audit.specs.Verdict.{Subject, printed, rule_number, Breaks, KeepsRules, IsFirstBroken, IsRoutesVerdict, IsVerdict, IsVerdictWithin}
use Rattle.plan_audit.specs.declared.rules.Rule.{Rule}
use Rattle.plan_audit.specs.declared.rules.Rule.TheVariants.{PrintedCost}
use Rattle.plan_audit.specs.declared.rules.Verdict.{Verdict}
use Rattle.plan_audit.specs.declared.rules.Verdict.TheVariants.{Pass, Broken}
use Rattle.plan_audit.proofs.StepLemmas.{true_cost_step}
use Rattle.plan_audit.proofs.VerdictLemmas.{broken_wider}

module _ (p : Instance) (routes : List (List ℕ)) where
  -- the rules before the last do not depend on the cost
  other_cost : (c d : ℕ) (k : Rule) (r i n : ℕ) → rule_number k ≤ 10 → Breaks p (printed routes c) k r i n → Breaks p (printed routes d) k r i n
  other_cost c d PrintedCost r i n to b = absurd (omega (arith, to))
  other_cost c d _ r i n to b = b

  -- if the cost is true, a broken rule comes before the last
  before_last : (k : Rule) (r i n : ℕ) → Breaks p (printed routes (total_length p routes)) k r i n → rule_number k ≤ 10
  before_last PrintedCost r i n b = absurd (b.2 refl)
  before_last _ r i n b = omega arith

  fewer_kept : (c d : ℕ) → KeepsRules 1 11 p (printed routes c) → KeepsRules 1 10 p (printed routes d)
  fewer_kept c d kept m r i n from to b = kept m r i n from (omega arith) (other_cost d c m r i n to b)

  fewer_least : (d : ℕ) (k : Rule) (r i n : ℕ) → IsFirstBroken 1 11 p (printed routes (total_length p routes)) k r i n
      → IsFirstBroken 1 10 p (printed routes d) k r i n
  fewer_least d k r i n one =
      let c = total_length p routes in
      let to = before_last k r i n (one.broken) in
      record {
        from = one.from;
        to = to;
        broken = other_cost c d k r i n to (one.broken);
        least = λ m q j t from most b. one.least m q j t from (omega arith) (other_cost d c m q j t most b);
      }

  as_printed : (v : Verdict) → IsRoutesVerdict p routes v → IsVerdict p (printed routes (total_length p routes)) v
  as_printed (Pass cost) is = let here = is (total_length p routes) in (true_cost_step p routes (total_length p routes) here.0 refl, here.1)
  as_printed (Broken rule r i n) is =
      broken_wider p (printed routes (total_length p routes)) 1 10 11 (Broken rule r i n) (omega arith) (is (total_length p routes))

  as_routes : (v : Verdict) → IsVerdict p (printed routes (total_length p routes)) v → IsRoutesVerdict p routes v
  as_routes (Pass cost) is d = (fewer_kept (total_length p routes) d is.0, is.1)
  as_routes (Broken rule r i n) is d = (is.0, is.1, fewer_least d is.0 r i n is.2)

-- a verdict `Broken` on the first ten rules is the verdict on all
pub still_broken : (p : Instance) (s : Subject) (v : Verdict) → ((cost : Cost) → v ≢ Pass cost) → IsVerdictWithin 1 10 p s v → IsVerdict p s v
still_broken p s (Pass cost) broken is = absurd (broken cost refl)
still_broken p s (Broken rule r i n) broken is = broken_wider p s 1 10 11 (Broken rule r i n) (omega arith) is

pub routes_are_judged_by_true_cost : RoutesAreJudgedByTrueCost
routes_are_judged_by_true_cost p routes v = (as_printed p routes v, as_routes p routes v)
