-- The text that `explain` adds after the line of the audit.
use Rattle.std.specs.Prelude.{ℕ, ◌==◌, if◌then◌else◌, Bool, true, false, List, [], ◌∷◌, ◌++◌, Option, None, Some, codes, decimal}
use Rattle.plan_types.specs.Instance.{Instance}
use Rattle.plan_types.specs.declared.solutions.Solution.{Solution}
use Rattle.plan_audit.specs.Verdict.{rule_of}
use Rattle.plan_audit.specs.declared.rules.Rule.{Rule}
use Rattle.plan_audit.specs.declared.rules.Rule.TheVariants.{PrintedCost}
use Rattle.plan_audit.specs.declared.rules.Verdict.{Verdict}
use Rattle.plan_audit.specs.declared.rules.Verdict.TheVariants.{Broken, Pass}
use Rattle.route_sched.specs.Cost.{total_length}
use Rattle.rule_violations.specs.KnownSchedule.{schedule_is_known}
use Rattle.plan_explain.specs.OtherViolations.{other_violations_text, later_rules_text}
use Rattle.plan_explain.specs.Templates.{form}
use Rattle.plan_explain.specs.Sentences.{reported_route, sentence}
use Rattle.plan_explain.specs.Summaries.{summary_text}
use Rattle.plan_explain.specs.Tables.{stops_table, table_text}
use Rattle.plan_explain.specs.declared.verdicts.Fault.{Fault}

-- the route of the violation, without times if its schedule is not known; nothing if the violation has no route,
-- so that r is 0
abbrev pub route_shown : Instance → List (List ℕ) → Rule → ℕ → List ℕ
route_shown p routes rule r =
    if r == 0 then []
    else if schedule_is_known rule then table_text p (reported_route routes r)
    else stops_table (codes "place   stop\n") (reported_route routes r)

-- the routes that explain the violation: its own route as a table, or for a wrong cost a line for each route
abbrev pub shown_text : Instance → List (List ℕ) → Rule → ℕ → List ℕ
shown_text p routes PrintedCost r = summary_text p routes
shown_text p routes rule r = route_shown p routes rule r

-- a violation: its sentence, the route, how many places break the rule and where, and how often each later rule
-- is broken
abbrev pub fault_text : Instance → List (List ℕ) → Fault → List ℕ
fault_text p routes f =
    sentence p routes f ++ codes "\n" ++ shown_text p routes f.rule f.route ++ other_violations_text p routes f.rule ++ later_rules_text p routes f.rule

-- the text for a violation of the rule that a verdict names; nothing if no rule has the verdict's number
abbrev pub broken_text : Instance → Solution → Option Rule → ℕ → ℕ → ℕ → List ℕ
broken_text p plan None r i n = []
broken_text p plan (Some rule) r i n = fault_text p plan.routes (record { rule = rule; route = r; place = i; stop = n; printed = plan.cost })

-- the text for a verdict: that of its violation, or a line for each route of a solution that passes
abbrev pub verdict_text : Instance → Solution → Verdict → List ℕ
verdict_text p plan (Pass cost) = summary_text p plan.routes
verdict_text p plan (Broken rule r i n) = broken_text p plan (rule_of rule) r i n

-- whether the schedule is known if this is the first broken rule: no stop is unknown or appears twice; false
-- without a rule
abbrev pub rule_schedule_is_known : Option Rule → Bool
rule_schedule_is_known None = false
rule_schedule_is_known (Some rule) = schedule_is_known rule

-- whether the verdict shows that no stop is unknown or appears twice, so that the schedule is known
abbrev pub verdict_schedule_is_known : Verdict → Bool
verdict_schedule_is_known (Pass cost) = true
verdict_schedule_is_known (Broken rule r i n) = rule_schedule_is_known (rule_of rule)

-- the line with the distance of routes with this verdict; nothing if their schedule is not known
abbrev pub distance_text : Instance → List (List ℕ) → Verdict → List ℕ
distance_text p routes verdict = if verdict_schedule_is_known verdict then form (codes "distance that the routes drive, each way rounded: @\n") (decimal (total_length p routes) ∷ []) else []
