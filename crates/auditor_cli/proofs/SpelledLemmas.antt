-- An instance spells at most one problem, and the text of a solution at most one solution. A text with a fault
-- spells none.
use Rattle.std.proofs.Common.{◌≡◌, ◌≤◌, ◌∙◌, ℕ, List, refl, sym, ap, subst, inl, inr, arith}
use Rattle.plan_audit.specs.Laws.{AreAllPlanned, IsSoundPlan, RoutesAreJudgedByTrueCost, SolutionsPassIffSound}
use Rattle.plan_audit.specs.Verdict.{IsRoutesVerdict, IsVerdict, printed}
use Rattle.plan_audit.specs.declared.rules.Verdict.{Verdict}
use Rattle.plan_audit.specs.declared.rules.Verdict.TheVariants.{Broken, Pass}
use Rattle.route_sched.specs.Cost.{cost_of, total_length, used_count}
use Rattle.plan_types.specs.Instance.{Instance, IsInstance}
use Rattle.sol_text.specs.Faults.{Spells, SpellsRoutes}
use Rattle.plan_types.specs.declared.solutions.Solution.{Solution}
use Rattle.instance_read.specs.Readings.{SpellsInstance}
use Rattle.instance_read.proofs.SpelledLemmas.{no_fault, problem_once}
use Rattle.instance_read.specs.declared.formats.Format.{Format}
use Rattle.auditor_cli.specs.Answer.{IsAnswer, IsRoutesAnswer, JudgesSpelled, SaysRoutesSound, SaysSound, AnswersVerdict, verdict_answer}
use Rattle.auditor_cli.specs.declared.answer.AuditAnswer.{AuditAnswer}

solution_once : (text : List ℕ) (s t : Solution) → Spells text s → Spells text t → s ≡ t
solution_once text s t a b = a.1 ∙ sym b.1

pub judges_spelled : (format : Format) (instance solution : List ℕ) (answer : AuditAnswer) → IsAnswer format instance solution answer → JudgesSpelled format instance solution answer
judges_spelled format instance solution answer (inl refuses) p s a b = absurd (no_fault format instance p a refuses.first.0 refuses.fault.line refuses.fault.kind refuses.first.1)
judges_spelled format instance solution answer (inr (inl refuses)) p s a b = absurd (b.0 refuses.fault.line refuses.fault.kind refuses.first.0)
judges_spelled format instance solution answer (inr (inr judges)) p s a b =
    subst (λ (q : Instance). AnswersVerdict q s answer) (problem_once format instance judges.problem p judges.problem_spelled a)
    (subst (λ (t : Solution). AnswersVerdict judges.problem t answer) (solution_once solution judges.plan s judges.plan_spelled b) judges.verdict)

-- ---- Status 0

abbrev IsVerdictOf : Instance → Solution → Verdict → Type 0
IsVerdictOf p s v = IsVerdict p (printed s.routes s.cost) v

says_by : (law : SolutionsPassIffSound) (format : Format) (instance solution : List ℕ) (answer : AuditAnswer) (p : Instance) (s : Solution) (v : Verdict)
    → SpellsInstance format instance p → Spells solution s → IsInstance p
    → IsVerdictOf p s v → answer ≡ verdict_answer v → SaysSound format instance solution answer
says_by law format instance solution answer p s (Pass cost) a b kept is reported =
    let sound = (law p s.routes s.cost (Pass cost) kept is).0 (ap (λ c. Pass c) is.1) in (
      λ _. record { problem = p; problem_spelled = a; plan = s; plan_spelled = b; sound = sound.0; complete = sound.1; fleet = sound.2; distance = sound.3 },
      λ _. ap (λ (x : AuditAnswer). x.status) reported,
    )
says_by law format instance solution answer p s (Broken rule route place stop) a b kept is reported = (
  λ zero. let one : answer.status ≡ 1 = ap (λ (x : AuditAnswer). x.status) reported in absurd (omega (arith, zero, one)),
  λ sound.
      let same_problem : sound.problem ≡ p = problem_once format instance sound.problem p sound.problem_spelled a in
      let same_plan : sound.plan ≡ s = solution_once solution sound.plan s sound.plan_spelled b in
      let facts : IsSoundPlan p s.routes × AreAllPlanned p s.routes × (used_count s.routes ≤ p.fleet) × (s.cost ≡ total_length p s.routes) =
      rw (← same_problem, ← same_plan) (sound.sound, sound.complete, sound.fleet, sound.distance) in
      let passes : Broken rule route place stop ≡ Pass (cost_of p s.routes) = (law p s.routes s.cost (Broken rule route place stop) kept is).1 facts in
      absurd cc,
)

pub says_sound : (law : SolutionsPassIffSound) (format : Format) (instance solution : List ℕ) (answer : AuditAnswer) → IsAnswer format instance solution answer → SaysSound format instance solution answer
says_sound law format instance solution answer (inl refuses) = (
  λ zero. let two : answer.status ≡ 2 = ap (λ (x : AuditAnswer). x.status) refuses.reported in absurd (omega (arith, zero, two)),
  λ sound. absurd (no_fault format instance sound.problem sound.problem_spelled refuses.first.0 refuses.fault.line refuses.fault.kind refuses.first.1),
)
says_sound law format instance solution answer (inr (inl refuses)) = (
  λ zero. let two : answer.status ≡ 2 = ap (λ (x : AuditAnswer). x.status) refuses.reported in absurd (omega (arith, zero, two)),
  λ sound. absurd (sound.plan_spelled.0 refuses.fault.line refuses.fault.kind refuses.first.0),
)
says_sound law format instance solution answer (inr (inr judges)) =
    says_by law format instance solution answer judges.problem judges.plan judges.verdict.verdict judges.problem_spelled judges.plan_spelled judges.problem_kept
    judges.verdict.is_verdict judges.verdict.reported

-- ---- The routes only

says_routes_by : (law : SolutionsPassIffSound) (true_cost : RoutesAreJudgedByTrueCost) (format : Format) (instance solution : List ℕ) (answer : AuditAnswer) (p : Instance) (routes : List (List ℕ)) (v : Verdict)
    → SpellsInstance format instance p → SpellsRoutes solution routes → IsInstance p → IsRoutesVerdict p routes v → answer ≡ verdict_answer v → SaysRoutesSound format instance solution answer
says_routes_by law true_cost format instance solution answer p routes (Pass cost) a b kept is reported =
    let printed_is = (true_cost p routes (Pass cost)).0 is in
    let sound = (law p routes (total_length p routes) (Pass cost) kept printed_is).0 (ap (λ c. Pass c) printed_is.1) in (
      λ _. record { problem = p; problem_spelled = a; routes = routes; routes_spelled = b; sound = sound.0; complete = sound.1; fleet = sound.2 },
      λ _. ap (λ (x : AuditAnswer). x.status) reported,
    )
says_routes_by law true_cost format instance solution answer p routes (Broken rule route place stop) a b kept is reported = (
  λ zero. let one : answer.status ≡ 1 = ap (λ (x : AuditAnswer). x.status) reported in absurd (omega (arith, zero, one)),
  λ sound.
      let same_problem : sound.problem ≡ p = problem_once format instance sound.problem p sound.problem_spelled a in
      let same_routes : sound.routes ≡ routes = sound.routes_spelled.1 ∙ sym b.1 in
      let facts : IsSoundPlan p routes × AreAllPlanned p routes × (used_count routes ≤ p.fleet) × (total_length p routes ≡ total_length p routes) =
      rw (← same_problem, ← same_routes) (sound.sound, sound.complete, sound.fleet, refl) in
      let printed_is = (true_cost p routes (Broken rule route place stop)).0 is in
      let passes : Broken rule route place stop ≡ Pass (cost_of p routes) = (law p routes (total_length p routes) (Broken rule route place stop) kept printed_is).1 facts in
      absurd cc,
)

pub says_routes_sound : (law : SolutionsPassIffSound) (true_cost : RoutesAreJudgedByTrueCost) (format : Format) (instance solution : List ℕ)
    (answer : AuditAnswer) → IsRoutesAnswer format instance solution answer → SaysRoutesSound format instance solution answer
says_routes_sound law true_cost format instance solution answer (inl refuses) = (
  λ zero. let two : answer.status ≡ 2 = ap (λ (x : AuditAnswer). x.status) refuses.reported in absurd (omega (arith, zero, two)),
  λ sound. absurd (no_fault format instance sound.problem sound.problem_spelled refuses.first.0 refuses.fault.line refuses.fault.kind refuses.first.1),
)
says_routes_sound law true_cost format instance solution answer (inr (inl refuses)) = (
  λ zero. let two : answer.status ≡ 2 = ap (λ (x : AuditAnswer). x.status) refuses.reported in absurd (omega (arith, zero, two)),
  λ sound. absurd (sound.routes_spelled.0 refuses.fault.line refuses.fault.kind refuses.first.0),
)
says_routes_sound law true_cost format instance solution answer (inr (inr judges)) =
    says_routes_by law true_cost format instance solution answer judges.problem judges.routes judges.verdict judges.problem_spelled judges.routes_spelled judges.problem_kept judges.is_verdict judges.reported
