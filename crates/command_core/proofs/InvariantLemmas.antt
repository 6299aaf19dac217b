-- Every accepted command keeps the invariants of a state
use Rattle.std.proofs.Common.{◌≡◌, ℕ, ◌+◌, ◌-◌, ◌<◌, ◌≤◌, ◌^◌, Bool, true, false, cond, not, ◌&&◌, List, [], length, take, Option, Some, None, refl, sym, ◌∙◌, nat_le, arith}
use Rattle.std.specs.Option.{option_map_or}
use Rattle.std.proofs.lemmas.Bool.{and_parts, leb-true}
use Rattle.std.proofs.lemmas.List.{length-set, length-replicate}
use Rattle.plan_types.specs.Instance.{Instance, IsInstance, with_request}
use Rattle.plan_types.specs.Laws.{NewNumbersAreFree, StopsAreBelowNext, PutKeepsProblemValid, PutKeepsOthers, TakeKeepsProblemValid, TakeKeepsOthers, RequestsAreStoredByName}
use Rattle.plan_types.specs.Request.{IsRequest}
use Rattle.plan_types.specs.declared.requests.Request.{Request}
use Rattle.route_sched.specs.Cost.{is_planned}
use Rattle.route_sched.specs.Route.{IsKnownStop}
use Rattle.plan_audit.specs.Passes.{feasible_alone, passes}
use Rattle.plan_audit.specs.Locality.{FeasibilityIsLocal, PassingIsLocal, PlansAreDisjointRoutes, PinsAreDistinctStops}
use Rattle.move_ops.specs.Insertion.{request_named, route_of, with_route}
use Rattle.seeded_search.specs.Steps.{unplanned_names}
use Rattle.seeded_search.specs.StepLaws.{StepsKeepPassing}
use Rattle.anneal_search.specs.AnnealLaws.{AnnealStepsKeepPassing}
use Rattle.fleet_reduction.specs.Laws.{AttemptsKeepPlans}
use Rattle.fleet_reduction.specs.Attempts.{all_attempts}
use Rattle.command_types.specs.Job.{JobValue, IsJob}
use Rattle.command_types.specs.AddedRequests.{is_spot, is_demand, single_at, pair_at}
use Rattle.command_core.specs.Effects.{loaded, added, withdrawn, searched, annealed, reduced, job_after}
use Rattle.command_core.specs.Refusals.{is_vehicle, pinned_refusal, job_refusal}
use Rattle.command_types.specs.Commands.{IsCommand}
use Rattle.command_core.specs.RunLaws.{CommandsKeepInvariants}
use Rattle.command_types.specs.declared.states.State.TheVariants.{Empty, Loaded}
use Rattle.command_types.specs.declared.refusals.Refusal.{Refusal}
use Rattle.command_types.specs.declared.refusals.Refusal.TheVariants.{NoSuchRequest, Pinned}
use Rattle.command_types.specs.declared.commands.Command.{Command}
use Rattle.command_types.specs.declared.commands.Command.TheVariants.{Load, Add, Add1, Withdraw, Pin, Unpin, Build, Search, Deviation, Anneal, Reduce, Adopt}
use Rattle.command_types.proofs.AddLemmas.{single_is_request, pair_is_request, IsNext, new_problem, same_at_known}
use Rattle.command_types.proofs.PassLemmas.{passes_same, all_feasible_same, numbers_known, routes_known, pins_known}
use Rattle.fleet_reduction.proofs.PickedLemmas.{none_feasible}
use Rattle.command_core.proofs.PinLemmas.{none_all_feasible, none_passes, set_all, unpinned_passes, pinned_passes}
use Rattle.seeded_search.proofs.SearchLemmas.{placed_all_passes}
use Rattle.plan_types.specs.declared.limits.TheConstants.{MAX_DEVIATION}
use Rattle.command_core.proofs.WithdrawLemmas.{pins_others, withdrawn_passes, pins_still_feasible}

-- The laws of the crates below
pub record LowerLaws : Type 0 where
  pub feasibility : FeasibilityIsLocal
  pub local : PassingIsLocal
  pub plans : PlansAreDisjointRoutes
  pub pins : PinsAreDistinctStops
  pub fresh : NewNumbersAreFree
  pub below : StopsAreBelowNext
  pub put : PutKeepsProblemValid
  pub put_others : PutKeepsOthers
  pub take : TakeKeepsProblemValid
  pub take_others : TakeKeepsOthers
  pub named : RequestsAreStoredByName
  pub steps : StepsKeepPassing
  pub anneal_steps : AnnealStepsKeepPassing
  pub tries : AttemptsKeepPlans

refused : {X : Type 0} (r : Refusal) → Some r ≡ None → X
refused r h = absurd (let g = h in cc)

-- If a sequence of tests refuses nothing, its first test passed, and so did the later tests
accepted_so : (b : Bool) (r : Refusal) (o : Option Refusal) → cond (not b) (Some r) o ≡ None → (b ≡ true) × (o ≡ None)
accepted_so true r o none = (refl, none)
accepted_so false r o none = refused r none

requested_last : (b : Bool) (r : Refusal) → cond b None (Some r) ≡ None → b ≡ true
requested_last true r none = refl
requested_last false r none = refused r none

pub loaded_job : (p : Instance) (seed : ℕ) → IsInstance p → seed < 2 ^ 64 → IsJob (loaded p seed)
loaded_job p seed valid within = record {
  problem = valid;
  fleet = length-replicate p.fleet [];
  pins = none_all_feasible p p.fleet;
  plan = none_passes p;
  work = none_passes p;
  deviation = omega arith;
  seed = within;
  steps = omega arith;
}

-- Replacing both plans by plans that pass, and replacing the number of steps, keeps the invariants of a job
with_plans : (j : JobValue) → IsJob j → (plan work : List (List ℕ)) → passes j.problem j.pins plan ≡ true → passes j.problem j.pins work ≡ true → (steps : ℕ) → steps ≤ 2 ^ 60
    → IsJob (record j { plan = plan; work = work; steps = steps })
with_plans j is plan work plan_passes work_passes steps within = record {
  problem = is.problem;
  fleet = is.fleet;
  pins = is.pins;
  plan = plan_passes;
  work = work_passes;
  deviation = is.deviation;
  seed = is.seed;
  steps = within;
}

-- Replacing a pin keeps the invariants of a job, if the new pin is feasible by itself and the plan passes with
-- it
with_pins : (j : JobValue) → IsJob j → (v : ℕ) (pin : List ℕ) → feasible_alone j.problem pin ≡ true → passes j.problem (with_route j.pins v pin) j.plan ≡ true
    → IsJob (record j { pins = with_route j.pins v pin; work = j.plan })
with_pins j is v pin feasible good = record {
  problem = is.problem;
  fleet = length-set j.pins _ pin ∙ is.fleet;
  pins = set_all (feasible_alone j.problem) j.pins _ pin (is.pins) feasible;
  plan = good;
  work = good;
  deviation = is.deviation;
  seed = is.seed;
  steps = is.steps;
}

module _ (laws : LowerLaws) (j : JobValue) (is : IsJob j) where
  added_job : (r : Request) → IsNext j.problem r → IsRequest r → IsJob (added j r)
  added_job r next request =
      let p = j.problem in
      let fresh = laws.fresh in
      let agree = same_at_known fresh p r (is.problem) next (laws.put_others) (laws.below) in
      let good = passes_same (laws.feasibility) (laws.local) (laws.plans) p (with_request p r) j.pins j.plan agree (is.plan) in
      let known = numbers_known p j.pins (pins_known (laws.pins) p j.pins j.plan (is.plan)) in
      record {
        problem = new_problem fresh p r (is.problem) next (laws.put) request;
        fleet = is.fleet;
        pins = sym (all_feasible_same p (with_request p r) (IsKnownStop p) agree (laws.feasibility) j.pins known) ∙ is.pins;
        plan = good;
        work = good;
        deviation = is.deviation;
        seed = is.seed;
        steps = is.steps;
      }

  withdrawn_job : (name : ℕ) (r : Request) → request_named j.problem name ≡ Some r → is_planned j.pins r ≡ false → IsJob (withdrawn j name)
  withdrawn_job name r named free =
      let p = j.problem in
      let take = laws.take in
      let valid = is.problem in
      let known = numbers_known p j.plan (routes_known (laws.local) (laws.plans) p j.pins j.plan (is.plan)) in
      let known_pins = numbers_known p j.pins (pins_known (laws.pins) p j.pins j.plan (is.plan)) in
      let others = pins_others p name valid (laws.named) j.pins r named free in
      let good = withdrawn_passes p name valid (laws.feasibility) (laws.take_others) j.pins j.plan (is.plan) (is.fleet) known known_pins others (is.pins) in
      record {
        problem = take p name valid;
        fleet = is.fleet;
        pins = pins_still_feasible p name valid (laws.feasibility) (laws.take_others) j.pins j.plan (is.plan) (is.fleet) known known_pins others (is.pins);
        plan = good;
        work = good;
        deviation = is.deviation;
        seed = is.seed;
        steps = is.steps;
      }

  searched_job : (count : ℕ) → j.steps + count ≤ 2 ^ 60 → IsJob (searched j count)
  searched_job count within =
      let steps = laws.steps in
      let both = steps j.problem j.pins j.deviation j.seed j.steps count (record { incumbent = j.plan; working = j.work }) (record { incumbent = is.plan; working = is.work }) in
      with_plans j is _ _ (both.incumbent) (both.working) (j.steps + count) within

  annealed_job : (count : ℕ) → j.steps + count ≤ 2 ^ 60 → IsJob (annealed j count)
  annealed_job count within =
      let steps = laws.anneal_steps in
      let both = steps j.problem j.pins j.deviation j.seed j.steps count (record { incumbent = j.plan; working = j.work }) (record { incumbent = is.plan; working = is.work }) in
      with_plans j is _ _ (both.incumbent) (both.working) (j.steps + count) within

  reduced_job : (count : ℕ) → j.steps + count ≤ 2 ^ 60 → IsJob (reduced j count)
  reduced_job count within =
      let t = all_attempts j.problem j.pins j.seed count j.steps j.plan in
      let kept = laws.tries j.problem j.pins j.plan j.seed count j.steps is.fleet is.problem.fleet is.plan in
      let steps = laws.anneal_steps in
      let both = steps j.problem j.pins j.deviation j.seed t.step (j.steps + count - t.step) (record { incumbent = t.plan; working = t.plan })
      (record { incumbent = kept.plan; working = kept.plan }) in
      with_plans j is _ _ (both.incumbent) (both.working) (j.steps + count) within

  found : (name : ℕ) → job_refusal j (Withdraw name) ≡ None → (r : Request) × (request_named j.problem name ≡ Some r) × (is_planned j.pins r ≡ false)
  found name none = by (request_named j.problem name) refl none
    where
      free : (r : Request) (b : Bool) → cond b (Some Pinned) None ≡ None → b ≡ false
      free r false none = refl
      free r true none = refused Pinned none

      by : (o : Option Request) → request_named j.problem name ≡ o → option_map_or (pinned_refusal j) o (Some NoSuchRequest) ≡ None
          → (r : Request) × (request_named j.problem name ≡ Some r) × (is_planned j.pins r ≡ false)
      by None e none = refused NoSuchRequest none
      by (Some r) e none = (r, e, free r (is_planned j.pins r) none)

  job_keeps_facts : (c : Command) → IsCommand c → job_refusal j c ≡ None → IsJob (job_after j c)
  job_keeps_facts (Load p seed) command none = loaded_job p seed command.0 command.1
  job_keeps_facts (Add q a b) command none =
      let t = accepted_so _ _ _ none in
      let u = leb-true (j.problem.next_number + 2) 40001 (requested_last _ _ t.1) in
      let goods = and_parts (is_demand q) (is_spot a && is_spot b) t.0 in
      let spots = and_parts (is_spot a) (is_spot b) goods.1 in
      let n = j.problem.next_number in
      let valid = is.problem in
      added_job (pair_at n q a b) (omega arith, (omega arith, tt)) (pair_is_request n q a b (valid.next_number_min) (omega arith) goods.0 spots.0 spots.1)
  job_keeps_facts (Add1 q s) command none =
      let t = accepted_so _ _ _ none in
      let u = leb-true (j.problem.next_number + 1) 40001 (requested_last _ _ t.1) in
      let goods = and_parts (is_demand q) (is_spot s) t.0 in
      let n = j.problem.next_number in
      let valid = is.problem in
      added_job (single_at n q s) (omega arith, tt) (single_is_request n q s (valid.next_number_min) (omega arith) goods.0 goods.1)
  job_keeps_facts (Withdraw name) command none = let t = found name none in withdrawn_job name t.0 t.1 t.2
  job_keeps_facts (Pin v k) command none =
      let t = accepted_so _ _ _ none in
      let u = requested_last _ _ t.1 in
      let vehicle = and_parts (is_vehicle j.problem v) (nat_le k (length (route_of j.plan v))) t.0 in
      let from = leb-true 1 v (and_parts (nat_le 1 v) (nat_le v j.problem.fleet) vehicle.0).0 in
      with_pins j is v (take k (route_of j.plan v)) u (pinned_passes j.problem j.pins j.plan (is.plan) v k from)
  job_keeps_facts (Unpin v) command none = with_pins j is v [] (none_feasible j.problem) (unpinned_passes j.problem j.pins j.plan (is.plan) v)
  job_keeps_facts Build command none =
      let good = placed_all_passes j.problem j.pins (unplanned_names j.problem j.plan) j.plan (is.plan) in
      with_plans j is _ _ good good j.steps (is.steps)
  job_keeps_facts (Search count) command none = let t = accepted_so _ _ _ none in searched_job count (leb-true (j.steps + count) (2 ^ 60) (requested_last _ _ t.1))
  job_keeps_facts (Deviation d) command none = record {
    problem = is.problem;
    fleet = is.fleet;
    pins = is.pins;
    plan = is.plan;
    work = is.plan;
    deviation = leb-true d MAX_DEVIATION (requested_last _ _ none);
    seed = is.seed;
    steps = is.steps;
  }
  job_keeps_facts (Anneal count) command none = let t = accepted_so _ _ _ none in annealed_job count (leb-true (j.steps + count) (2 ^ 60) (requested_last _ _ t.1))
  job_keeps_facts (Reduce count) command none = let t = accepted_so _ _ _ none in reduced_job count (leb-true (j.steps + count) (2 ^ 60) (requested_last _ _ t.1))
  job_keeps_facts (Adopt plan) command none = let t = accepted_so _ _ _ none in with_plans j is plan.routes plan.routes t.0 t.0 j.steps (is.steps)
  job_keeps_facts c command none = is

pub commands_keep_invariants : LowerLaws → CommandsKeepInvariants
commands_keep_invariants laws (Loaded j) c is command none = job_keeps_facts laws j is c command none
commands_keep_invariants laws Empty (Load p seed) is command none = loaded_job p seed command.0 command.1
commands_keep_invariants laws Empty c is command none = tt
