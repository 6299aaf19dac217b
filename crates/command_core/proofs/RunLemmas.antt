-- Sequences of commands never raise the plan's cost between changes, and preserve the invariants of states
use Rattle.std.proofs.Common.{◌≡◌, ℕ, zero, suc, ◌+◌, ◌-◌, ◌≤◌, ◌||◌, Bool, true, false, cond, not, IsTrue, List, [], ◌∷◌, Some, None, refl, ◌∙◌, arith}
use Rattle.std.specs.List.{list_any}
use Rattle.plan_types.specs.Cost.{CostsAreTotal, CostsAreTransitive, BelowIsAtMost}
use Rattle.route_sched.specs.Cost.{cost_of}
use Rattle.plan_audit.specs.Passes.{passes}
use Rattle.seeded_search.specs.Steps.{unplanned_names, search_plans}
use Rattle.seeded_search.specs.StepLaws.{IncumbentsNeverCostMore}
use Rattle.anneal_search.specs.Annealing.{anneal_steps}
use Rattle.anneal_search.specs.AnnealLaws.{AnnealingNeverCostsMore}
use Rattle.fleet_reduction.specs.Laws.{AttemptsNeverCostMore}
use Rattle.fleet_reduction.specs.Attempts.{all_attempts}
use Rattle.command_core.specs.Effects.{effect}
use Rattle.command_core.specs.Refusals.{costs_more, refusal}
use Rattle.command_types.specs.Commands.{changes_requests, changes_pins, is_change}
use Rattle.command_core.specs.Runs.{after, AreAccepted, last_change}
use Rattle.command_core.specs.RunLaws.{CommandsKeepInvariants, RunsKeepInvariants, IsNoWorse, CostsNeverRise, HaveSamePins, PlansNeverCostMore}
use Rattle.command_types.specs.declared.states.State.{State}
use Rattle.command_types.specs.declared.states.State.TheVariants.{Empty, Loaded}
use Rattle.command_types.specs.declared.refusals.Refusal.{Refusal}
use Rattle.command_types.specs.declared.refusals.Refusal.TheVariants.{NotAPlan, Dearer}
use Rattle.command_types.specs.declared.commands.Command.{Command}
use Rattle.command_types.specs.declared.commands.Command.TheVariants.{Load, Add, Add1, Withdraw, Pin, Unpin, Build, Search, Anneal, Reduce, Adopt}
use Rattle.command_core.proofs.InsertionLemmas.{same_cost, placed_all_cost}

pub runs_keep_facts : CommandsKeepInvariants → RunsKeepInvariants
runs_keep_facts keep s [] is accepted = is
runs_keep_facts keep s (c ∷ cs) is accepted = runs_keep_facts keep (effect s c) cs (keep s c is accepted.0 accepted.1) accepted.2

clash : {X : Type 0} → true ≡ false → X
clash h = absurd (let g = h in cc)

refused : {X : Type 0} (r : Refusal) → Some r ≡ None → X
refused r h = absurd (let g = h in cc)

-- Before the first Load no other command is accepted
not_loaded : {X : Type 0} (c : Command) → refusal Empty c ≡ None → changes_requests c ≡ false → X
not_loaded (Load p seed) none kept = clash kept
not_loaded c none kept = refused _ none

-- An adopted plan costs no more than the incumbent
no_dearer : (passing dearer : Bool) → cond (not passing) (Some NotAPlan) (cond dearer (Some Dearer) None) ≡ None → IsTrue (not dearer)
no_dearer true false none = refl
no_dearer true true none = refused Dearer none
no_dearer false dearer none = refused NotAPlan none

module _ (total : CostsAreTotal) (transitive : CostsAreTransitive) (below : BelowIsAtMost) (search : IncumbentsNeverCostMore) (anneal : AnnealingNeverCostsMore) (tries : AttemptsNeverCostMore) where
  pub costs_never_rise : CostsNeverRise
  costs_never_rise (Loaded j) (Load p seed) none kept = clash kept
  costs_never_rise (Loaded j) (Add q a b) none kept = clash kept
  costs_never_rise (Loaded j) (Add1 q s) none kept = clash kept
  costs_never_rise (Loaded j) (Withdraw name) none kept = clash kept
  costs_never_rise (Loaded j) Build none kept = record { problem = refl; cost = placed_all_cost total transitive below j.problem j.pins (unplanned_names j.problem j.plan) j.plan }
  costs_never_rise (Loaded j) (Search count) none kept =
      record { problem = refl; cost = search j.problem j.pins j.deviation j.seed j.steps count (record { incumbent = j.plan; working = j.work }) }
  costs_never_rise (Loaded j) (Anneal count) none kept =
      record { problem = refl; cost = anneal j.problem j.pins j.deviation j.seed j.steps count (record { incumbent = j.plan; working = j.work }) }
  costs_never_rise (Loaded j) (Reduce count) none kept =
      let t = all_attempts j.problem j.pins j.seed count j.steps j.plan in
      let s = anneal_steps j.problem j.pins j.deviation j.seed t.step (j.steps + count - t.step) (search_plans t.plan t.plan) in
      record {
        problem = refl;
        cost =
            transitive (cost_of j.problem s.incumbent) (cost_of j.problem t.plan) (cost_of j.problem j.plan)
            (anneal j.problem j.pins j.deviation j.seed t.step (j.steps + count - t.step) (search_plans t.plan t.plan))
            (tries j.problem j.pins j.plan j.seed count j.steps);
      }
  costs_never_rise (Loaded j) (Adopt plan) none kept = record { problem = refl; cost = no_dearer (passes j.problem j.pins plan.routes) (costs_more j.problem plan.routes j.plan) none }
  costs_never_rise (Loaded j) c none kept = record { problem = refl; cost = same_cost total transitive below j.problem j.pins j.plan }
  costs_never_rise Empty c none kept = not_loaded c none kept

  -- The second state is no worse than the first and has the same pins
  abbrev IsAsGood : State → State → Type 0
  IsAsGood s t = IsNoWorse s t × HaveSamePins s t

  as_good : (s : State) → IsAsGood s s
  as_good Empty = (tt, tt)
  as_good (Loaded j) = (record { problem = refl; cost = same_cost total transitive below j.problem j.pins j.plan }, refl)

  as_good_on : (s t u : State) → IsAsGood s t → IsAsGood t u → IsAsGood s u
  as_good_on Empty Empty u a b = b
  as_good_on Empty (Loaded j) u a b = absurd a.0
  as_good_on (Loaded i) Empty u a b = absurd a.0
  as_good_on (Loaded i) (Loaded j) Empty a b = absurd b.0
  as_good_on (Loaded i) (Loaded j) (Loaded k) a b =
      let first = a.0 in
      let second = b.0 in (
        record {
          problem = second.problem ∙ first.problem;
          cost = transitive (cost_of k.problem k.plan) (cost_of j.problem j.plan) (cost_of i.problem i.plan) (second.cost) (first.cost);
        },
        b.1 ∙ a.1,
      )

  neither : (a b : Bool) → (a || b) ≡ false → (a ≡ false) × (b ≡ false)
  neither false b none = (refl, none)
  neither true b none = clash none

  -- A command that may not change requests or pins keeps the pins
  pins_kept : (s : State) (c : Command) → refusal s c ≡ None → is_change c ≡ false → HaveSamePins s (effect s c)
  pins_kept (Loaded j) (Load p seed) none kept = clash kept
  pins_kept (Loaded j) (Add q a b) none kept = clash kept
  pins_kept (Loaded j) (Add1 q s) none kept = clash kept
  pins_kept (Loaded j) (Withdraw name) none kept = clash kept
  pins_kept (Loaded j) (Pin v k) none kept = clash kept
  pins_kept (Loaded j) (Unpin v) none kept = clash kept
  pins_kept (Loaded j) c none kept = refl
  pins_kept Empty c none kept = not_loaded c none (neither (changes_requests c) (changes_pins c) kept).0

  one_kept : (s : State) (c : Command) → refusal s c ≡ None → is_change c ≡ false → IsAsGood s (effect s c)
  one_kept s c none kept = (costs_never_rise s c none (neither (changes_requests c) (changes_pins c) kept).0, pins_kept s c none kept)

  -- If none of these commands changes requests or pins, both stay the same and the plan costs no more
  all_kept : (s : State) (cs : List Command) → AreAccepted s cs → list_any is_change cs ≡ false → IsAsGood s (after s cs)
  all_kept s [] accepted none = as_good s
  all_kept s (c ∷ cs) accepted none =
      let parts = neither (is_change c) (list_any is_change cs) none in
      as_good_on s (effect s c) (after (effect s c) cs) (one_kept s c accepted.1 parts.0) (all_kept (effect s c) cs accepted.2 parts.1)

  last_in_rest : (c : Command) (cs : List Command) (q : ℕ) → last_change (c ∷ cs) ≤ suc q → last_change cs ≤ q
  last_in_rest c cs q within = by (list_any is_change (c ∷ cs)) refl
    where
      none_last : (ds : List Command) → list_any is_change ds ≡ false → last_change ds ≡ 0
      none_last [] none = refl
      none_last (d ∷ ds) none = rw none refl

      by : (b : Bool) → list_any is_change (c ∷ cs) ≡ b → last_change cs ≤ q
      by true e = (let h : 1 + last_change cs ≤ suc q = rw e at within in omega arith)
      by false e = (let h = none_last cs (neither (is_change c) (list_any is_change cs) e).1 in omega arith)

  none_before : (c : Command) (cs : List Command) → last_change (c ∷ cs) ≤ 0 → list_any is_change (c ∷ cs) ≡ false
  none_before c cs within = by (list_any is_change (c ∷ cs)) refl
    where
      by : (b : Bool) → list_any is_change (c ∷ cs) ≡ b → b ≡ false
      by false e = refl
      by true e = absurd (let h : 1 + last_change cs ≤ 0 = rw e at within in omega arith)

  pub plans_never_cost_more : PlansNeverCostMore
  plans_never_cost_more s [] zero accepted from to = as_good s
  plans_never_cost_more s [] (suc q) accepted from to = absurd (omega arith)
  plans_never_cost_more s (c ∷ cs) zero accepted from to = all_kept s (c ∷ cs) accepted (none_before c cs from)
  plans_never_cost_more s (c ∷ cs) (suc q) accepted from to =
      plans_never_cost_more (effect s c) cs q accepted.2 (last_in_rest c cs q from) (omega arith)
