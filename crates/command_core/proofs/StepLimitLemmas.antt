-- If accepted commands make steps, the number of steps stays within the limit of a state
use Rattle.std.proofs.Common.{◌≡◌, ℕ, ◌+◌, ◌<◌, ◌≤◌, ◌^◌, ◌&&◌, nat_le, not, Bool, true, false, cond, Some, None, refl, sym, arith}
use Rattle.std.proofs.lemmas.Bool.{and_parts, leb-true}
use Rattle.move_ops.proofs.OccurrenceLemmas.{none_some}
use Rattle.command_types.specs.Job.{JobValue}
use Rattle.command_core.specs.KeptSearch.{command_for}
use Rattle.command_core.specs.Refusals.{job_refusal, steps_refusal}
use Rattle.command_types.specs.Commands.{steps_of}
use Rattle.command_types.specs.declared.refusals.Refusal.TheVariants.{Range, StepsSpent}
use Rattle.command_core.specs.declared.step.StepCount.{StepCount}
use Rattle.command_core.specs.declared.step.StepCount.TheVariants.{Search, Anneal}

pub fit : (most steps count : ℕ) → steps_refusal most steps count ≡ None → (steps < 2 ^ 60) × (steps + count ≤ 2 ^ 60)
fit most steps count accepted = by (nat_le 1 count && nat_le count most) (nat_le (steps + count) (2 ^ 60)) refl refl accepted
  where
    by : (a b : Bool) → (nat_le 1 count && nat_le count most) ≡ a → nat_le (steps + count) (2 ^ 60) ≡ b
        → cond (not a) (Some Range) (cond b None (Some StepsSpent)) ≡ None → (steps < 2 ^ 60) × (steps + count ≤ 2 ^ 60)
    by false b e f none = absurd (none_some Range (sym none))
    by true false e f none = absurd (none_some StepsSpent (sym none))
    by true true e f none =
        let some : 1 ≤ count = leb-true 1 count (and_parts (nat_le 1 count) (nat_le count most) e).0 in
        let last : steps + count ≤ 2 ^ 60 = leb-true (steps + count) (2 ^ 60) f in
        (omega arith, last)

pub steps_fit : (j : JobValue) (steps : StepCount) → job_refusal j (command_for steps) ≡ None → (j.steps < 2 ^ 60) × (j.steps + steps_of (command_for steps) ≤ 2 ^ 60)
steps_fit j (Search count) accepted = fit 256 j.steps count accepted
steps_fit j (Anneal count) accepted = fit 65536 j.steps count accepted
