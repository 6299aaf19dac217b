-- Only a Load lowers the next number, the fields of an accepted command fit a record, and its steps are counted
use Rattle.std.proofs.Common.{◌≡◌, ℕ, ◌+◌, ◌≤◌, nat_le, Bool, true, false, not, cond, List, [], ◌∷◌, ◌++◌, Option, Some, None, refl, arith}
use Rattle.std.specs.List.{list_all}
use Rattle.std.proofs.lemmas.Bool.{and_parts, leb-true}
use Rattle.command_types.specs.Job.{JobValue}
use Rattle.command_core.specs.Effects.{job_after}
use Rattle.command_types.specs.Commands.{is_load, assigned_by, steps_of, is_recorded, fits_record}
use Rattle.command_core.specs.Runs.{assigned_by_all}
use Rattle.command_core.specs.RunLaws.{NextNumberNeverFalls, AscendFrom, AssignedNumbersAreNew, AcceptedFitRecords}
use Rattle.command_types.specs.declared.states.State.TheVariants.{Empty, Loaded}
use Rattle.command_types.specs.declared.refusals.Refusal.{Refusal}
use Rattle.command_types.specs.declared.refusals.Refusal.TheVariants.{Range}
use Rattle.command_types.specs.declared.commands.Command.{Command}
use Rattle.command_types.specs.declared.commands.Command.TheVariants.{Load, Add, Add1, Withdraw, Pin, Unpin, Build, Search, Deviation, Anneal, Reduce}

pub next_numbers_rise : NextNumberNeverFalls
next_numbers_rise j (Load p seed) not_load = absurd (let h : true ≡ false = not_load in cc)
next_numbers_rise j c not_load = omega arith

rise_from_less : (n m : ℕ) (xs : List ℕ) → n ≤ m → AscendFrom m xs → AscendFrom n xs
rise_from_less n m [] less rise = tt
rise_from_less n m (x ∷ xs) less rise = ((let h = rise.0 in omega arith), rise.1)

-- The stop numbers that a command assigns are below those that later commands assign
given_first : (j : JobValue) (c : Command) (xs : List ℕ) → is_load c ≡ false → AscendFrom (job_after j c).problem.next_number xs → AscendFrom j.problem.next_number (assigned_by j c ++ xs)
given_first j (Load p seed) xs not_load rise = absurd (let h : true ≡ false = not_load in cc)
given_first j (Add q a b) xs not_load rise = (omega arith, (omega arith, rise_from_less _ _ xs (omega arith) rise))
given_first j (Add1 q s) xs not_load rise = (omega arith, rise_from_less _ _ xs (omega arith) rise)
given_first j c xs not_load rise = rise

falls : (b : Bool) → not b ≡ true → b ≡ false
falls false is = refl
falls true is = absurd (let h : false ≡ true = is in cc)

pub assigned_numbers_are_new : AssignedNumbersAreNew
assigned_numbers_are_new j [] none = tt
assigned_numbers_are_new j (c ∷ cs) none =
    let parts = and_parts (not (is_load c)) (list_all (λ d. not (is_load d)) cs) none in
    given_first j c (assigned_by_all (job_after j c) cs) (falls (is_load c) parts.0) (assigned_numbers_are_new (job_after j c) cs parts.1)

-- If nothing is refused, the first test passed
first_holds : (b : Bool) (o : Option Refusal) → cond (not b) (Some Range) o ≡ None → b ≡ true
first_holds true o none = refl
first_holds false o none = absurd (let h : Some Range ≡ None = none in cc)

requested_alone : (b : Bool) → cond b None (Some Range) ≡ None → b ≡ true
requested_alone true none = refl
requested_alone false none = absurd (let h : Some Range ≡ None = none in cc)

pub accepted_fit_records : AcceptedFitRecords
accepted_fit_records (Loaded j) (Add q a b) none recorded = first_holds _ _ none
accepted_fit_records (Loaded j) (Add1 q s) none recorded = first_holds _ _ none
accepted_fit_records (Loaded j) (Withdraw name) none recorded = refl
accepted_fit_records (Loaded j) (Pin v k) none recorded = refl
accepted_fit_records (Loaded j) (Unpin v) none recorded = refl
accepted_fit_records (Loaded j) Build none recorded = refl
accepted_fit_records (Loaded j) (Search count) none recorded = first_holds _ _ none
accepted_fit_records (Loaded j) (Deviation d) none recorded = requested_alone _ none
accepted_fit_records (Loaded j) c none recorded = absurd (let h : false ≡ true = recorded in cc)
accepted_fit_records Empty (Load p seed) none recorded = absurd (let h : false ≡ true = recorded in cc)
accepted_fit_records Empty c none recorded = absurd (let h = none in cc)

-- ---- steps

-- Every command except Load adds its steps to those already made
pub steps_counted : (j : JobValue) (c : Command) → is_load c ≡ false → (job_after j c).steps ≡ j.steps + steps_of c
steps_counted j (Load p seed) not_load = absurd (let h : true ≡ false = not_load in cc)
steps_counted j (Search count) not_load = refl
steps_counted j (Anneal count) not_load = refl
steps_counted j (Reduce count) not_load = refl
steps_counted j c not_load = omega arith

pub recorded_no_load : (c : Command) → is_recorded c ≡ true → is_load c ≡ false
recorded_no_load (Load p seed) recorded = absurd (let h : false ≡ true = recorded in cc)
recorded_no_load c recorded = refl

-- A command that has a record makes at most 256 steps
pub few_recorded : (c : Command) → is_recorded c ≡ true → fits_record c ≡ true → steps_of c ≤ 256
few_recorded (Search count) recorded fits = leb-true count 256 (and_parts (nat_le 1 count) (nat_le count 256) fits).1
few_recorded (Anneal count) recorded fits = absurd (let h : false ≡ true = recorded in cc)
few_recorded (Reduce count) recorded fits = absurd (let h : false ≡ true = recorded in cc)
few_recorded c recorded fits = omega arith
