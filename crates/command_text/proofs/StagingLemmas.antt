-- Annealing in stages: any limit on the number of operations that is high enough leads to the same list. A list
-- that is cut off is continued by the same operations.
use Rattle.std.proofs.Common.{◌≡◌, ◌∙◌, inl, inr, ℕ, zero, suc, ◌+◌, ◌-◌, ◌*◌, ◌<◌, ◌≤◌, ◌^◌, Bool, true, false, if◌then◌else◌, List, [], ◌∷◌, Option, Some, None, refl, sym, ap, subst, arith}
use Rattle.std.specs.Prelude.{nat_lt, min, take}
use Rattle.std.specs.Option.{option_map}
use Rattle.std.proofs.Math.Nat.{mul-le-mul_left}
use Rattle.std.proofs.lemmas.Bool.{cases_Bool, ltb-true, ltb-false, le-leb, le-ltb}
use Rattle.plan_types.specs.declared.requests.Kind.{Kind}
use Rattle.plan_types.specs.declared.requests.Kind.TheVariants.{LiLim, Vrp}
use Rattle.annealing_schedule.specs.Stages.{boundary, stage_among, stage_of}
use Rattle.command_types.specs.Commands.{IsCommand, changes_requests, is_load, steps_of}
use Rattle.command_core.specs.Effects.{job_after, with_deviation}
use Rattle.command_types.specs.Job.{JobValue}
use Rattle.command_core.specs.Refusals.{refusal, steps_refusal}
use Rattle.command_core.specs.Runs.{after}
use Rattle.command_types.specs.declared.commands.Command.{Command}
use Rattle.command_types.specs.declared.commands.Command.TheVariants.{Anneal, Deviation, Load, Reduce}
use Rattle.command_types.specs.declared.states.State.TheVariants.{Loaded}
use Rattle.command_core.proofs.NumberLemmas.{steps_counted}
use Rattle.command_text.specs.Answering.{commands_of}
use Rattle.command_text.specs.declared.steps.StepCursor.TheVariants as makes
use Rattle.command_text.specs.Laws.{StagesMayBeCut}
use Rattle.command_text.specs.Staging.{
  commands_in_stage,
  first_anneal_end,
  halfway,
  made_by,
  next_operations,
  next_deviation,
  next_steps,
  set_before,
  stage_commands,
  stage_piece,
  staged_steps,
  staged_within,
  steps_due,
}

-- ---- the stage of a step

pub some_is : {A : Type 0} (x y : A) → Some x ≡ Some y → x ≡ y
some_is x y e = cc

pub none_is : {X A : Type 0} (x : A) → None ≡ Some x → X
none_is x e = absurd cc

found_by : (from to n k m : ℕ) (rest : Option ℕ) (b : Bool) → nat_lt n (boundary from to (k + 1)) ≡ b → (rest ≡ Some m → n < boundary from to (m + 1))
    → (if b then Some k else rest) ≡ Some m → n < boundary from to (m + 1)
found_by from to n k m rest true t later is = subst (λ i. n < boundary from to (i + 1)) (some_is k m is) (ltb-true n (boundary from to (k + 1)) t)
found_by from to n k m rest false t later is = later is

-- the stage that is found ends after step n
ends_after : (from to n k left m : ℕ) → stage_among from to n k left ≡ Some m → n < boundary from to (m + 1)
unfolding stage_among
ends_after from to n k zero m e = none_is m e
ends_after from to n k (suc left) m e =
    found_by from to n k m (stage_among from to n (k + 1) left) (nat_lt n (boundary from to (k + 1))) refl (ends_after from to n (k + 1) left m) e

-- if n is not below `to`, no boundary of a stage is above n
bounded : (from to n m : ℕ) → m ≤ 20 → from ≤ n → to ≤ n → boundary from to m ≤ n
bounded from to n m few begun past = let most : (to - from) * m ≤ (to - from) * 20 = mul-le-mul_left (to - from) few in omega (arith, most, begun, past)

none_among : (from to n k left : ℕ) → k + left ≡ 20 → from ≤ n → to ≤ n → stage_among from to n k left ≡ None
unfolding stage_among
none_among from to n k zero all begun past = refl
none_among from to n k (suc left) all begun past =
    ap (λ b. if b then Some k else stage_among from to n (k + 1) left) (le-ltb n (boundary from to (k + 1)) (bounded from to n (k + 1) (omega (arith, all)) begun past))
    ∙ none_among from to n (k + 1) left (omega (arith, all)) begun past

none_past : (from to n : ℕ) → to ≤ n → stage_of from to n ≡ None
none_past from to n past = elim (cases_Bool (nat_lt n from)) [
  | inl t ↦ ap (λ b. if b then None else stage_among from to n 0 20) t
  | inr f ↦ ap (λ b. if b then None else stage_among from to n 0 20) f ∙ none_among from to n 0 20 refl (ltb-false n from f) past
]

-- if `from` is above `to`, no step belongs to a stage
pub none_between : (from to n : ℕ) → to < from → stage_of from to n ≡ None
none_between from to n above = elim (cases_Bool (nat_lt n from)) [
  | inl t ↦ ap (λ b. if b then None else stage_among from to n 0 20) t
  | inr f ↦ (let begun = ltb-false n from f in none_past from to n (omega (arith, above, begun)))
]

pub ends_of : (from to n k : ℕ) → stage_of from to n ≡ Some k → n < boundary from to (k + 1)
ends_of from to n k e = at (nat_lt n from) e
  where
    at : (b : Bool) → (if b then None else stage_among from to n 0 20) ≡ Some k → n < boundary from to (k + 1)
    at true is = none_is k is
    at false is = ends_after from to n 0 20 k is

pub before_end : (from to n k : ℕ) → stage_of from to n ≡ Some k → n < to
before_end from to n k e = elim (cases_Bool (nat_lt n to)) [
  | inl t ↦ ltb-true n to t
  | inr f ↦ none_is k (sym (none_past from to n (ltb-false n to f)) ∙ e)
]

module _ (from to : ℕ) where
  few_by : (k left m : ℕ) (rest : Option ℕ) (b : Bool) → (rest ≡ Some m → m < k + 1 + left) → (if b then Some k else rest) ≡ Some m → m < k + suc left
  few_by k left m rest true later e = let same = some_is k m e in omega (arith, same)
  few_by k left m rest false later e = let less = later e in omega (arith, less)

  few_among : (n k left m : ℕ) → stage_among from to n k left ≡ Some m → m < k + left
  unfolding stage_among
  few_among n k zero m e = none_is m e
  few_among n k (suc left) m e = few_by k left m (stage_among from to n (k + 1) left) (nat_lt n (boundary from to (k + 1))) (few_among n (k + 1) left m) e

  pub few_stages : (n k : ℕ) → stage_of from to n ≡ Some k → (from ≤ n) × (k < 20)
  few_stages n k e = at (nat_lt n from) refl e
    where
      at : (b : Bool) → nat_lt n from ≡ b → (if b then None else stage_among from to n 0 20) ≡ Some k → (from ≤ n) × (k < 20)
      at true t is = none_is k is
      at false f is = (ltb-false n from f, few_among n 0 20 k is)

-- ---- the next operation

-- A next operation makes at least one step and does not pass the last step. So it is accepted if `to` is within
-- the limits.
pub record IsDue (from to n : ℕ) (c : Command) : Type 0 where
  pub begun : from ≤ n
  pub some : 0 < steps_of c
  pub last : n + steps_of c ≤ to
  pub is_command : IsCommand c
  pub stays : changes_requests c ≡ false
  pub fits : (j : JobValue) → j.steps ≡ n → to ≤ 2 ^ 60 → refusal (Loaded j) c ≡ None

free_within : (most : ℕ) (j : JobValue) (n count : ℕ) → 0 < count → count ≤ most → n + count ≤ 2 ^ 60 → j.steps ≡ n → steps_refusal most j.steps count ≡ None
free_within most j n count some few last same =
    let least = le-leb 1 count (omega (arith, some)) in
    let fits = le-leb count most few in
    let ends = le-leb (j.steps + count) (2 ^ 60) (omega (arith, last, same)) in
    rw (least, fits, ends) refl

anneal_due : (from to n end : ℕ) → from ≤ n → n < end → end ≤ to → IsDue from to n (Anneal (min (end - n) 16384))
anneal_due from to n end begun below within = record {
  begun = begun;
  some = omega (arith, below);
  last = omega (arith, below, within);
  is_command = tt;
  stays = refl;
  fits = λ j same room. free_within 65536 j n (min (end - n) 16384) (omega (arith, below)) (omega arith) (omega (arith, below, within, room)) same;
}

reduce_due : (from to n end : ℕ) → from ≤ n → n < end → end ≤ to → IsDue from to n (Reduce (min (end - n) 524288))
reduce_due from to n end begun below within = record {
  begun = begun;
  some = omega (arith, below);
  last = omega (arith, below, within);
  is_command = tt;
  stays = refl;
  fits = λ j same room. free_within 524288 j n (min (end - n) 524288) (omega (arith, below)) (omega arith) (omega (arith, below, within, room)) same;
}

-- each stage ends at `to` or before it
end_within : (from to n k : ℕ) → stage_of from to n ≡ Some k → boundary from to (k + 1) ≤ to
end_within from to n k e =
    let found = few_stages from to n k e in
    let below = before_end from to n k e in
    let first = found.0 in
    let few = found.1 in
    let most : (to - from) * (k + 1) ≤ (to - from) * 20 = mul-le-mul_left (to - from) (omega (arith, few)) in
    omega (arith, most, first, below)

staged_due : (from to n : ℕ) (o : Option ℕ) (c : Command) → stage_of from to n ≡ o → option_map (stage_piece from to n) o ≡ Some c → IsDue from to n c
staged_due from to n None c found is = none_is c is
staged_due from to n (Some k) c found is =
    subst (IsDue from to n) (some_is (stage_piece from to n k) c is)
    (anneal_due from to n (boundary from to (k + 1)) (few_stages from to n k found).0 (ends_of from to n k found) (end_within from to n k found))

-- an operation that is next in a range is also next in a range that begins earlier
later_due : (from mid to n : ℕ) (c : Command) → from ≤ mid → IsDue mid to n c → IsDue from to n c
later_due from mid to n c before due = let begun = due.begun in record {
  begun = omega (arith, before, begun);
  some = due.some;
  last = due.last;
  is_command = due.is_command;
  stays = due.stays;
  fits = due.fits;
}

reducing_due : (from to n : ℕ) (c : Command) (early warm first : Bool) → nat_lt n from ≡ early → nat_lt n (first_anneal_end from to) ≡ warm → nat_lt n (halfway from to) ≡ first
    → (if early then None else if warm then Some (Anneal (min (first_anneal_end from to - n) 16384)) else if first
    then Some (Reduce (min (halfway from to - n) 524288)) else staged_steps (halfway from to) to n) ≡ Some c
    → IsDue from to n c
reducing_due from to n c true warm first e w h is = none_is c is
reducing_due from to n c false true first e w h is =
    let begun = ltb-false n from e in
    let below = ltb-true n (first_anneal_end from to) w in
    subst (IsDue from to n) (some_is (Anneal (min (first_anneal_end from to - n) 16384)) c is) (anneal_due from to n (first_anneal_end from to) begun below (omega (arith, begun, below)))
reducing_due from to n c false false true e w h is =
    let begun = ltb-false n from e in
    let below = ltb-true n (halfway from to) h in
    subst (IsDue from to n) (some_is (Reduce (min (halfway from to - n) 524288)) c is) (reduce_due from to n (halfway from to) begun below (omega (arith, begun, below)))
reducing_due from to n c false false false e w h is =
    later_due from (halfway from to) to n c (omega arith) (staged_due (halfway from to) to n (stage_of (halfway from to) to n) c refl is)

is_due : (kind : Kind) (from to n : ℕ) (c : Command) → steps_due kind from to n ≡ Some c → IsDue from to n c
is_due LiLim from to n c is = reducing_due from to n c (nat_lt n from) (nat_lt n (first_anneal_end from to)) (nat_lt n (halfway from to)) refl refl refl is
is_due Vrp from to n c is = staged_due from to n (stage_of from to n) c refl is

pub no_load : (c : Command) → changes_requests c ≡ false → is_load c ≡ false
no_load (Load p seed) stays = stays
no_load c stays = refl

module _ (from to : ℕ) where
  pub due : (j : JobValue) (c : Command) → next_steps from to j ≡ Some c → IsDue from to j.steps c
  due j c e = is_due j.problem.kind from to j.steps c e

  -- the next operation raises the number of steps, which is below `to` before it
  pub goes_on : (j : JobValue) (c : Command) → next_steps from to j ≡ Some c → (j.steps < (job_after j c).steps) × (j.steps < to)
  goes_on j c e =
      let d = due j c e in
      let counted = steps_counted j c (no_load c d.stays) in
      let some = d.some in
      let last = d.last in
      (omega (arith, counted, some), omega (arith, some, last))

  -- ---- any limit that is high enough leads to the same operations

  same_made : (f g : JobValue → List Command) (j : JobValue) (o : Option Command) → ((c : Command) → o ≡ Some c → f (job_after j c) ≡ g (job_after j c)) → made_by f o j ≡ made_by g o j
  same_made f g j None rest = refl
  same_made f g j (Some c) rest = ap (λ cs. c ∷ cs) (rest c refl)

  same_set : (f g : JobValue → List Command) (o : Option ℕ) (j : JobValue) → ((i : JobValue) → i.steps ≡ j.steps → f i ≡ g i) → set_before f o j ≡ set_before g o j
  same_set f g None j rest = rest j refl
  same_set f g (Some d) j rest = ap (λ cs. Deviation d ∷ cs) (rest (with_deviation j d) refl)

  one_more : (f g : ℕ) (j : JobValue) → ((i : JobValue) (c : Command) → i.steps ≡ j.steps → next_steps from to i ≡ Some c
      → staged_within from to f (job_after i c) ≡ staged_within from to g (job_after i c))
      → staged_within from to (suc f) j ≡ staged_within from to (suc g) j
  unfolding staged_within
  one_more f g j rest =
      same_set (next_operations from to (staged_within from to f)) (next_operations from to (staged_within from to g)) (next_deviation from to j) j
      (λ i same. same_made (staged_within from to f) (staged_within from to g) i (next_steps from to i) (λ c e. rest i c same e))

  enough : (f g : ℕ) (j : JobValue) → to - j.steps ≤ f → to - j.steps ≤ g → staged_within from to (suc f) j ≡ staged_within from to (suc g) j
  enough zero g j first second = one_more zero g j (λ i c same e. let on = goes_on i c e in absurd (omega (arith, on.1, same, first)))
  enough (suc f) zero j first second = one_more (suc f) zero j (λ i c same e. let on = goes_on i c e in absurd (omega (arith, on.1, same, second)))
  enough (suc f) (suc g) j first second =
      one_more (suc f) (suc g) j (λ i c same e. let on = goes_on i c e in enough f g (job_after i c) (omega (arith, on.0, on.1, same, first)) (omega (arith, on.0, on.1, same, second)))

  -- ---- the next operation

  following : (j : JobValue) (c : Command) → next_steps from to j ≡ Some c → staged_within from to (to - j.steps) (job_after j c) ≡ stage_commands from to (job_after j c)
  following j c e =
      let on = goes_on j c e in
      let one : to - j.steps ≡ suc (to - j.steps - 1) = omega (arith, on.1) in
      ap (λ n. staged_within from to n (job_after j c)) one ∙ enough (to - j.steps - 1) (to - (job_after j c).steps) (job_after j c) (omega (arith, on.0, on.1)) (omega arith)

  pub none_made : (j : JobValue) → next_steps from to j ≡ None → commands_in_stage from to j ≡ []
  none_made j e = ap (λ o. made_by (staged_within from to (to - j.steps)) o j) e

  pub next_made : (j : JobValue) (c : Command) → next_steps from to j ≡ Some c → commands_in_stage from to j ≡ c ∷ stage_commands from to (job_after j c)
  next_made j c e = ap (λ o. made_by (staged_within from to (to - j.steps)) o j) e ∙ ap (λ cs. c ∷ cs) (following j c e)

  -- if a deviation is set before the next steps, it comes first
  pub next_set : (j : JobValue) (d : ℕ) → next_deviation from to j ≡ Some d → stage_commands from to j ≡ Deviation d ∷ commands_in_stage from to (with_deviation j d)
  unfolding staged_within
  next_set j d e = ap (λ o. set_before (next_operations from to (staged_within from to (to - j.steps))) o j) e

  pub none_set : (j : JobValue) → next_deviation from to j ≡ None → stage_commands from to j ≡ commands_in_stage from to j
  unfolding staged_within
  none_set j e = ap (λ o. set_before (next_operations from to (staged_within from to (to - j.steps))) o j) e

  -- ---- a list of operations that is cut anywhere

  -- if the command is repeated after the first `count` of these operations, it ends in the state after all of
  -- them
  abbrev LeadsOn : JobValue → ℕ → List Command → Type 0
  LeadsOn j count commands =
      let mid = after (Loaded j) (take count commands) in after mid (commands_of (makes.Stages from to) mid) ≡ after (Loaded j) commands

  -- setting a deviation a second time changes nothing
  set_again : (j : JobValue) (d : ℕ) → next_deviation from to j ≡ Some d → LeadsOn j 1 (stage_commands from to j)
  set_again j d e = subst (LeadsOn j 1) (sym (next_set j d e)) (ap (after (Loaded (with_deviation j d))) (next_set (with_deviation j d) d e))

  cut_made : (count : ℕ) (j : JobValue) (o : Option Command) → next_steps from to j ≡ o → ((i : JobValue) → LeadsOn i count (stage_commands from to i))
      → after (Loaded j) (stage_commands from to j) ≡ after (Loaded j) (commands_in_stage from to j) → LeadsOn j (suc count) (commands_in_stage from to j)
  cut_made count j None e rest same = subst (LeadsOn j (suc count)) (sym (none_made j e)) (same ∙ ap (after (Loaded j)) (none_made j e))
  cut_made count j (Some c) e rest same = subst (LeadsOn j (suc count)) (sym (next_made j c e)) (rest (job_after j c))

  cut_unset : (count : ℕ) (j : JobValue) → next_deviation from to j ≡ None → ((i : JobValue) → LeadsOn i count (stage_commands from to i)) → LeadsOn j (suc count) (stage_commands from to j)
  cut_unset count j e rest =
      let same = none_set j e in
      subst (LeadsOn j (suc count)) (sym same) (cut_made count j (next_steps from to j) refl rest (ap (after (Loaded j)) same))

  cut_set : (count : ℕ) (j : JobValue) (d : ℕ) → next_deviation from to j ≡ Some d → ((i : JobValue) → LeadsOn i count (stage_commands from to i))
      → LeadsOn j (suc (suc count)) (stage_commands from to j)
  cut_set count j d e rest =
      let i = with_deviation j d in
      subst (LeadsOn j (suc (suc count))) (sym (next_set j d e)) (cut_made count i (next_steps from to i) refl rest (ap (after (Loaded i)) (next_set i d e)))

  cut_one : (j : JobValue) (o : Option ℕ) → next_deviation from to j ≡ o → ((i : JobValue) → LeadsOn i 0 (stage_commands from to i)) → LeadsOn j 1 (stage_commands from to j)
  cut_one j None e rest = cut_unset 0 j e rest
  cut_one j (Some d) e rest = set_again j d e

  cut_more : (j : JobValue) (count : ℕ) (o : Option ℕ) → next_deviation from to j ≡ o → ((i : JobValue) → LeadsOn i count (stage_commands from to i))
      → ((i : JobValue) → LeadsOn i (suc count) (stage_commands from to i)) → LeadsOn j (suc (suc count)) (stage_commands from to j)
  cut_more j count None e rest next = cut_unset (suc count) j e next
  cut_more j count (Some d) e rest next = cut_set count j d e rest

  cut : (count : ℕ) (j : JobValue) → LeadsOn j count (stage_commands from to j)
  cut zero j = refl
  cut (suc zero) j = cut_one j (next_deviation from to j) refl (cut zero)
  cut (suc (suc count)) j = cut_more j count (next_deviation from to j) refl (cut count) (cut (suc count))

pub stages_may_be_cut : StagesMayBeCut
stages_may_be_cut from to j count = cut from to count j
