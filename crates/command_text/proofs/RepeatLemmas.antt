-- If `anneal FROM TO` is cut off, whatever the fates of its attempts are, and then repeated, it ends in the same
-- state as without the interruption.
use Rattle.std.proofs.Common.{
  ◌≡◌,
  ◌∙◌,
  inl,
  inr,
  ℕ,
  zero,
  suc,
  ◌+◌,
  ◌-◌,
  ◌*◌,
  ◌^◌,
  ◌≤◌,
  Bool,
  true,
  false,
  not,
  ◌&&◌,
  if◌then◌else◌,
  List,
  [],
  ◌∷◌,
  Option,
  Some,
  None,
  Ok,
  Err,
  refl,
  sym,
  ap,
  subst,
  arith,
}
use Rattle.std.specs.Prelude.{◌==◌, ◌/◌, length, min, nat_le, take}
use Rattle.std.specs.List.{list_all}
use Rattle.std.specs.Option.{option_map}
use Rattle.std.proofs.lemmas.Bool.{and_parts, cases_Bool, le-leb, leb-true}
use Rattle.plan_types.specs.Instance.{Instance, numbers_among}
use Rattle.route_sched.specs.Cost.{total_length}
use Rattle.annealing_schedule.specs.Stages.{mean_leg_share}
use Rattle.plan_types.specs.declared.limits.TheConstants.{MAX_REQUESTED_STEPS, MAX_DEVIATION}
use Rattle.command_types.specs.Commands.{changes_requests}
use Rattle.command_core.specs.Effects.{effect, job_after, with_deviation}
use Rattle.command_types.specs.Job.{JobValue}
use Rattle.command_core.specs.Refusals.{refusal}
use Rattle.command_core.specs.Runs.{AreAccepted, after}
use Rattle.command_types.specs.declared.commands.Command.{Command}
use Rattle.command_types.specs.declared.commands.Command.TheVariants.{Deviation}
use Rattle.command_types.specs.declared.refusals.Refusal.{Refusal}
use Rattle.command_types.specs.declared.refusals.Refusal.TheVariants.{Range}
use Rattle.command_text.specs.declared.answers.Answer.TheVariants as answer
use Rattle.command_types.specs.declared.states.State.{State}
use Rattle.command_types.specs.declared.states.State.TheVariants.{Empty, Loaded}
use Rattle.command_core.proofs.NumberLemmas.{steps_counted}
use Rattle.command_text.specs.Answering.{
  Fate,
  Done,
  NoMemory,
  Spent,
  Failed,
  Reply,
  ServerState,
  unbroken_session,
  by_fate,
  operation_reply,
  operations_reply,
  commands_of,
  steps_or_refusal,
  next_fate,
  steps_to_make,
  printed_after,
  after_attempt,
  unless_refused,
  with_text,
}
use Rattle.command_text.specs.Laws.{StagedLinesMayBeCut}
use Rattle.command_text.specs.declared.steps.StepRequest.TheVariants as goal
use Rattle.command_text.specs.declared.steps.StepCursor.TheVariants as makes
use Rattle.command_text.specs.Staging.{hundredths_due, made_by, next_operations, next_deviation, next_steps, set_before, stage_commands, staged_within}
use Rattle.command_text.proofs.StagingLemmas.{due, no_load, none_is, some_is, stages_may_be_cut}

-- ---- the executed operations are a prefix of the operations

-- the state `left` follows from the given state by the first `count` operations
pub record IsCutAt (steps_to_freeze : State) (commands : List Command) (left : State) : Type 0 where
  pub count : ℕ
  pub is : left ≡ after steps_to_freeze (take count commands)

at_none : (s : State) (cs : List Command) → IsCutAt s cs s
at_none s cs = record { count = 0; is = refl }

fate_cut : (fate : Fate) (s : ServerState) (c : Command) (cs : List Command) (done : ServerState → Reply) → ((t : ServerState) → IsCutAt t.state cs (done t).left.state)
    → IsCutAt s.state (c ∷ cs) (by_fate fate s c done).left.state
fate_cut Done s c cs done rest = let r = rest (record s { state = effect s.state c }) in record { count = suc r.count; is = r.is }
fate_cut NoMemory s c cs done rest = at_none s.state (c ∷ cs)
fate_cut Spent s c cs done rest = at_none s.state (c ∷ cs)
fate_cut Failed s c cs done rest = at_none s.state (c ∷ cs)

refused_cut : (r : Option Refusal) (s : ServerState) (c : Command) (cs : List Command) (done : ServerState → Reply) → ((t : ServerState) → IsCutAt t.state cs (done t).left.state)
    → IsCutAt s.state (c ∷ cs) (unless_refused r s c done).left.state
refused_cut (Some r) s c cs done rest = at_none s.state (c ∷ cs)
refused_cut None s c cs done rest = fate_cut (next_fate s.fates) (after_attempt s) c cs done rest

broken_cut : (b : Bool) (s : ServerState) (cs : List Command) (x y : Reply) → IsCutAt s.state cs x.left.state → IsCutAt s.state cs y.left.state → IsCutAt s.state cs (if b then x else y).left.state
broken_cut true s cs x y a b = a
broken_cut false s cs x y a b = b

carried_cut : (s : ServerState) (c : Command) (cs : List Command) (done : ServerState → Reply) → ((t : ServerState) → IsCutAt t.state cs (done t).left.state)
    → IsCutAt s.state (c ∷ cs) (operation_reply s c done).left.state
unfolding operation_reply
carried_cut s c cs done rest =
    broken_cut s.is_broken s (c ∷ cs) _ (unless_refused (refusal s.state c) s c done) (at_none s.state (c ∷ cs)) (refused_cut (refusal s.state c) s c cs done rest)

pub all_cut : (s : ServerState) (cs : List Command) → IsCutAt s.state cs (operations_reply s cs).left.state
unfolding operations_reply
all_cut s [] = at_none s.state []
all_cut s (c ∷ cs) = carried_cut s c cs (λ t. with_text (printed_after c t.state) (operations_reply t cs)) (λ t. all_cut t cs)

-- ---- if all operations are accepted and no attempt fails, all are executed

carried_whole : (s : State) (c : Command) (done : ServerState → Reply) → refusal s c ≡ None → (operation_reply (unbroken_session s []) c done).left ≡ (done (unbroken_session (effect s c) [])).left
unfolding operation_reply
carried_whole s c done free = ap (λ r. (unless_refused r (unbroken_session s []) c done).left) free

pub all_whole : (s : State) (cs : List Command) → AreAccepted s cs → (operations_reply (unbroken_session s []) cs).left.state ≡ after s cs
unfolding operations_reply
all_whole s [] accepted = refl
all_whole s (c ∷ cs) accepted =
    ap (λ (t : ServerState). t.state) (carried_whole s c (λ t. with_text (printed_after c t.state) (operations_reply t cs)) accepted.1) ∙ all_whole (effect s c) cs accepted.2

-- ---- the operations never lower the number of steps

-- the operation changes no request
abbrev pub stays : Command → Bool
stays c = not (changes_requests c)

-- the state `left` has a job that has made at least as many steps as j
record GoesOn (j : JobValue) (left : State) : Type 0 where
  pub job : JobValue
  pub is : left ≡ Loaded job
  pub steps : j.steps ≤ job.steps

pub unchanged : (c : Command) → stays c ≡ true → changes_requests c ≡ false
unchanged c e = by (changes_requests c) e
  where
    by : (b : Bool) → not b ≡ true → b ≡ false
    by true e = absurd cc
    by false e = refl

grown : (count : ℕ) (cs : List Command) (j : JobValue) → list_all stays cs ≡ true → GoesOn j (after (Loaded j) (take count cs))
grown zero cs j all = record { job = j; is = refl; steps = omega arith }
grown (suc count) [] j all = record { job = j; is = refl; steps = omega arith }
grown (suc count) (c ∷ cs) j all =
    let parts = and_parts (stays c) (list_all stays cs) all in
    let counted = steps_counted j c (no_load c (unchanged c parts.0)) in
    let r = grown count cs (job_after j c) parts.1 in
    let more = r.steps in
    record { job = r.job; is = r.is; steps = omega (arith, counted, more) }

share_most : (p : Instance) (routes : List (List ℕ)) (c : ℕ) → mean_leg_share p routes c ≤ MAX_DEVIATION
share_most p routes c = at (length (numbers_among p.requests) == 0)
  where
    at : (b : Bool) → (if b then 0 else min (total_length p routes * c / (100 * length (numbers_among p.requests))) MAX_DEVIATION) ≤ MAX_DEVIATION
    at true = omega arith
    at false = omega arith

free_deviation : (j : JobValue) (o : Option ℕ) (d : ℕ) → option_map (mean_leg_share j.problem j.plan) o ≡ Some d → refusal (Loaded j) (Deviation d) ≡ None
free_deviation j None d is = none_is d is
free_deviation j (Some c) d is =
    let same = some_is (mean_leg_share j.problem j.plan c) d is in
    let most = share_most j.problem j.plan c in
    let e = le-leb d MAX_DEVIATION (omega (arith, same, most)) in
    rw e refl

module _ (from to : ℕ) where
  -- ---- all later operations are accepted and change no request

  -- the operations are accepted if `to` is at most 2^60, and change no request
  record AreFit (j : JobValue) (cs : List Command) : Type 0 where
    pub accepted : to ≤ 2 ^ 60 → AreAccepted (Loaded j) cs
    pub stay : list_all stays cs ≡ true

  none_fit : (j : JobValue) → AreFit j []
  none_fit j = record { accepted = λ room. tt; stay = refl }

  made_fit : (next : JobValue → List Command) → ((i : JobValue) → AreFit i (next i)) → (j : JobValue) (o : Option Command) → next_steps from to j ≡ o → AreFit j (made_by next o j)
  made_fit next rest j None e = none_fit j
  made_fit next rest j (Some c) e =
      let d = due from to j c e in
      let more = rest (job_after j c) in
      record { accepted = λ room. (d.is_command, d.fits j refl room, more.accepted room); stay = rw d.stays more.stay }

  set_fit : (follows : JobValue → List Command) → ((i : JobValue) → AreFit i (follows i)) → (j : JobValue) (o : Option ℕ) → next_deviation from to j ≡ o → AreFit j (set_before follows o j)
  set_fit follows rest j None e = rest j
  set_fit follows rest j (Some d) e =
      let more = rest (with_deviation j d) in
      let free = free_deviation j (hundredths_due j.problem.kind from to j.steps) d e in
      record { accepted = λ room. (tt, free, more.accepted room); stay = more.stay }

  all_fit : (f : ℕ) (j : JobValue) → AreFit j (staged_within from to f j)
  unfolding staged_within
  all_fit zero j = none_fit j
  all_fit (suc f) j =
      set_fit (next_operations from to (staged_within from to f)) (λ i. made_fit (staged_within from to f) (all_fit f) i (next_steps from to i) refl) j (next_deviation from to j) refl

  pub stages_accepted : to ≤ 2 ^ 60 → (j : JobValue) → AreAccepted (Loaded j) (stage_commands from to j)
  stages_accepted room j = (all_fit (suc (to - j.steps)) j).accepted room

  pub stages_stay : (j : JobValue) → list_all stays (stage_commands from to j) ≡ true
  stages_stay j = (all_fit (suc (to - j.steps)) j).stay

  -- ---- the command `anneal FROM TO`

  abbrev left_by : ServerState → State
  left_by s = (steps_or_refusal s (steps_to_make s.state (goal.Stages from to))).left.state

  abbrev is_requested : JobValue → Bool
  is_requested j = nat_le from j.steps && nat_le to (j.steps + MAX_REQUESTED_STEPS)

  not_begun : (j : JobValue) (fates : List Fate) → is_requested j ≡ false → left_by (unbroken_session (Loaded j) fates) ≡ Loaded j
  not_begun j fates e = ap (λ b. (steps_or_refusal (unbroken_session (Loaded j) fates) (if b then Ok (makes.Stages from to) else Err (answer.Refused Range))).left.state) e

  is_begun : (j : JobValue) (fates : List Fate) → is_requested j ≡ true → left_by (unbroken_session (Loaded j) fates) ≡ (operations_reply (unbroken_session (Loaded j) fates) (stage_commands from to j)).left.state
  is_begun j fates e = ap (λ b. (steps_or_refusal (unbroken_session (Loaded j) fates) (if b then Ok (makes.Stages from to) else Err (answer.Refused Range))).left.state) e

  pub uncut : to ≤ 2 ^ 60 → (j : JobValue) → is_requested j ≡ true → left_by (unbroken_session (Loaded j) []) ≡ after (Loaded j) (stage_commands from to j)
  uncut room j e = is_begun j [] e ∙ all_whole (Loaded j) (stage_commands from to j) (stages_accepted room j)

  still_requested : (i j : JobValue) → j.steps ≤ i.steps → is_requested j ≡ true → is_requested i ≡ true
  still_requested i j more e =
      let parts = and_parts (nat_le from j.steps) (nat_le to (j.steps + MAX_REQUESTED_STEPS)) e in
      let first = leb-true from j.steps parts.0 in
      let last = leb-true to (j.steps + MAX_REQUESTED_STEPS) parts.1 in
      let a = le-leb from i.steps (omega (arith, first, more)) in
      let b = le-leb to (i.steps + MAX_REQUESTED_STEPS) (omega (arith, last, more)) in
      rw (a, b) refl

  line_cut : to ≤ 2 ^ 60 → (j : JobValue) (fates : List Fate) → is_requested j ≡ true → left_by (unbroken_session (left_by (unbroken_session (Loaded j) fates)) []) ≡ left_by (unbroken_session (Loaded j) [])
  line_cut room j fates e =
      let all = stage_commands from to j in
      let cut = all_cut (unbroken_session (Loaded j) fates) all in
      let on = grown cut.count all j (stages_stay j) in
      let left : left_by (unbroken_session (Loaded j) fates) ≡ Loaded on.job = is_begun j fates e ∙ cut.is ∙ on.is in
      let rest : after (Loaded on.job) (stage_commands from to on.job) ≡ after (Loaded j) all =
      subst (λ (m : State). after m (commands_of (makes.Stages from to) m) ≡ after (Loaded j) all) on.is (stages_may_be_cut from to j cut.count) in
      ap (λ (s : State). left_by (unbroken_session s [])) left ∙ uncut room on.job (still_requested on.job j on.steps e) ∙ rest ∙ sym (uncut room j e)

pub lines_may_be_cut : StagedLinesMayBeCut
lines_may_be_cut from to Empty fates room = refl
lines_may_be_cut from to (Loaded j) fates room = elim (cases_Bool (is_requested from to j)) [
  | inl t ↦ line_cut from to room j fates t
  | inr f ↦ (
      let same = not_begun from to j fates f in
      ap (λ (s : State). left_by from to (unbroken_session s [])) same)
]
