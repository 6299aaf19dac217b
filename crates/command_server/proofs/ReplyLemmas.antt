-- The replies to commands that announce a text, and to commands that change nothing.
use Rattle.std.proofs.Common.{◌≡◌, ◌∙◌, ℕ, Bool, true, false, List, [], ◌∷◌, ◌++◌, inl, inr, Option, Some, None, Result, Ok, Err, refl, sym, ap, subst, append-nil, arith}
use Rattle.plan_types.specs.Instance.{Instance}
use Rattle.plan_types.specs.declared.plans.Plan.{Plan}
use Rattle.vehicle_assignment.specs.declared.faults.AssignmentFault.{AssignmentFault}
use Rattle.vehicle_assignment.specs.declared.faults.AssignmentFault.TheVariants as unseated
use Rattle.instance_read.specs.Faults.{out_of_memory}
use Rattle.instance_read.specs.declared.faults.ReadFault.{ReadFault}
use Rattle.command_types.specs.Job.{JobValue}
use Rattle.command_core.specs.Refusals.{refusal}
use Rattle.command_types.specs.declared.commands.Command.{Command}
use Rattle.command_types.specs.declared.commands.Command.TheVariants as command
use Rattle.command_types.specs.declared.refusals.Refusal.TheVariants as core
use Rattle.command_types.specs.declared.states.State.{State}
use Rattle.command_types.specs.declared.states.State.TheVariants.{Empty, Loaded}
use Rattle.command_text.specs.Answering.{
  Fate,
  Done,
  NoMemory,
  Failed,
  Reply,
  ServerState,
  adopt,
  adopt_on,
  adopted_unless,
  answer_reply,
  by_fate,
  question_reply,
  instance_reply,
  load,
  next_fate,
  plain,
  print_reply,
  line_then_ok,
  text_then_ok,
  text_unless,
  after_attempt,
  unless_broken,
  with_text,
}
use Rattle.command_text.specs.Answering.{Spent as SpentFate}
use Rattle.command_text.specs.Answers.{answer_text, line}
use Rattle.command_text.specs.Questions.{question_refusal, question_text}
use Rattle.instance_read.specs.Readings.{IsUnlessOutOfMemory}
use Rattle.command_text.specs.Readings.{IsPlanUnlessMemory, Reading}
use Rattle.command_text.specs.Showing.{print_text}
use Rattle.route_sched.specs.Cost.{unplanned_count}
use Rattle.sol_text.specs.declared.faults.WriteSolFault.{WriteSolFault}
use Rattle.sol_text.specs.declared.faults.WriteSolFault.TheVariants as write
use Rattle.std.specs.Prelude.{◌<◌, ◌==◌, IsErrOf, IsOkUnless}
use Rattle.std.proofs.lemmas.Bool.{cases_Bool, eqb-false, eqb-true}
use Rattle.instance_text.specs.Formats.{has_format}
use Rattle.instance_text.specs.Texts.{instance_text}
use Rattle.instance_text.specs.declared.faults.WriteFault.{WriteFault}
use Rattle.instance_text.specs.declared.faults.WriteFault.TheVariants as instance_fault
use Rattle.command_types.specs.declared.refusals.Refusal.{Refusal}
use Rattle.command_text.specs.declared.questions.Question.{Question}
use Rattle.command_text.specs.declared.answers.Answer.{Answer}
use Rattle.command_text.specs.declared.answers.Answer.TheVariants as answer
use Rattle.recover.specs.Sessions.{SessionValue}
use Rattle.command_server.specs.Acts.{Act, IsAttempt, Text, executed_of, commands_of, fates_of, fates_in, replies_of}
use Rattle.std.specs.List.{AllByRecursion}
use Rattle.recover.specs.Composition.{IsRunOn}
use Rattle.command_server.specs.ServeContract.{Reports, as_server_state, preceded}
use Rattle.command_server.specs.ServeSteps.{HasNoJob, silent}
use Rattle.command_server.proofs.ActLemmas.{begins_at_all}
use Rattle.sector_disk.specs.declared.sectors.Sectors as sectors
use Rattle.command_server.proofs.ServeLemmas.{answered_is, carried_refused, carried_tried, reports_as}
use Rattle.command_server.proofs.AttemptLemmas.{requested_nothing, requested_text}

-- ---- the reply of a session that is broken or not

pub when_broken : (s : ServerState) (r : Reply) → s.is_broken ≡ true → unless_broken s r ≡ answer_reply s answer.Broken
when_broken s r e = rw e refl

pub when_whole : (s : ServerState) (r : Reply) → s.is_broken ≡ false → unless_broken s r ≡ r
when_whole s r e = rw e refl

-- the act of making a text, if one is made: memory for it was available or not
abbrev pub text_acts : Option Bool → List Act
text_acts None = []
text_acts (Some some) = Text some ∷ []

-- an answer that leaves the session as it is is reported
pub reports_fate : {D : Type 0} {on : sectors.Ghosts D} (s : SessionValue D) (f : ServerState → Reply) (text : Option Bool) (a : Answer)
    → ((later : List Fate) → f (as_server_state s (fates_of (text_acts text) ++ later)) ≡ answer_reply (as_server_state s later) a)
    → Reports on s f (line (answer_text a)) s silent
reports_fate s f None a says = record {
  acts = [];
  run = refl;
  says = λ later. says later
      ∙ answered_is (as_server_state s later) a;
  requested = requested_nothing s f;
  requests_kept = λ later. begins_at_all _;
  state = refl;
  few = omega arith;
}
reports_fate s f (Some some) a says = record {
  acts = Text some ∷ [];
  run = refl;
  says = λ later. says later
      ∙ answered_is (as_server_state s later) a;
  requested = requested_text s f some;
  requests_kept = λ later. begins_at_all _;
  state = refl;
  few = omega arith;
}

-- a text and `ok` are reported
reports_text_after : {D : Type 0} {on : sectors.Ghosts D} (s : SessionValue D) (f : ServerState → Reply) (made : Option Bool) (text : List ℕ)
    → ((later : List Fate) → f (as_server_state s (fates_of (text_acts made) ++ later)) ≡ with_text text (answer_reply (as_server_state s later) answer.Ok))
    → Reports on s f (text ++ line (answer_text answer.Ok)) s silent
reports_text_after s f None text says = record {
  acts = [];
  run = refl;
  says = λ later. says later ∙ ap (λ (t : List ℕ). record { text = t; commands = []; left = as_server_state s later }) (sym (append-nil (text ++ line (answer_text answer.Ok))));
  requested = requested_nothing s f;
  requests_kept = λ later. begins_at_all _;
  state = refl;
  few = omega arith;
}
reports_text_after s f (Some some) text says = record {
  acts = Text some ∷ [];
  run = refl;
  says = λ later. says later ∙ ap (λ (t : List ℕ). record { text = t; commands = []; left = as_server_state s later }) (sym (append-nil (text ++ line (answer_text answer.Ok))));
  requested = requested_text s f some;
  requests_kept = λ later. begins_at_all _;
  state = refl;
  few = omega arith;
}

pub reports_text : {D : Type 0} {on : sectors.Ghosts D} (s : SessionValue D) (f : ServerState → Reply) (text : List ℕ)
    → ((later : List Fate) → f (as_server_state s (Done ∷ later)) ≡ with_text text (answer_reply (as_server_state s later) answer.Ok))
    → Reports on s f (text ++ line (answer_text answer.Ok)) s silent
reports_text s f text says = reports_text_after s f (Some true) text says

-- a text and `ok` are reported for a command that is not an attempt
pub reports_stated : {D : Type 0} {on : sectors.Ghosts D} (s : SessionValue D) (f : ServerState → Reply) (text : List ℕ) → ((later : List Fate) → f (as_server_state s later) ≡ line_then_ok (as_server_state s later) text)
    → Reports on s f (line text ++ line (answer_text answer.Ok)) s silent
reports_stated s f text says = reports_text_after s f None (line text) says

-- ---- a session without a job

pub no_job : (g : ServerState → State → Reply) (s : ServerState) (a : Answer) → ((t : ServerState) → g t Empty ≡ answer_reply t (answer.Refused core.NoInstance)) → HasNoJob s.is_broken s.state a
    → unless_broken s (g s s.state) ≡ answer_reply s a
no_job g s a empty (inl broken) = when_broken s (g s s.state) broken.0 ∙ ap (answer_reply s) (sym broken.1)
no_job g s a empty (inr none) = when_whole s (g s s.state) none.0 ∙ ap (g s) none.1 ∙ empty s ∙ ap (answer_reply s) (sym none.2)

pub with_job : (g : ServerState → State → Reply) (s : ServerState) (j : JobValue) → s.is_broken ≡ false → s.state ≡ Loaded j → unless_broken s (g s s.state) ≡ g s (Loaded j)
with_job g s j whole is = when_whole s (g s s.state) whole ∙ ap (g s) is

-- ---- `load`

-- the reply to `load`, by the contents of its text
abbrev pub load_reply : ℕ → Result Instance ReadFault → ServerState → Reply
load_reply seed found s = unless_broken s (load (next_fate s.fates) s seed found)

load_accepted : (state : State) (p : Instance) (seed : ℕ) → refusal state (command.Load p seed) ≡ None
load_accepted Empty p seed = refl
load_accepted (Loaded j) p seed = refl

by_fates : (state : State) (b : Bool) (fates : List Fate) (p : Instance) (seed : ℕ)
    → load (next_fate fates) (record { state = state; is_broken = b; fates = fates }) seed (Ok p)
    ≡ by_fate (next_fate fates) (after_attempt (record { state = state; is_broken = b; fates = fates })) (command.Load p seed) (λ t. answer_reply t answer.Ok)
by_fates state b [] p seed = refl
by_fates state b (Done ∷ fates) p seed = refl
by_fates state b (NoMemory ∷ fates) p seed = refl
by_fates state b (SpentFate ∷ fates) p seed = refl
by_fates state b (Failed ∷ fates) p seed = refl

-- if a text has a problem, the reply is that to the operation
load_is : (s : ServerState) (p : Instance) (seed : ℕ) → s.is_broken ≡ false → load (next_fate s.fates) s seed (Ok p) ≡ plain s (command.Load p seed)
load_is s p seed e = by_fates s.state s.is_broken s.fates p seed ∙ sym (carried_tried s (command.Load p seed) (λ t. answer_reply t answer.Ok) e (load_accepted s.state p seed))

pub load_spelled : {D : Type 0} {on : sectors.Ghosts D} (old new : SessionValue D) (p : Instance) (seed : ℕ) (text : List ℕ) (found : Result Instance ReadFault) → old.is_broken ≡ false → Ok p ≡ found
    → Reports on old (λ s. plain s (command.Load p seed)) text new silent → Reports on old (load_reply seed found) text new silent
load_spelled old new p seed text found e is leads =
    reports_as old new (λ s. plain s (command.Load p seed)) (load_reply seed found) silent text
    (λ fates. when_whole (as_server_state old fates) (load (next_fate fates) (as_server_state old fates) seed found) e
    ∙ ap (load (next_fate fates) (as_server_state old fates) seed) (sym is) ∙ load_is (as_server_state old fates) p seed e) leads

pub load_faulty : {D : Type 0} {on : sectors.Ghosts D} (old : SessionValue D) (seed : ℕ) (fault : ReadFault) (found : Result Instance ReadFault) → old.is_broken ≡ false → Err fault ≡ found
    → Reports on old (load_reply seed found) (line (answer_text (answer.Read fault))) old silent
load_faulty old seed fault found e is =
    reports_fate old (load_reply seed found) (Some true) (answer.Read fault)
    (λ later. when_whole (as_server_state old (Done ∷ later)) (load Done (as_server_state old (Done ∷ later)) seed found) e ∙ ap (load Done (as_server_state old (Done ∷ later)) seed) (sym is))

pub load_dropped : {D : Type 0} {on : sectors.Ghosts D} (old : SessionValue D) (seed : ℕ) (found : Result Instance ReadFault) → old.is_broken ≡ false
    → Reports on old (load_reply seed found) (line (answer_text (answer.Refused core.OutOfMemory))) old silent
load_dropped old seed found e =
    reports_fate old (load_reply seed found) (Some false) (answer.Refused core.OutOfMemory)
    (λ later. when_whole (as_server_state old (NoMemory ∷ later)) (load NoMemory (as_server_state old (NoMemory ∷ later)) seed found) e)

pub load_broken : {D : Type 0} {on : sectors.Ghosts D} (old : SessionValue D) (seed : ℕ) (found : Result Instance ReadFault) → old.is_broken ≡ true
    → Reports on old (load_reply seed found) (line (answer_text answer.Broken)) old silent
load_broken old seed found e =
    reports_fate old (load_reply seed found) None answer.Broken (λ later. when_broken (as_server_state old later) (load (next_fate later) (as_server_state old later) seed found) e)

-- the case of a text with a fault, or of one that could not be read because memory ran out
pub loaded_err : {D : Type 0} {on : sectors.Ghosts D} (old : SessionValue D) (seed : ℕ) (fault : ReadFault) (found : Result Instance ReadFault)
    → old.is_broken ≡ false → IsUnlessOutOfMemory (Err fault) found
    → Reports on old (load_reply seed found) (line (answer_text (answer.Read fault))) old silent
loaded_err old seed fault found e (inl is) = load_faulty old seed fault found e is
loaded_err {on = on} old seed fault found e (inr none) =
    let is : fault ≡ out_of_memory = cc in
    subst (λ f. Reports on old (load_reply seed found) (line (answer_text (answer.Read f))) old silent) (sym is) (load_dropped old seed found e)

-- the case of a text that spells a problem
pub loaded_ok : {D : Type 0} {on : sectors.Ghosts D} (old new : SessionValue D) (p : Instance) (seed : ℕ) (text : List ℕ) (found : Result Instance ReadFault)
    → old.is_broken ≡ false → IsUnlessOutOfMemory (Ok p) found
    → Reports on old (λ s. plain s (command.Load p seed)) text new silent → Reports on old (load_reply seed found) text new silent
loaded_ok old new p seed text found e (inl is) leads = load_spelled old new p seed text found e is leads
loaded_ok old new p seed text found e (inr none) leads = absurd cc

-- ---- a text to print

pub reports_none : {D : Type 0} {on : sectors.Ghosts D} (g : ServerState → State → Reply) (s : SessionValue D) (a : Answer) → ((t : ServerState) → g t Empty ≡ answer_reply t (answer.Refused core.NoInstance))
    → HasNoJob s.is_broken s.state a → Reports on s (λ t. unless_broken t (g t t.state)) (line (answer_text a)) s silent
reports_none g s a empty none = reports_fate s (λ t. unless_broken t (g t t.state)) None a (λ later. no_job g (as_server_state s later) a empty none)

abbrev says : (ServerState → State → Reply) → ServerState → Reply
says g t = unless_broken t (g t t.state)

module _ {D : Type 0} {on : sectors.Ghosts D} (g : ServerState → State → Reply) (s : SessionValue D) (j : JobValue) (whole : s.is_broken ≡ false) (is : s.state ≡ Loaded j) where
  -- the text of a job is reported if memory for it was available
  pub job_reported : (text : List ℕ) → ((t : ServerState) → g t (Loaded j) ≡ text_then_ok (next_fate t.fates) (after_attempt t) text) → Reports on s (says g) (text ++ line (answer_text answer.Ok)) s silent
  job_reported text reports = reports_text s (says g) text (λ later. with_job g (as_server_state s (Done ∷ later)) j whole is ∙ reports (as_server_state s (Done ∷ later)))

  pub job_unmade : (text : List ℕ) → ((t : ServerState) → g t (Loaded j) ≡ text_then_ok (next_fate t.fates) (after_attempt t) text) → Reports on s (says g) (line (answer_text (answer.Refused core.OutOfMemory))) s silent
  job_unmade text reports =
      reports_fate s (says g) (Some false) (answer.Refused core.OutOfMemory) (λ later. with_job g (as_server_state s (NoMemory ∷ later)) j whole is ∙ reports (as_server_state s (NoMemory ∷ later)))

  pub job_refuses : (a : Answer) → ((t : ServerState) → g t (Loaded j) ≡ answer_reply t a) → Reports on s (says g) (line (answer_text a)) s silent
  job_refuses a reports = reports_fate s (says g) None a (λ later. with_job g (as_server_state s later) j whole is ∙ reports (as_server_state s later))

  pub job_stated : (text : List ℕ) → ((t : ServerState) → g t (Loaded j) ≡ line_then_ok t text) → Reports on s (says g) (line text ++ line (answer_text answer.Ok)) s silent
  job_stated text reports = reports_stated s (says g) text (λ later. with_job g (as_server_state s later) j whole is ∙ reports (as_server_state s later))

-- ---- `adopt`

-- if there are no fates, there was no attempt
no_try : (acts : List Act) → AllByRecursion IsAttempt acts → fates_of acts ≡ [] → acts ≡ []
no_try [] attempts none = refl
no_try (act ∷ acts) attempts none = let here : fates_in act ≡ attempts.0.0 ∷ [] = attempts.0.1 in absurd cc

-- a refused operation leaves the session as it was, and the refusal is the whole answer
refused_stays : {D : Type 0} (on : sectors.Ghosts D) (old new : SessionValue D) (c : Command) (r : Refusal) (text : List ℕ) → old.is_broken ≡ false → refusal old.state c ≡ Some r
    → Reports on old (λ s. plain s c) text new silent → (text ≡ line (answer_text (answer.Refused r))) × (new ≡ old)
refused_stays on old new c r text whole refused p =
    let a = answer.Refused r in
    let says : answer_reply (as_server_state old (fates_of p.acts ++ [])) a ≡ preceded text (executed_of p.acts) (silent (as_server_state new [])) =
    sym (carried_refused (as_server_state old (fates_of p.acts ++ [])) c (λ t. answer_reply t answer.Ok) r whole refused) ∙ p.says [] in
    let text_then_ok : line (answer_text a) ≡ text ++ [] = ap (λ (r : Reply). r.text) says in
    let fates : fates_of p.acts ++ [] ≡ [] = ap (λ (r : Reply). r.left.fates) says in
    let none : p.acts ≡ [] = no_try p.acts p.requested.attempts (sym (append-nil (fates_of p.acts)) ∙ fates) in
    (sym (append-nil text) ∙ sym text_then_ok, subst (λ acts. IsRunOn on old (commands_of acts) (replies_of acts) new) none p.run)

module _ {D : Type 0} (reading : Reading) (bytes : List ℕ) (s : SessionValue D) (j : JobValue) (whole : s.is_broken ≡ false) (is : s.state ≡ Loaded j) where
  -- if the state accepts a plan, the reply is that to the operation
  accepted : (plan : Plan) → refusal s.state (command.Adopt plan) ≡ None → (fates : List Fate)
      → adopt (next_fate fates) (as_server_state s fates) (Ok plan) ≡ plain (as_server_state s fates) (command.Adopt plan)
  accepted plan none fates = by_fates fates ∙ sym (carried_tried (as_server_state s fates) (command.Adopt plan) (λ t. answer_reply t answer.Ok) whole none)
    where
      unless : (fates : List Fate) → adopted_unless (refusal s.state (command.Adopt plan)) (as_server_state s fates) plan
          ≡ by_fate (next_fate fates) (after_attempt (as_server_state s fates)) (command.Adopt plan) (λ t. answer_reply t answer.Ok)
      unless fates = ap (λ r. adopted_unless r (as_server_state s fates) plan) none

      by_fates : (fates : List Fate) → adopt (next_fate fates) (as_server_state s fates) (Ok plan) ≡ by_fate (next_fate fates) (after_attempt (as_server_state s fates)) (command.Adopt plan) (λ t. answer_reply t answer.Ok)
      by_fates [] = unless []
      by_fates (Done ∷ fates) = unless (Done ∷ fates)
      by_fates (NoMemory ∷ fates) = refl
      by_fates (SpentFate ∷ fates) = unless (SpentFate ∷ fates)
      by_fates (Failed ∷ fates) = unless (Failed ∷ fates)

  -- the reply to `adopt` depends on the result of reading the text
  of_found : (found : Result Plan AssignmentFault) → found ≡ reading.plan j.problem j.pins bytes → (fates : List Fate)
      → says (adopt_on reading bytes) (as_server_state s fates) ≡ adopt (next_fate fates) (as_server_state s fates) found
  of_found found e fates = with_job (adopt_on reading bytes) (as_server_state s fates) j whole is ∙ ap (adopt (next_fate fates) (as_server_state s fates)) (sym e)

module _ {D : Type 0} {on : sectors.Ghosts D} (reading : Reading) (bytes : List ℕ) (s : SessionValue D) (j : JobValue) (whole : s.is_broken ≡ false) (is : s.state ≡ Loaded j) where
  pub adopt_dropped : Reports on s (says (adopt_on reading bytes)) (line (answer_text (answer.Refused core.OutOfMemory))) s silent
  adopt_dropped = reports_fate s (says (adopt_on reading bytes)) (Some false) (answer.Refused core.OutOfMemory) (λ later. with_job (adopt_on reading bytes) (as_server_state s (NoMemory ∷ later)) j whole is)

  pub adopt_unread : (why : AssignmentFault) → IsPlanUnlessMemory (Err why) (reading.plan j.problem j.pins bytes)
      → Reports on s (says (adopt_on reading bytes)) (line (answer_text (answer.AssignmentFault why))) s silent
  adopt_unread why (inl e) =
      reports_fate s (says (adopt_on reading bytes)) (Some true) (answer.AssignmentFault why) (λ later. of_found reading bytes s j whole is (Err why) e (Done ∷ later))
  adopt_unread why (inr none) =
      let memory : why ≡ unseated.OutOfMemory = cc in
      subst (λ w. Reports on s (says (adopt_on reading bytes)) (line (answer_text (answer.AssignmentFault w))) s silent) (sym memory) adopt_dropped

  pub adopt_read : (plan : Plan) (new : SessionValue D) (text : List ℕ) → IsPlanUnlessMemory (Ok plan) (reading.plan j.problem j.pins bytes)
      → Reports on s (λ t. plain t (command.Adopt plan)) text new silent
      → Reports on s (says (adopt_on reading bytes)) text new silent
  adopt_read plan new text (inr none) reports = absurd cc
  adopt_read plan new text (inl e) reports = by (refusal s.state (command.Adopt plan)) refl
    where
      by : (r : Option Refusal) → refusal s.state (command.Adopt plan) ≡ r → Reports on s (says (adopt_on reading bytes)) text new silent
      by None none =
          reports_as s new (λ t. plain t (command.Adopt plan)) (says (adopt_on reading bytes)) silent text
          (λ fates. of_found reading bytes s j whole is (Ok plan) e fates ∙ accepted reading bytes s j whole is plan none fates) reports
      by (Some r) refused =
          let stays = refused_stays on s new (command.Adopt plan) r text whole refused reports in
          let text_then_ok : Reports on s (says (adopt_on reading bytes)) (line (answer_text (answer.Refused r))) s silent =
          reports_fate s (says (adopt_on reading bytes)) (Some true) (answer.Refused r)
          (λ later. of_found reading bytes s j whole is (Ok plan) e (Done ∷ later) ∙ ap (λ r. adopted_unless r (as_server_state s (Done ∷ later)) plan) refused) in
          subst (λ t. Reports on s (says (adopt_on reading bytes)) t new silent) (sym stays.0)
          (subst (λ n. Reports on s (says (adopt_on reading bytes)) (line (answer_text (answer.Refused r))) n silent) (sym stays.1) text_then_ok)

-- the replies to `print` and to a question, for a job
pub planned_is : (j : JobValue) → (unplanned_count j.problem j.plan == 0) ≡ true → (t : ServerState) → print_reply t (Loaded j) ≡ text_then_ok (next_fate t.fates) (after_attempt t) (print_text j)
planned_is j e t = rw e refl

pub unplanned_is : (j : JobValue) → (unplanned_count j.problem j.plan == 0) ≡ false → (t : ServerState) → print_reply t (Loaded j) ≡ answer_reply t answer.Unplanned
unplanned_is j e t = rw e refl

pub by_refusal : (j : JobValue) (q : Question) (r : Option Refusal) → question_refusal j q ≡ r → (t : ServerState) → question_reply q t (Loaded j) ≡ text_unless r t (question_text j q)
by_refusal j q r e t = ap (λ o. text_unless o t (question_text j q)) e

pub sayable_is : (j : JobValue) → has_format j.problem ≡ true → (t : ServerState) → instance_reply t (Loaded j) ≡ text_then_ok (next_fate t.fates) (after_attempt t) (instance_text j.problem)
sayable_is j e t = rw e refl

pub unsayable_is : (j : JobValue) → has_format j.problem ≡ false → (t : ServerState) → instance_reply t (Loaded j) ≡ answer_reply t answer.NoFormat
unsayable_is j e t = rw e refl

-- if the text was made or memory ran out, the format can express the problem; if the result is `NoFormat`, it
-- can't
module _ {T : Type 0} (b : Bool) (r : Result T WriteFault) (none : b ≡ false → IsErrOf r instance_fault.NoFormat) (some : b ≡ true → IsOkUnless r instance_fault.OutOfMemory) where
  pub sayable_ok : (x : T) → r ≡ Ok x → b ≡ true
  sayable_ok x e = elim (cases_Bool b) [ inl t ↦ t | inr f ↦ absurd (let other : r ≡ Err instance_fault.NoFormat = none f in cc) ]

  pub sayable_unmade : r ≡ Err instance_fault.OutOfMemory → b ≡ true
  sayable_unmade e = elim (cases_Bool b) [ inl t ↦ t | inr f ↦ absurd (let other : r ≡ Err instance_fault.NoFormat = none f in cc) ]

  pub unsayable_reported : r ≡ Err instance_fault.NoFormat → b ≡ false
  unsayable_reported e = elim (cases_Bool b) [
    | inl t ↦ absurd (let other : instance_fault.NoFormat ≡ instance_fault.OutOfMemory = subst (λ q. IsOkUnless q instance_fault.OutOfMemory) e (some t) in cc)
    | inr f ↦ f
  ]

-- if the text was made or memory ran out, all requests are planned; if the result is `Unplanned`, some are not
module _ {T : Type 0} (n : ℕ) (r : Result T WriteSolFault) (some : 0 < n → IsErrOf r (write.Unplanned n)) (none : n ≡ 0 → IsOkUnless r write.OutOfMemory) where
  pub planned_ok : (x : T) → r ≡ Ok x → (n == 0) ≡ true
  planned_ok x e = at (n == 0) refl
    where
      at : (b : Bool) → (n == 0) ≡ b → (n == 0) ≡ true
      at true is = is
      at false is = let more : r ≡ Err (write.Unplanned n) = some (omega (arith, eqb-false n 0 is)) in absurd cc

  pub planned_unmade : r ≡ Err write.OutOfMemory → (n == 0) ≡ true
  planned_unmade e = at (n == 0) refl
    where
      at : (b : Bool) → (n == 0) ≡ b → (n == 0) ≡ true
      at true is = is
      at false is = let more : r ≡ Err (write.Unplanned n) = some (omega (arith, eqb-false n 0 is)) in absurd cc

  pub unplanned_reported : (k : ℕ) → r ≡ Err (write.Unplanned k) → (n == 0) ≡ false
  unplanned_reported k e = at (n == 0) refl
    where
      at : (b : Bool) → (n == 0) ≡ b → (n == 0) ≡ false
      at true is =
          let other : write.Unplanned k ≡ write.OutOfMemory = subst (λ q. IsOkUnless q write.OutOfMemory) e (none (eqb-true n 0 is)) in
          absurd cc
      at false is = is
