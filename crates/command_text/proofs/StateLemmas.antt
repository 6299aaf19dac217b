-- The session ends in the state after the operations that it has executed.
use Rattle.std.proofs.Common.{◌≡◌, ◌∙◌, ℕ, Bool, true, false, if◌then◌else◌, List, [], ◌∷◌, ◌++◌, Option, Some, None, Result, Ok, Err, refl, sym, ap, ◌==◌}
use Rattle.plan_types.specs.Instance.{Instance}
use Rattle.route_sched.specs.Cost.{unplanned_count}
use Rattle.instance_read.specs.declared.faults.ReadFault.{ReadFault}
use Rattle.command_core.specs.Effects.{effect}
use Rattle.command_core.specs.Refusals.{refusal}
use Rattle.command_core.specs.Runs.{after}
use Rattle.command_types.specs.declared.states.State.{State}
use Rattle.command_types.specs.declared.states.State.TheVariants.{Empty, Loaded}
use Rattle.command_types.specs.declared.commands.Command.{Command}
use Rattle.command_types.specs.declared.commands.Command.TheVariants as command
use Rattle.command_types.specs.declared.refusals.Refusal.{Refusal}
use Rattle.command_text.specs.Answering.{
  Fate,
  Done,
  NoMemory,
  Spent,
  Failed,
  ServerState,
  Reply,
  answer_reply,
  by_fate,
  operation_reply,
  question_reply,
  load,
  load_text_reply,
  next_fate,
  next_reply,
  command_reply,
  print_reply,
  refusal_reply,
  reply,
  steps_to_make,
  commands_of,
  operations_reply,
  steps_or_refusal,
  pieces_reply,
  show_reply,
  text_then_ok,
  printed_after,
  text_unless,
  after_attempt,
  unless_broken,
  unless_refused,
  with_text,
  instance_reply,
  adopt,
  adopt_on,
  adopt_text_reply,
  adopted_unless,
  text_reply,
}
use Rattle.command_text.specs.Cutting.{Piece, is_short}
use Rattle.command_text.specs.Laws.{StatesFollow}
use Rattle.command_text.specs.Questions.{question_refusal, question_text}
use Rattle.command_text.specs.Readings.{Reading}
use Rattle.instance_text.specs.Formats.{has_format}
use Rattle.instance_text.specs.Texts.{instance_text}
use Rattle.plan_types.specs.declared.plans.Plan.{Plan}
use Rattle.vehicle_assignment.specs.declared.faults.AssignmentFault.{AssignmentFault}
use Rattle.command_text.specs.declared.parsed_command.Purpose.{Purpose}
use Rattle.command_text.specs.declared.parsed_command.Purpose.TheVariants as purpose
use Rattle.command_text.specs.Showing.{print_text, show_text}
use Rattle.command_text.specs.declared.answers.Answer.{Answer}
use Rattle.command_text.specs.declared.answers.Answer.TheVariants as answer
use Rattle.command_text.specs.declared.parsed_command.ParsedCommand.{ParsedCommand}
use Rattle.command_text.specs.declared.questions.Question.{Question}
use Rattle.command_text.specs.declared.steps.StepCursor.{StepCursor}
use Rattle.command_text.specs.declared.parsed_command.ParsedCommand.TheVariants.{Nothing, BadLine, BadText, TextRange, Text, Plain, Refused, Steps, Print, PrintInstance, Show, Ask, Next, Help}

abbrev Follows : ServerState → Reply → Type 0
Follows s r = r.left.state ≡ after s.state r.commands

one_of : (b : Bool) (s : ServerState) (x y : Reply) → Follows s x → Follows s y → Follows s (if b then x else y)
one_of true s x y fx fy = fx
one_of false s x y fx fy = fy

with_fate : (fate : Fate) (s : ServerState) (c : Command) (done : ServerState → Reply) → ((t : ServerState) → Follows t (done t)) → Follows s (by_fate fate s c done)
with_fate Done s c done follows = follows (record s { state = effect s.state c })
with_fate NoMemory s c done follows = refl
with_fate Spent s c done follows = refl
with_fate Failed s c done follows = refl

unless : (r : Option Refusal) (s : ServerState) (c : Command) (done : ServerState → Reply) → ((t : ServerState) → Follows t (done t)) → Follows s (unless_refused r s c done)
unless (Some r) s c done follows = refl
unless None s c done follows = with_fate (next_fate s.fates) (after_attempt s) c done follows

carries : (s : ServerState) (c : Command) (done : ServerState → Reply) → ((t : ServerState) → Follows t (done t)) → Follows s (operation_reply s c done)
unfolding operation_reply
carries s c done follows = one_of s.is_broken s (answer_reply s answer.Broken) (unless_refused (refusal s.state c) s c done) refl (unless (refusal s.state c) s c done follows)

carries_all : (s : ServerState) (cs : List Command) → Follows s (operations_reply s cs)
unfolding operations_reply
carries_all s [] = refl
carries_all s (c ∷ cs) = carries s c (λ t. with_text (printed_after c t.state) (operations_reply t cs)) (λ t. carries_all t cs)

makes_or : (s : ServerState) (steps : Result StepCursor Answer) → Follows s (steps_or_refusal s steps)
makes_or s (Ok steps) = carries_all s (commands_of steps s.state)
makes_or s (Err r) = refl

text_follows : (fate : Fate) (s : ServerState) (text : List ℕ) → Follows s (text_then_ok fate s text)
text_follows Done s text = refl
text_follows NoMemory s text = refl
text_follows Spent s text = refl
text_follows Failed s text = refl

shows : (s : ServerState) (state : State) → Follows s (show_reply s state)
shows s Empty = refl
shows s (Loaded j) = text_follows (next_fate s.fates) (after_attempt s) (show_text j)

prints : (s : ServerState) (state : State) → Follows s (print_reply s state)
prints s Empty = refl
prints s (Loaded j) =
    one_of (unplanned_count j.problem j.plan == 0) s (text_then_ok (next_fate s.fates) (after_attempt s) (print_text j)) (answer_reply s answer.Unplanned) (text_follows (next_fate s.fates) (after_attempt s) (print_text j)) refl

instance_follows : (s : ServerState) (state : State) → Follows s (instance_reply s state)
instance_follows s Empty = refl
instance_follows s (Loaded j) =
    one_of (has_format j.problem) s (text_then_ok (next_fate s.fates) (after_attempt s) (instance_text j.problem)) (answer_reply s answer.NoFormat)
    (text_follows (next_fate s.fates) (after_attempt s) (instance_text j.problem)) refl

text_unless_follows : (r : Option Refusal) (s : ServerState) (text : List ℕ) → Follows s (text_unless r s text)
text_unless_follows (Some r) s text = refl
text_unless_follows None s text = text_follows (next_fate s.fates) (after_attempt s) text

informs : (q : Question) (s : ServerState) (state : State) → Follows s (question_reply q s state)
informs q s Empty = refl
informs q s (Loaded j) = text_unless_follows (question_refusal j q) s (question_text j q)

states_next : (s : ServerState) (state : State) → Follows s (next_reply s state)
states_next s Empty = refl
states_next s (Loaded j) = refl

refuses : (s : ServerState) (state : State) (r : Refusal) → Follows s (refusal_reply s state r)
refuses s Empty r = refl
refuses s (Loaded j) r = refl

is_loaded : (s : ServerState) (seed : ℕ) (found : Result Instance ReadFault) → Follows s (load_text_reply s seed found)
is_loaded s seed (Ok p) = with_fate (next_fate s.fates) (after_attempt s) (command.Load p seed) (λ t. answer_reply t answer.Ok) (λ t. refl)
is_loaded s seed (Err fault) = refl

loads : (fate : Fate) (s : ServerState) (seed : ℕ) (found : Result Instance ReadFault) → Follows s (load fate s seed found)
loads Done s seed found = is_loaded s seed found
loads NoMemory s seed found = refl
loads Spent s seed found = is_loaded s seed found
loads Failed s seed found = is_loaded s seed found

adopts_unless : (r : Option Refusal) (s : ServerState) (plan : Plan) → Follows s (adopted_unless r s plan)
adopts_unless (Some r) s plan = refl
adopts_unless None s plan = with_fate (next_fate s.fates) (after_attempt s) (command.Adopt plan) (λ t. answer_reply t answer.Ok) (λ t. refl)

is_adopted : (s : ServerState) (found : Result Plan AssignmentFault) → Follows s (adopt_text_reply s found)
is_adopted s (Ok plan) = adopts_unless (refusal s.state (command.Adopt plan)) s plan
is_adopted s (Err why) = refl

adopts : (fate : Fate) (s : ServerState) (found : Result Plan AssignmentFault) → Follows s (adopt fate s found)
adopts Done s found = is_adopted s found
adopts NoMemory s found = refl
adopts Spent s found = is_adopted s found
adopts Failed s found = is_adopted s found

adopts_on : (reading : Reading) (text : List ℕ) (s : ServerState) (state : State) → Follows s (adopt_on reading text s state)
adopts_on reading text s Empty = refl
adopts_on reading text s (Loaded j) = adopts (next_fate s.fates) s (reading.plan j.problem j.pins text)

takes : (reading : Reading) (purpose : Purpose) (text : List ℕ) (s : ServerState) → Follows s (text_reply reading purpose text s)
takes reading (purpose.Load format seed) text s = loads (next_fate s.fates) s seed (reading.instance format text)
takes reading purpose.Adopt text s = adopts_on reading text s s.state

unbroken : (s : ServerState) (r : Reply) → Follows s r → Follows s (unless_broken s r)
unbroken s r follows = one_of s.is_broken s (answer_reply s answer.Broken) r refl follows

answers : (reading : Reading) (s : ServerState) (a : ParsedCommand) (text : List ℕ) (short : Bool) → Follows s (command_reply reading s a text short)
answers reading s Nothing text short = refl
answers reading s BadLine text short = refl
answers reading s BadText text short = refl
answers reading s TextRange text short = refl
answers reading s (Text purpose len) text short =
    one_of short s (answer_reply s answer.Truncated) (unless_broken s (text_reply reading purpose text s)) refl
    (unbroken s (text_reply reading purpose text s) (takes reading purpose text s))
answers reading s (Plain c) text short = carries s c (λ t. answer_reply t answer.Ok) (λ t. refl)
answers reading s (Refused r) text short = unbroken s (refusal_reply s s.state r) (refuses s s.state r)
answers reading s (Steps g) text short = unbroken s (steps_or_refusal s (steps_to_make s.state g)) (makes_or s (steps_to_make s.state g))
answers reading s Print text short = unbroken s (print_reply s s.state) (prints s s.state)
answers reading s PrintInstance text short = unbroken s (instance_reply s s.state) (instance_follows s s.state)
answers reading s Show text short = unbroken s (show_reply s s.state) (shows s s.state)
answers reading s (Ask q) text short = unbroken s (question_reply q s s.state) (informs q s s.state)
answers reading s Next text short = unbroken s (next_reply s s.state) (states_next s s.state)
answers reading s Help text short = refl

replies : (reading : Reading) (s : ServerState) (p : Piece) → Follows s (reply reading s p)
unfolding reply
replies reading s p = answers reading s p.requested p.text (is_short p)

after_both : (s : State) (cs ds : List Command) → after s (cs ++ ds) ≡ after (after s cs) ds
after_both s [] ds = refl
after_both s (c ∷ cs) ds = after_both (effect s c) cs ds

pub follow : StatesFollow
unfolding pieces_reply
follow reading s [] = refl
follow reading s (p ∷ ps) =
    let r = reply reading s p in
    let q = pieces_reply reading r.left ps in
    follow reading r.left ps ∙ ap (λ t. after t q.commands) (replies reading s p) ∙ sym (after_both s.state r.commands q.commands)
