-- The session's answer to an operation is the one in its reply, and replies can be joined.
use Rattle.std.proofs.Common.{◌≡◌, ◌∙◌, ℕ, Bool, true, false, List, [], ◌∷◌, ◌++◌, ◌⊎◌, inl, inr, Option, Some, None, Result, Ok, Err, refl, sym, ap, ap₂, subst, arith, append_assoc, append-nil}
use Rattle.std.specs.Prelude.{if◌then◌else◌}
use Rattle.std.specs.Option.{option_map, option_or}
use Rattle.command_core.specs.Effects.{effect}
use Rattle.command_core.specs.Refusals.{refusal}
use Rattle.command_types.specs.declared.commands.Command.{Command}
use Rattle.command_types.specs.declared.refusals.Refusal.{Refusal}
use Rattle.command_types.specs.declared.refusals.Refusal.TheVariants as core
use Rattle.command_text.specs.Answering.{
  Fate,
  Done,
  NoMemory,
  Failed,
  Reply,
  ServerState,
  answer_reply,
  by_fate,
  operation_reply,
  operations_reply,
  commands_of,
  steps_or_refusal,
  next_fate,
  plain,
  progress_after,
  progress_text,
  steps_to_make,
  printed_after,
  after_attempt,
  unless_broken,
  with_command,
  with_text,
}
use Rattle.command_types.specs.declared.states.State.{State}
use Rattle.command_text.specs.Answering.{Spent as SpentFate}
use Rattle.command_text.specs.Answers.{answer_text, line}
use Rattle.command_text.specs.declared.answers.Answer.{Answer}
use Rattle.command_text.specs.declared.answers.Progress.{Progress}
use Rattle.command_text.specs.declared.steps.StepRequest.{StepRequest}
use Rattle.command_text.specs.declared.steps.StepCursor.{StepCursor}
use Rattle.command_text.specs.declared.answers.Answer.TheVariants as answer
use Rattle.recover.specs.Applying.{IsAnswer, HasFailedDevice, IsDone, spent_denial}
use Rattle.recover.specs.Sessions.{SessionValue}
use Rattle.recover.specs.declared.denials.Denial.{Denial}
use Rattle.recover.specs.declared.denials.Denial.TheVariants.{Broken, Core, DeviceFault, OutOfMemory, Spent}
use Rattle.command_core.specs.Runs.{after}
use Rattle.command_server.specs.Streams.{Extends, WritesAndFlushes, IsWrittenAndFlushed, Stream}
use Rattle.command_server.specs.Acts.{Applied, IsPrefixOf, IsAttempt, Turn, executed_of, events_by, events_in, fates_of, kept_of, without_failures}
use Rattle.command_server.specs.ServeContract.{AreRequested, Leads, Reports, as_server_state, preceded}
use Rattle.command_server.specs.ServeSteps.{Answers, IsAppliedOn, Serves, answer_to_denial, progress_of, silent, still_executed}
use Rattle.command_server.proofs.ActLemmas.{requests_both, begins_as, begins_at_all, carried_both, fates_before, run_both}
use Rattle.command_server.proofs.StreamLemmas.{extends_none, extends_on}
use Rattle.command_server.proofs.TurnLemmas.{events_both, is_turn, reported_as, reported_both, reported_nothing, reported_once}
use Rattle.command_server.proofs.AttemptLemmas.{requested_as, requested_both, requested_command, requested_nothing}
use Rattle.recover.specs.declared.replies.Reply.{Reply as SessionReply}
use Rattle.sector_disk.specs.declared.sectors.Sectors as sectors

-- ---- replies that follow one another

pub preceded_twice : (t u : List ℕ) (c d : List Command) (r : Reply) → preceded t c (preceded u d r) ≡ preceded (t ++ u) (c ++ d) r
preceded_twice t u c d r =
    ap₂ {C = Reply} (λ (x : List ℕ) (y : List Command). record { text = x; commands = y; left = r.left }) (sym (append_assoc t u r.text)) (sym (append_assoc c d r.commands))

pub after_both : (s : State) (cs ds : List Command) → after s (cs ++ ds) ≡ after (after s cs) ds
after_both s [] ds = refl
after_both s (c ∷ cs) ds = after_both (effect s c) cs ds

unfoldable pub leads_nothing : {D : Type 0} {on : sectors.Ghosts D} (s : SessionValue D) (f : ServerState → Reply) → Leads on s f [] s f
leads_nothing s f = record { acts = []; turns = []; run = refl; reported = reported_nothing s f; says = λ later. refl; requested = requested_nothing s f; requests_kept = λ later. begins_at_all _; state = refl }

pub reports_nothing : {D : Type 0} {on : sectors.Ghosts D} (s : SessionValue D) (f : ServerState → Reply) → Reports on s f [] s f
reports_nothing s f = record { acts = []; run = refl; says = λ later. refl; requested = requested_nothing s f; requests_kept = λ later. begins_at_all _; state = refl; few = omega arith }

unfoldable pub leads_on : {D : Type 0} {on : sectors.Ghosts D} (a b c : SessionValue D) (f g h : ServerState → Reply) (t u : List ℕ) → Leads on a f t b g → Leads on b g u c h → Leads on a f (t ++ u) c h
leads_on {on = on} a b c f g h t u p q = record {
  acts = p.acts ++ q.acts;
  turns = p.turns ++ q.turns;
  run = run_both on a b c p.acts q.acts p.run q.run;
  reported = reported_both a b f g p.acts q.acts t u p.turns q.turns p.reported p.says q.reported;
  says = λ later.
      ap (λ fates. f (as_server_state a fates)) (fates_before p.acts q.acts later) ∙ p.says (fates_of q.acts ++ later) ∙ ap (preceded t (executed_of p.acts)) (q.says later)
      ∙ preceded_twice t u (executed_of p.acts) (executed_of q.acts) (h (as_server_state c later))
      ∙ ap (λ cs. preceded (t ++ u) cs (h (as_server_state c later))) (sym (carried_both p.acts q.acts));
  requested = requested_both p.acts q.acts a b f g t p.says p.requested q.requested;
  requests_kept = requests_both p.acts q.acts a b f g t p.says p.requests_kept q.requests_kept;
  state = q.state ∙ ap (λ s. after s (executed_of q.acts)) p.state ∙ sym (after_both a.state (executed_of p.acts) (executed_of q.acts)) ∙ ap (after a.state) (sym (carried_both p.acts q.acts));
}

unfoldable pub serves_nothing : {D : Type 0} {on : sectors.Ghosts D} (s : SessionValue D) (f : ServerState → Reply) (o : Stream) → Serves on s f o o s f
unfolding leads_nothing
serves_nothing s f o = record { text = []; leads = leads_nothing s f; written = extends_none o }

unfoldable pub serves_on : {D : Type 0} {on : sectors.Ghosts D} (a b c : SessionValue D) (f g h : ServerState → Reply) (x y z : Stream) → Serves on a f x y b g
    → Serves on b g y z c h → Serves on a f x z c h
unfolding leads_on
serves_on a b c f g h x y z p q = record {
  text = p.text ++ q.text;
  leads = leads_on a b c f g h p.text q.text p.leads q.leads;
  written = subst (λ e. Extends x z e (p.text ++ q.text)) (sym (events_both p.leads.turns q.leads.turns))
      (extends_on x y z (events_by p.leads.turns) (events_by q.leads.turns) p.text q.text p.written q.written);
}

-- in `Leads`, the first reply may be replaced by an equal one
unfoldable pub leads_as : {D : Type 0} {on : sectors.Ghosts D} (a b : SessionValue D) (f f' g : ServerState → Reply) (t : List ℕ)
    → ((fates : List Fate) → f' (as_server_state a fates) ≡ f (as_server_state a fates)) → Leads on a f t b g → Leads on a f' t b g
leads_as a b f f' g t same p = record {
  acts = p.acts;
  turns = p.turns;
  run = p.run;
  reported = reported_as a f f' p.acts t p.turns same p.reported;
  says = λ later. same (fates_of p.acts ++ later) ∙ p.says later;
  requested = requested_as a f f' p.acts same p.requested;
  requests_kept = λ later. begins_as (kept_of p.acts) _ _ (ap (λ (r : Reply). r.commands) (same (without_failures (fates_of p.acts) ++ later))) (p.requests_kept later);
  state = p.state;
}

pub reports_as : {D : Type 0} {on : sectors.Ghosts D} (a b : SessionValue D) (f f' g : ServerState → Reply) (t : List ℕ)
    → ((fates : List Fate) → f' (as_server_state a fates) ≡ f (as_server_state a fates)) → Reports on a f t b g → Reports on a f' t b g
reports_as a b f f' g t same p = record {
  acts = p.acts;
  run = p.run;
  says = λ later. same (fates_of p.acts ++ later) ∙ p.says later;
  requested = requested_as a f f' p.acts same p.requested;
  requests_kept = λ later. begins_as (kept_of p.acts) _ _ (ap (λ (r : Reply). r.commands) (same (without_failures (fates_of p.acts) ++ later))) (p.requests_kept later);
  state = p.state;
  few = p.few;
}

pub serves_as : {D : Type 0} {on : sectors.Ghosts D} (a b : SessionValue D) (f f' g : ServerState → Reply) (x y : Stream)
    → ((fates : List Fate) → f' (as_server_state a fates) ≡ f (as_server_state a fates)) → Serves on a f x y b g → Serves on a f' x y b g
unfolding leads_as
serves_as a b f f' g x y same p = record { text = p.text; leads = leads_as a b f f' g p.text same p.leads; written = p.written }

-- in `Leads`, the second reply may be replaced by an equal one
unfoldable pub leads_to : {D : Type 0} {on : sectors.Ghosts D} (a b : SessionValue D) (f g g' : ServerState → Reply) (t : List ℕ)
    → ((fates : List Fate) → g (as_server_state b fates) ≡ g' (as_server_state b fates)) → Leads on a f t b g → Leads on a f t b g'
leads_to a b f g g' t same p = record {
  acts = p.acts;
  turns = p.turns;
  run = p.run;
  reported = p.reported;
  says = λ later. p.says later
      ∙ ap (preceded t (executed_of p.acts)) (same later);
  requested = p.requested;
  requests_kept = p.requests_kept;
  state = p.state;
}

pub reports_to : {D : Type 0} {on : sectors.Ghosts D} (a b : SessionValue D) (f g g' : ServerState → Reply) (t : List ℕ)
    → ((fates : List Fate) → g (as_server_state b fates) ≡ g' (as_server_state b fates)) → Reports on a f t b g → Reports on a f t b g'
reports_to a b f g g' t same p = record {
  acts = p.acts;
  run = p.run;
  says = λ later. p.says later
      ∙ ap (preceded t (executed_of p.acts)) (same later);
  requested = p.requested;
  requests_kept = p.requests_kept;
  state = p.state;
  few = p.few;
}

-- ---- the written part of an answer

-- an answer that is reported in one turn is served
pub serves_reported : {D : Type 0} {on : sectors.Ghosts D} (a b : SessionValue D) (f g : ServerState → Reply) (t : List ℕ) (x y : Stream) → Reports on a f t b g
    → IsWrittenAndFlushed x y (on.calls b.device) t → Serves on a f x y b g
serves_reported {on = on} a b f g t x y p flushed_stream = record {
  text = t;
  leads = record {
    acts = p.acts;
    turns = turn ∷ [];
    run = p.run;
    reported = reported_once a f p.acts t flushed_stream.texts (on.calls b.device) (is_turn on p.acts flushed_stream.texts a b p.few p.run) flushed_stream.whole
        (λ later. record {
          text = record { rest = (g (as_server_state b later)).text; whole = ap (λ (r : Reply). r.text) (p.says later) };
          commands = record { rest = (g (as_server_state b later)).commands; whole = ap (λ (r : Reply). r.commands) (p.says later) };
        });
    says = p.says;
    requested = p.requested;
    requests_kept = p.requests_kept;
    state = p.state;
  };
  written = subst (λ e. Extends x y e t) (sym (append-nil (events_in turn))) flushed_stream.extends;
}
  where
    turn : Turn
    turn = record { acts = p.acts; texts = flushed_stream.texts; calls = on.calls b.device }

pub answers_reported : {D T E : Type 0} {on : sectors.Ghosts D} {a b : SessionValue D} {f : ServerState → Reply} {t : List ℕ} (r : Result T E) (x y : Stream)
    → Reports on a f t b silent → WritesAndFlushes x y r (on.calls b.device) t → Answers on r a f x y b silent
answers_reported {a = a} {b = b} {f = f} {t = t} (Ok done) x y reports flushed_stream = serves_reported a b f silent t x y reports flushed_stream
answers_reported {t = t} (Err fault) x y reports part = inl (record { last = t; later = None; reports = reports; part = part })

-- an answer that is reported after others is served with them
pub serves_further : {D : Type 0} {on : sectors.Ghosts D} {a b c : SessionValue D} {f g h : ServerState → Reply} {t : List ℕ} {x y z : Stream}
    → Serves on a f x y b g → Reports on b g t c h → IsWrittenAndFlushed y z (on.calls c.device) t → Serves on a f x z c h
serves_further {a = a} {b = b} {c = c} {f = f} {g = g} {h = h} {t = t} {x = x} {y = y} {z = z} so_far reports flushed_stream =
    serves_on a b c f g h x y z so_far (serves_reported b c g h t y z reports flushed_stream)

pub answers_after : {D T E : Type 0} {on : sectors.Ghosts D} {a b c : SessionValue D} {f : ServerState → Reply} {t : List ℕ} {x y : Stream} (r : Result T E)
    (later : Option (List Command)) (commands : List Command) (z : Stream) → Serves on a f x y b (λ s. operations_reply s commands)
    → Reports on b (λ s. operations_reply s commands) t c (still_executed later) → WritesAndFlushes y z r (on.calls c.device) t → Answers on r a f x z c (still_executed later)
answers_after (Ok done) later commands z so_far reports flushed_stream = serves_further so_far reports flushed_stream
answers_after {b = b} {t = t} {y = y} (Err fault) later commands z so_far reports part = inr (record {
  commands = commands;
  reported = b;
  text = so_far.text;
  answered = so_far.leads;
  last = t;
  later = later;
  reports = reports;
  flushed_stream = y;
  written = so_far.written;
  part = part;
})

pub answers_as : {D T E : Type 0} (on : sectors.Ghosts D) (r : Result T E) (a b : SessionValue D) (f f' g : ServerState → Reply) (x y : Stream)
    → ((fates : List Fate) → f' (as_server_state a fates) ≡ f (as_server_state a fates)) → Answers on r a f x y b g
    → Answers on r a f' x y b g
unfolding leads_as
answers_as on (Ok done) a b f f' g x y same p = serves_as a b f f' g x y same p
answers_as on (Err fault) a b f f' g x y same (inl p) = inl (record { last = p.last; later = p.later; reports = reports_as a b f f' (still_executed p.later) p.last same p.reports; part = p.part })
answers_as on (Err fault) a b f f' g x y same (inr p) = inr (record {
  commands = p.commands;
  reported = p.reported;
  text = p.text;
  answered = leads_as a p.reported f f' (λ s. operations_reply s p.commands) p.text same p.answered;
  last = p.last;
  later = p.later;
  reports = p.reports;
  flushed_stream = p.flushed_stream;
  written = p.written;
  part = p.part;
})

-- ---- a reply that consists of one answer

pub answered_is : (s : ServerState) (a : Answer) → answer_reply s a ≡ preceded (line (answer_text a)) [] (silent s)
answered_is s a = ap (λ (x : List ℕ). record { text = x; commands = []; left = s }) (sym (append-nil (line (answer_text a))))

pub reports_answer : {D : Type 0} {on : sectors.Ghosts D} (s : SessionValue D) (a : Answer) → Reports on s (λ t. answer_reply t a) (line (answer_text a)) s silent
reports_answer s a = record {
  acts = [];
  run = refl;
  says = λ later. answered_is (as_server_state s later) a;
  requested = requested_nothing s (λ t. answer_reply t a);
  requests_kept = λ later. begins_at_all _;
  state = refl;
  few = omega arith;
}

-- ---- an operation, by its outcome

carried_broken : (s : ServerState) (c : Command) (done : ServerState → Reply) → s.is_broken ≡ true → operation_reply s c done ≡ answer_reply s answer.Broken
unfolding operation_reply
carried_broken s c done e = rw e refl

pub carried_refused : (s : ServerState) (c : Command) (done : ServerState → Reply) (r : Refusal) → s.is_broken ≡ false → refusal s.state c ≡ Some r → operation_reply s c done ≡ answer_reply s (answer.Refused r)
unfolding operation_reply
carried_refused s c done r e f = rw (e, f) refl

pub carried_tried : (s : ServerState) (c : Command) (done : ServerState → Reply) → s.is_broken ≡ false → refusal s.state c ≡ None → operation_reply s c done ≡ by_fate (next_fate s.fates) (after_attempt s) c done
unfolding operation_reply
carried_tried s c done e f = rw (e, f) refl

abbrev first_cause : Bool → Option Refusal → Option Denial → Option Denial
first_cause is_broken refused out = if is_broken then Some Broken else option_or (option_map Core refused) out

-- the reply of a session with this answer, when n calls had finished
abbrev pub answers_so : Result (Unit {0}) Denial → ℕ → SessionReply
answers_so answer n = record { answer = answer; calls = n }

module _ {D : Type 0} (old new : SessionValue D) (command : Command) where
  not_denied : (b : Bool) (r : Option Refusal) (out : Option Denial) (x : Unit {0}) → IsAnswer (first_cause b r out) (Ok x) → (b ≡ false) × (r ≡ None)
  not_denied true r out x h = absurd cc
  not_denied false (Some r) out x h = absurd cc
  not_denied false None out x h = (refl, refl)

  done_is : IsDone old command new → old.is_broken ≡ false → (later : List Fate) → record (after_attempt (as_server_state old (Done ∷ later))) { state = effect old.state command } ≡ as_server_state new later
  done_is is e later =
      ap₂ {C = ServerState} (λ state is_broken. record { state = state; is_broken = is_broken; fates = later }) (sym is.state) (e ∙ sym is.is_broken)

spent_only : (out : Bool) (d : Denial) → IsAnswer {T = Unit {0}} (if out then Some Spent else None) (Err d) → (d ≡ Spent) ⊎ ((d ≡ OutOfMemory) ⊎ (d ≡ DeviceFault))
spent_only true d h = inl cc
spent_only false OutOfMemory h = inr (inl refl)
spent_only false DeviceFault h = inr (inr refl)
spent_only false Broken h = absurd h
spent_only false (Core r) h = absurd h
spent_only false Spent h = absurd h

module _ {D : Type 0} (on : sectors.Ghosts D) (old new : SessionValue D) (command : Command) (n : ℕ) where
  -- if the operation was executed, its reply continues
  pub carried_on : (done : ServerState → Reply) (x : Unit {0}) → IsAppliedOn on old command (answers_so (Ok x) n) new → Reports on old (λ s. operation_reply s command done) [] new done
  carried_on done x applied =
      let free = not_denied old new command old.is_broken (refusal old.state command) (spent_denial old.place command) x applied.answer in
      let says : (later : List Fate) → operation_reply (as_server_state old (Done ∷ later)) command done ≡ preceded [] (command ∷ []) (done (as_server_state new later)) =
      λ later. carried_tried (as_server_state old (Done ∷ later)) command done free.0 free.1 ∙ ap (λ s. with_command command (done s)) (done_is old new command applied.makes free.0 later) in
      record {
        acts = Applied command (answers_so (Ok x) n) ∷ [];
        run = (new, applied, refl);
        says = says;
        requested = requested_command old (λ s. operation_reply s command done) command (answers_so (Ok x) n) (Done, refl)
            (λ later. record { rest = (done (as_server_state new later)).commands; whole = ap (λ (r : Reply). r.commands) (says later) });
        requests_kept = λ later. record { rest = (done (as_server_state new later)).commands; whole = ap (λ (r : Reply). r.commands) (says later) };
        state = applied.makes.state;
        few = omega arith;
      }

  -- the operation is requested if its attempt succeeds
  requested_once : (done : ServerState → Reply) (why : Denial) → old.is_broken ≡ false → refusal old.state command ≡ None → IsAttempt (Applied command (answers_so (Err why) n))
      → AreRequested old (λ s. operation_reply s command done) (Applied command (answers_so (Err why) n) ∷ [])
  requested_once done why e r is_try =
      requested_command old (λ s. operation_reply s command done) command (answers_so (Err why) n) is_try
      (λ later. record {
        rest = (done (record (after_attempt (as_server_state old (Done ∷ later))) { state = effect old.state command })).commands;
        whole = ap (λ (r : Reply). r.commands) (carried_tried (as_server_state old (Done ∷ later)) command done e r);
      })

  -- the case of an attempt that leaves the session as it was
  ends_at : (f : ServerState → Reply) (a : Answer) (why : Denial) → IsAppliedOn on old command (answers_so (Err why) n) new → kept_of (Applied command (answers_so (Err why) n) ∷ []) ≡ [] → new ≡ old
      → AreRequested old f (Applied command (answers_so (Err why) n) ∷ [])
      → ((later : List Fate) → f (as_server_state old (fates_of (Applied command (answers_so (Err why) n) ∷ []) ++ later)) ≡ answer_reply (as_server_state old later) a)
      → Reports on old f (line (answer_text a)) new silent
  ends_at f a why applied none same requested says = record {
    acts = Applied command (answers_so (Err why) n) ∷ [];
    run = (new, applied, refl);
    says = λ later. says later ∙ answered_is (as_server_state old later) a ∙ ap (λ s. preceded (line (answer_text a)) [] (silent (as_server_state s later))) (sym same);
    requested = requested;
    requests_kept = λ later.
        let fates : List Fate = without_failures (fates_of (Applied command (answers_so (Err why) n) ∷ [])) ++ later in
        subst (λ cs. IsPrefixOf cs (f (as_server_state old fates)).commands) (sym none) (begins_at_all (f (as_server_state old fates)).commands);
    state = ap (λ s. s.state) same;
    few = omega arith;
  }

  -- the case of an operation that is not an attempt
  stays_at : (f : ServerState → Reply) (a : Answer) → new ≡ old → ((later : List Fate) → f (as_server_state old later) ≡ answer_reply (as_server_state old later) a) → Reports on old f (line (answer_text a)) new silent
  stays_at f a same says = record {
    acts = [];
    run = same;
    says = λ later. says later ∙ answered_is (as_server_state old later) a ∙ ap (λ s. preceded (line (answer_text a)) [] (silent (as_server_state s later))) (sym same);
    requested = requested_nothing old f;
    requests_kept = λ later. begins_at_all _;
    state = ap (λ s. s.state) same;
    few = omega arith;
  }

  pub carried_off : (done : ServerState → Reply) (d : Denial) → IsAppliedOn on old command (answers_so (Err d) n) new
      → Reports on old (λ s. operation_reply s command done) (line (answer_text (answer_to_denial d))) new silent
  carried_off done d applied = off old.is_broken refl (refusal old.state command) refl d applied.answer applied
    where
      by_spent : (d : Denial) → old.is_broken ≡ false → refusal old.state command ≡ None → (d ≡ Spent) ⊎ ((d ≡ OutOfMemory) ⊎ (d ≡ DeviceFault))
          → IsAppliedOn on old command (answers_so (Err d) n) new → Reports on old (λ s. operation_reply s command done) (line (answer_text (answer_to_denial d))) new silent
      by_spent d e r (inl is) applied =
          subst (λ x. IsAppliedOn on old command (answers_so (Err x) n) new → Reports on old (λ s. operation_reply s command done) (line (answer_text (answer_to_denial x))) new silent) (sym is)
          (λ applied. ends_at (λ s. operation_reply s command done) answer.Spent Spent applied refl applied.makes (requested_once done Spent e r (SpentFate, refl))
          (λ later. carried_tried (as_server_state old (SpentFate ∷ later)) command done e r)) applied
      by_spent d e r (inr (inl is)) applied =
          subst (λ x. IsAppliedOn on old command (answers_so (Err x) n) new → Reports on old (λ s. operation_reply s command done) (line (answer_text (answer_to_denial x))) new silent) (sym is)
          (λ applied. ends_at (λ s. operation_reply s command done) (answer.Refused core.OutOfMemory) OutOfMemory applied refl applied.makes
          (requested_once done OutOfMemory e r (NoMemory, refl)) (λ later. carried_tried (as_server_state old (NoMemory ∷ later)) command done e r)) applied
      by_spent d e r (inr (inr is)) applied =
          subst (λ x. IsAppliedOn on old command (answers_so (Err x) n) new → Reports on old (λ s. operation_reply s command done) (line (answer_text (answer_to_denial x))) new silent) (sym is)
          (λ (applied : IsAppliedOn on old command (answers_so (Err DeviceFault) n) new).
          let cut : HasFailedDevice old command new = applied.makes in record {
            acts = Applied command (answers_so (Err DeviceFault) n) ∷ [];
            run = (new, applied, refl);
            says = λ later.
                let left : record { state = old.state; is_broken = true; fates = later } ≡ as_server_state new later =
                ap₂ {C = ServerState} (λ state is_broken. record { state = state; is_broken = is_broken; fates = later }) (sym cut.state) (sym cut.is_broken) in
                carried_tried (as_server_state old (Failed ∷ later)) command done e r
                ∙ answered_is (record { state = old.state; is_broken = true; fates = later }) answer.DeviceFault
                ∙ ap (λ s. preceded (line (answer_text answer.DeviceFault)) [] (silent s)) left;
            requested = requested_once done DeviceFault e r (Failed, refl);
            requests_kept = λ later. record {
              rest = (done (record (after_attempt (as_server_state old (Done ∷ later))) { state = effect old.state command })).commands;
              whole = ap (λ (r : Reply). r.commands) (carried_tried (as_server_state old (Done ∷ later)) command done e r);
            };
            state = cut.state;
            few = omega arith;
          }) applied

      off : (b : Bool) → old.is_broken ≡ b → (r : Option Refusal) → refusal old.state command ≡ r → (d : Denial)
          → IsAnswer {T = Unit {0}} (first_cause b r (spent_denial old.place command)) (Err d) → IsAppliedOn on old command (answers_so (Err d) n) new
          → Reports on old (λ s. operation_reply s command done) (line (answer_text (answer_to_denial d))) new silent
      off true e r f' d h applied =
          let is : d ≡ Broken = cc in
          subst (λ x. IsAppliedOn on old command (answers_so (Err x) n) new → Reports on old (λ s. operation_reply s command done) (line (answer_text (answer_to_denial x))) new silent) (sym is)
          (λ applied. stays_at (λ s. operation_reply s command done) answer.Broken applied.makes (λ later. carried_broken (as_server_state old later) command done e)) applied
      off false e (Some r) f' d h applied =
          let is : d ≡ Core r = cc in
          subst (λ x. IsAppliedOn on old command (answers_so (Err x) n) new → Reports on old (λ s. operation_reply s command done) (line (answer_text (answer_to_denial x))) new silent) (sym is)
          (λ applied. stays_at (λ s. operation_reply s command done) (answer.Refused r) applied.makes (λ later. carried_refused (as_server_state old later) command done r e f')) applied
      off false e None f' d h applied = by_spent d e f' (spent_only _ d h) applied

-- ---- the results of operations, in the form that calls return

module _ {D : Type 0} (on : sectors.Ghosts D) (old new : SessionValue D) (command : Command) (reply : SessionReply) (applied : IsAppliedOn on old command reply new) where
  answered_so : (answer : Result (Unit {0}) Denial) → reply.answer ≡ answer → IsAppliedOn on old command (answers_so answer reply.calls) new
  answered_so answer e = subst (λ a. IsAppliedOn on old command (answers_so a reply.calls) new) e applied

  pub remaining_reply : (done : ServerState → Reply) (x : Unit {0}) → reply.answer ≡ Ok x → Reports on old (λ s. operation_reply s command done) [] new done
  remaining_reply done x e = carried_on on old new command reply.calls done x (answered_so (Ok x) e)

  pub ends_with : (done : ServerState → Reply) (d : Denial) → reply.answer ≡ Err d → Reports on old (λ s. operation_reply s command done) (line (answer_text (answer_to_denial d))) new silent
  ends_with done d e = carried_off on old new command reply.calls done d (answered_so (Err d) e)

  pub plain_ok : (x : Unit {0}) → reply.answer ≡ Ok x → Reports on old (λ s. plain s command) (line (answer_text answer.Ok)) new silent
  plain_ok x e =
      let p = remaining_reply (λ s. answer_reply s answer.Ok) x e in
      record {
        acts = p.acts;
        run = p.run;
        says = λ later. p.says later ∙ ap (preceded [] (executed_of p.acts)) (answered_is (as_server_state new later) answer.Ok);
        requested = requested_as old (λ s. operation_reply s command (λ t. answer_reply t answer.Ok)) (λ s. plain s command) p.acts (λ fates. refl) p.requested;
        requests_kept = p.requests_kept;
        state = p.state;
        few = p.few;
      }

  pub plain_err : (d : Denial) → reply.answer ≡ Err d → Reports on old (λ s. plain s command) (line (answer_text (answer_to_denial d))) new silent
  plain_err d e = ends_with (λ s. answer_reply s answer.Ok) d e

-- an answer that leaves the session as it is is reported
pub reports_same : {D : Type 0} {on : sectors.Ghosts D} (s : SessionValue D) (f : ServerState → Reply) (a : Answer)
    → ((fates : List Fate) → f (as_server_state s fates) ≡ answer_reply (as_server_state s fates) a) → Reports on s f (line (answer_text a)) s silent
reports_same s f a same = reports_as s s (λ t. answer_reply t a) f silent (line (answer_text a)) same (reports_answer s a)

-- ---- steps

carried_cons : (s : ServerState) (c : Command) (cs : List Command) → operations_reply s (c ∷ cs) ≡ operation_reply s c (λ t. with_text (printed_after c t.state) (operations_reply t cs))
unfolding operations_reply
carried_cons s c cs = refl

carried_none : (s : ServerState) → operations_reply s [] ≡ answer_reply s answer.Ok
unfolding operations_reply
carried_none s = refl

-- after an operation is executed, the state is its effect
pub state_done : {D : Type 0} (on : sectors.Ghosts D) (old new : SessionValue D) (command : Command) (reply : SessionReply) (x : Unit {0})
    → IsAppliedOn on old command reply new → reply.answer ≡ Ok x → new.state ≡ effect old.state command
state_done on old new command reply x applied e = (answered_so on old new command reply applied (Ok x) e).makes.state

-- if an operation was executed and then reported, the steps continue
pub next_done : {D : Type 0} {on : sectors.Ghosts D} (old mid : SessionValue D) (command : Command) (all rest : List Command) (reply : SessionReply) (x : Unit {0}) → all ≡ command ∷ rest
    → IsAppliedOn on old command reply mid → reply.answer ≡ Ok x → Reports on old (λ s. operations_reply s all) (printed_after command mid.state) mid (λ s. operations_reply s rest)
next_done {on = on} old mid command all rest reply x is applied ok =
    let done : ServerState → Reply = λ t. with_text (printed_after command t.state) (operations_reply t rest) in
    let p : Reports on old (λ s. operations_reply s all) [] mid done = reports_as old mid (λ s. operation_reply s command done) (λ s. operations_reply s all) done []
    (λ fates. ap (operations_reply (as_server_state old fates)) is ∙ carried_cons (as_server_state old fates) command rest) (remaining_reply on old mid command reply applied done x ok) in
    record { acts = p.acts; run = p.run; says = λ later. p.says later; requested = p.requested; requests_kept = p.requests_kept; state = p.state; few = p.few }

-- the remaining steps may be stated for an equal state
follows_as : {state now : State} (steps rest : StepCursor) (command : Command) → state ≡ now
    → commands_of steps state ≡ command ∷ commands_of rest (effect state command) → commands_of steps now ≡ command ∷ commands_of rest (effect now command)
follows_as steps rest command same follows = subst (λ (s : State). commands_of steps s ≡ command ∷ commands_of rest (effect s command)) same follows

module _ {D : Type 0} {on : sectors.Ghosts D} {state : State} (old mid : SessionValue D) (steps rest : StepCursor) (command : Command) (reply : SessionReply) (same : state ≡ old.state)
    (first : commands_of steps state ≡ command ∷ commands_of rest (effect state command)) (applied : IsAppliedOn on old command reply mid) where
  -- if the first operation of the steps was executed and its progress reported, the steps continue
  pub step_done : (progress : Progress) (x : Unit {0}) → progress ≡ progress_after command → reply.answer ≡ Ok x
      → Reports on old (λ s. operations_reply s (commands_of steps old.state)) (progress_of progress mid) mid (λ s. operations_reply s (commands_of rest mid.state))
  step_done progress x reported ok =
      let all : List Command = commands_of steps old.state in
      let left : mid.state ≡ effect old.state command = state_done on old mid command reply x applied ok in
      let text : printed_after command mid.state ≡ progress_of progress mid = ap (λ (p : Progress). progress_text p mid.state) (sym reported) in
      let reports = next_done old mid command all (commands_of rest (effect old.state command)) reply x (follows_as steps rest command same first) applied ok in
      let here : Reports on old (λ s. operations_reply s all) (printed_after command mid.state) mid (λ s. operations_reply s (commands_of rest mid.state)) =
      subst (λ (s : State). Reports on old (λ t. operations_reply t all) (printed_after command mid.state) mid (λ t. operations_reply t (commands_of rest s))) (sym left) reports in
      subst (λ (t : List ℕ). Reports on old (λ s. operations_reply s all) t mid (λ s. operations_reply s (commands_of rest mid.state))) text here

  -- if the operation was denied, its answer is reported
  pub step_denied : (a : Answer) (d : Denial) → a ≡ answer_to_denial d → reply.answer ≡ Err d → Reports on old (λ s. operations_reply s (commands_of steps old.state)) (line (answer_text a)) mid silent
  step_denied a d reported err =
      let all : List Command = commands_of steps old.state in
      let done : ServerState → Reply = λ t. with_text (printed_after command t.state) (operations_reply t (commands_of rest (effect old.state command))) in
      let is : all ≡ command ∷ commands_of rest (effect old.state command) = follows_as steps rest command same first in
      subst (λ b. Reports on old (λ s. operations_reply s all) (line (answer_text b)) mid silent) (sym reported)
      (reports_as old mid (λ s. operation_reply s command done) (λ s. operations_reply s all) silent (line (answer_text (answer_to_denial d)))
      (λ fates. ap (operations_reply (as_server_state old fates)) is ∙ carried_cons (as_server_state old fates) command (commands_of rest (effect old.state command)))
      (ends_with on old mid command reply applied done d err))

-- once all operations are executed, `ok` is reported
pub all_done : {D : Type 0} {on : sectors.Ghosts D} (s : SessionValue D) (all : List Command) → all ≡ [] → Reports on s (λ t. operations_reply t all) (line (answer_text answer.Ok)) s silent
all_done {on = on} s all none =
    subst (λ cs. Reports on s (λ t. operations_reply t cs) (line (answer_text answer.Ok)) s silent) (sym none)
    (reports_same s (λ t. operations_reply t []) answer.Ok (λ fates. carried_none (as_server_state s fates)))

-- ---- a command that makes steps, before its first step

abbrev by_goal : StepRequest → ServerState → Reply
by_goal goal s = unless_broken s (steps_or_refusal s (steps_to_make s.state goal))

goal_broken : (goal : StepRequest) (s : ServerState) → s.is_broken ≡ true → by_goal goal s ≡ answer_reply s answer.Broken
goal_broken goal s e = rw e refl

goal_refused : (goal : StepRequest) (s : ServerState) (a : Answer) → s.is_broken ≡ false → steps_to_make s.state goal ≡ Err a → by_goal goal s ≡ answer_reply s a
goal_refused goal s a e f = rw (e, f) refl

goal_begun : (goal : StepRequest) (s : ServerState) (steps : StepCursor) → s.is_broken ≡ false → steps_to_make s.state goal ≡ Ok steps → by_goal goal s ≡ operations_reply s (commands_of steps s.state)
goal_begun goal s steps e f = rw (e, f) refl

pub steps_broken : {D : Type 0} {on : sectors.Ghosts D} (goal : StepRequest) (s : SessionValue D) → s.is_broken ≡ true → Reports on s (by_goal goal) (line (answer_text answer.Broken)) s silent
steps_broken goal s e = reports_same s (by_goal goal) answer.Broken (λ fates. goal_broken goal (as_server_state s fates) e)

pub steps_refused : {D : Type 0} {on : sectors.Ghosts D} (goal : StepRequest) (s : SessionValue D) (a : Answer) → s.is_broken ≡ false → steps_to_make s.state goal ≡ Err a
    → Reports on s (by_goal goal) (line (answer_text a)) s silent
steps_refused goal s a e f = reports_same s (by_goal goal) a (λ fates. goal_refused goal (as_server_state s fates) a e f)

pub steps_begun : {D T E : Type 0} (on : sectors.Ghosts D) (reported : Result T E) (goal : StepRequest) (s new : SessionValue D) (steps : StepCursor) (o y : Stream)
    → s.is_broken ≡ false → steps_to_make s.state goal ≡ Ok steps
    → Answers on reported s (λ t. operations_reply t (commands_of steps s.state)) o y new silent → Answers on reported s (by_goal goal) o y new silent
steps_begun on reported goal s new steps o y e f answers =
    answers_as on reported s new (λ t. operations_reply t (commands_of steps s.state)) (by_goal goal) silent o y (λ fates. goal_begun goal (as_server_state s fates) steps e f) answers
