-- The text written so far is a part of the text of the turns whose calls have finished.
use Rattle.std.proofs.Common.{
  ◌≡◌,
  ◌∙◌,
  ℕ,
  ◌+◌,
  ◌≤◌,
  Bool,
  true,
  cond,
  List,
  [],
  ◌∷◌,
  ◌++◌,
  ◌⊎◌,
  inl,
  inr,
  Option,
  Some,
  Result,
  Ok,
  Err,
  length,
  map,
  take,
  drop,
  refl,
  sym,
  ap,
  subst,
  arith,
  append_assoc,
  append-nil,
  take-append-drop,
}
use Rattle.std.specs.List.{AllByRecursion, concat}
use Rattle.std.proofs.lemmas.Bool.{le-leb}
use Rattle.std.proofs.lemmas.Grind.{flat_map-append}
use Rattle.std.proofs.lemmas.List.{append_cancel_left}
use Rattle.std.proofs.lemmas.List.Sums.{sum_by-append, sum_by-cons}
use Rattle.command_text.specs.Answering.{Reply, pieces_reply}
use Rattle.command_text.specs.Cutting.{pieces_of}
use Rattle.command_text.specs.Readings.{Reading}
use Rattle.recover.specs.Replies.{acknowledged_count, is_acknowledged, kept_first}
use Rattle.recover.specs.Sessions.{SessionValue}
use Rattle.recover.specs.Applying.{IsAnswer, Makes, denial}
use Rattle.recover.specs.Composition.{IsRunOn}
use Rattle.recover.specs.declared.denials.Denial.{Denial}
use Rattle.recover.specs.declared.denials.Denial.TheVariants.{Broken, Core, DeviceFault, OutOfMemory, Spent}
use Rattle.recover.specs.declared.replies.Reply.{Reply as SessionReply}
use Rattle.sector_disk.specs.declared.sectors.Sectors as sectors
use Rattle.command_server.specs.Acts.{Act, Applied, Text, IsPrefixOf, IsTurn, Turn, acts_by, executed_if, executed_of, commands_of, events_by, events_in, kept_of, replies_of, text_by}
use Rattle.command_server.specs.ServeContract.{AreReported, IsCutShort, as_server_state, still}
use Rattle.command_server.specs.Streams.{Event, Flushed, Put, Stream, put_by, put_in}
use Rattle.command_server.specs.ServeSteps.{IsAppliedOn}
use Rattle.command_server.specs.CrashRecovery.{IsRunOfInput}
use Rattle.command_server.specs.declared.answering.ServeFault.{ServeFault}
use Rattle.command_server.specs.AnswerOrder.{AnswersComeAfter, ReportsAcknowledged, calls_at}
use Rattle.command_server.proofs.ActLemmas.{begins_at_all, begins_after, replies_both}
use Rattle.command_server.proofs.CrashRecoveryLemmas.{servings_are_runs}
use Rattle.command_server.proofs.TurnLemmas.{acts_both, begins_on, either_part, events_both, is_turn, reported_both, reported_once}

-- ---- a property of each of two parts

all_first : {X : Type 0} (P : X → Type 0) (xs ys : List X) → AllByRecursion P (xs ++ ys) → AllByRecursion P xs
all_first P [] ys p = tt
all_first P (x ∷ xs) ys p = (p.0, all_first P xs ys p.1)

all_rest : {X : Type 0} (P : X → Type 0) (xs ys : List X) → AllByRecursion P (xs ++ ys) → AllByRecursion P ys
all_rest P [] ys p = p
all_rest P (x ∷ xs) ys p = all_rest P xs ys p.1

-- ---- the events of a turn

pub put_both : (a b : List Event) → put_by (a ++ b) ≡ put_by a ++ put_by b
put_both a b = flat_map-append put_in a b

pub put_by_turn : (n : ℕ) (texts : List (List ℕ)) → put_by (map (Put n) texts ++ Flushed n ∷ []) ≡ concat texts
put_by_turn n [] = refl
put_by_turn n (t ∷ texts) = ap (λ l. t ++ l) (put_by_turn n texts)

first_calls : (n : ℕ) (texts : List (List ℕ)) (event : Event) (events : List Event) → map (Put n) texts ++ Flushed n ∷ [] ≡ event ∷ events → calls_at event ≡ n
first_calls n [] event events e = let is : event ≡ Flushed n = cc in ap calls_at is
first_calls n (t ∷ texts) event events e = let is : event ≡ Put n t = cc in ap calls_at is

turn_calls : (m n : ℕ) (texts : List (List ℕ)) → AllByRecursion (λ event. calls_at event ≤ m) (map (Put n) texts ++ Flushed n ∷ []) → n ≤ m
turn_calls m n [] p = p.0
turn_calls m n (t ∷ texts) p = p.0

-- these turns were reported when at most m calls had finished, and their text contains what was written
record Within (m : ℕ) (turns : List Turn) (text : List ℕ) : Type 0 where
  pub some : List Turn
  pub following : List Turn
  pub split : turns ≡ some ++ following
  pub begins : IsPrefixOf text (text_by some)
  pub timely : AllByRecursion (λ (turn : Turn). turn.calls ≤ m) some

within : (m : ℕ) (turns : List Turn) (events others : List Event) → events_by turns ≡ events ++ others → AllByRecursion (λ event. calls_at event ≤ m) events → Within m turns (put_by events)
within m [] [] others e all = record { some = []; following = []; split = refl; begins = begins_at_all _; timely = tt }
within m [] (event ∷ events) others e all = absurd cc
within m (turn ∷ turns) events others e all = at (λ more second both. within m turns more others second both) (either_part (events_in turn) (events_by turns) events others e)
  where
    ends_within : (events : List Event) → (rest : List Event) → events_in turn ≡ events ++ rest → AllByRecursion (λ event. calls_at event ≤ m) events → Within m (turn ∷ turns) (put_by events)
    ends_within [] rest e all = record { some = []; following = turn ∷ turns; split = refl; begins = begins_at_all _; timely = tt }
    ends_within (event ∷ events) rest e all =
        let calls : turn.calls ≤ m = subst (λ n. n ≤ m) (first_calls turn.calls turn.texts event (events ++ rest) e) all.0 in
        let text : concat turn.texts ≡ put_by (event ∷ events) ++ put_by rest = sym (put_by_turn turn.calls turn.texts) ∙ ap put_by e ∙ put_both (event ∷ events) rest in
        record {
          some = turn ∷ [];
          following = turns;
          split = refl;
          begins = record { rest = put_by rest; whole = append-nil (concat turn.texts) ∙ text };
          timely = (calls, tt);
        }

    remaining_reply : ((more : List Event) → events_by turns ≡ more ++ others → AllByRecursion (λ event. calls_at event ≤ m) more → Within m turns (put_by more))
        → (more : List Event) → events ≡ events_in turn ++ more → events_by turns ≡ more ++ others → Within m (turn ∷ turns) (put_by events)
    remaining_reply again more first second =
        let both : AllByRecursion (λ event. calls_at event ≤ m) (events_in turn ++ more) = subst (AllByRecursion (λ event. calls_at event ≤ m)) first all in
        let later : Within m turns (put_by more) = again more second (all_rest _ (events_in turn) more both) in
        let text : put_by events ≡ concat turn.texts ++ put_by more = ap put_by first ∙ put_both (events_in turn) more ∙ ap (λ l. l ++ put_by more) (put_by_turn turn.calls turn.texts) in
        record {
          some = turn ∷ later.some;
          following = later.following;
          split = ap (λ ts. turn ∷ ts) later.split;
          begins = subst (λ t. IsPrefixOf t (concat turn.texts ++ text_by later.some)) (sym text) (begins_after (concat turn.texts) (put_by more) (text_by later.some) later.begins);
          timely = (turn_calls m turn.calls turn.texts (all_first _ (events_in turn) more both), later.timely);
        }

    at : ((more : List Event) → events_by turns ≡ more ++ others → AllByRecursion (λ event. calls_at event ≤ m) more → Within m turns (put_by more))
        → ((rest : List Event) × (events_in turn ≡ events ++ rest) × (others ≡ rest ++ events_by turns))
        ⊎ ((more : List Event) × (events ≡ events_in turn ++ more) × (events_by turns ≡ more ++ others)) → Within m (turn ∷ turns) (put_by events)
    at again (inl c) = ends_within events c.0 c.1 all
    at again (inr c) = remaining_reply again c.0 c.1 c.2

-- ---- the operations that turns executed are acknowledged

acknowledged_count_cons : (m : ℕ) (reply : SessionReply) (replies : List SessionReply) → acknowledged_count m (reply ∷ replies) ≡ cond (is_acknowledged m reply) 1 0 + acknowledged_count m replies
acknowledged_count_cons m reply replies = sum_by-cons (λ r. cond (is_acknowledged m r) 1 0) reply replies

acknowledged_count_both : (m : ℕ) (a b : List SessionReply) → acknowledged_count m (a ++ b) ≡ acknowledged_count m a + acknowledged_count m b
acknowledged_count_both m a b = sum_by-append (λ r. cond (is_acknowledged m r) 1 0) a b

counted : (m : ℕ) (acts : List Act) → AllByRecursion (λ (reply : SessionReply). reply.calls ≤ m) (replies_of acts) → length (executed_of acts) ≤ acknowledged_count m (replies_of acts)
counted m [] all = omega arith
counted m (Text some ∷ acts) all = counted m acts all
counted m (Applied command reply ∷ acts) all = by_answer reply.answer reply.calls all.0 (counted m acts all.1)
  where
    by_answer : (answer : Result (Unit {0}) Denial) (n : ℕ) → n ≤ m → length (executed_of acts) ≤ acknowledged_count m (replies_of acts)
        → length (executed_of (Applied command (record { answer = answer; calls = n }) ∷ acts)) ≤ acknowledged_count m (record { answer = answer; calls = n } ∷ replies_of acts)
    by_answer (Ok done) n le rest =
        let one : acknowledged_count m (record { answer = Ok done; calls = n } ∷ replies_of acts) ≡ 1 + acknowledged_count m (replies_of acts) =
        acknowledged_count_cons m (record { answer = Ok done; calls = n }) (replies_of acts) ∙ ap (λ (b : Bool). cond b 1 0 + acknowledged_count m (replies_of acts)) (le-leb n m le) in
        omega (arith, rest, one)
    by_answer (Err denial) n le rest =
        let none : acknowledged_count m (record { answer = Err denial; calls = n } ∷ replies_of acts) ≡ 0 + acknowledged_count m (replies_of acts) = acknowledged_count_cons m (record { answer = Err denial; calls = n }) (replies_of acts) in
        omega (arith, rest, none)

timely_replies : (m : ℕ) (turns : List Turn) → AllByRecursion IsTurn turns → AllByRecursion (λ (turn : Turn). turn.calls ≤ m) turns
    → AllByRecursion (λ (reply : SessionReply). reply.calls ≤ m) (replies_of (acts_by turns))
timely_replies m [] each all = tt
timely_replies m (turn ∷ turns) each all =
    subst (AllByRecursion (λ (reply : SessionReply). reply.calls ≤ m)) (sym (replies_both turn.acts (acts_by turns)))
    (all_joined (replies_of turn.acts) (replies_of (acts_by turns)) (below (replies_of turn.acts) each.0.finished) (timely_replies m turns each.1 all.1))
  where
    all_joined : (a b : List SessionReply) → AllByRecursion (λ (reply : SessionReply). reply.calls ≤ m) a
        → AllByRecursion (λ (reply : SessionReply). reply.calls ≤ m) b → AllByRecursion (λ (reply : SessionReply). reply.calls ≤ m) (a ++ b)
    all_joined [] b p q = q
    all_joined (r ∷ a) b p q = (p.0, all_joined a b p.1 q)

    below : (replies : List SessionReply) → AllByRecursion (λ (reply : SessionReply). reply.calls ≡ turn.calls) replies → AllByRecursion (λ (reply : SessionReply). reply.calls ≤ m) replies
    below [] p = tt
    below (r ∷ replies) p = (subst (λ n. n ≤ m) (sym p.0) all.0, below replies p.1)

-- ---- the operations that turns executed are kept

module _ {D : Type 0} (on : sectors.Ghosts D) where
  none_of_broken : (a b : List Act) (old new : SessionValue D) → old.is_broken ≡ true → IsRunOn on old (commands_of (a ++ b)) (replies_of (a ++ b)) new → executed_of a ≡ []
  none_of_broken [] b old new broken run = refl
  none_of_broken (Text some ∷ a) b old new broken run = none_of_broken a b old new broken run
  none_of_broken (Applied command reply ∷ a) b old new broken run =
      let applied : IsAppliedOn on old command reply run.0 = run.1 in
      let why : denial old command ≡ Some Broken = rw broken refl in
      let reported : reply.answer ≡ Err Broken = subst (λ (o : Option Denial). IsAnswer o reply.answer) why applied.answer in
      let same : run.0 ≡ old = subst (λ (r : Result (Unit {0}) Denial). Makes r old command run.0) reported applied.makes in
      let none : executed_if command reply.answer ≡ [] = ap (executed_if command) reported in
      ap (λ cs. cs ++ executed_of a) none ∙ none_of_broken a b run.0 new (ap (λ (s : SessionValue D). s.is_broken) same ∙ broken) run.2

  carried_first : (a b : List Act) (old new : SessionValue D) → IsRunOn on old (commands_of (a ++ b)) (replies_of (a ++ b)) new → IsPrefixOf (executed_of a) (kept_of (a ++ b))
  carried_first [] b old new run = begins_at_all _
  carried_first (Text some ∷ a) b old new run = carried_first a b old new run
  carried_first (Applied command reply ∷ a) b old new run = by_answer reply.answer reply.calls run.1 (carried_first a b run.0 new run.2) (λ broken. none_of_broken a b run.0 new broken run.2)
    where
      by_answer : (answer : Result (Unit {0}) Denial) (n : ℕ) → IsAppliedOn on old command (record { answer = answer; calls = n }) run.0 → IsPrefixOf (executed_of a) (kept_of (a ++ b))
          → (run.0.is_broken ≡ true → executed_of a ≡ []) → IsPrefixOf (executed_if command answer ++ executed_of a) (kept_first command answer (kept_of (a ++ b)))
      by_answer (Ok done) n applied rest broken = begins_after (command ∷ []) (executed_of a) (kept_of (a ++ b)) rest
      by_answer (Err DeviceFault) n applied rest broken =
          subst (λ cs. IsPrefixOf cs (command ∷ [])) (sym (broken applied.makes.is_broken)) (begins_at_all (command ∷ []))
      by_answer (Err Broken) n applied rest broken = rest
      by_answer (Err (Core refusal)) n applied rest broken = rest
      by_answer (Err Spent) n applied rest broken = rest
      by_answer (Err OutOfMemory) n applied rest broken = rest

-- ---- serving an input

module _ {D : Type 0} (on : sectors.Ghosts D) (reading : Reading) (old new : SessionValue D) (input : List ℕ) (m : ℕ) where
  reported_acknowledged : (acts : List Act) (t : List ℕ) (turns : List Turn) (events others : List Event) → IsRunOfInput on reading old input acts new
      → AreReported old (λ s. pieces_reply reading s (pieces_of input)) acts t turns → events_by turns ≡ events ++ others
      → AllByRecursion (λ event. calls_at event ≤ m) events → ReportsAcknowledged reading old input acts m (put_by events)
  reported_acknowledged acts t turns events others done reported e all =
      let w : Within m turns (put_by events) = within m turns events others e all in
      let first : List Act = acts_by w.some in
      let whole : acts ≡ first ++ acts_by w.following = reported.does ∙ ap acts_by w.split ∙ acts_both w.some w.following in
      let each : AllByRecursion IsTurn w.some = all_first IsTurn w.some w.following (subst (AllByRecursion IsTurn) w.split reported.each) in
      let few : length (executed_of first) ≤ acknowledged_count m (replies_of first) = counted m first (timely_replies m w.some each w.timely) in
      let both : acknowledged_count m (replies_of acts) ≡ acknowledged_count m (replies_of first) + acknowledged_count m (replies_of (acts_by w.following)) =
      ap (λ done. acknowledged_count m (replies_of done)) whole ∙ ap (acknowledged_count m) (replies_both first (acts_by w.following)) ∙ acknowledged_count_both m (replies_of first) (replies_of (acts_by w.following)) in
      record {
        first = first;
        begins = record { rest = acts_by w.following; whole = whole };
        reports = λ later.
            let b = reported.front w.some w.following w.split later in
            record { text = begins_on (put_by events) (text_by w.some) _ w.begins b.text; commands = b.commands };
        requested = begins_on (executed_of first) (kept_of acts) _
            (subst (λ all_acts. IsPrefixOf (executed_of first) (kept_of all_acts)) (sym whole)
            (carried_first on first (acts_by w.following) old new (subst (λ all_acts. IsRunOn on old (commands_of all_acts) (replies_of all_acts) new) whole done.run))) done.requests_kept;
        acknowledged = omega (arith, few, both);
      }

module _ {D : Type 0} (on : sectors.Ghosts D) where
  cut_acknowledged : (reading : Reading) (old new : SessionValue D) (input : List ℕ) (before after_it : Stream) (m : ℕ) (events others : List Event)
      (fault : ServeFault) (cut : IsCutShort on reading old (pieces_of input) before after_it new)
      → after_it.events ≡ before.events ++ (events ++ others) → AllByRecursion (λ event. calls_at event ≤ m) events
      → ReportsAcknowledged reading old input (cut.answered.acts ++ cut.reports.acts) m (put_by events)
  cut_acknowledged reading old new input before after_it m events others fault cut e all =
      reported_acknowledged on reading old new input m (cut.answered.acts ++ cut.reports.acts) (cut.text ++ take cut.part.len cut.last) turns events (others ++ more)
      (servings_are_runs on reading old new input before after_it (Err fault) cut) reported
      (events_both cut.answered.turns (turn ∷ []) ∙ ap (λ l. events_by cut.answered.turns ++ l) (append-nil (events_in turn)) ∙ ap (λ l. events_by cut.answered.turns ++ l) (sym ended)
      ∙ sym (append_assoc (events_by cut.answered.turns) part more) ∙ ap (λ l. l ++ more) (sym noted) ∙ append_assoc events others more) all
    where
      n : ℕ
      n = on.calls new.device

      turn : Turn
      turn = record { acts = cut.reports.acts; texts = cut.part.texts; calls = on.calls new.device }

      turns : List Turn
      turns = cut.answered.turns ++ turn ∷ []

      part : List Event
      part = map (Put (on.calls new.device)) cut.part.texts

      -- the event that would have followed: the flush of the last answer
      more : List Event
      more = Flushed (on.calls new.device) ∷ []

      ended : part ++ more ≡ events_in turn
      ended = refl

      noted : events ++ others ≡ events_by cut.answered.turns ++ part
      noted = append_cancel_left before.events (events ++ others) (events_by cut.answered.turns ++ part)
          (sym e ∙ cut.part.extends.noted ∙ ap (λ l. l ++ part) cut.written.noted ∙ append_assoc before.events (events_by cut.answered.turns) part)

      reported : AreReported old (λ s. pieces_reply reading s (pieces_of input)) (cut.answered.acts ++ cut.reports.acts) (cut.text ++ take cut.part.len cut.last) turns
      reported = reported_both old cut.reported (λ s. pieces_reply reading s (pieces_of input)) (still reading cut.commands cut.following) cut.answered.acts cut.reports.acts cut.text
          (take cut.part.len cut.last) cut.answered.turns (turn ∷ [])
          cut.answered.reported cut.answered.says
          (reported_once cut.reported (still reading cut.commands cut.following) cut.reports.acts (take cut.part.len cut.last) cut.part.texts (on.calls new.device)
          (is_turn on cut.reports.acts cut.part.texts cut.reported new cut.reports.few cut.reports.run) cut.part.part
          (λ later.
          let said = cut.reports.says later in
          let following : Reply = still reading cut.later_commands cut.later_following (as_server_state new later) in
          record {
            text = record {
              rest = drop cut.part.len cut.last ++ following.text;
              whole = ap (λ (r : Reply). r.text) said ∙ ap (λ l. l ++ following.text) (sym (take-append-drop cut.part.len cut.last))
                  ∙ append_assoc (take cut.part.len cut.last) (drop cut.part.len cut.last) following.text;
            };
            commands = record { rest = following.commands; whole = ap (λ (r : Reply). r.commands) said };
          }))

  pub answers_come_after : AnswersComeAfter on
  answers_come_after reading old new input before after_it (Ok done) m events others served e all =
      reported_acknowledged on reading old new input m served.acts _ served.turns events others (servings_are_runs on reading old new input before after_it (Ok done) served) served.reported
      (append_cancel_left before.events (events_by served.turns) (events ++ others) (sym served.written.noted ∙ e)) all
  answers_come_after reading old new input before after_it (Err fault) m events others cut e all = cut_acknowledged reading old new input before after_it m events others fault cut e all
