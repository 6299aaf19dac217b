-- Strict serving ends at the answer whose last line reports a failure.
use Rattle.std.proofs.Common.{◌≡◌, ◌∙◌, ℕ, List, [], ◌∷◌, ◌++◌, Some, None, Ok, Err, map, take, refl, sym, ap, subst, append_assoc, append-nil}
use Rattle.std.specs.List.{concat}
use Rattle.std.proofs.lemmas.List.{append_cancel_left}
use Rattle.text_lines.specs.Lines.{HasNoLineFeed}
use Rattle.command_types.specs.declared.commands.Command.{Command}
use Rattle.command_text.specs.Answering.{Fate, Reply, pieces_reply}
use Rattle.command_text.specs.Cutting.{pieces_of}
use Rattle.command_text.specs.Readings.{Reading}
use Rattle.recover.specs.Sessions.{SessionValue}
use Rattle.sector_disk.specs.declared.sectors.Sectors as sectors
use Rattle.command_server.specs.Acts.{Turn, executed_of, events_by, fates_of, text_by}
use Rattle.command_server.specs.Ending.{FailedAnswersEndServings, EndsAtAnswer}
use Rattle.command_server.specs.ServeContract.{Begins, IsCutShort, IsServed, as_server_state, preceded, still}
use Rattle.command_server.specs.Streams.{Event, Flushed, Put, Stream, put_by}
use Rattle.command_server.specs.Strict.{FlushesAllow, ReportsLast, last_line_after, failed_answer_in}
use Rattle.command_server.specs.declared.strict.FailedAnswer.{FailedAnswer}
use Rattle.command_server.proofs.ActLemmas.{carried_both, fates_before}
use Rattle.command_server.proofs.LastLineLemmas.{stops_without_feed}
use Rattle.command_server.proofs.AnswerOrderLemmas.{put_both, put_by_turn}

abbrev made : List ℕ → List Command → Reply → Reply
made text commands r = record { text = text; commands = commands; left = r.left }

-- ---- the text written by turns

puts_alone : (n : ℕ) (texts : List (List ℕ)) → put_by (map (Put n) texts) ≡ concat texts
puts_alone n [] = refl
puts_alone n (t ∷ texts) = ap (λ l. t ++ l) (puts_alone n texts)

put_by_turns : (turns : List Turn) → put_by (events_by turns) ≡ text_by turns
put_by_turns [] = refl
put_by_turns (turn ∷ turns) =
    put_both (map (Put turn.calls) turn.texts ++ Flushed turn.calls ∷ []) (events_by turns)
    ∙ ap (λ l. l ++ put_by (events_by turns)) (put_by_turn turn.calls turn.texts) ∙ ap (λ l. concat turn.texts ++ l) (put_by_turns turns)

-- ---- the text of turns reports no failure, if no flush of it does

after_puts : (text : List ℕ) (n : ℕ) (texts : List (List ℕ)) (more : List Event) → FlushesAllow text (map (Put n) texts ++ Flushed n ∷ more)
    → (failed_answer_in (text ++ concat texts) ≡ None) × FlushesAllow (text ++ concat texts) more
after_puts text n [] more allows =
    let same : text ≡ text ++ [] = sym (append-nil text) in (subst (λ t. failed_answer_in t ≡ None) same allows.0, subst (λ t. FlushesAllow t more) same allows.1)
after_puts text n (t ∷ texts) more allows =
    let same : (text ++ t) ++ concat texts ≡ text ++ (t ++ concat texts) = append_assoc text t (concat texts) in
    let rest = after_puts (text ++ t) n texts more allows in
    (subst (λ t. failed_answer_in t ≡ None) same rest.0, subst (λ t. FlushesAllow t more) same rest.1)

after_turns : (text : List ℕ) (turns : List Turn) (more : List Event) → failed_answer_in text ≡ None → FlushesAllow text (events_by turns ++ more)
    → failed_answer_in (text ++ text_by turns) ≡ None
after_turns text [] more none allows = subst (λ t. failed_answer_in t ≡ None) (sym (append-nil text)) none
after_turns text (turn ∷ turns) more none allows =
    let puts = map (Put turn.calls) turn.texts in
    let done : List Event = Flushed turn.calls ∷ [] in
    let split : ((puts ++ done) ++ events_by turns) ++ more ≡ puts ++ (Flushed turn.calls ∷ (events_by turns ++ more)) =
    append_assoc (puts ++ done) (events_by turns) more ∙ append_assoc puts done (events_by turns ++ more) in
    let rest = after_puts text turn.calls turn.texts (events_by turns ++ more) (subst (FlushesAllow text) split allows) in
    subst (λ t. failed_answer_in t ≡ None) (append_assoc text (concat turn.texts) (text_by turns)) (after_turns (text ++ concat turn.texts) turns more rest.0 rest.1)

turns_let : (turns : List Turn) (more : List Event) → FlushesAllow [] (events_by turns ++ more) → failed_answer_in (text_by turns) ≡ None
unfolding last_line_after
turns_let turns more allows = after_turns [] turns more refl allows

-- ---- serving an input

module _ {D : Type 0} (on : sectors.Ghosts D) (reading : Reading) (old new : SessionValue D) (input : List ℕ) (before after_it : Stream) (why : FailedAnswer)
    (last : ReportsLast before after_it (Some why)) where
  -- if the last complete line reports a failure, the input was not served to its end
  none_to_the_end : IsServed on reading old input before after_it new → ⊥
  none_to_the_end served =
      let events : last.events ≡ events_by served.turns = append_cancel_left before.events last.events (events_by served.turns) (sym last.put.noted ∙ served.written.noted) in
      let allows : FlushesAllow [] (events_by served.turns ++ []) = subst (FlushesAllow []) (events ∙ sym (append-nil (events_by served.turns))) last.allows in
      let reported : Some why ≡ None = last.reports ∙ ap failed_answer_in (ap put_by events ∙ put_by_turns served.turns) ∙ turns_let served.turns [] allows in
      cc

  module _ (cut : IsCutShort on reading old (pieces_of input) before after_it new) where
    part : List Event
    part = map (Put (on.calls new.device)) cut.part.texts

    noted : last.events ≡ events_by cut.answered.turns ++ part
    unfolding part
    noted =
        append_cancel_left before.events last.events (events_by cut.answered.turns ++ part)
        (sym last.put.noted ∙ cut.part.extends.noted ∙ ap (λ l. l ++ part) cut.written.noted ∙ append_assoc before.events (events_by cut.answered.turns) part)

    put : put_by last.events ≡ cut.text ++ take cut.part.len cut.last
    unfolding part
    put =
        ap put_by noted ∙ put_both (events_by cut.answered.turns) part
        ∙ ap (λ l. l ++ put_by part) (put_by_turns cut.answered.turns ∙ sym cut.answered.reported.says)
        ∙ ap (λ l. cut.text ++ l) (puts_alone (on.calls new.device) cut.part.texts ∙ cut.part.part)

    allows : failed_answer_in cut.text ≡ None
    unfolding part
    allows = ap failed_answer_in cut.answered.reported.says ∙ turns_let cut.answered.turns part (subst (FlushesAllow []) noted last.allows)

    ends : HasNoLineFeed (take cut.part.len cut.last) → ⊥
    ends none = let reported : Some why ≡ None = last.reports ∙ ap failed_answer_in put ∙ stops_without_feed cut.text (take cut.part.len cut.last) none ∙ allows in cc

    says : (later : List Fate) → pieces_reply reading (as_server_state old (fates_of (cut.answered.acts ++ cut.reports.acts) ++ later)) (pieces_of input)
        ≡ preceded (cut.text ++ cut.last) (executed_of (cut.answered.acts ++ cut.reports.acts)) (still reading cut.later_commands cut.later_following (as_server_state new later))
    says later =
        let first = cut.answered.acts in
        let second = cut.reports.acts in
        let left : Reply = still reading cut.later_commands cut.later_following (as_server_state new later) in
        let fates = fates_before first second later in
        let one = cut.answered.says (fates_of second ++ later) in
        let two = cut.reports.says later in
        ap (λ fates. pieces_reply reading (as_server_state old fates) (pieces_of input)) fates ∙ one ∙ ap (preceded cut.text (executed_of first)) two
        ∙ ap (λ t. made t (executed_of first ++ (executed_of second ++ left.commands)) left) (sym (append_assoc cut.text cut.last left.text))
        ∙ ap (λ cs. made ((cut.text ++ cut.last) ++ left.text) cs left) (sym (append_assoc (executed_of first) (executed_of second) left.commands))
        ∙ ap (λ cs. preceded (cut.text ++ cut.last) cs left) (sym (carried_both first second))

    at_an_answer : EndsAtAnswer reading old (pieces_of input) (cut.answered.acts ++ cut.reports.acts) (put_by last.events) new
    at_an_answer = record {
      reported = record {
        first = cut.answered.acts;
        last = cut.reports.acts;
        split = refl;
        few = cut.reports.few;
        before = cut.text;
        answer = cut.last;
        len = cut.part.len;
        whole = put;
        allows = allows;
        ends = ends;
        reports = reports;
      };
      steps = cut.later_commands;
      front = cut.front;
      begun = cut.begun;
      following = cut.later_following;
      split = cut.split ∙ ap (λ ps. cut.front ++ ps) cut.later_split;
      one = cut.one;
      says = says;
    }
      where
        reports : (later : List Fate) → Begins cut.text cut.answered.acts (pieces_reply reading (as_server_state old (fates_of cut.answered.acts ++ later)) (pieces_of input))
        reports later =
            let said = cut.answered.says later in
            let rest : Reply = still reading cut.commands cut.following (as_server_state cut.reported later) in
            record {
              text = record { rest = rest.text; whole = ap (λ (r : Reply). r.text) said };
              commands = record { rest = rest.commands; whole = ap (λ (r : Reply). r.commands) said };
            }

pub answers_end_servings : {D : Type 0} (on : sectors.Ghosts D) → FailedAnswersEndServings on
answers_end_servings on reading old new input before after_it (Ok done) why served last = absurd (none_to_the_end on reading old new input before after_it why last served)
answers_end_servings on reading old new input before after_it (Err fault) why cut last = at_an_answer on reading old new input before after_it why last cut
