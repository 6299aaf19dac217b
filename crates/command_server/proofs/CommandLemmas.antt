-- The answers to a line and to those after it.
use Rattle.std.proofs.Common.{
  ◌≡◌,
  ◌∙◌,
  ℕ,
  ◌<◌,
  Bool,
  true,
  false,
  List,
  [],
  ◌∷◌,
  ◌++◌,
  ◌⊎◌,
  inl,
  inr,
  Option,
  Some,
  None,
  Result,
  Ok,
  Err,
  length,
  take,
  drop,
  refl,
  sym,
  ap,
  ap₂,
  subst,
  arith,
  append-nil,
  append_assoc,
}
use Rattle.std.specs.Prelude.{◌^◌, ◌≤◌, IfSome, MatchResult, nat_lt, if◌then◌else◌, ⊤}
use Rattle.std.proofs.lemmas.Bool.{lt-ltb, ltb-true}
use Rattle.std.proofs.lemmas.List.{take-append-le, drop-append-le, drop_all, take_all}
use Rattle.command_text.specs.declared.parsed_command.Purpose.{Purpose}
use Rattle.command_types.specs.declared.commands.Command.{Command}
use Rattle.command_text.specs.Answering.{Fate, Reply, ServerState, command_reply, operations_reply, joined_replies, reply, pieces_reply}
use Rattle.command_text.specs.Cutting.{Piece, is_short, pieces_of}
use Rattle.command_text.specs.Laws.{StatesFollow, cut_at}
use Rattle.command_text.specs.Readings.{Reading}
use Rattle.command_text.specs.declared.parsed_command.ParsedCommand.{ParsedCommand}
use Rattle.command_text.specs.declared.parsed_command.ParsedCommand.TheVariants.{Text, Nothing}
use Rattle.recover.specs.Sessions.{SessionValue}
use Rattle.command_server.specs.Input.{CountsTaken, Cuts, CutsNext, TakesAll}
use Rattle.command_server.specs.Acts.{Turn, executed_of, events_by, fates_of, kept_of, without_failures}
use Rattle.command_server.specs.Streams.{Extends, Stream}
use Rattle.command_server.specs.ServeContract.{AreAnswered, AreReported, HasCause, IsCutShort, IsServed, Leads, Reports, as_server_state, preceded, still}
use Rattle.command_server.specs.ServeSteps.{Answers, CutOff, ContinuesOrIsCut, IsCause, Serves, ServesPieces, flow_after, remaining_reply, announced_reply, pieces_after, silent, still_executed}
use Rattle.command_server.specs.declared.answering.Flow.{Flow}
use Rattle.command_server.specs.declared.answering.ServeFault.{ServeFault}
use Rattle.command_server.specs.declared.answering.Flow.TheVariants.{Continue, Finish}
use Rattle.command_server.specs.declared.input.AnnouncedText.{AnnouncedText}
use Rattle.command_server.specs.declared.input.AnnouncedText.TheVariants.{Dropped, Short, Whole}
use Rattle.command_server.specs.declared.answering.ServeFault.TheVariants as fault
use Rattle.command_server.proofs.ActLemmas.{begins_as, begins_before}
use Rattle.command_server.proofs.CutLemmas.{CutLaws, cut_pieces}
use Rattle.command_server.proofs.StreamLemmas.{extends_none, extends_on, none_put}
use Rattle.command_server.proofs.AttemptLemmas.{requested_front}
use Rattle.command_server.proofs.TurnLemmas.{either_part, events_both, reported_before}
use Rattle.command_server.proofs.ServeLemmas.{answers_as, leads_as, leads_nothing, leads_on, leads_to, serves_as, serves_nothing, serves_on, reports_as, reports_nothing, reports_to}
use Rattle.sector_disk.specs.declared.sectors.Sectors as sectors

-- ---- a piece, and those after it

served_cons : (reading : Reading) (s : ServerState) (p : Piece) (ps : List Piece) → pieces_reply reading s (p ∷ ps) ≡ joined_replies (reply reading s p) (pieces_reply reading (reply reading s p).left ps)
unfolding pieces_reply
served_cons reading s p ps = refl

served_none : (reading : Reading) (s : ServerState) → pieces_reply reading s [] ≡ silent s
unfolding pieces_reply
served_none reading s = refl

reply_is : (reading : Reading) (s : ServerState) (p : Piece) → reply reading s p ≡ command_reply reading s p.requested p.text (is_short p)
unfolding reply
reply_is reading s p = refl

joined_silent : (t : List ℕ) (c : List Command) (s : ServerState) (r : Reply) → joined_replies (preceded t c (silent s)) r ≡ preceded t c r
joined_silent t c s r = ap₂ {C = Reply} (λ (x : List ℕ) (y : List Command). record { text = x ++ r.text; commands = y ++ r.commands; left = r.left }) (append-nil t) (append-nil c)

requested_serves : {D : Type 0} {on : sectors.Ghosts D} (reading : Reading) (old new : SessionValue D) (p : Piece) (ps : List Piece) (x y : Stream)
    → Serves on old (λ s. command_reply reading s p.requested p.text (is_short p)) x y new silent → Serves on old (λ s. pieces_reply reading s (p ∷ ps)) x y new (λ s. pieces_reply reading s ps)
requested_serves reading old new p ps x y serves =
    let first : (s : ServerState) → pieces_reply reading s (p ∷ ps) ≡ (let r = command_reply reading s p.requested p.text (is_short p) in joined_replies r (pieces_reply reading r.left ps)) =
    λ s. served_cons reading s p ps ∙ ap (λ (r : Reply). joined_replies r (pieces_reply reading r.left ps)) (reply_is reading s p) in
    let acts = serves.leads.acts in
    record {
      text = serves.text;
      leads = record {
        acts = acts;
        turns = serves.leads.turns;
        run = serves.leads.run;
        reported = reported_before old (λ s. command_reply reading s p.requested p.text (is_short p)) (λ s. pieces_reply reading s (p ∷ ps)) acts serves.text serves.leads.turns
            (λ s.
            let following = pieces_reply reading (command_reply reading s p.requested p.text (is_short p)).left ps in
            record {
              text = record { rest = following.text; whole = ap (λ (r : Reply). r.text) (first s) };
              commands = record { rest = following.commands; whole = ap (λ (r : Reply). r.commands) (first s) };
            })
            serves.leads.reported;
        says = λ later.
            first (as_server_state old (fates_of acts ++ later)) ∙ ap (λ (r : Reply). joined_replies r (pieces_reply reading r.left ps)) (serves.leads.says later)
            ∙ joined_silent serves.text (executed_of acts) (as_server_state new later) (pieces_reply reading (as_server_state new later) ps);
        requested = requested_front old (λ s. command_reply reading s p.requested p.text (is_short p)) (λ s. pieces_reply reading s (p ∷ ps)) acts
            (λ fates. record {
              rest = (pieces_reply reading (command_reply reading (as_server_state old fates) p.requested p.text (is_short p)).left ps).commands;
              whole = ap (λ (r : Reply). r.commands) (first (as_server_state old fates));
            })
            serves.leads.requested;
        requests_kept = λ later.
            begins_as (kept_of acts) _ _ (ap (λ (r : Reply). r.commands) (first (as_server_state old (without_failures (fates_of acts) ++ later))))
            (begins_before (kept_of acts) _ _ (serves.leads.requests_kept later));
        state = serves.leads.state;
      };
      written = serves.written;
    }

ended_serves : {D : Type 0} {on : sectors.Ghosts D} (reading : Reading) (old new : SessionValue D) (f : ServerState → Reply) (x y : Stream)
    → Serves on old f x y new (λ s. pieces_reply reading s []) → Serves on old f x y new silent
unfolding leads_to
ended_serves reading old new f x y serves = record {
  text = serves.text;
  leads = leads_to old new f (λ s. pieces_reply reading s []) silent serves.text (λ fates. served_none reading (as_server_state new fates)) serves.leads;
  written = serves.written;
}

-- ---- the pieces that were answered

module _ {D : Type 0} {on : sectors.Ghosts D} (reading : Reading) where
  -- the reply to the rest of the input is that to its pieces
  as_pieces : (goes : Flow) (left : List ℕ) (old new : SessionValue D) (f : ServerState → Reply) (t : List ℕ) → Leads on old f t new (remaining_reply reading goes left)
      → Leads on old f t new (λ s. pieces_reply reading s (pieces_after goes left))
  as_pieces Continue left old new f t leads = leads
  as_pieces Finish left old new f t leads = leads_to old new f silent (λ s. pieces_reply reading s []) t (λ fates. sym (served_none reading (as_server_state new fates))) leads

  same_turns : (goes : Flow) (left : List ℕ) (old new : SessionValue D) (f : ServerState → Reply) (t : List ℕ)
      (leads : Leads on old f t new (remaining_reply reading goes left)) → (as_pieces goes left old new f t leads).turns ≡ leads.turns
  unfolding as_pieces leads_to
  same_turns Continue left old new f t leads = refl
  same_turns Finish left old new f t leads = refl

  -- before the first piece, no turn is needed to answer anything
  none_answered : (old : SessionValue D) (pieces : List Piece) (turns : List Turn) → AreAnswered on reading old pieces pieces turns
  unfolding leads_nothing
  none_answered old pieces turns = record { mid = old; text = []; leads = leads_nothing old (λ s. pieces_reply reading s pieces); rest = turns; first = refl }

  answered_on : (old : SessionValue D) (pieces following : List Piece) (turns more : List Turn) → AreAnswered on reading old pieces following turns → AreAnswered on reading old pieces following (turns ++ more)
  answered_on old pieces following turns more p =
      record { mid = p.mid; text = p.text; leads = p.leads; rest = p.rest ++ more; first = ap (λ l. l ++ more) p.first ∙ append_assoc p.leads.turns p.rest more }

  answered_after : (old mid : SessionValue D) (pieces between following : List Piece) (t : List ℕ)
      (first : Leads on old (λ s. pieces_reply reading s pieces) t mid (λ s. pieces_reply reading s between)) (turns : List Turn)
      → AreAnswered on reading mid between following turns → AreAnswered on reading old pieces following (first.turns ++ turns)
  unfolding leads_on
  answered_after old mid pieces between following t first turns p = record {
    mid = p.mid;
    text = t ++ p.text;
    leads = leads_on old mid p.mid (λ s. pieces_reply reading s pieces) (λ s. pieces_reply reading s between) (λ s. pieces_reply reading s following) t p.text first p.leads;
    rest = p.rest;
    first = ap (λ l. first.turns ++ l) p.first ∙ sym (append_assoc first.turns p.leads.turns p.rest);
  }

  -- the case of a piece that was answered
  piece_answered : (old new : SessionValue D) (p : Piece) (all : List Piece) (t : List ℕ) (goes : Flow) (left : List ℕ) → all ≡ p ∷ pieces_after goes left
      → (leads : Leads on old (λ s. pieces_reply reading s all) t new (remaining_reply reading goes left))
      → (some others : List Piece) → p ∷ [] ≡ some ++ others → AreAnswered on reading old all (others ++ pieces_after goes left) leads.turns
  piece_answered old new p all t goes left is leads [] others e =
      subst (λ ps. AreAnswered on reading old all ps leads.turns) (is ∙ ap (λ ps. ps ++ pieces_after goes left) e) (none_answered old all leads.turns)
  piece_answered old new p all t goes left is leads (x ∷ []) others e =
      let none : others ≡ [] = cc in
      subst (λ ps. AreAnswered on reading old all (ps ++ pieces_after goes left) leads.turns) (sym none)
      (record {
        mid = new;
        text = t;
        leads = as_pieces goes left old new (λ s. pieces_reply reading s all) t leads;
        rest = [];
        first = sym (same_turns goes left old new (λ s. pieces_reply reading s all) t leads) ∙ sym (append-nil (as_pieces goes left old new (λ s. pieces_reply reading s all) t leads).turns);
      })
  piece_answered old new p all t goes left is leads (x ∷ y ∷ some) others e = absurd cc

  -- the case of a piece that was not answered
  piece_begun : (old : SessionValue D) (p : Piece) (ps : List Piece) (turns : List Turn) (some others : List Piece) (next : Piece) → p ∷ [] ≡ some
      ++ next ∷ others → AreAnswered on reading old (p ∷ ps) (next ∷ (others ++ ps)) turns
  piece_begun old p ps turns [] others next e = subst (λ qs. AreAnswered on reading old (p ∷ ps) qs turns) (ap (λ qs. qs ++ ps) e) (none_answered old (p ∷ ps) turns)
  piece_begun old p ps turns (x ∷ []) others next e = absurd cc
  piece_begun old p ps turns (x ∷ y ∷ some) others next e = absurd cc

  no_piece : (old : SessionValue D) (pieces following : List Piece) (turns : List Turn) (some others : List Piece) (next : Piece) → [] ≡ some ++ next ∷ others
      → AreAnswered on reading old pieces (next ∷ (others ++ following)) turns
  no_piece old pieces following turns [] others next e = absurd cc
  no_piece old pieces following turns (x ∷ some) others next e = absurd cc

-- ---- an answer that was cut off

joined_on : (t : List ℕ) (c : List Command) (r q : Reply) → joined_replies (preceded t c r) q ≡ preceded t c (joined_replies r q)
joined_on t c r q = ap₂ {C = Reply} (λ (x : List ℕ) (y : List Command). record { text = x; commands = y; left = q.left }) (append_assoc t r.text q.text) (append_assoc c r.commands q.commands)

module _ {D : Type 0} (on : sectors.Ghosts D) (reading : Reading) (old new : SessionValue D) (p : Piece) (ps : List Piece) (x y : Stream) where
  -- the answer to a piece and the answers to those after it
  abbrev with_rest : (ServerState → Reply) → ServerState → Reply
  with_rest f s = let r = f s in joined_replies r (pieces_reply reading r.left ps)

  abbrev requests_kept : ServerState → Reply
  requests_kept s = command_reply reading s p.requested p.text (is_short p)

  served_first : (s : ServerState) → pieces_reply reading s (p ∷ ps) ≡ with_rest requests_kept s
  served_first s = served_cons reading s p ps ∙ ap (λ (r : Reply). joined_replies r (pieces_reply reading r.left ps)) (reply_is reading s p)

  leads_within : (reported : SessionValue D) (f g : ServerState → Reply) (t : List ℕ) → Leads on old f t reported g → Leads on old (with_rest f) t reported (with_rest g)
  leads_within reported f g t l = record {
    acts = l.acts;
    turns = l.turns;
    run = l.run;
    reported = reported_before old f (with_rest f) l.acts t l.turns
        (λ s. record { text = record { rest = (pieces_reply reading (f s).left ps).text; whole = refl }; commands = record { rest = (pieces_reply reading (f s).left ps).commands; whole = refl } }) l.reported;
    says = λ later.
        ap (λ (r : Reply). joined_replies r (pieces_reply reading r.left ps)) (l.says later)
        ∙ joined_on t (executed_of l.acts) (g (as_server_state reported later)) (pieces_reply reading (g (as_server_state reported later)).left ps);
    requested = requested_front old f (with_rest f) l.acts (λ fates. record { rest = (pieces_reply reading (f (as_server_state old fates)).left ps).commands; whole = refl }) l.requested;
    requests_kept = λ later. begins_before (kept_of l.acts) _ _ (l.requests_kept later);
    state = l.state;
  }

  leads_first : (reported : SessionValue D) (g : ServerState → Reply) (t : List ℕ) → Leads on old requests_kept t reported g → Leads on old (λ s. pieces_reply reading s (p ∷ ps)) t reported (with_rest g)
  leads_first reported g t l = leads_as old reported (with_rest requests_kept) (λ s. pieces_reply reading s (p ∷ ps)) (with_rest g) t (λ fates. served_first (as_server_state old fates)) (leads_within reported requests_kept g t l)

  reports_within : (reported : SessionValue D) (f g : ServerState → Reply) (t : List ℕ) → Reports on reported f t new g → Reports on reported (with_rest f) t new (with_rest g)
  reports_within reported f g t l = record {
    acts = l.acts;
    run = l.run;
    says = λ later.
        ap (λ (r : Reply). joined_replies r (pieces_reply reading r.left ps)) (l.says later) ∙ joined_on t (executed_of l.acts) (g (as_server_state new later)) (pieces_reply reading (g (as_server_state new later)).left ps);
    requested = requested_front reported f (with_rest f) l.acts (λ fates. record { rest = (pieces_reply reading (f (as_server_state reported fates)).left ps).commands; whole = refl }) l.requested;
    requests_kept = λ later. begins_before (kept_of l.acts) _ _ (l.requests_kept later);
    state = l.state;
    few = l.few;
  }

  reports_first : (g : ServerState → Reply) (t : List ℕ) → Reports on old requests_kept t new g → Reports on old (λ s. pieces_reply reading s (p ∷ ps)) t new (with_rest g)
  reports_first g t l = reports_as old new (with_rest requests_kept) (λ s. pieces_reply reading s (p ∷ ps)) (with_rest g) t (λ fates. served_first (as_server_state old fates)) (reports_within old requests_kept g t l)

  -- the answers to the steps that are left, and to the pieces after them
  rest_is : (later : Option (List Command)) (s : ServerState) → with_rest (still_executed later) s ≡ still reading later ps s
  rest_is None s = refl
  rest_is (Some commands) s = refl

  reports_still : (reported : SessionValue D) (f : ServerState → Reply) (later : Option (List Command)) (t : List ℕ)
      → Reports on reported f t new (with_rest (still_executed later)) → Reports on reported f t new (still reading later ps)
  reports_still reported f later t l = reports_to reported new f (with_rest (still_executed later)) (still reading later ps) t (λ fates. rest_is later (as_server_state new fates)) l

  pub requested_cut : CutOff on old requests_kept x y new → IsCutShort on reading old (p ∷ ps) x y new
  unfolding leads_nothing leads_as leads_within leads_first
  requested_cut (inl c) = record {
    commands = None;
    front = [];
    following = p ∷ ps;
    split = refl;
    reported = old;
    text = [];
    answered = leads_nothing old (λ s. pieces_reply reading s (p ∷ ps));
    lines = no_piece reading old (p ∷ ps) (p ∷ ps) [];
    later_commands = c.later;
    begun = p ∷ [];
    later_following = ps;
    later_split = refl;
    one = omega arith;
    last = c.last;
    reports = reports_still old (λ s. pieces_reply reading s (p ∷ ps)) c.later c.last (reports_first (still_executed c.later) c.last c.reports);
    flushed_stream = x;
    written = extends_none x;
    part = c.part;
  }
  requested_cut (inr c) = record {
    commands = Some c.commands;
    front = p ∷ [];
    following = ps;
    split = refl;
    reported = c.reported;
    text = c.text;
    answered = leads_first c.reported (λ s. operations_reply s c.commands) c.text c.answered;
    lines = piece_begun reading old p ps c.answered.turns;
    later_commands = c.later;
    begun = [];
    later_following = ps;
    later_split = refl;
    one = omega arith;
    last = c.last;
    reports = reports_still c.reported (with_rest (λ s. operations_reply s c.commands)) c.later c.last (reports_within c.reported (λ s. operations_reply s c.commands) (still_executed c.later) c.last c.reports);
    flushed_stream = c.flushed_stream;
    written = c.written;
    part = c.part;
  }

-- ---- a line that announces no bytes

line_served_on : {D : Type 0} {on : sectors.Ghosts D} (reading : Reading) (a : ParsedCommand) (rest : List ℕ) (old new : SessionValue D) (x y : Stream)
    (known : Option (List ℕ)) → cut_at a rest ≡ record { requested = a; text = [] } ∷ pieces_of rest → known ≡ Some rest
    → Serves on old (λ s. command_reply reading s a [] (is_short (record { requested = a; text = [] }))) x y new silent → ServesPieces on reading old (cut_at a rest) x y new Continue known
line_served_on {on = on} reading a rest old new x y known cut is serves =
    let all = subst (λ ps. Serves on old (λ s. pieces_reply reading s ps) x y new (λ s. pieces_reply reading s (pieces_of rest))) (sym cut)
    (requested_serves reading old new (record { requested = a; text = [] }) (pieces_of rest) x y serves) in
    record {
      left = rest;
      is_known = is;
      front = record { requested = a; text = [] } ∷ [];
      split = cut;
      serves = all;
      lines = piece_answered reading old new (record { requested = a; text = [] }) (cut_at a rest) all.text Continue rest cut all.leads;
    }

line_served_last : {D : Type 0} {on : sectors.Ghosts D} (reading : Reading) (a : ParsedCommand) (rest : List ℕ) (old new : SessionValue D) (x y : Stream)
    (known : Option (List ℕ)) → cut_at a rest ≡ record { requested = a; text = [] } ∷ [] → known ≡ Some rest
    → Serves on old (λ s. command_reply reading s a [] (is_short (record { requested = a; text = [] }))) x y new silent → ServesPieces on reading old (cut_at a rest) x y new Finish known
line_served_last {on = on} reading a rest old new x y known cut is serves =
    let all = subst (λ ps. Serves on old (λ s. pieces_reply reading s ps) x y new silent) (sym cut)
    (ended_serves reading old new (λ s. pieces_reply reading s (record { requested = a; text = [] } ∷ [])) x y (requested_serves reading old new (record { requested = a; text = [] }) [] x y serves)) in
    record {
      left = rest;
      is_known = is;
      front = record { requested = a; text = [] } ∷ [];
      split = cut;
      serves = all;
      lines = piece_answered reading old new (record { requested = a; text = [] }) (cut_at a rest) all.text Finish rest cut all.leads;
    }

module _ {D E : Type 0} (on : sectors.Ghosts D) (reading : Reading) (a : ParsedCommand) (rest : List ℕ) (old new : SessionValue D) (x y : Stream) (known : Option (List ℕ)) (r : Result Flow ServeFault) where
  once_reported : (reported : Result ⊤ E) (to : Flow) (ps : List Piece) → MatchResult reported (λ _. r ≡ Ok to) (λ _. r ≡ Err fault.WriteFault) → cut_at a rest ≡ record { requested = a; text = [] } ∷ ps
      → Answers on reported old (λ s. command_reply reading s a [] (is_short (record { requested = a; text = [] }))) x y new silent
      → (Serves on old (λ s. command_reply reading s a [] (is_short (record { requested = a; text = [] }))) x y new silent → ServesPieces on reading old (cut_at a rest) x y new to known)
      → ContinuesOrIsCut on r reading old (cut_at a rest) x y new known
  once_reported (Ok done) to ps is cut answers serves = subst (λ r. ContinuesOrIsCut on r reading old (cut_at a rest) x y new known) (sym is) (serves answers)
  once_reported (Err failed) to ps is cut answers serves =
      subst (λ r. ContinuesOrIsCut on r reading old (cut_at a rest) x y new known) (sym is)
      (subst (λ qs. IsCutShort on reading old qs x y new) (sym cut) (requested_cut on reading old new (record { requested = a; text = [] }) ps x y answers))

-- a line that parses to `a` and announces no bytes, after which serving continues or ends
module _ {D E : Type 0} {line a : ParsedCommand} {known : Option (List ℕ)} (on : sectors.Ghosts D) (old new : SessionValue D) (x y : Stream)
    (r : Result Flow ServeFault) (reading : Reading) (rest : List ℕ) (is_line : line ≡ a) (reported : Result ⊤ E) where
  pub line_on : MatchResult reported (λ _. r ≡ Ok Continue) (λ _. r ≡ Err fault.WriteFault) → cut_at a rest ≡ record { requested = a; text = [] } ∷ pieces_of rest → known ≡ Some rest
      → Answers on reported old (λ s. command_reply reading s a [] (is_short (record { requested = a; text = [] }))) x y new silent → ContinuesOrIsCut on r reading old (cut_at line rest) x y new known
  line_on is cut known_is answers =
      subst (λ b. ContinuesOrIsCut on r reading old (cut_at b rest) x y new known) (sym is_line)
      (once_reported on reading a rest old new x y known r reported Continue (pieces_of rest) is cut answers (line_served_on reading a rest old new x y known cut known_is))

  pub line_ends : MatchResult reported (λ _. r ≡ Ok Finish) (λ _. r ≡ Err fault.WriteFault) → cut_at a rest ≡ record { requested = a; text = [] } ∷ [] → known ≡ Some rest
      → Answers on reported old (λ s. command_reply reading s a [] (is_short (record { requested = a; text = [] }))) x y new silent → ContinuesOrIsCut on r reading old (cut_at line rest) x y new known
  line_ends is cut known_is answers =
      subst (λ b. ContinuesOrIsCut on r reading old (cut_at b rest) x y new known) (sym is_line)
      (once_reported on reading a rest old new x y known r reported Finish [] is cut answers (line_served_last reading a rest old new x y known cut known_is))

-- ---- a text that a line announces

pub not_short : (len : ℕ) (bytes : List ℕ) → length bytes ≡ len → nat_lt (length bytes) len ≡ false
not_short len bytes is = at (nat_lt (length bytes) len) refl
  where
    at : (b : Bool) → nat_lt (length bytes) len ≡ b → nat_lt (length bytes) len ≡ false
    at true e = absurd (omega (arith, is, ltb-true (length bytes) len e))
    at false e = e

pub take_front : (len : ℕ) (bytes rest : List ℕ) → length bytes ≡ len → take len (bytes ++ rest) ≡ bytes
take_front len bytes rest is = take-append-le len bytes rest (omega (arith, is)) ∙ take_all len bytes (omega (arith, is))

pub drop_front : (len : ℕ) (bytes rest : List ℕ) → length bytes ≡ len → drop len (bytes ++ rest) ≡ rest
drop_front len bytes rest is = drop-append-le len bytes rest (omega (arith, is)) ∙ ap (λ (b : List ℕ). b ++ rest) (drop_all len bytes (omega (arith, is)))

text_cut : (purpose : Purpose) (len : ℕ) (bytes rest : List ℕ) → length bytes ≡ len → cut_at (Text purpose len) (bytes ++ rest) ≡ record { requested = Text purpose len; text = bytes } ∷ pieces_of rest
text_cut purpose len bytes rest is =
    ap₂ {C = List Piece} (λ (text following : List ℕ). record { requested = Text purpose len; text = text } ∷
    (if nat_lt (length text) len then [] else pieces_of following)) (take_front len bytes rest is) (drop_front len bytes rest is)
    ∙ ap (λ (b : Bool). record { requested = Text purpose len; text = bytes } ∷ (if b then [] else pieces_of rest)) (not_short len bytes is)

short_cut : (purpose : Purpose) (len : ℕ) (bytes : List ℕ) → length bytes < len → cut_at (Text purpose len) bytes ≡ record { requested = Text purpose len; text = bytes } ∷ []
short_cut purpose len bytes less =
    ap (λ (text : List ℕ). record { requested = Text purpose len; text = text } ∷ (if nat_lt (length text) len then [] else pieces_of (drop len bytes))) (take_all len bytes (omega (arith, less)))
    ∙ ap (λ (b : Bool). record { requested = Text purpose len; text = bytes } ∷ (if b then [] else pieces_of (drop len bytes))) (lt-ltb (length bytes) len less)

module _ {D : Type 0} (on : sectors.Ghosts D) (reading : Reading) (purpose : Purpose) (len : ℕ) (old new : SessionValue D) (x y : Stream) (r : Result Flow ServeFault) where
  abbrev text_piece : List ℕ → Piece
  text_piece bytes = record { requested = Text purpose len; text = bytes }

  same_reply : (bytes : List ℕ) (b : Bool) → is_short (text_piece bytes) ≡ b → (f : ServerState → Reply) → ((s : ServerState) → command_reply reading s (Text purpose len) bytes b ≡ f s)
      → (fates : List Fate) → command_reply reading (as_server_state old fates) (Text purpose len) bytes (is_short (text_piece bytes)) ≡ f (as_server_state old fates)
  same_reply bytes b is f same fates = ap (command_reply reading (as_server_state old fates) (Text purpose len) bytes) is ∙ same (as_server_state old fates)

  -- an answer was written, and the announced bytes have arrived
  told_of : {E : Type 0} (reported : Result ⊤ E) (to : Flow) (bytes : List ℕ) (ps : List Piece) (rest left : List ℕ) → MatchResult reported (λ _. r ≡ Ok to) (λ _. r ≡ Err fault.WriteFault)
      → cut_at (Text purpose len) rest ≡ text_piece bytes ∷ ps → Answers on reported old (λ s. command_reply reading s (Text purpose len) bytes (is_short (text_piece bytes))) x y new silent
      → (Serves on old (λ s. pieces_reply reading s (text_piece bytes ∷ ps)) x y new (λ s. pieces_reply reading s ps)
      → Serves on old (λ s. pieces_reply reading s (text_piece bytes ∷ ps)) x y new (remaining_reply reading to left))
      → ps ≡ pieces_after to left → ContinuesOrIsCut on r reading old (cut_at (Text purpose len) rest) x y new (Some left)
  told_of (Ok done) to bytes ps rest left is cut answers ends following =
      let all = subst (λ qs. Serves on old (λ s. pieces_reply reading s qs) x y new (remaining_reply reading to left)) (sym cut) (ends (requested_serves reading old new (text_piece bytes) ps x y answers)) in
      let split = cut ∙ ap (λ qs. text_piece bytes ∷ qs) following in
      subst (λ r. ContinuesOrIsCut on r reading old (cut_at (Text purpose len) rest) x y new (Some left)) (sym is)
      (record {
        left = left;
        is_known = refl;
        front = text_piece bytes ∷ [];
        split = split;
        serves = all;
        lines = piece_answered reading old new (text_piece bytes) (cut_at (Text purpose len) rest) all.text to left split all.leads;
      })
  told_of (Err failed) to bytes ps rest left is cut answers ends following =
      subst (λ r. ContinuesOrIsCut on r reading old (cut_at (Text purpose len) rest) x y new (Some left)) (sym is)
      (subst (λ qs. IsCutShort on reading old qs x y new) (sym cut) (requested_cut on reading old new (text_piece bytes) ps x y answers))

  module _ {E : Type 0} (reported : Result ⊤ E) where
    whole_on : (bytes rest left : List ℕ) → rest ≡ bytes ++ left → length bytes ≡ len → MatchResult reported (λ _. r ≡ Ok Continue) (λ _. r ≡ Err fault.WriteFault)
        → Answers on reported old (announced_reply Dropped reading purpose bytes) x y new silent → ContinuesOrIsCut on r reading old (cut_at (Text purpose len) rest) x y new (Some left)
    whole_on bytes rest left moves is flow_or_fault answers =
        told_of reported Continue bytes (pieces_of left) rest left flow_or_fault (ap (cut_at (Text purpose len)) moves ∙ text_cut purpose len bytes left is)
        (answers_as on reported old new (announced_reply Dropped reading purpose bytes) (λ s. command_reply reading s (Text purpose len) bytes (is_short (text_piece bytes))) silent x y
        (same_reply bytes false (not_short len bytes is) (announced_reply Dropped reading purpose bytes) (λ s. refl)) answers)
        (λ serves. serves) refl

    short_on : (bytes rest left : List ℕ) → rest ≡ bytes ++ left → left ≡ [] → length bytes < len → MatchResult reported (λ _. r ≡ Ok Finish) (λ _. r ≡ Err fault.WriteFault)
        → Answers on reported old (announced_reply Short reading purpose bytes) x y new silent → ContinuesOrIsCut on r reading old (cut_at (Text purpose len) rest) x y new (Some left)
    short_on bytes rest left moves end less flow_or_fault answers =
        told_of reported Finish bytes [] rest left flow_or_fault (ap (cut_at (Text purpose len)) (moves ∙ ap (λ l. bytes ++ l) end ∙ append-nil bytes) ∙ short_cut purpose len bytes less)
        (answers_as on reported old new (announced_reply Short reading purpose bytes) (λ s. command_reply reading s (Text purpose len) bytes (is_short (text_piece bytes))) silent x y
        (same_reply bytes true (lt-ltb (length bytes) len less) (announced_reply Short reading purpose bytes) (λ s. refl)) answers)
        (λ serves. ended_serves reading old new (λ s. pieces_reply reading s (text_piece bytes ∷ [])) x y serves) refl

    text_by : (rest : List ℕ) (text : AnnouncedText) (known : Option (List ℕ)) → TakesAll len (Some rest) known text → MatchResult reported (λ _. r ≡ Ok (flow_after text)) (λ _. r ≡ Err fault.WriteFault)
        → ((bytes : List ℕ) → Answers on reported old (announced_reply text reading purpose bytes) x y new silent) → ContinuesOrIsCut on r reading old (cut_at (Text purpose len) rest) x y new known
    text_by rest (Whole text) None l flow_or_fault answers = absurd l.0
    text_by rest (Whole text) (Some left) l flow_or_fault answers = whole_on text.items rest left l.0 l.1 flow_or_fault (answers text.items)
    text_by rest Dropped None l flow_or_fault answers = absurd l.1
    text_by rest Dropped (Some left) l flow_or_fault answers = whole_on l.0 rest left l.1 l.2 flow_or_fault (answers l.0)
    text_by rest Short None l flow_or_fault answers = absurd l.1
    text_by rest Short (Some left) l flow_or_fault answers = short_on l.0 rest left l.1 l.3 l.2 flow_or_fault (answers l.0)

    pub text_on : (rest : List ℕ) (text : AnnouncedText) (goes : Flow) (before known : Option (List ℕ)) → before ≡ Some rest → TakesAll len before known text → goes ≡ flow_after text
        → MatchResult reported (λ _. r ≡ Ok goes) (λ _. r ≡ Err fault.WriteFault) → ((bytes : List ℕ) → Answers on reported old (announced_reply text reading purpose bytes) x y new silent)
        → ContinuesOrIsCut on r reading old (cut_at (Text purpose len) rest) x y new known
    text_on rest text goes before known is l to flow_or_fault answers =
        text_by rest text known (subst (λ b. TakesAll len b known text) is l) (subst (λ g. MatchResult reported (λ _. r ≡ Ok g) (λ _. r ≡ Err fault.WriteFault)) to flow_or_fault) answers

-- ---- the end of serving

pub all_served : {D : Type 0} {on : sectors.Ghosts D} (follow : StatesFollow) (reading : Reading) (old new : SessionValue D) (input : List ℕ) (x y : Stream)
    (known : Option (List ℕ)) → ServesPieces on reading old (pieces_of input) x y new Finish known
    → IsServed on reading old input x y new
all_served {on = on} follow reading old new input x y known p =
    let serves = p.serves in
    let acts = serves.leads.acts in
    let all : ServerState → Reply = λ s. pieces_reply reading s (pieces_of input) in
    let said : all (as_server_state old (fates_of acts)) ≡ preceded serves.text (executed_of acts) (silent (as_server_state new [])) =
    ap (λ fates. all (as_server_state old fates)) (sym (append-nil (fates_of acts))) ∙ serves.leads.says [] in
    let left : (all (as_server_state old (fates_of acts))).left ≡ as_server_state new [] = ap (λ (r : Reply). r.left) said in
    let text : serves.text ≡ (all (as_server_state old (fates_of acts))).text = sym (ap (λ (r : Reply). r.text) said ∙ append-nil serves.text) in
    record {
      acts = acts;
      turns = serves.leads.turns;
      run = serves.leads.run;
      reported = subst (λ t. AreReported old all acts t serves.leads.turns) text serves.leads.reported;
      lines = λ some following e.
          subst (λ ps. AreAnswered on reading old (pieces_of input) ps serves.leads.turns) (append-nil following) (p.lines some following (sym (append-nil p.front) ∙ sym p.split ∙ e));
      written = subst (Extends x y (events_by serves.leads.turns)) text serves.written;
      left = left;
      executed = ap (λ (r : Reply). r.commands) said ∙ append-nil (executed_of acts);
      requested = serves.leads.requested;
      requests_kept = begins_as (kept_of acts) _ _ (ap (λ fates. (all (as_server_state old fates)).commands) (sym (append-nil (without_failures (fates_of acts))))) (serves.leads.requests_kept []);
      state = ap (λ (s : ServerState). s.state) (sym left) ∙ follow reading (as_server_state old (fates_of acts)) (pieces_of input);
    }

-- the case of an empty line
pub nothing_on : {D : Type 0} {on : sectors.Ghosts D} (reading : Reading) (rest : List ℕ) (s : SessionValue D) (o : Stream) (known : Option (List ℕ))
    → known ≡ Some rest → ServesPieces on reading s (cut_at Nothing rest) o o s Continue known
nothing_on reading rest s o known is = line_served_on reading Nothing rest s s o o known refl is
    (serves_as s s silent (λ t. command_reply reading t Nothing [] false) silent o o (λ fates. refl) (serves_nothing s silent o))

-- ---- line by line

joined_split : (all front more following rest : List Piece) → all ≡ front ++ following → following ≡ more ++ rest → all ≡ (front ++ more) ++ rest
joined_split all front more following rest first second = first ∙ ap (λ ps. front ++ ps) second ∙ sym (append_assoc front more rest)

pub input_begun : {D : Type 0} {on : sectors.Ghosts D} (reading : Reading) (s : SessionValue D) (input : List ℕ) (o : Stream) (known : Option (List ℕ))
    → known ≡ Some input → ServesPieces on reading s (pieces_of input) o o s Continue known
input_begun {on = on} reading s input o known is = record
    { left = input; is_known = is; front = []; split = refl; serves = serves_nothing s (λ t. pieces_reply reading t (pieces_of input)) o; lines = none_yet }
  where
    none_yet : (some others : List Piece) → [] ≡ some ++ others
        → AreAnswered on reading s (pieces_of input) (others ++ pieces_of input)
        (serves_nothing {on = on} s (λ t. pieces_reply reading t (pieces_of input)) o).leads.turns
    none_yet [] [] e = none_answered reading s (pieces_of input) _
    none_yet [] (x ∷ others) e = absurd cc
    none_yet (x ∷ some) others e = absurd cc

-- the next line is separated from the rest of the input
cut_known : CutLaws → (a : ParsedCommand) (left : List ℕ) (known next : Option (List ℕ)) → known ≡ Some left → Cuts a known next → (rest : List ℕ) × (next ≡ Some rest) × (pieces_of left ≡ cut_at a rest)
cut_known laws a left known None is cuts = absurd (subst (λ k. Cuts a k None) is cuts)
cut_known laws a left known (Some rest) is cuts = (rest, refl, cut_pieces laws a left rest (subst (λ k. Cuts a k (Some rest)) is cuts))

module _ {D : Type 0} {on : sectors.Ghosts D} (reading : Reading) (old mid new : SessionValue D) (pieces : List Piece) (x y z : Stream) where
  joined : (known following : Option (List ℕ)) (goes : Flow) (p : ServesPieces on reading old pieces x y mid Continue known)
      → ServesPieces on reading mid (pieces_of p.left) y z new goes following → ServesPieces on reading old pieces x z new goes following
  unfolding serves_on leads_on
  joined known following goes p q = record {
    left = q.left;
    is_known = q.is_known;
    front = p.front ++ q.front;
    split = joined_split pieces p.front q.front (pieces_of p.left) (pieces_after goes q.left) p.split q.split;
    serves = serves_on old mid new (λ s. pieces_reply reading s pieces) (λ s. pieces_reply reading s (pieces_of p.left)) (remaining_reply reading goes q.left) x y z p.serves q.serves;
    lines = λ some others e. at some others (either_part p.front q.front some others e);
  }
    where
      first : List Turn
      first = p.serves.leads.turns

      second : List Turn
      second = q.serves.leads.turns

      at : (some others : List Piece) → ((rest : List Piece) × (p.front ≡ some ++ rest) × (others ≡ rest ++ q.front)) ⊎ ((more : List Piece) × (some ≡ p.front ++ more) × (q.front ≡ more ++ others))
          → AreAnswered on reading old pieces (others ++ pieces_after goes q.left) (p.serves.leads.turns ++ q.serves.leads.turns)
      at some others (inl c) =
          let whole : c.0 ++ pieces_of p.left ≡ others ++ pieces_after goes q.left =
          ap (λ ps. c.0 ++ ps) q.split ∙ sym (append_assoc c.0 q.front (pieces_after goes q.left)) ∙ ap (λ ps. ps ++ pieces_after goes q.left) (sym c.2) in
          subst (λ ps. AreAnswered on reading old pieces ps (p.serves.leads.turns ++ q.serves.leads.turns)) whole
          (answered_on reading old pieces (c.0 ++ pieces_of p.left) p.serves.leads.turns q.serves.leads.turns (p.lines some c.0 c.1))
      at some others (inr c) =
          answered_after reading old mid pieces (pieces_of p.left) (others ++ pieces_after goes q.left) p.serves.text p.serves.leads q.serves.leads.turns (q.lines c.0 others c.2)

  -- the case that there was no other line
  pub input_ended : (known : Option (List ℕ)) → pieces_of [] ≡ [] → ServesPieces on reading old pieces x y mid Continue known → IfSome known (λ left. left ≡ [])
      → ServesPieces on reading old pieces x y mid Finish known
  unfolding leads_to
  input_ended known none p ended =
      let empty : p.left ≡ [] = subst (λ k. IfSome k (λ left. left ≡ [])) p.is_known ended in
      let nothing : pieces_of p.left ≡ [] = ap pieces_of empty ∙ none in
      record {
        left = p.left;
        is_known = p.is_known;
        front = p.front;
        split = p.split ∙ ap (λ ps. p.front ++ ps) nothing;
        serves = record {
          text = p.serves.text;
          leads = leads_to old mid (λ s. pieces_reply reading s pieces) (λ s. pieces_reply reading s (pieces_of p.left)) silent p.serves.text
              (λ fates. ap (pieces_reply reading (as_server_state mid fates)) nothing ∙ served_none reading (as_server_state mid fates)) p.serves.leads;
          written = p.serves.written;
        };
        lines = λ some others e. subst (λ ps. AreAnswered on reading old pieces (others ++ ps) p.serves.leads.turns) nothing (p.lines some others e);
      }

-- ---- serving that is cut short

-- the case that no command was being executed
cut_where : {D : Type 0} {on : sectors.Ghosts D} (reading : Reading) (old mid : SessionValue D) (pieces front following : List Piece) (x y : Stream) → pieces ≡ front ++ following
    → (serves : Serves on old (λ s. pieces_reply reading s pieces) x y mid (λ s. pieces_reply reading s following))
    → ((some others : List Piece) (next : Piece) → front ≡ some ++ next ∷ others
    → AreAnswered on reading old pieces (next ∷ (others ++ following)) serves.leads.turns) → IsCutShort on reading old pieces x y mid
cut_where {on = on} reading old mid pieces front following x y split serves lines = record {
  commands = None;
  front = front;
  following = following;
  split = split;
  reported = mid;
  text = serves.text;
  answered = serves.leads;
  lines = lines;
  later_commands = None;
  begun = [];
  later_following = following;
  later_split = refl;
  one = omega arith;
  last = [];
  reports = reports_nothing mid (λ s. pieces_reply reading s following);
  flushed_stream = y;
  written = serves.written;
  part = none_put y (on.calls mid.device);
}

pub cut_between : {D : Type 0} {on : sectors.Ghosts D} (reading : Reading) (old mid : SessionValue D) (pieces : List Piece) (x y : Stream)
    (known : Option (List ℕ)) → ServesPieces on reading old pieces x y mid Continue known → IsCutShort on reading old pieces x y mid
cut_between reading old mid pieces x y known p = cut_where reading old mid pieces p.front (pieces_of p.left) x y p.split p.serves (λ some others next e. p.lines some (next ∷ others) e)

-- the case that nothing was served yet
pub cut_at_once : {D : Type 0} {on : sectors.Ghosts D} (reading : Reading) (old : SessionValue D) (pieces : List Piece) (x : Stream) → IsCutShort on reading old pieces x x old
cut_at_once reading old pieces x = cut_where reading old old pieces [] pieces x x refl (serves_nothing old (λ s. pieces_reply reading s pieces) x) (no_piece reading old pieces pieces _)

-- the case that other pieces were served before
module _ {D : Type 0} {on : sectors.Ghosts D} (reading : Reading) (old mid new : SessionValue D) (pieces : List Piece) (x y z : Stream) where
  cut_after : (known : Option (List ℕ)) (p : ServesPieces on reading old pieces x y mid Continue known) → IsCutShort on reading mid (pieces_of p.left) y z new → IsCutShort on reading old pieces x z new
  unfolding leads_on
  cut_after known p c = record {
    commands = c.commands;
    front = p.front ++ c.front;
    following = c.following;
    split = joined_split pieces p.front c.front (pieces_of p.left) c.following p.split c.split;
    reported = c.reported;
    text = p.serves.text ++ c.text;
    answered = leads_on old mid c.reported (λ s. pieces_reply reading s pieces) (λ s. pieces_reply reading s (pieces_of p.left)) (still reading c.commands c.following) p.serves.text c.text p.serves.leads c.answered;
    lines = λ some others next e. at some others next (either_part p.front c.front some (next ∷ others) e);
    later_commands = c.later_commands;
    begun = c.begun;
    later_following = c.later_following;
    later_split = c.later_split;
    one = c.one;
    last = c.last;
    reports = c.reports;
    flushed_stream = c.flushed_stream;
    written = subst (λ e. Extends x c.flushed_stream e (p.serves.text ++ c.text)) (sym (events_both p.serves.leads.turns c.answered.turns))
        (extends_on x y c.flushed_stream (events_by p.serves.leads.turns) (events_by c.answered.turns) p.serves.text c.text p.serves.written c.written);
    part = c.part;
  }
    where
      at : (some others : List Piece) (next : Piece)
          → ((rest : List Piece) × (p.front ≡ some ++ rest) × (next ∷ others ≡ rest ++ c.front)) ⊎ ((more : List Piece) × (some ≡ p.front ++ more) × (c.front ≡ more ++ next ∷ others))
          → AreAnswered on reading old pieces (next ∷ (others ++ c.following)) (p.serves.leads.turns ++ c.answered.turns)
      at some others next (inl e) =
          let whole : e.0 ++ pieces_of p.left ≡ next ∷ (others ++ c.following) = ap (λ ps. e.0 ++ ps) c.split ∙ sym (append_assoc e.0 c.front c.following) ∙ ap (λ ps. ps ++ c.following) (sym e.2) in
          subst (λ ps. AreAnswered on reading old pieces ps (p.serves.leads.turns ++ c.answered.turns)) whole
          (answered_on reading old pieces (e.0 ++ pieces_of p.left) p.serves.leads.turns c.answered.turns (p.lines some e.0 e.1))
      at some others next (inr e) =
          answered_after reading old mid pieces (pieces_of p.left) (next ∷ (others ++ c.following)) p.serves.text p.serves.leads c.answered.turns (c.lines e.0 others next e.2)

-- the case that the next line was read
module _ {D : Type 0} {on : sectors.Ghosts D} {reading : Reading} {old mid new : SessionValue D} {pieces : List Piece} {x y z : Stream} {a : ParsedCommand}
    {found : Option ParsedCommand} {known next : Option (List ℕ)} (laws : CutLaws) (is : found ≡ Some a)
    (p : ServesPieces on reading old pieces x y mid Continue known) (cuts : CutsNext found known next) where
  pub line_served : {following : Option (List ℕ)} {to goes : Flow} → to ≡ goes
      → ((rest : List ℕ) → next ≡ Some rest → ServesPieces on reading mid (cut_at a rest) y z new to following) → ServesPieces on reading old pieces x z new goes following
  line_served {following = following} {goes = goes} same more =
      let cut = cut_known laws a p.left known next p.is_known (subst (λ b. CutsNext b known next) is cuts) in
      joined reading old mid new pieces x y z known following goes p
      (subst (λ ps. ServesPieces on reading mid ps y z new goes following) (sym cut.2) (subst (λ g. ServesPieces on reading mid (cut_at a cut.0) y z new g following) same (more cut.0 cut.1)))

  pub line_cut : ((rest : List ℕ) → next ≡ Some rest → IsCutShort on reading mid (cut_at a rest) y z new) → IsCutShort on reading old pieces x z new
  line_cut more =
      let cut = cut_known laws a p.left known next p.is_known (subst (λ b. CutsNext b known next) is cuts) in
      cut_after reading old mid new pieces x y z known p (subst (λ ps. IsCutShort on reading mid ps y z new) (sym cut.2) (more cut.0 cut.1))

-- ---- the causes of faults

pub cause_of : (f : ServeFault) (reader_failed writer_failed : Bool) (left len : ℕ) → (left ≡ 0 → 10 ^ 12 ≤ len) → IsCause f reader_failed writer_failed left
    → HasCause f reader_failed writer_failed len
cause_of fault.ReadFault reader_failed writer_failed left len most (inl failed) = inl failed
cause_of fault.ReadFault reader_failed writer_failed left len most (inr none) = inr (most none)
cause_of fault.WriteFault reader_failed writer_failed left len most failed = failed

pub whole_input : (input : List ℕ) (new : Option (List ℕ)) (left : ℕ) → CountsTaken (Some input) 1000000000000 new left → left ≡ 0 → 10 ^ 12 ≤ length input
whole_input input None left counts none = absurd counts
whole_input input (Some rest) left counts none = omega (arith, counts, none)
