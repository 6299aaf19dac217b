-- The part of an input that is taken: whole pieces, and at the end the whole input or a line that ends serving.
use Rattle.std.proofs.Common.{
  ◌≡◌,
  ◌∙◌,
  ℕ,
  ◌+◌,
  ◌<◌,
  ◌≤◌,
  Bool,
  true,
  false,
  List,
  [],
  ◌∷◌,
  ◌++◌,
  ◌⊎◌,
  inl,
  inr,
  Option,
  Some,
  None,
  Result,
  Ok,
  Err,
  length,
  refl,
  sym,
  ap,
  ap₂,
  subst,
  arith,
  append-nil,
  append_assoc,
  length-append,
}
use Rattle.std.specs.Prelude.{IfOk, IfSome, MatchResult, nat_lt, if◌then◌else◌, ⊤}
use Rattle.command_text.specs.declared.parsed_command.Purpose.{Purpose}
use Rattle.command_text.specs.Cutting.{Piece, announced_len, is_end, pieces_of}
use Rattle.command_text.specs.Laws.{PiecesFollow, cut_at}
use Rattle.command_text.specs.declared.parsed_command.ParsedCommand.{ParsedCommand}
use Rattle.command_text.specs.declared.parsed_command.ParsedCommand.TheVariants.{Text}
use Rattle.command_server.specs.Input.{Between, CountsAll, CountsExactly, Cuts, CutsLine, TakesAll, left_of}
use Rattle.command_server.specs.ServeContract.{ArePieces, IsTaken}
use Rattle.command_server.specs.ServeSteps.{TakesAnnounced, TakesBytes, TakesKnown, TakesKnownPieces, TakesPieces, flow_after}
use Rattle.command_server.specs.declared.answering.Flow.{Flow}
use Rattle.command_server.specs.declared.answering.Flow.TheVariants.{Continue, Finish}
use Rattle.command_server.specs.declared.answering.ServeFault.{ServeFault}
use Rattle.command_server.specs.declared.answering.ServeFault.TheVariants as fault
use Rattle.command_server.specs.declared.input.Input.{Input}
use Rattle.command_server.specs.declared.input.AnnouncedText.{AnnouncedText}
use Rattle.command_server.specs.declared.input.AnnouncedText.TheVariants.{Dropped, Short, Whole}
use Rattle.command_server.specs.declared.streams.Source as sources
use Rattle.command_server.proofs.CommandLemmas.{drop_front, not_short, take_front}
use Rattle.command_server.proofs.CutLemmas.{all_nothing}

no_item : (xs : List ℕ) → length xs ≡ 0 → xs ≡ []
no_item [] e = refl
no_item (x ∷ xs) e = absurd (omega (arith, e))

none_left : (text rest whole : List ℕ) → whole ≡ text ++ rest → whole ≡ [] → rest ≡ []
none_left text rest whole is none = no_item rest (omega (arith, ap length (sym none ∙ is), length-append text rest))

no_feed_left : (line rest : List ℕ) → [] ≡ line ++ 10 ∷ rest → ⊥
no_feed_left line rest is = omega (arith, ap length is, length-append line (10 ∷ rest))

-- ---- after a line

cut_text : (a : ParsedCommand) (text rest : List ℕ) → length text ≡ announced_len a → is_end a false ≡ false → cut_at a (text ++ rest) ≡ record { requested = a; text = text } ∷ pieces_of rest
cut_text a text rest is goes =
    ap₂ {C = List Piece} (λ (t following : List ℕ). record { requested = a; text = t } ∷ (if is_end a (nat_lt (length t) (announced_len a)) then [] else pieces_of following)) (take_front (announced_len a) text rest is)
    (drop_front (announced_len a) text rest is)
    ∙ ap (λ (b : Bool). record { requested = a; text = text } ∷ (if is_end a b then [] else pieces_of rest)) (not_short (announced_len a) text is)
    ∙ ap (λ (b : Bool). record { requested = a; text = text } ∷ (if b then [] else pieces_of rest)) goes

all_taken : (most : ℕ) (bytes : List ℕ) → length bytes < most → IsTaken most bytes
all_taken most bytes less = record { taken = bytes; rest = []; whole = sym (append-nil bytes); less = less; end = inl refl }

module _ (ended : PiecesFollow) (a : ParsedCommand) (xs ys zs ws : List ℕ) (p : TakesPieces xs ys) (c : CutsLine a ys zs) where
  taken_on : TakesBytes a Continue zs ws → TakesPieces xs ws
  taken_on b = at p.end c.whole
    where
      at : (ys ≡ []) ⊎ ArePieces p.taken → (ys ≡ c.line ++ 10 ∷ zs) ⊎ ((ys ≡ c.line) × (zs ≡ []) × (0 < length c.line)) → TakesPieces xs ws
      at (inl none) (inl e) = absurd (no_feed_left c.line zs (sym none ∙ e))
      at (inr w) (inl e) =
          let line : List ℕ = c.line ++ 10 ∷ b.0 in
          let piece : Piece = record { requested = a; text = b.0 } in
          record {
            taken = p.taken ++ line;
            whole = p.whole ∙ ap (λ l. p.taken ++ l) (e ∙ ap (λ l. c.line ++ 10 ∷ l) b.1 ∙ sym (append_assoc c.line (10 ∷ b.0) ws)) ∙ sym (append_assoc p.taken line ws);
            end = inr (record {
              pieces = w.pieces ++ piece ∷ [];
              cut = λ us.
                  ap pieces_of (append_assoc p.taken line us ∙ ap (λ l. p.taken ++ l) (append_assoc c.line (10 ∷ b.0) us)) ∙ w.cut (c.line ++ 10 ∷ (b.0 ++ us))
                  ∙ ap (λ ps. w.pieces ++ ps) (ended c.line (b.0 ++ us) c.free ∙ ap (λ d. cut_at d (b.0 ++ us)) (sym c.requests_kept) ∙ cut_text a b.0 us b.2 b.3)
                  ∙ sym (append_assoc w.pieces (piece ∷ []) (pieces_of us));
            });
          }
      at w (inr e) = let empty : ws ≡ [] = none_left b.0 ws zs b.1 e.1 in record { taken = xs; whole = sym (ap (λ l. xs ++ l) empty ∙ append-nil xs); end = inl empty }

  taken_up_to : (most : ℕ) → TakesBytes a Finish zs ws → length xs < most + length ws → IsTaken most xs
  taken_up_to most (inl none) less = all_taken most xs (omega (arith, less, ap length none))
  taken_up_to most (inr b) less = at p.end c.whole
    where
      at : (ys ≡ []) ⊎ ArePieces p.taken → (ys ≡ c.line ++ 10 ∷ zs) ⊎ ((ys ≡ c.line) × (zs ≡ []) × (0 < length c.line)) → IsTaken most xs
      at (inl none) (inl e) = absurd (no_feed_left c.line zs (sym none ∙ e))
      at (inr w) (inl e) =
          let line : List ℕ = c.line ++ 10 ∷ [] in
          let whole : xs ≡ (p.taken ++ line) ++ zs = p.whole ∙ ap (λ l. p.taken ++ l) (e ∙ sym (append_assoc c.line (10 ∷ []) zs)) ∙ sym (append_assoc p.taken line zs) in
          record {
            taken = p.taken ++ line;
            rest = zs;
            whole = whole;
            less = omega (arith, less, ap length whole, length-append (p.taken ++ line) zs, ap length b.0);
            end = inr (record { before = p.taken; whole = w; line = c.line; free = c.free; ends = ap (λ d. is_end d false) (sym c.requests_kept) ∙ b.1; split = refl });
          }
      at w (inr e) = all_taken most xs (omega (arith, less, ap length (b.0 ∙ e.1)))

-- ---- an input that is known

-- the case that nothing was taken yet
pub none_taken_yet : (known : Option (List ℕ)) → TakesKnownPieces known known
none_taken_yet None = tt
none_taken_yet (Some xs) = record { taken = []; whole = refl; end = inr (record { pieces = []; cut = λ rest. refl }) }

pub known_on : (ended : PiecesFollow) (a : ParsedCommand) (old known next following : Option (List ℕ)) → TakesKnownPieces old known → Cuts a known next → TakesKnown a Continue next following → TakesKnownPieces old following
known_on ended a None known next following p c b = tt
known_on ended a (Some xs) None next following p c b = absurd p
known_on ended a (Some xs) (Some ys) None following p c b = absurd c
known_on ended a (Some xs) (Some ys) (Some zs) None p c b = absurd b
known_on ended a (Some xs) (Some ys) (Some zs) (Some ws) p c b = taken_on ended a xs ys zs ws p c b

-- the case that serving ended after a line
pub taken_to_end : (ended : PiecesFollow) (a : ParsedCommand) (bytes : List ℕ) (old known next following : Option (List ℕ)) (left later : ℕ) → old ≡ Some bytes
    → TakesKnownPieces old known → Cuts a known next → TakesKnown a Finish next following
    → CountsAll old left following later → 0 < left → IsTaken left bytes
taken_to_end ended a bytes old known next following left later is p c b counts some =
    at known next following (subst (λ k. TakesKnownPieces k known) is p) c b (subst (λ k. CountsAll k left following later) is counts)
  where
    at : (known next following : Option (List ℕ)) → TakesKnownPieces (Some bytes) known → Cuts a known next → TakesKnown a Finish next following
        → CountsAll (Some bytes) left following later → IsTaken left bytes
    at None next following p c b counts = absurd p
    at (Some ys) None following p c b counts = absurd c
    at (Some ys) (Some zs) None p c b counts = absurd b
    at (Some ys) (Some zs) (Some ws) p c b counts = taken_up_to ended a bytes ys zs ws p c left b (omega (arith, counts.0, counts.1 some))

-- the case that there was no other line
pub taken_whole : (bytes : List ℕ) (old known : Option (List ℕ)) (left later : ℕ) → old ≡ Some bytes → IfSome known (λ xs. xs ≡ []) → CountsAll old left known later → 0 < left → IsTaken left bytes
taken_whole bytes old known left later is none counts some = at known none (subst (λ k. CountsAll k left known later) is counts)
  where
    at : (known : Option (List ℕ)) → IfSome known (λ xs. xs ≡ []) → CountsAll (Some bytes) left known later → IsTaken left bytes
    at None none counts = absurd counts
    at (Some xs) none counts = all_taken left bytes (omega (arith, counts.0, counts.1 some, ap length none))

-- ---- the bytes that a line takes

module _ {R : Type 0} (on : sources.Ghosts R) where
  takes_none : (a : ParsedCommand) (known : Option (List ℕ)) → announced_len a ≡ 0 → is_end a false ≡ false → TakesKnown a Continue known known
  takes_none a None none goes = tt
  takes_none a (Some xs) none goes = ([], refl, sym none, goes)

  ends_at : (a : ParsedCommand) (known : Option (List ℕ)) → is_end a false ≡ true → TakesKnown a Finish known known
  ends_at a None ends = tt
  ends_at a (Some xs) ends = inr (refl, ends)

  pub line_takes : (a : ParsedCommand) (input : Input) (reader : R) → announced_len a ≡ 0 → is_end a false ≡ false → TakesAnnounced on a input reader input reader Continue
  line_takes a input reader none goes = record {
    less = omega arith;
    exact = all_nothing on input reader;
    takes = λ how fits. takes_none a (left_of on how input reader) none goes;
  }

  line_ends : (a : ParsedCommand) (input : Input) (reader : R) → is_end a false ≡ true → TakesAnnounced on a input reader input reader Finish
  line_ends a input reader ends = record {
    less = omega arith;
    exact = all_nothing on input reader;
    takes = λ how fits. ends_at a (left_of on how input reader) ends;
  }

  once_takes : {E : Type 0} (reported : Result ⊤ E) (r : Result Flow ServeFault) (to : Flow) (Takes : Flow → Type 0)
      → MatchResult reported (λ _. r ≡ Ok to) (λ _. r ≡ Err fault.WriteFault) → Takes to → IfOk r Takes
  once_takes (Ok done) r to Takes is takes = subst (λ o. IfOk o Takes) (sym is) takes
  once_takes (Err failed) r to Takes is takes = subst (λ o. IfOk o Takes) (sym is) tt

  module _ {E : Type 0} {line a : ParsedCommand} (r : Result Flow ServeFault) (input : Input) (reader : R) (is_line : line ≡ a) (reported : Result ⊤ E) where
    pub reported_on : MatchResult reported (λ _. r ≡ Ok Continue) (λ _. r ≡ Err fault.WriteFault) → announced_len a ≡ 0 → is_end a false ≡ false → IfOk r (TakesAnnounced on line input reader input reader)
    reported_on is none goes =
        once_takes reported r Continue (TakesAnnounced on line input reader input reader) is (line_takes line input reader (ap announced_len is_line ∙ none) (ap (λ b. is_end b false) is_line ∙ goes))

    pub reported_to_end : MatchResult reported (λ _. r ≡ Ok Finish) (λ _. r ≡ Err fault.WriteFault) → is_end a false ≡ true → IfOk r (TakesAnnounced on line input reader input reader)
    reported_to_end is ends = once_takes reported r Finish (TakesAnnounced on line input reader input reader) is (line_ends line input reader (ap (λ b. is_end b false) is_line ∙ ends))

  text_takes : (purpose : Purpose) (len : ℕ) (text : AnnouncedText) (old new : Option (List ℕ)) → TakesAll len old new text → TakesKnown (Text purpose len) (flow_after text) old new
  text_takes purpose len (Whole text) None new l = tt
  text_takes purpose len (Whole text) (Some xs) None l = absurd l.0
  text_takes purpose len (Whole text) (Some xs) (Some ys) l = (text.items, l.0, l.1, refl)
  text_takes purpose len Dropped None new l = tt
  text_takes purpose len Dropped (Some xs) None l = absurd l.1
  text_takes purpose len Dropped (Some xs) (Some ys) l = (l.0, l.1, l.2, refl)
  text_takes purpose len Short None new l = tt
  text_takes purpose len Short (Some xs) None l = absurd l.1
  text_takes purpose len Short (Some xs) (Some ys) l = inl l.3

  pub told_text : {E : Type 0} (reported : Result ⊤ E) (r : Result Flow ServeFault) (purpose : Purpose) (len : ℕ) (text : AnnouncedText) (goes : Flow) (a : ParsedCommand) (old new : Input) (before later : R)
      → MatchResult reported (λ _. r ≡ Ok goes) (λ _. r ≡ Err fault.WriteFault) → goes ≡ flow_after text → a ≡ Text purpose len → new.left ≤ old.left → CountsExactly on old before new later
      → Between on old before new later (λ o n. TakesAll len o n text) → IfOk r (TakesAnnounced on a old before new later)
  told_text reported r purpose len text goes a old new before later is to requests_kept less exact loads =
      once_takes reported r goes (TakesAnnounced on a old before new later) is
      (subst (TakesAnnounced on a old before new later) (sym to)
      (subst (λ d. TakesAnnounced on d old before new later (flow_after text)) (sym requests_kept)
      (record { less = less; exact = exact; takes = λ how fits. text_takes purpose len text (left_of on how old before) (left_of on how new later) (loads how fits) })))
