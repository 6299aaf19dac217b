-- The rest of a known input after bytes were taken.
use Rattle.std.proofs.Common.{
  ◌≡◌,
  ◌∙◌,
  ℕ,
  ◌+◌,
  ◌≤◌,
  ◌<◌,
  Bool,
  true,
  false,
  List,
  [],
  ◌∷◌,
  ◌++◌,
  ◌⊎◌,
  inl,
  inr,
  Option,
  Some,
  None,
  Contains,
  length,
  take,
  drop,
  refl,
  sym,
  ap,
  subst,
  arith,
  append_assoc,
  append-nil,
  length-append,
}
use Rattle.std.specs.Prelude.{OnSome, Result, if◌then◌else◌}
use Rattle.std.specs.Io.KnownBytes.{Consumes, IsAtEnd, Keeps, ReadConsumes, prepend_known}
use Rattle.std.specs.Str.Lines.{strip_carriage_return}
use Rattle.std.proofs.KnownBytes.{Consumes-nil, Consumes-trans, Keeps-refl}
use Rattle.std.proofs.lemmas.List.Elements.{Contains-append_cases}
use Rattle.text_lines.specs.Lines.{HasNoLineFeed}
use Rattle.command_text.specs.Parsing.{parsed_line}
use Rattle.command_text.specs.Cutting.{announced_len, ends, pieces_of}
use Rattle.command_text.specs.Laws.{PiecesEnd, PiecesFollow, cut_at, piece_at}
use Rattle.command_text.specs.declared.parsed_command.ParsedCommand.{ParsedCommand}
use Rattle.command_server.specs.Input.{
  Counts,
  CountsAll,
  CountsExactly,
  CountsTaken,
  Cuts,
  CutsLine,
  CutsNext,
  IsLast,
  IsPartialLine,
  IsPartOf,
  IsTextPart,
  Moves,
  MovesBuffered,
  TakesMore,
  TakesPart,
  TakesBuffered,
  left_of,
}
use Rattle.command_server.specs.KnownInput.{Beforehand, ByReads, Fits, InputKnowledge, left_by}
use Rattle.command_server.specs.ServeContract.{IsInputOf}
use Rattle.command_server.specs.declared.input.Part.{Part}
use Rattle.command_server.specs.declared.input.PartialLine.{PartialLine}
use Rattle.command_server.specs.declared.input.PartialText.{PartialText}
use Rattle.command_server.specs.declared.input.Input.{Input}
use Rattle.command_server.specs.declared.streams.Source as sources
use lib.Seq.{drop-nil}
use Rattle.command_server.specs.declared.input.Part.TheVariants.{End, Feed, More}

known_before : (old mid new : Option (List ℕ)) (seen : List ℕ) → Consumes old mid seen → OnSome mid (IsAtEnd new) → OnSome old (IsAtEnd new)
known_before None mid new seen moves end = tt
known_before (Some xs) None new seen moves end = absurd moves
known_before (Some xs) (Some ys) new seen moves end = end

-- ---- parts of a line

no_feed_on : (a b : List ℕ) → HasNoLineFeed a → HasNoLineFeed b → HasNoLineFeed (a ++ b)
no_feed_on a b p q h = at (Contains-append_cases a b 10 h)
  where
    at : Contains a 10 ⊎ Contains b 10 → ⊥
    at (inl x) = p x
    at (inr y) = q y

pub none_taken : (known : Option (List ℕ)) (line : PartialLine) → IsPartialLine [] line → IsPartOf known known line
none_taken known line kept = record { seen = []; free = λ h. absurd (omega (arith, h.1)); moves = Consumes-nil known; kept = kept }

pub part_more : (old mid new : Option (List ℕ)) (before after : PartialLine) (n : ℕ) → IsPartOf old mid before → TakesPart mid new before after (More n) → IsPartOf old new after
part_more old mid new before after n p t = record {
  seen = p.seen ++ t.bytes;
  free = no_feed_on p.seen t.bytes p.free t.free;
  moves = Consumes-trans old mid new p.seen t.bytes p.moves t.moves;
  kept = t.line p.seen p.kept;
}

-- the laws of cutting an input
pub record CutLaws : Type 0 where
  pub ended : PiecesFollow
  pub last : PiecesEnd
  pub none : pieces_of [] ≡ []

nothing_after : CutLaws → (a : ParsedCommand) → piece_at a [] ∷ [] ≡ cut_at a []
nothing_after laws a = sym (ap (λ ps. record { requested = a; text = take (announced_len a) [] } ∷ ps) (at (ends (piece_at a []))))
  where
    at : (b : Bool) → (if b then [] else pieces_of (drop (announced_len a) [])) ≡ []
    at true = refl
    at false = ap pieces_of (drop-nil (announced_len a)) ∙ laws.none

-- the pieces of the rest are those of its first line and of what follows
pub cut_pieces : CutLaws → (a : ParsedCommand) (bytes rest : List ℕ) → CutsLine a bytes rest → pieces_of bytes ≡ cut_at a rest
cut_pieces laws a bytes rest c = at c.whole
  where
    at : (bytes ≡ c.line ++ 10 ∷ rest) ⊎ ((bytes ≡ c.line) × (rest ≡ []) × (0 < length c.line)) → pieces_of bytes ≡ cut_at a rest
    at (inl e) = ap pieces_of e ∙ laws.ended c.line rest c.free ∙ ap (λ b. cut_at b rest) (sym c.requests_kept)
    at (inr e) = ap pieces_of e.0 ∙ laws.last c.line c.free e.2 ∙ ap (λ b. piece_at b [] ∷ []) (sym c.requests_kept) ∙ nothing_after laws a ∙ ap (cut_at a) (sym e.1)

feed_cuts : (line : List ℕ) (a : ParsedCommand) → HasNoLineFeed line → a ≡ parsed_line (strip_carriage_return line) → (old new : Option (List ℕ)) → Consumes old new (line ++ 10 ∷ []) → Cuts a old new
feed_cuts line a free requests_kept None new moves = tt
feed_cuts line a free requests_kept (Some xs) None moves = absurd moves
feed_cuts line a free requests_kept (Some xs) (Some ys) moves = record { line = line; free = free; requests_kept = requests_kept; whole = inl (moves ∙ append_assoc line (10 ∷ []) ys) }

pub part_feed : (old mid new : Option (List ℕ)) (before after : PartialLine) (n : ℕ) (a : ParsedCommand) → IsPartOf old mid before → TakesPart mid new before after (Feed n)
    → ((line : List ℕ) → IsPartialLine line after → a ≡ parsed_line (strip_carriage_return line)) → Cuts a old new
part_feed old mid new before after n a p t requests_kept =
    let line : List ℕ = p.seen ++ t.bytes in
    let moves : Consumes old new (p.seen ++ (t.bytes ++ 10 ∷ [])) = Consumes-trans old mid new p.seen (t.bytes ++ 10 ∷ []) p.moves t.moves in
    feed_cuts line a (no_feed_on p.seen t.bytes p.free t.free) (requests_kept line (t.line p.seen p.kept)) old new (subst (Consumes old new) (sym (append_assoc p.seen t.bytes (10 ∷ []))) moves)

last_cuts : (line : List ℕ) (next : Option ParsedCommand) → HasNoLineFeed line → IsLast line next → (old new : Option (List ℕ)) → Consumes old new line → OnSome old (IsAtEnd new) → CutsNext next old new
last_cuts line None free is None new moves end = tt
last_cuts line None free is (Some xs) None moves end = absurd moves
last_cuts line None free is (Some xs) (Some ys) moves end = moves ∙ ap (λ l. l ++ ys) is ∙ end
last_cuts line (Some a) free is None new moves end = tt
last_cuts line (Some a) free is (Some xs) None moves end = absurd moves
last_cuts line (Some a) free is (Some xs) (Some ys) moves end =
    record { line = line; free = free; requests_kept = is.1; whole = inr (moves ∙ ap (λ l. line ++ l) end ∙ append-nil line, end, is.0) }

pub part_last : (old mid new : Option (List ℕ)) (before after : PartialLine) (next : Option ParsedCommand) → IsPartOf old mid before → TakesPart mid new before after End
    → ((line : List ℕ) → IsPartialLine line after → IsLast line next) → CutsNext next old new
part_last old mid new before after next p t requests_kept = ends_by t.bytes t.moves (t.line p.seen p.kept)
  where
    ends_by : (bytes : List ℕ) → (bytes ≡ []) × Consumes mid new [] × OnSome mid (IsAtEnd new) → IsPartialLine (p.seen ++ bytes) after → CutsNext next old new
    ends_by bytes moves line =
        let same : p.seen ++ bytes ≡ p.seen = ap (λ b. p.seen ++ b) moves.0 ∙ append-nil p.seen in
        let is : IsLast p.seen next = requests_kept p.seen (subst (λ l. IsPartialLine l after) same line) in
        let all : Consumes old new p.seen = subst (Consumes old new) (append-nil p.seen) (Consumes-trans old mid new p.seen [] p.moves moves.1) in
        last_cuts p.seen next p.free is old new all (known_before old mid new p.seen p.moves moves.2)

-- at the end of the input the line stays as it is
pub kept_at_end : (mid new : Option (List ℕ)) (before after : PartialLine) (seen : List ℕ) → IsPartialLine seen before → TakesPart mid new before after End
    → length after.kept.items ≡ length before.kept.items
kept_at_end mid new before after seen kept t =
    ap length ((t.line seen kept).0 ∙ ap (λ b. take 1026 (seen ++ b)) t.moves.0 ∙ ap (take 1026) (append-nil seen) ∙ sym kept.0)

pub on_some : {X : Type 0} (o : Option X) (P Q : Type 0) → OnSome o P → (P → Q) → OnSome o Q
on_some None P Q p on = tt
on_some (Some x) P Q p on = on p

-- ---- bytes that were read ahead

-- the bytes taken from the buffer are those that the rest of the input has lost
front_taken : (rest known : Option (List ℕ)) (all front following : List ℕ) → Keeps known (prepend_known all rest) → all ≡ front ++ following → Consumes known (prepend_known following rest) front
front_taken rest None all front following keeps is = tt
front_taken None (Some xs) all front following keeps is = absurd keeps
front_taken (Some ys) (Some xs) all front following keeps is = sym keeps ∙ ap (λ l. l ++ ys) is ∙ append_assoc front following ys

none_following : (rest known : Option (List ℕ)) (all : List ℕ) → Keeps known (prepend_known all rest) → IsAtEnd rest → (following : List ℕ) → following ≡ [] → OnSome known (IsAtEnd (prepend_known following rest))
none_following rest None all keeps end following is = tt
none_following None (Some xs) all keeps end following is = absurd keeps
none_following (Some ys) (Some xs) all keeps end following is = ap (λ l. l ++ ys) is ∙ end

module _ (rest known : Option (List ℕ)) (all following : List ℕ) (keeps : Keeps known (prepend_known all rest)) where
  moves_on : (part : Part) (bytes : List ℕ) → (all ≡ [] → IsAtEnd rest) → MovesBuffered part all following bytes → Moves part known (prepend_known following rest) bytes
  moves_on (More n) bytes end moves = front_taken rest known all bytes following keeps moves.0
  moves_on (Feed n) bytes end moves = front_taken rest known all (bytes ++ 10 ∷ []) following keeps moves.0
  moves_on End bytes end moves =
      (moves.0, front_taken rest known all [] following keeps (moves.1 ∙ sym moves.2), none_following rest known all keeps (end moves.1) following moves.2)

  pub part_taken : (before after : PartialLine) (part : Part) → (all ≡ [] → IsAtEnd rest) → TakesBuffered all following before after part → TakesPart known (prepend_known following rest) before after part
  part_taken before after part end t = record { bytes = t.bytes; free = t.free; moves = moves_on part t.bytes end t.moves; line = t.line }

counts_by : (rest known : Option (List ℕ)) (all front following : List ℕ) (left later : ℕ) → Keeps known (prepend_known all rest) → all ≡ front ++ following
    → left ≤ later + length front → CountsTaken known left (prepend_known following rest) later
counts_by rest None all front following left later keeps is most = tt
counts_by None (Some xs) all front following left later keeps is most = absurd keeps
counts_by (Some ys) (Some xs) all front following left later keeps is most =
    let whole : length xs ≡ length (all ++ ys) = ap length (sym keeps) in
    let parts : length (all ++ ys) ≡ length all + length ys = length-append all ys in
    let line_part_len : length all ≡ length front + length following = ap length is ∙ length-append front following in
    let later_len : length (following ++ ys) ≡ length following + length ys = length-append following ys in
    omega (arith, whole, parts, line_part_len, later_len, most)

pub counts_part : (rest known : Option (List ℕ)) (all following : List ℕ) (before after : PartialLine) (part : Part) (n left later : ℕ)
    → Keeps known (prepend_known all rest) → TakesBuffered all following before after part
    → (part ≡ More n) ⊎ (part ≡ Feed n) → left ≤ later + n → CountsTaken known left (prepend_known following rest) later
counts_part rest known all following before after part n left later keeps t (inl is) most =
    let moves = subst (λ p. MovesBuffered p all following t.bytes) is t.moves in
    counts_by rest known all t.bytes following left later keeps moves.0 (omega (arith, most, moves.1))
counts_part rest known all following before after part n left later keeps t (inr is) most =
    let moves = subst (λ p. MovesBuffered p all following t.bytes) is t.moves in
    let more : length (t.bytes ++ 10 ∷ []) ≡ length t.bytes + 1 = length-append t.bytes (10 ∷ []) in
    counts_by rest known all (t.bytes ++ 10 ∷ []) following left later keeps moves.0 (omega (arith, most, moves.1, more))

-- the bytes taken from the buffer are counted exactly
all_by : (rest known : Option (List ℕ)) (all front following : List ℕ) (left later : ℕ) → Keeps known (prepend_known all rest) → all ≡ front ++ following
    → left ≡ later + length front → (0 < left → 0 < later)
    → CountsAll known left (prepend_known following rest) later
all_by rest None all front following left later keeps is count some = tt
all_by None (Some xs) all front following left later keeps is count some = absurd keeps
all_by (Some ys) (Some xs) all front following left later keeps is count some =
    let whole : length xs ≡ length (all ++ ys) = ap length (sym keeps) in
    let parts : length (all ++ ys) ≡ length all + length ys = length-append all ys in
    let line_part_len : length all ≡ length front + length following = ap length is ∙ length-append front following in
    let later_len : length (following ++ ys) ≡ length following + length ys = length-append following ys in
    (omega (arith, whole, parts, line_part_len, later_len, count), some)

pub all_part : (rest known : Option (List ℕ)) (all following : List ℕ) (before after : PartialLine) (part : Part) (n left later : ℕ)
    → Keeps known (prepend_known all rest) → TakesBuffered all following before after part
    → (part ≡ More n) ⊎ (part ≡ Feed n) → left ≡ later + n → 0 < later → CountsAll known left (prepend_known following rest) later
all_part rest known all following before after part n left later keeps t (inl is) count some =
    let moves = subst (λ p. MovesBuffered p all following t.bytes) is t.moves in
    all_by rest known all t.bytes following left later keeps moves.0 (omega (arith, count, moves.1)) (λ _. some)
all_part rest known all following before after part n left later keeps t (inr is) count some =
    let moves = subst (λ p. MovesBuffered p all following t.bytes) is t.moves in
    let more : length (t.bytes ++ 10 ∷ []) ≡ length t.bytes + 1 = length-append t.bytes (10 ∷ []) in
    all_by rest known all (t.bytes ++ 10 ∷ []) following left later keeps moves.0 (omega (arith, count, moves.1, more)) (λ _. some)

-- if nothing was taken, the count may stay the same
pub counts_kept : (known later : Option (List ℕ)) (left : ℕ) → Keeps known later → CountsTaken known left later left
counts_kept None later left keeps = tt
counts_kept (Some xs) None left keeps = absurd keeps
counts_kept (Some xs) (Some ys) left keeps = omega (arith, ap length keeps)

pub all_kept : (known later : Option (List ℕ)) (left : ℕ) → Keeps known later → CountsAll known left later left
all_kept None later left keeps = tt
all_kept (Some xs) None left keeps = absurd keeps
all_kept (Some xs) (Some ys) left keeps = (omega (arith, ap length keeps), λ some. some)

pub all_on : (a b c : Option (List ℕ)) (m n k : ℕ) → CountsAll a m b n → CountsAll b n c k → CountsAll a m c k
all_on None b c m n k p q = tt
all_on (Some xs) None c m n k p q = absurd p
all_on (Some xs) (Some ys) None m n k p q = absurd q
all_on (Some xs) (Some ys) (Some zs) m n k p q = (omega (arith, p.0, q.0), λ some. q.1 (p.1 some))

pub counts_on : (a b c : Option (List ℕ)) (m n k : ℕ) → CountsTaken a m b n → CountsTaken b n c k → CountsTaken a m c k
counts_on None b c m n k p q = tt
counts_on (Some xs) None c m n k p q = absurd p
counts_on (Some xs) (Some ys) None m n k p q = absurd q
counts_on (Some xs) (Some ys) (Some zs) m n k p q = omega (arith, p, q)

-- `TakesPart` also holds after each argument is replaced by an equal one
pub part_named : (rest known : Option (List ℕ)) (following following' : List ℕ) (before after after' : PartialLine) (part part' : Part) → following' ≡ following
    → after' ≡ after → part ≡ part' → TakesPart known (prepend_known following rest) before after part
    → TakesPart known (prepend_known following' rest) before after' part'
part_named rest known following following' before after after' part part' b a p t =
    subst (TakesPart known (prepend_known following' rest) before after') p
    (subst (λ l. TakesPart known (prepend_known following' rest) before l part) (sym a) (subst (λ x. TakesPart known (prepend_known x rest) before after part) (sym b) t))

module _ {R : Type 0} (on : sources.Ghosts R) where
  pub counts_nothing : (input : Input) (reader : R) → Counts on input reader input reader
  counts_nothing input reader how fits = let left = left_of on how input reader in (fits, counts_kept left left input.left (Keeps-refl left))

  pub counts_after : (a b c : Input) (r s t : R) → Counts on a r b s → Counts on b s c t → Counts on a r c t
  counts_after a b c r s t first second how fits =
      let later = second how fits in
      let earlier = first how later.0 in
      (earlier.0, counts_on (left_of on how a r) (left_of on how b s) (left_of on how c t) a.left b.left c.left earlier.1 later.1)

  pub all_nothing : (input : Input) (reader : R) → CountsExactly on input reader input reader
  all_nothing input reader how fits = let left = left_of on how input reader in all_kept left left input.left (Keeps-refl left)

  pub all_following : (a b c : Input) (r s t : R) → CountsExactly on a r b s → Counts on b s c t → CountsExactly on b s c t → CountsExactly on a r c t
  all_following a b c r s t first counts second how fits =
      all_on (left_of on how a r) (left_of on how b s) (left_of on how c t) a.left b.left c.left (first how (counts how fits).0) (second how fits)

  -- the bytes that were read are the next ones of the rest, for both kinds of knowledge about the input
  pub read_however : {E : Type 0} (old new : R) (r : Result ℕ E) (block : List ℕ) → ReadConsumes (on.remaining old) (on.remaining new) r block
      → ((text : List ℕ) → on.gave new text → ReadConsumes (Some (on.left old text)) (Some (on.left new text)) r block) → (how : InputKnowledge) → Fits on how new
      → ReadConsumes (left_by on how old) (left_by on how new) r block
  read_however old new r block known given Beforehand fits = known
  read_however old new r block known given (ByReads text) fits = given text fits

  pub fits_before : (old new : R) → ((text : List ℕ) → on.gave new text → on.gave old text) → (how : InputKnowledge) → Fits on how new → Fits on how old
  fits_before old new given Beforehand fits = fits
  fits_before old new given (ByReads text) fits = given text fits

  pub known_somehow : (old new : R) (input : List ℕ) → IsInputOf on old new input → (how : InputKnowledge) × Fits on how new × (left_by on how old ≡ Some input)
  known_somehow old new input (inl known) = (Beforehand, tt, known)
  known_somehow old new input (inr given) = (ByReads given.0, given.1, ap Some (sym given.2))

-- ---- the bytes of a text

pub text_more : (len : ℕ) (old mid new : Option (List ℕ)) (before after : PartialText) → IsTextPart len old mid before → TakesMore mid new before after true → IsTextPart len old new after
text_more len old mid new before after p t = record { seen = p.seen ++ t.bytes; moves = Consumes-trans old mid new p.seen t.bytes p.moves t.moves; kept = t.text len p.seen p.kept }
