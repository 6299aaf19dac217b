-- Lemmas about a list that is read line by line.
use Rattle.std.proofs.Common.{
  ◌≡◌,
  ◌≢◌,
  ◌∙◌,
  inl,
  inr,
  ℕ,
  ◌+◌,
  ◌-◌,
  Bool,
  true,
  false,
  List,
  [],
  ◌∷◌,
  ◌++◌,
  Option,
  Result,
  Ok,
  Err,
  ◌⊎◌,
  length,
  get_or,
  take,
  drop,
  refl,
  sym,
  ap,
  subst,
  arith,
  append_assoc,
  append-nil,
  length-take,
  get_or-take,
}
use Rattle.std.specs.Prelude.{All, max}
use Rattle.std.specs.List.{concat, flat_map}
use Rattle.std.specs.Io.{StopsAt}
use Rattle.std.specs.Io.KnownBytes.{Appends}
use Rattle.std.specs.Str.Lines.{strip_carriage_return}
use Rattle.std.proofs.KnownBytes.{Appends-nil, Appends-trans}
use Rattle.std.proofs.lemmas.Bool.{cases_lt, eqb-true, eqb-false}
use Rattle.std.proofs.lemmas.Grind.{flat_map-append}
use Rattle.std.proofs.lemmas.List.{drop_all, drop_more, get_or_default, take-append-drop}
use Rattle.std.proofs.lemmas.List.Elements.{All-nil, All-head, All-push, All-tail}
use Rattle.std.specs.declared.io.ErrorKind.{ErrorKind}
use Rattle.text_lines.specs.Lines.{HasNoLineFeed, lines_of}
use Rattle.text_lines.proofs.LawProofs.{end_at_feeds}
use Rattle.text_lines.proofs.PieceLemmas.{lines_nil}
use Rattle.instance_read.specs.declared.formats.Format.{Format}
use Rattle.auditor_cli.specs.Audits.{ArePrinted, IsAudited, IsEnded, IsReadLine, ListState, PrintsLines, PrintsListRead, ends_at_feed, read_more}
use Rattle.auditor_cli.specs.Reads.{FileRead, IsGrown, IsReadFirst}
use Rattle.auditor_cli.specs.Messages.{PrintsReadFailure, read_failure_line, read_failure_status}
use Rattle.auditor_cli.proofs.ListLemmas.{grown_twice, lines_as, read_as}

module _ {S : Type 0} (IsPrintedFor : List ℕ → S → S → List ℕ → ℕ → Type 0) where
  -- If lines were processed, and then one more line, all of them were processed in order.
  pub one_more_line : (ls : List (List ℕ)) (l : List ℕ) (was next later : S) (text more : List ℕ) (n s : ℕ) → ArePrinted IsPrintedFor ls was next text n → IsPrintedFor l next later more s
      → ArePrinted IsPrintedFor (ls ++ l ∷ []) was later (text ++ more) (max n s)
  one_more_line [] l was next later text more n s reported line =
      (later, more, s, [], 0, subst (λ x. IsPrintedFor l x later more s) reported.0 line, (refl, refl, refl), ap (λ (t : List ℕ). t ++ more) reported.1 ∙ sym (append-nil more), omega (arith, reported.2))
  one_more_line (x ∷ xs) l was next later text more n s reported line = (
    reported.0,
    reported.1,
    reported.2,
    reported.3 ++ more,
    max reported.4 s,
    reported.5,
    one_more_line xs l reported.0 next later reported.3 more reported.4 s reported.6 line,
    ap (λ (t : List ℕ). t ++ more) reported.7 ∙ append_assoc reported.1 reported.3 more,
    omega (arith, reported.8),
  )

-- ---- Lines with their line feeds

has_none : (xs : List ℕ) → All (λ x. x ≢ 10) xs → HasNoLineFeed xs
has_none xs h (k, l, here) = h k 10 l here

-- If the last byte is the first line feed, the bytes before it have none.
before_last : (xs : List ℕ) (n : ℕ) → length xs - 1 ≡ n → StopsAt xs 10 → All (λ x. x ≢ 10) (take n xs)
before_last xs n same h = subst (λ k. All (λ x. x ≢ 10) (take k xs)) same h

pub ended_line : (xs : List ℕ) → StopsAt xs 10 → ends_at_feed xs ≡ true → IsEnded xs
ended_line [] h e = absurd cc
ended_line (x ∷ xs) h e =
    let text = x ∷ xs in
    let n = length xs in
    let place : length text - 1 ≡ n = omega arith in
    let last : get_or text n 0 ≡ 10 = ap (λ k. get_or text k 0) (sym place) ∙ eqb-true (get_or text (length text - 1) 0) 10 e in
    let rest : drop n text ≡ 10 ∷ [] = drop_more text n 0 (omega arith) ∙ (λ i. last i ∷ drop_all (n + 1) text (omega arith) i) in
    (take n text, has_none (take n text) (before_last text n place h), sym (take-append-drop n text) ∙ ap (λ (t : List ℕ). take n text ++ t) rest)

pub unended_rest : (xs : List ℕ) → StopsAt xs 10 → ends_at_feed xs ≡ false → HasNoLineFeed xs
unended_rest xs h e (k, l, here) =
    elim (cases_lt k (length xs - 1)) [
      | inl before ↦ h k 10 (omega (arith, length-take (length xs - 1) xs)) (get_or-take (length xs - 1) xs k 10 before ∙ here)
      | inr following ↦
          let place : k ≡ length xs - 1 = omega arith in
          eqb-false (get_or xs (length xs - 1) 0) 10 e (ap (λ j. get_or xs j 0) (sym place) ∙ get_or_default xs k 0 10 l ∙ here)
    ]

first_line : (l rest : List ℕ) → IsEnded l → lines_of l ++ lines_of rest ≡ lines_of (l ++ rest)
first_line l rest (piece, none, is) =
    let alone : lines_of l ≡ strip_carriage_return piece ∷ [] = ap lines_of is ∙ end_at_feeds piece [] none ∙ ap (λ ls. strip_carriage_return piece ∷ ls) lines_nil in
    let both : lines_of (l ++ rest) ≡ strip_carriage_return piece ∷ lines_of rest =
    ap (λ (t : List ℕ). lines_of (t ++ rest)) is ∙ ap lines_of (append_assoc piece (10 ∷ []) rest) ∙ end_at_feeds piece rest none in
    ap (λ ls. ls ++ lines_of rest) alone ∙ sym both

lines_joined : (lines : List (List ℕ)) (rest : List ℕ) → All IsEnded lines → flat_map lines_of lines ++ lines_of rest ≡ lines_of (concat lines ++ rest)
lines_joined [] rest h = refl
lines_joined (l ∷ ls) rest h =
    append_assoc (lines_of l) (flat_map lines_of ls) (lines_of rest)
    ∙ ap (λ t. lines_of l ++ t) (lines_joined ls rest (All-tail IsEnded l ls h))
    ∙ first_line l (concat ls ++ rest) (All-head IsEnded l ls h)
    ∙ ap lines_of (sym (append_assoc l (concat ls) rest))

lines_whole : (lines : List (List ℕ)) (last : List ℕ) → All IsEnded lines → flat_map lines_of (lines ++ last ∷ []) ≡ lines_of (concat lines ++ last)
lines_whole lines last h =
    flat_map-append lines_of lines (last ∷ []) ∙ ap (λ t. flat_map lines_of lines ++ t) (append-nil (lines_of last)) ∙ lines_joined lines last h

lines_so_far : (lines : List (List ℕ)) → All IsEnded lines → flat_map lines_of lines ≡ lines_of (concat lines)
lines_so_far lines h =
    sym (append-nil (flat_map lines_of lines))
    ∙ ap (λ t. flat_map lines_of lines ++ t) (sym lines_nil)
    ∙ lines_joined lines [] h
    ∙ ap lines_of (append-nil (concat lines))

-- ---- The list was read before other files

module _ (path : List ℕ) (was : List FileRead) where
  -- Before the first turn of the loop nothing was read. After it, the list was the first file that was read.
  abbrev pub IsFirstIn : ℕ → List FileRead → Type 0
  IsFirstIn turns next = ((turns ≡ 0) × (next ≡ was)) ⊎ IsReadFirst path was next

  pub first_read : (turns : ℕ) (next later : List FileRead) (given : Result (List ℕ) ErrorKind) → IsFirstIn turns next → later ≡ (path, given) ∷ next → IsReadFirst path was later
  first_read turns next later given (inl none) e = (given, ([], e ∙ ap (λ (x : List FileRead). (path, given) ∷ x) none.1))
  first_read turns next later given (inr first) e =
      (first.0, ((path, given) ∷ first.1.0, e ∙ ap (λ (x : List FileRead). (path, given) ∷ x) first.1.1))

  pub first_on : (later now : List FileRead) → IsReadFirst path was later → IsGrown later now → IsReadFirst path was now
  first_on later now first grown = (first.0, grown_twice ((path, first.0) ∷ was) later now first.1 grown)

-- ---- The list so far

-- The answers for the lines that the loop processes are those for the lines of the text that was read.
pub reported_of_line : (routes_alone : Bool) (k : Format) (path : List ℕ) (next mid later : ListState) (now after : Option (List ℕ)) (line : List ℕ)
    (lines : List (List ℕ)) (s : ℕ) → mid ≡ read_more (path, Ok line) next → lines ≡ lines_of line
    → PrintsLines (IsAudited routes_alone k path) lines mid later now after s → PrintsLines (IsAudited routes_alone k path) (lines_of line) (read_more (path, Ok line) next) later now after s
reported_of_line routes_alone k path next mid later now after line lines s noted are reported =
    read_as (IsAudited routes_alone k path) (lines_of line) mid (read_more (path, Ok line) next) later now after s noted
    (lines_as (IsAudited routes_alone k path) lines (lines_of line) mid later now after s are reported)

module _ (routes_alone : Bool) (k : Format) (path : List ℕ) (was : ListState) (before : Option (List ℕ)) where
  -- These lines of the list were read and answered, and this text was printed for them, with n as the greatest
  -- status.
  pub record IsSoFar (next : ListState) (now : Option (List ℕ)) (n : ℕ) : Type 0 where
    pub lines : List (List ℕ)
    pub ended_lines : All IsEnded lines
    pub text : List ℕ
    pub reported : ArePrinted (IsReadLine routes_alone k path) lines was next text n
    pub written : Appends before now text

  pub nothing_taken : IsSoFar was before 0
  nothing_taken = record { lines = []; ended_lines = All-nil IsEnded; text = []; reported = (refl, refl, refl); written = Appends-nil before }

  module _ (next later : ListState) (now after : Option (List ℕ)) (n : ℕ) (so_far : IsSoFar next now n) where
    -- One more line was read, and its answer was printed.
    pub one_more : (line : List ℕ) (s : ℕ) → IsEnded line
        → PrintsLines (IsAudited routes_alone k path) (lines_of line) (read_more (path, Ok line) next) later now after s → IsSoFar later after (max n s)
    one_more line s is reported = record {
      lines = so_far.lines ++ line ∷ [];
      ended_lines = All-push IsEnded so_far.lines line so_far.ended_lines is;
      text = so_far.text ++ reported.0;
      reported = one_more_line (IsReadLine routes_alone k path) so_far.lines line was next later so_far.text reported.0 n s so_far.reported reported.1;
      written = Appends-trans before now after so_far.text reported.0 so_far.written reported.2;
    }

    -- The last part of the list, which has no line feed, was read, and its answer was printed.
    pub at_end : (last : List ℕ) (s : ℕ) → HasNoLineFeed last → PrintsLines (IsAudited routes_alone k path) (lines_of last) (read_more (path, Ok last) next) later now after s
        → PrintsListRead routes_alone k path was later before after (max n s)
    at_end last s none reported = (
      so_far.text ++ reported.0,
      inl (record {
        lines = so_far.lines;
        last = last;
        ended_lines = so_far.ended_lines;
        unended = none;
        reported = one_more_line (IsReadLine routes_alone k path) so_far.lines last was next later so_far.text reported.0 n s so_far.reported reported.1;
        all_lines = lines_whole so_far.lines last so_far.ended_lines;
      }),
      Appends-trans before now after so_far.text reported.0 so_far.written reported.2,
    )

    -- If the rest of the list can't be read, the line that says so ends the output.
    pub broken_off : (error : ErrorKind) (status : ℕ) → later ≡ read_more (path, Err error) next → status ≡ max n (read_failure_status error) → Appends now after (read_failure_line path error)
        → PrintsListRead routes_alone k path was later before after status
    broken_off error status noted is written = (
      so_far.text ++ read_failure_line path error,
      inr (record {
        lines = so_far.lines;
        ended_lines = so_far.ended_lines;
        between = next;
        before = so_far.text;
        greatest = n;
        reported = so_far.reported;
        all_lines = lines_so_far so_far.lines so_far.ended_lines;
        error = error;
        noted = noted;
        text_is = refl;
        status_is = is;
      }),
      Appends-trans before now after so_far.text (read_failure_line path error) so_far.written written,
    )

-- If the list can't be opened, the line that says so is the whole output.
pub unopened : (routes_alone : Bool) (k : Format) (path : List ℕ) (was now : ListState) (before after : Option (List ℕ)) (error : ErrorKind) (status : ℕ)
    → now ≡ read_more (path, Err error) was → PrintsReadFailure path error before after status
    → PrintsListRead routes_alone k path was now before after status
unopened routes_alone k path was now before after error status noted reported =
    broken_off routes_alone k path was before was now before after 0 (nothing_taken routes_alone k path was before) error status noted (reported.0 ∙ most) reported.1
  where
    most : read_failure_status error ≡ max 0 (read_failure_status error)
    most = omega arith
