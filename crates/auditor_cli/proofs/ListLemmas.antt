-- Lemmas about the output for a list, line by line.
use Rattle.std.proofs.Common.{◌≡◌, ◌∙◌, inl, inr, ℕ, Bool, List, [], ◌∷◌, ◌++◌, Option, Some, None, Ok, Err, refl, sym, ap, subst, arith, append_assoc, append-nil}
use Rattle.std.specs.Prelude.{max}
use Rattle.std.specs.Io.KnownBytes.{Appends, Keeps}
use Rattle.std.proofs.KnownBytes.{Appends-nil, Appends-trans}
use Rattle.instance_read.specs.declared.formats.Format.{Format}
use Rattle.auditor_cli.specs.BestKnown.{BestCost}
use Rattle.auditor_cli.specs.IgnoredLines.{PrintsNoteOnSolution, listed_note}
use Rattle.auditor_cli.specs.Compare.{IsListedAnswer}
use Rattle.auditor_cli.specs.Files.{AreReadInTurn, IsPrintedForFilesBy, IsUnread}
use Rattle.auditor_cli.specs.Audits.{ArePrinted, IsAudited, IsListedPair, ListState, PrintsLine, PrintsLines, next_number, pair_text}
use Rattle.auditor_cli.specs.Reads.{FileEntry, FileRead, IsGrown}

pub flushed : (a b c : Option (List ℕ)) (text : List ℕ) → Appends a b text → Keeps b c → Appends a c text
flushed None b c text written kept = tt
flushed (Some x) None c text written kept = absurd written
flushed (Some x) (Some y) None text written kept = absurd kept
flushed (Some x) (Some y) (Some z) text written kept = kept ∙ written

-- Two paths, each followed by a tab.
abbrev pub paths_text : List ℕ → List ℕ → List ℕ
paths_text i s = i ++ 9 ∷ (s ++ 9 ∷ [])

pub tabs : (i s a : List ℕ) → paths_text i s ++ a ≡ pair_text i s a
tabs i s a = append_assoc i (9 ∷ (s ++ 9 ∷ [])) a ∙ ap (λ (x : List ℕ). i ++ 9 ∷ x) (append_assoc s (9 ∷ []) a)

-- printing the two paths and then an answer prints the line of the pair
pub reported_of_pair : (i s a : List ℕ) (before mid after : Option (List ℕ)) → Appends before mid (paths_text i s) → Appends mid after a → Appends before after (pair_text i s a)
reported_of_pair i s a before mid after paths reported = subst (Appends before after) (tabs i s a) (Appends-trans before mid after (paths_text i s) a paths reported)

pub grown_twice : (was next now : List FileEntry) → IsGrown was next → IsGrown next now → IsGrown was now
grown_twice was next now a b = (b.0 ++ a.0, b.1 ∙ ap (λ (x : List FileEntry). b.0 ++ x) a.1 ∙ sym (append_assoc b.0 a.0 was))

pub read_in_turn : (instance solution : List ℕ) (was now : List FileRead) → AreReadInTurn instance solution was now → IsGrown was now
read_in_turn instance solution was now (inl both) = ((solution, Ok both.1) ∷ (instance, Ok both.0) ∷ [], both.2)
read_in_turn instance solution was now (inr unread) = first_unread unread.2
  where
    first_unread : IsUnread instance solution unread.0 unread.1 was now → IsGrown was now
    first_unread (inl one) = ((instance, Err unread.1) ∷ [], one.1)
    first_unread (inr two) = ((solution, Err unread.1) ∷ (instance, Ok two.1.0) ∷ [], two.1.1)

-- If a line of the list names these files, the answer for them is the answer for the line.
pub reported_of_listed : (routes_alone : Bool) (k other : Format) → other ≡ k → (path l instance solution : List ℕ) (best : Option BestCost)
    → IsListedPair k l instance solution best → (was now : ListState) (answer : List ℕ) (status : ℕ)
    → now.lines ≡ next_number was.lines
    → IsPrintedForFilesBy (IsListedAnswer routes_alone other best) instance solution was.files now.files answer status
    → PrintsNoteOnSolution (listed_note path now.lines solution) instance solution was.files now.files was.errors now.errors
    → IsAudited routes_alone k path l was now (pair_text instance solution answer) status
reported_of_listed routes_alone k other same path l instance solution best names was now answer status counted reported noted =
    of_kind best names (subst (λ o. IsPrintedForFilesBy (IsListedAnswer routes_alone o best) instance solution was.files now.files answer status) same reported)
  where
    of_kind : (b : Option BestCost) → IsListedPair k l instance solution b → IsPrintedForFilesBy (IsListedAnswer routes_alone k b) instance solution was.files now.files answer status
        → IsAudited routes_alone k path l was now (pair_text instance solution answer) status
    of_kind None pair files = inl (record { instance = instance; solution = solution; pair = pair; answer = answer; reported = files; noted = noted; counted = counted; text_is = refl })
    of_kind (Some b) pair files =
        inr (pair.0, inl (record { instance = instance; solution = solution; best = b; columns = pair.1; answer = answer; reported = files; noted = noted; counted = counted; text_is = refl }))

module _ {S : Type 0} (IsPrintedFor : List ℕ → S → S → List ℕ → ℕ → Type 0) where
  module _ (all : List (List ℕ)) (was : S) (before : Option (List ℕ)) where
    -- This text was printed so far. The texts of the remaining lines complete it to the text of all lines.
    pub record IsSoFar (next : S) (now : Option (List ℕ)) (left : List (List ℕ)) (n : ℕ) : Type 0 where
      pub text : List ℕ
      pub written : Appends before now text
      pub whole : (last : S) (rest : List ℕ) (m : ℕ) → ArePrinted IsPrintedFor left next last rest m → ArePrinted IsPrintedFor all was last (text ++ rest) (max n m)

    reported_as : (ls : List (List ℕ)) (next last : S) (text other : List ℕ) (n m : ℕ) → text ≡ other → n ≡ m → ArePrinted IsPrintedFor ls next last text n → ArePrinted IsPrintedFor ls next last other m
    reported_as ls next last text other n m same_text same_status reported =
        subst (λ t. ArePrinted IsPrintedFor ls next last t m) same_text (subst (λ s. ArePrinted IsPrintedFor ls next last text s) same_status reported)

    pub nothing_reported : IsSoFar was before all 0
    nothing_reported = record { text = []; written = Appends-nil before; whole = λ last rest m reported. reported_as all was last rest rest m (max 0 m) refl (omega arith) reported }

    pub line_reported : (next later : S) (now after : Option (List ℕ)) (l : List ℕ) (ls : List (List ℕ)) (n s : ℕ) → IsSoFar next now (l ∷ ls) n → PrintsLine IsPrintedFor l next later now after s
        → IsSoFar later after ls (max n s)
    line_reported next later now after l ls n s h line = record {
      text = h.text ++ line.0;
      written = Appends-trans before now after h.text line.0 h.written line.2;
      whole = λ last rest m reported.
          reported_as all was last (h.text ++ (line.0 ++ rest)) ((h.text ++ line.0) ++ rest) (max n (max s m)) (max (max n s) m) (sym (append_assoc h.text line.0 rest)) (omega arith)
          (h.whole last (line.0 ++ rest) (max s m) (later, line.0, s, rest, m, line.1, reported, refl, refl));
    }

    pub all_reported : (next : S) (now : Option (List ℕ)) (n : ℕ) → IsSoFar next now [] n → PrintsLines IsPrintedFor all was next before now n
    all_reported next now n h = (h.text, reported_as all was next (h.text ++ []) h.text (max n 0) n (append-nil h.text) (omega arith) (h.whole next [] 0 (refl, refl, refl)), h.written)

    pub left_as : (next : S) (now : Option (List ℕ)) (left other : List (List ℕ)) (n : ℕ) → left ≡ other → IsSoFar next now left n → IsSoFar next now other n
    left_as next now left other n same h = subst (λ ls. IsSoFar next now ls n) same h

    pub status_as : (next : S) (now : Option (List ℕ)) (left : List (List ℕ)) (n m : ℕ) → n ≡ m → IsSoFar next now left n → IsSoFar next now left m
    status_as next now left n m same h = subst (λ k'. IsSoFar next now left k') same h

  pub lines_as : (ls other : List (List ℕ)) (was now : S) (before after : Option (List ℕ)) (n : ℕ) → ls ≡ other → PrintsLines IsPrintedFor ls was now before after n
      → PrintsLines IsPrintedFor other was now before after n
  lines_as ls other was now before after n same h = subst (λ x. PrintsLines IsPrintedFor x was now before after n) same h

  pub read_as : (ls : List (List ℕ)) (was other now : S) (before after : Option (List ℕ)) (n : ℕ) → was ≡ other → PrintsLines IsPrintedFor ls was now before after n
      → PrintsLines IsPrintedFor ls other now before after n
  read_as ls was other now before after n same h = subst (λ x. PrintsLines IsPrintedFor ls x now before after n) same h
