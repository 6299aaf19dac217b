-- The text of an instance spells at most one problem, and none if it has a fault. It has at most one first
-- fault.
use Rattle.std.proofs.Common.{◌≡◌, ◌∙◌, inl, inr, ℕ, List, Result, Ok, Err, sym, ap, refl, arith, IfOk, IfErr, ◌==◌, if◌then◌else◌}
use Rattle.plan_types.specs.Instance.{Instance}
use Rattle.instance_read.specs.Faults.{Class, IsFirstFault, IsNoLater, IsNoLaterPlace, ReportsFirstFault, rank}
use Rattle.instance_read.specs.Faults.Class.{OfLine, OfText}
use Rattle.instance_read.specs.declared.faults.ReadFault.{ReadFault}
use Rattle.instance_read.specs.declared.faults.ReadFaultKind.{ReadFaultKind}
use Rattle.instance_read.specs.declared.faults.ReadFaultKind.TheVariants.{
  BadNumber,
  Range,
  FieldCount,
  TaskOrder,
  PairMismatch,
  EmptyWindow,
  TooManyStops,
  MissingKey,
  Unsupported,
  DepotNotFirst,
  NodeRepeated,
  Truncated,
  OutOfMemory,
}
use Rattle.instance_read.specs.Readings.{InstanceFault, IsReadResult, IsUnlessOutOfMemory, SpellsInstance}
use Rattle.instance_read.proofs.SpelledLemmas.{no_fault, problem_once}
use Rattle.instance_read.specs.declared.formats.Format.{Format}

-- the kind of fault with this rank
kind_at : ℕ → ReadFaultKind
kind_at n =
    if n == 1 then FieldCount else
    if n == 2 then BadNumber else
    if n == 3 then TooManyStops else
    if n == 4 then Range else
    if n == 5 then TaskOrder else
    if n == 6 then EmptyWindow else
    if n == 7 then Unsupported else
    if n == 8 then MissingKey else
    if n == 9 then NodeRepeated else
    if n == 10 then DepotNotFirst else
    if n == 11 then PairMismatch else
    if n == 12 then Truncated else
    OutOfMemory

kind_at-rank : (kind : ReadFaultKind) → kind_at (rank kind) ≡ kind
unfolding kind_at
kind_at-rank FieldCount = refl
kind_at-rank BadNumber = refl
kind_at-rank TooManyStops = refl
kind_at-rank Range = refl
kind_at-rank TaskOrder = refl
kind_at-rank EmptyWindow = refl
kind_at-rank Unsupported = refl
kind_at-rank MissingKey = refl
kind_at-rank NodeRepeated = refl
kind_at-rank DepotNotFirst = refl
kind_at-rank PairMismatch = refl
kind_at-rank Truncated = refl
kind_at-rank OutOfMemory = refl

same_rank : (a b : ReadFaultKind) → rank a ≡ rank b → a ≡ b
same_rank a b is = sym (kind_at-rank a) ∙ ap kind_at is ∙ kind_at-rank b

same_fault : (f g : ReadFault) → f.line ≡ g.line → f.kind ≡ g.kind → f ≡ g
same_fault f g line kind = ap (λ l. record { line = l; kind = f.kind }) line ∙ ap (λ k. record { line = g.line; kind = k }) kind

same_place : (f g : ReadFault) → IsNoLaterPlace f.line f.kind g.line g.kind → IsNoLaterPlace g.line g.kind f.line f.kind → f ≡ g
same_place f g (inl a) (inl b) = absurd (omega (arith, a, b))
same_place f g (inl a) (inr b) = absurd (omega (arith, a, b.0))
same_place f g (inr a) (inl b) = absurd (omega (arith, a.0, b))
same_place f g (inr a) (inr b) = same_fault f g a.0 (same_rank f.kind g.kind (omega (arith, a.1, b.1)))

both_first : (c d : Class) (f g : ReadFault) → IsNoLater c f.line f.kind d g.line g.kind → IsNoLater d g.line g.kind c f.line f.kind → f ≡ g
both_first OfLine OfLine f g a b = same_place f g a b
both_first OfLine OfText f g a b = absurd b
both_first OfText OfLine f g a b = absurd a
both_first OfText OfText f g a b = same_place f g a b

fault_once : (Fault : Class → ℕ → ReadFaultKind → Type 0) (f g : ReadFault) → IsFirstFault Fault f → IsFirstFault Fault g → f ≡ g
fault_once Fault f g a b = both_first a.0 b.0 f g (a.2 b.0 g.line g.kind b.1) (b.2 a.0 f.line f.kind a.1)

-- a reader that meets its contract returns what the text contains, unless memory ran out
pub read_once : (format : Format) (text : List ℕ) (result found : Result Instance ReadFault) → IfOk result (SpellsInstance format text)
    → IfErr result (ReportsFirstFault (InstanceFault format text)) → IsReadResult format text found
    → IsUnlessOutOfMemory result found
read_once format text (Ok p) (Ok q) spells reports is = inl (ap Ok (problem_once format text p q spells is))
read_once format text (Ok p) (Err g) spells reports is = absurd (no_fault format text p spells is.0 g.line g.kind is.1)
read_once format text (Err f) found spells (inl none) is = inr (ap Err none)
read_once format text (Err f) (Ok q) spells (inr first) is = absurd (no_fault format text q is first.0 f.line f.kind first.1)
read_once format text (Err f) (Err g) spells (inr first) is = inl (ap Err (fault_once (InstanceFault format text) f g first is))
