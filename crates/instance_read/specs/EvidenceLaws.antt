-- The evidence for a bad number: the first bad number in the line that the fault names.
use Rattle.std.specs.Prelude.{◌≡◌, ℕ, ◌+◌, Bool, false, true, ◌||◌, length, List, [], ◌∷◌, ◌++◌, ℤ, slice_get, slice_index_or}
use Rattle.text_lines.specs.Words.{words_of}
use Rattle.instance_read.specs.Faults.{IsFirstFault}
use Rattle.instance_read.specs.Fields.{any_beyond, has_no_number}
use Rattle.instance_read.specs.Lilim.{LilimFault, header_limits, task_limits}
use Rattle.instance_read.specs.LilimEvidence.{header_fields, lilim_evidence, task_fields}
use Rattle.instance_read.specs.Rows.{Row, rows_of}
use Rattle.instance_read.specs.Solomon.{SolomonFault, customer_limits}
use Rattle.instance_read.specs.SolomonEvidence.{customer_fields, fleet_fields, line_after, solomon_evidence}
use Rattle.instance_read.specs.WordEvidence.{is_faulty, numbers_evidence}
use Rattle.instance_read.specs.declared.evidence.Evidence.{Evidence}
use Rattle.instance_read.specs.declared.evidence.Evidence.TheVariants.{Word}
use Rattle.instance_read.specs.declared.evidence.Field.{Field}
use Rattle.instance_read.specs.declared.evidence.Field.TheVariants.{ExtraWord}
use Rattle.instance_read.specs.declared.evidence.SolomonLine.{SolomonLine}
use Rattle.instance_read.specs.declared.evidence.SolomonLine.TheVariants.{Fleet, Name}
use Rattle.instance_read.specs.declared.faults.ReadFault.{ReadFault}
use Rattle.instance_read.specs.declared.faults.ReadFaultKind.{ReadFaultKind}
use Rattle.instance_read.specs.declared.faults.ReadFaultKind.TheVariants.{BadNumber, Range}
use Rattle.instance_read.specs.declared.scales.Scale.{Scale}

-- the fault is a bad number: a word that is not a number, or a number beyond its limits
abbrev pub IsWordFault : ReadFaultKind → Type 0
IsWordFault BadNumber = Unit {0}
IsWordFault Range = Unit {0}
IsWordFault _ = ⊥

-- some of these words is at fault; the first word of the list is at place k of the line
abbrev pub any_faulty : ReadFaultKind → List (ℤ × ℤ) → ℕ → List (List ℕ) → Bool
any_faulty kind limits k [] = false
any_faulty kind limits k (word ∷ words) = is_faulty kind (slice_get limits k) word || any_faulty kind limits (k + 1) words

-- the evidence is the first of these words that is at fault, with its field and the limits of the field
pub record IsFirstWord (kind : ReadFaultKind) (fields : List Field) (limits : List (ℤ × ℤ)) (k : ℕ) (words : List (List ℕ)) (evidence : Evidence) : Type 0 where
  pub front : List (List ℕ)
  pub word : List ℕ
  pub back : List (List ℕ)
  pub splits : words ≡ front ++ word ∷ back
  pub is : evidence ≡ Word (slice_index_or fields (k + length front) ExtraWord) word (slice_get limits (k + length front))
  pub at_fault : is_faulty kind (slice_get limits (k + length front)) word ≡ true
  pub first : any_faulty kind limits k front ≡ false

-- law for any format: the evidence for a line with a word that is not a number, or with a number beyond its
-- limits, is the first such word
abbrev pub NumbersShowTheWord : Type 0
NumbersShowTheWord = (fields : List Field) (limits : List (ℤ × ℤ)) (words : List (List ℕ))
    → (has_no_number words ≡ true → IsFirstWord BadNumber fields limits 0 words (numbers_evidence BadNumber fields limits words))
    × (any_beyond limits words ≡ true → IsFirstWord Range fields limits 0 words (numbers_evidence Range fields limits words))

-- the fields of the line after these lines: the first line is the header, each other one a task
abbrev pub fields_after : List Row → List Field
fields_after [] = header_fields
fields_after (header ∷ before) = task_fields

abbrev pub limits_after : Scale → List Row → List (ℤ × ℤ)
limits_after scale [] = header_limits
limits_after scale (header ∷ before) = task_limits scale

-- the evidence is the first word at fault in the line that the fault names
abbrev pub ShowsWord : Scale → List ℕ → ReadFault → Type 0
ShowsWord scale text fault =
    (before : List Row) × (row : Row) × (after : List Row) × (rows_of text ≡ before ++ row ∷ after) × (row.line ≡ fault.line)
    × IsFirstWord fault.kind (fields_after before) (limits_after scale before) 0 (words_of row.text) (lilim_evidence scale text fault)

-- law: if the first fault of a Li-Lim text is a bad number, its evidence is the first bad number in the line
abbrev pub EvidenceShowsTheWord : Type 0
EvidenceShowsTheWord =
    (scale : Scale) (text : List ℕ) (fault : ReadFault) → IsFirstFault (LilimFault scale text) fault → IsWordFault fault.kind → ShowsWord scale text fault

-- the line that is due after these lines, the first of which is `due`
abbrev pub due_after : SolomonLine → List Row → SolomonLine
due_after due [] = due
due_after due (row ∷ before) = due_after (line_after due) before

-- the fields of a line with numbers in Solomon's format
abbrev pub fields_due : SolomonLine → List Field
fields_due Fleet = fleet_fields
fields_due _ = customer_fields

abbrev pub limits_due : Scale → SolomonLine → List (ℤ × ℤ)
limits_due scale Fleet = header_limits
limits_due scale _ = customer_limits scale

-- the evidence is the first word at fault in the line that the fault names, of a text in Solomon's format
abbrev pub ShowsDueWord : Scale → List ℕ → ReadFault → Type 0
ShowsDueWord scale text fault =
    (before : List Row) × (row : Row) × (after : List Row) × (rows_of text ≡ before ++ row ∷ after) × (row.line ≡ fault.line)
    × IsFirstWord fault.kind (fields_due (due_after Name before)) (limits_due scale (due_after Name before)) 0 (words_of row.text) (solomon_evidence scale text fault)

-- law: the same for a text in Solomon's format
abbrev pub SolomonEvidenceShowsTheWord : Type 0
SolomonEvidenceShowsTheWord =
    (scale : Scale) (text : List ℕ) (fault : ReadFault) → IsFirstFault (SolomonFault scale text) fault → IsWordFault fault.kind → ShowsDueWord scale text fault
