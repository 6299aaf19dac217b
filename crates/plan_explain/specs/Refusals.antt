-- The text for a refused file: the sentence on its fault, the line that the fault names, and notes on the whole
-- file.
use Rattle.std.specs.Prelude.{ℕ, ◌==◌, ◌&&◌, ◌||◌, not, Bool, false, List, [], ◌∷◌, ◌++◌, length, codes, Option, Some, None, decimal, if◌then◌else◌}
use Rattle.std.specs.List.{list_any}
use Rattle.text_lines.specs.Lines.{lines_of}
use Rattle.text_lines.specs.Words.{words_of}
use Rattle.plan_audit.specs.Rules.{item_at}
use Rattle.instance_read.specs.Evidence.{evidence_of}
use Rattle.instance_read.specs.Fields.{has_no_number}
use Rattle.instance_read.specs.declared.faults.ReadFault.{ReadFault}
use Rattle.instance_read.specs.declared.faults.ReadFaultKind.{ReadFaultKind}
use Rattle.instance_read.specs.declared.faults.ReadFaultKind.TheVariants as faults
use Rattle.instance_read.specs.declared.formats.Format.{Format}
use Rattle.instance_read.specs.declared.formats.Layout.{Layout}
use Rattle.instance_read.specs.declared.formats.Layout.TheVariants.{LiLim, Solomon, Vrp}
use Rattle.sol_text.specs.declared.faults.SolFault.{SolFault}
use Rattle.sol_text.specs.declared.faults.SolFaultKind.{SolFaultKind}
use Rattle.sol_text.specs.declared.faults.SolFaultKind.TheVariants as sol_faults
use Rattle.plan_explain.specs.Quotes.{is_key, shown_bytes}
use Rattle.plan_explain.specs.EvidenceTexts.{evidence_text}
use Rattle.plan_explain.specs.Templates.{form, text_if}
use Rattle.plan_explain.specs.SolFaults.{sol_detail}

-- the words for a task or customer whose number is too large, or for a DIMENSION that announces too many nodes
unfoldable pub too_many : Layout → List ℕ
too_many LiLim = codes "a task has a number above 40000"
too_many Solomon = codes "a customer has a number above 40000"
too_many Vrp = codes "there are more nodes than 40001"

-- the words for numbers of tasks or customers that are out of order
unfoldable pub out_of_order : Layout → List ℕ
out_of_order LiLim = codes "task numbers do not rise from 0"
out_of_order Solomon = codes "customer numbers do not rise from 0"
out_of_order Vrp = codes "task numbers do not rise from 0"

-- the words for a missing key or section, or in Solomon's format for a line that begins with the wrong word
unfoldable pub missing_line : Layout → List ℕ
missing_line LiLim = codes "a key or a section is missing"
missing_line Solomon = codes "the line begins with the wrong word"
missing_line Vrp = codes "a key or a section is missing"

-- the description of this kind of fault, for an instance with this layout
unfoldable pub instance_reason : Layout → ReadFaultKind → List ℕ
instance_reason layout faults.BadNumber = codes "a word is not a whole number"
instance_reason layout faults.Range = codes "a number is outside its limits"
instance_reason layout faults.FieldCount = codes "the number of words is wrong"
instance_reason layout faults.TaskOrder = out_of_order layout
instance_reason layout faults.PairMismatch = codes "a task is no half of a pair"
instance_reason layout faults.EmptyWindow = codes "a window ends before it begins"
instance_reason layout faults.TooManyStops = too_many layout
instance_reason layout faults.MissingKey = missing_line layout
instance_reason layout faults.Unsupported = codes "the key or its value is not supported"
instance_reason layout faults.DepotNotFirst = codes "the list of depots is not 1 and then -1"
instance_reason layout faults.NodeRepeated = codes "a node, a key or a section stands twice"
instance_reason layout faults.Truncated = codes "the text ends early"
instance_reason layout faults.OutOfMemory = codes "out of memory"

-- the sentence on a fault of an instance: its line, its description, and its details
abbrev pub instance_sentence : Format → List ℕ → ReadFault → List ℕ
instance_sentence format text fault =
    form (codes "line @: ") (decimal fault.line ∷ []) ++ instance_reason format.layout fault.kind ++ evidence_text fault.kind (evidence_of format text fault)

-- the description of this kind of fault of a solution
unfoldable pub solution_reason : SolFaultKind → List ℕ
solution_reason sol_faults.BadLine = codes "this is no route line, and no cost line with one word"
solution_reason sol_faults.BadNumber = codes "a word is not the number that has to stand there"
solution_reason sol_faults.NoCost = codes "there is no cost line"
solution_reason sol_faults.OutOfMemory = codes "out of memory"

-- the sentence on a fault of a solution: its line, its description, and its details
abbrev pub solution_sentence : List ℕ → SolFault → List ℕ
solution_sentence text fault =
    form (codes "line @: ") (decimal fault.line ∷ []) ++ solution_reason fault.kind ++ sol_detail text fault.line fault.kind

-- the line as it is quoted, or nothing if the file has no such line
abbrev pub quoted_line : Option (List ℕ) → List ℕ
quoted_line None = []
quoted_line (Some bytes) = form (codes "@\n") (shown_bytes bytes ∷ [])

-- the end of the sentence's line, and below it the line with this number as it is quoted; lines count from 1
abbrev pub under_sentence : List ℕ → ℕ → List ℕ
under_sentence text number = codes "\n" ++ quoted_line (item_at (lines_of text) number)

-- the file begins with a byte order mark: U+FEFF in UTF-8, the bytes EF BB BF
abbrev pub has_bom : List ℕ → Bool
has_bom (a ∷ b ∷ c ∷ rest) = a == 239 && b == 187 && c == 191
has_bom _ = false

-- a note if the file begins with a byte order mark
abbrev pub bom_note : List ℕ → List ℕ
bom_note text = text_if (codes "the text begins with a byte order mark (EF BB BF): save it without, or by tail -c +4\n") (has_bom text)

-- the file begins with U+FEFF in UTF-16, of either byte order
abbrev pub is_utf16 : List ℕ → Bool
is_utf16 (a ∷ b ∷ rest) = (a == 255 && b == 254) || (a == 254 && b == 255)
is_utf16 _ = false

-- a note if the file is UTF-16
abbrev pub utf16_note : List ℕ → List ℕ
utf16_note text = text_if (codes "the text is UTF-16: save it as UTF-8, or by iconv -f UTF-16 -t UTF-8\n") (is_utf16 text)

abbrev pub has_byte : ℕ → List ℕ → Bool
has_byte byte text = list_any (λ b. b == byte) text

-- the file has carriage returns (13) but no line feed (10), so all of it is one line
abbrev pub has_only_returns : List ℕ → Bool
has_only_returns text = has_byte 13 text && not (has_byte 10 text)

-- a note if the lines of the file end with carriage returns only
abbrev pub line_end_note : List ℕ → List ℕ
line_end_note text = text_if (codes "the lines end with CR only: save them with LF, or by tr '\\r' '\\n'\n") (has_only_returns text)

-- notes on a file that is no plain text with line feeds
abbrev pub encoding_notes : List ℕ → List ℕ
encoding_notes text = bom_note text ++ utf16_note text ++ line_end_note text

-- the line has the key DIMENSION or NODE_COORD_SECTION: it looks like a line of a `.vrp` file
abbrev pub is_vrp_line : List ℕ → Bool
is_vrp_line line = is_key (codes "DIMENSION") line || is_key (codes "NODE_COORD_SECTION") line

-- the line has the key VEHICLE or CUSTOMER: it looks like a line of Solomon's format
abbrev pub is_solomon_line : List ℕ → Bool
is_solomon_line line = is_key (codes "VEHICLE") line || is_key (codes "CUSTOMER") line

-- the line has nine words, and each is a number: it looks like a task of a Li-Lim instance
abbrev pub has_nine_numbers : List ℕ → Bool
has_nine_numbers line = length (words_of line) == 9 && not (has_no_number (words_of line))

-- a note if an instance that was read in Solomon's format looks like a `.vrp` file or a Li-Lim instance
abbrev pub solomon_note : List ℕ → List ℕ
solomon_note text =
    if list_any is_vrp_line (lines_of text) then codes "the text looks like a .vrp instance, and is read as solomon\n"
    else text_if (codes "the text looks like a Li-Lim instance, and is read as solomon\n") (list_any has_nine_numbers (lines_of text))

-- a note if an instance that is read as Li and Lim's looks as if it had another format
abbrev pub lilim_note : List ℕ → List ℕ
lilim_note text =
    if list_any is_vrp_line (lines_of text) then codes "the text looks like a .vrp instance, and is read as lilim\n"
    else text_if (codes "the text looks like a Solomon instance, and is read as lilim\n") (list_any is_solomon_line (lines_of text))

-- a note if an instance that is read as a `.vrp` file looks as if it had another format
abbrev pub vrp_note : List ℕ → List ℕ
vrp_note text =
    if list_any has_nine_numbers (lines_of text) then codes "the text looks like a Li-Lim instance, and is read as vrp\n"
    else text_if (codes "the text looks like a Solomon instance, and is read as vrp\n") (list_any is_solomon_line (lines_of text))

-- a note if an instance that was read with this layout seems to have another one
abbrev pub layout_note : Layout → List ℕ → List ℕ
layout_note LiLim text = lilim_note text
layout_note Solomon text = solomon_note text
layout_note Vrp text = vrp_note text

-- the whole text for an instance that was read in this format and has this fault
abbrev pub instance_fault_text : Format → List ℕ → ReadFault → List ℕ
instance_fault_text format text fault =
    instance_sentence format text fault ++ under_sentence text fault.line ++ encoding_notes text ++ layout_note format.layout text

-- the whole text for a solution with this fault
abbrev pub solution_fault_text : List ℕ → SolFault → List ℕ
solution_fault_text text fault = solution_sentence text fault ++ under_sentence text fault.line ++ encoding_notes text
