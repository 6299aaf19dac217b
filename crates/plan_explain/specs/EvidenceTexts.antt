-- The details of an instance's fault, printed after its kind.
use Rattle.std.specs.Prelude.{ℕ, Bool, List, [], ◌∷◌, ◌++◌, Option, Some, None, ℤ, decimal, if◌then◌else◌, codes}
use Rattle.std.specs.Fmt.{signed_decimal}
use Rattle.std.specs.List.{flat_map}
use Rattle.instance_read.specs.declared.evidence.Evidence.{Evidence}
use Rattle.instance_read.specs.declared.evidence.Evidence.TheVariants as found
use Rattle.instance_read.specs.declared.evidence.Field.{Field}
use Rattle.instance_read.specs.declared.evidence.Field.TheVariants as fields
use Rattle.instance_read.specs.declared.faults.ReadFaultKind.{ReadFaultKind}
use Rattle.instance_read.specs.declared.faults.ReadFaultKind.TheVariants.{BadNumber, Range, TooManyStops}
use Rattle.instance_read.specs.declared.vrp_lines.Key.{Key}
use Rattle.plan_explain.specs.Quotes.{is_fraction, shown_bytes}
use Rattle.plan_explain.specs.Templates.{field_name, form, key_name, line_name, required_value, text_if}

-- the number that is too large, with its field; the description of the kind already names the limit
abbrev pub too_many_text : List ℕ → Field → List ℕ
too_many_text word fields.Number = form (codes ": task @") (shown_bytes word ∷ [])
too_many_text word fields.Customer = form (codes ": customer @") (shown_bytes word ∷ [])
too_many_text word field = form (codes ": @ is @") (field_name field ∷ shown_bytes word ∷ [])

-- why a word is wrong: it has a fraction, or it is outside these limits; nothing for other kinds of faults
abbrev pub reason_text : ReadFaultKind → List ℕ → Option (ℤ × ℤ) → List ℕ
reason_text BadNumber word limits = text_if (codes ", which has a fraction") (is_fraction word)
reason_text Range word (Some limits) = form (codes ", its limits are @..@") (signed_decimal limits.0 ∷ signed_decimal limits.1 ∷ [])
reason_text _ word limits = []

-- the first wrong word, with its field and why it is wrong
abbrev pub word_text : ReadFaultKind → Field → List ℕ → Option (ℤ × ℤ) → List ℕ
word_text TooManyStops field word limits = too_many_text word field
word_text kind field word limits = form (codes ": @ is @") (field_name field ∷ shown_bytes word ∷ []) ++ reason_text kind word limits

-- the template for a pair whose demands do not match: the pickup's demand is negative, or else the sum of both
-- is not 0
abbrev pub demand_fault_text : Bool → List ℕ
demand_fault_text is_negative =
    if is_negative then codes ": its @, task @ on line @, has demand @, this one @: that of a pickup is not negative"
    else codes ": its @, task @ on line @, has demand @, this one @: their sum is not 0"

-- the name of a missing key after a space, or nothing
abbrev pub missing_key_text : Option Key → List ℕ
missing_key_text None = []
missing_key_text (Some key) = form (codes " @") (key_name key ∷ [])

-- the names of the missing keys
abbrev pub missing_text : List (Option Key) → List ℕ
missing_text keys = codes ":" ++ flat_map missing_key_text keys

-- the details of a fault of a key or a section; nothing for evidence without details
abbrev pub key_text : Evidence → List ℕ
key_text (found.NodeCount due n section left) = form (codes ": @ due, @ found, @ lacks @ of its lines") (decimal due ∷ decimal n ∷ key_name section ∷ decimal left ∷ [])
key_text found.WordsAfterEnd = codes ": words stand behind -1, which ends the list of depots"
key_text (found.Stray None) = codes ": these numbers stand in no section"
key_text (found.Stray (Some nodes)) = form (codes ": these numbers stand in no section, each of which has as many lines as DIMENSION says, @") (decimal nodes ∷ [])
key_text (found.Key key) = form (codes ": @") (shown_bytes key ∷ [])
key_text (found.Value key value) = form (codes ": @ is @, supported is @") (key_name key ∷ shown_bytes value ∷ required_value key ∷ [])
key_text (found.UnfinishedSection section left) = form (codes ": @ lacks @ of its lines") (key_name section ∷ decimal left ∷ [])
key_text found.UnfinishedDepots = codes ": DEPOT_SECTION lacks its end, -1"
key_text found.NoDimension = codes ": DIMENSION has to stand before this section"
key_text (found.MissingKeys keys) = missing_text keys
key_text _ = []

-- why a task is not half of a pair
abbrev pub pair_text : Evidence → List ℕ
pair_text found.NamesNone = codes ": it names neither a pickup nor a delivery"
pair_text found.NamesBoth = codes ": it names both a pickup and a delivery"
pair_text (found.NoSuchTask field n) = form (codes ": its @, task @, is not there") (field_name field ∷ decimal n ∷ [])
pair_text (found.NamesOther field n line named back) =
    form (codes ": its @, task @ on line @, has @ as its @") (field_name field ∷ decimal n ∷ decimal line ∷ decimal named ∷ field_name back ∷ [])
pair_text (found.Demands field n line demand own is_negative) =
    form (demand_fault_text is_negative) (field_name field ∷ decimal n ∷ decimal line ∷ shown_bytes demand ∷ shown_bytes own ∷ [])
pair_text evidence = key_text evidence

-- the details of a fault in a file in Solomon's format
abbrev pub customer_text : Evidence → List ℕ
customer_text (found.FirstCustomer n) = form (codes ": the first is customer @") (shown_bytes n ∷ [])
customer_text (found.CustomerOutOfOrder n before) = form (codes ": customer @ follows customer @") (shown_bytes n ∷ shown_bytes before ∷ [])
customer_text (found.WrongWord line word) = form (codes ": it is @, the word must be @") (shown_bytes word ∷ line_name line ∷ [])
customer_text (found.MissingLine line) = form (codes ": the line with @ is missing") (line_name line ∷ [])
customer_text evidence = pair_text evidence

-- the details of a fault of this kind in an instance
abbrev pub evidence_text : ReadFaultKind → Evidence → List ℕ
evidence_text kind (found.Count due n) = form (codes ": @ due, @ found") (decimal due ∷ decimal n ∷ [])
evidence_text kind (found.Word field word limits) = word_text kind field word limits
evidence_text kind (found.FirstTask n) = form (codes ": the first is task @") (shown_bytes n ∷ [])
evidence_text kind (found.TaskOutOfOrder n before) = form (codes ": task @ stands behind task @") (shown_bytes n ∷ shown_bytes before ∷ [])
evidence_text kind (found.Window earliest latest) = form (codes ": it begins at @ and ends at @") (shown_bytes earliest ∷ shown_bytes latest ∷ [])
evidence_text kind found.NoHeader = codes ": the first line, of fleet, capacity and speed, is missing"
evidence_text kind found.NoDepot = codes ": task 0, the depot, is missing"
evidence_text kind evidence = customer_text evidence
