-- Numbers in their columns, or after tabs.
use Rattle.std.specs.Prelude.{ℕ, ℤ, List, ◌++◌, Option, Some, None, codes, decimal}
use Rattle.std.specs.Fmt.{signed_decimal}
use Rattle.text_buffer.specs.Columns.{right, right_signed}
use Rattle.plan_timetable.specs.Words.{word}
use Rattle.plan_timetable.specs.declared.forms.Form.{Form}
use Rattle.plan_timetable.specs.declared.forms.Form.TheVariants.{Columns, Tabs}
use Rattle.plan_timetable.specs.declared.words.Word.{Word}
use Rattle.plan_timetable.specs.declared.words.Word.TheVariants.{Nothing}

-- a number at the right of a column of this width after one blank, or after a tab
abbrev pub number : Form → ℕ → ℕ → List ℕ
number Columns width n = codes " " ++ right width n
number Tabs width n = codes "\t" ++ decimal n

-- a load, in a column of width 8
abbrev pub load_cell : Form → ℤ → List ℕ
load_cell Columns load = codes " " ++ right_signed 8 load
load_cell Tabs load = codes "\t" ++ signed_decimal load

-- a number, or `-` if there is no number, in a column of width 8
abbrev pub optional_number : Form → Option ℕ → List ℕ
optional_number form None = word form Nothing
optional_number form (Some n) = number form 8 n

-- a word, and a number after it
abbrev pub field : Form → Word → ℕ → List ℕ
field form w n = word form w ++ decimal n
