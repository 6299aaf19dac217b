-- The numbers of a line, which are taken one by one.
use Rattle.std.specs.Prelude.{◌≡◌, ◌⊎◌, ℕ, ◌<◌, ◌≤◌, List, take, length, Some, None}
use Rattle.command_text.specs.Parsing.{fields_of}
use Rattle.command_text.specs.declared.fields.TheConstants.{MAX_NUMBERS}
use Rattle.command_text.specs.declared.fields.Field.{Field}
use Rattle.command_text.specs.declared.fields.Fields.TheInside.{Inside}

-- The value of a `Fields` in contracts: the numbers taken so far.
abbrev pub taken : Inside → List Field
taken f = take f.used f.fields

-- At most `MAX_NUMBERS` numbers were taken.
abbrev pub IsTaken : Inside → Type 0
IsTaken f = f.used ≤ MAX_NUMBERS

-- The words are not the numbers of a command: one of them is not an integer, or there are more than
-- `MAX_NUMBERS`.
abbrev pub IsNoCommand : List (List ℕ) → Type 0
IsNoCommand words = (fields_of words ≡ None) ⊎ ((fs : List Field) × (fields_of words ≡ Some fs) × (MAX_NUMBERS < length fs))
