-- The files that were read or made, with the result for each. Lists of them are newest first: `was` before, and
-- `now` afterwards.
use Rattle.std.specs.Prelude.{◌≡◌, ℕ, List, ◌∷◌, ◌++◌, Result}
use Rattle.std.specs.declared.io.ErrorKind.{ErrorKind}

-- A file by its path, with the bytes that were read or written, or the kind of the error.
abbrev pub FileEntry : Type 0
FileEntry = List ℕ × Result (List ℕ) ErrorKind

-- A read with its result: the bytes of a whole file, or one line of a file that is read line by line.
abbrev pub FileRead : Type 0
FileRead = FileEntry

-- A new file with the bytes written to it, or the reason why it was not made.
abbrev pub FileWrite : Type 0
FileWrite = FileEntry

-- There was one read, of the file at this path.
abbrev pub IsRead : List ℕ → List FileRead → List FileRead → Type 0
IsRead path was now = (given : Result (List ℕ) ErrorKind) × (now ≡ (path, given) ∷ was)

-- Entries were added to the list, and none was removed.
abbrev pub IsGrown : List FileEntry → List FileEntry → Type 0
IsGrown was now = (later : List FileEntry) × (now ≡ later ++ was)

-- The first read was of the file at this path, whatever was read after it.
abbrev pub IsReadFirst : List ℕ → List FileRead → List FileRead → Type 0
IsReadFirst path was now = (given : Result (List ℕ) ErrorKind) × IsGrown ((path, given) ∷ was) now
