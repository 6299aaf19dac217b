-- The contracts of a device's calls, as the layers above see them.
use Rattle.std.specs.Prelude.{◌≡◌, ◌⊎◌, ℕ, ◌+◌, ◌-◌, ◌*◌, ◌%◌, ◌^◌, ◌<◌, ◌≤◌, min, List, Result, is_ok, IsOk, IsErr, OnOk, if◌then◌else◌}
use Rattle.sector_disk.specs.Image.{written, Mixes}

-- The number of finished writes and syncs after one more of them, which may have failed.
abbrev pub calls_after : {T E : Type 0} → Result T E → ℕ → ℕ
calls_after result calls = if is_ok result then calls + 1 else calls

-- The number of failed calls after one more call, which may have failed. It never exceeds 2^64-1.
abbrev pub faults_after : {T E : Type 0} → Result T E → ℕ → ℕ
faults_after result faults = if is_ok result then faults else min (faults + 1) (2 ^ 64 - 1)

-- A run of whole sectors of a device: `size` bytes from sector `first` on.
pub record IsWholeRun (first size sectors : ℕ) : Type 0 where
  pub some : 0 < size
  pub whole : size % 512 ≡ 0
  pub inside : 512 * first + size ≤ 512 * sectors

-- The numbers of finished calls before and after a read are equal.
abbrev pub same_count : ℕ → ℕ → Type 0
same_count before after = after ≡ before

-- A write or a sync adds one to the count, unless it fails. At 2^64-1 it fails.
pub record OneMore {T E : Type 0} (result : Result T E) (before after : ℕ) : Type 0 where
  pub count : after ≡ calls_after result before
  pub last : before ≡ 2 ^ 64 - 1 → IsErr result

-- If the result is Ok, the number of finished calls has grown by n.
abbrev pub more : {T E : Type 0} → Result T E → ℕ → ℕ → ℕ → Type 0
more result n before after = OnOk result (after ≡ before + n)

-- The guarantees of calls, whatever they answer. The length is preserved. Honesty holds after the calls only if
-- it held before. The counts of finished and failed calls change as `finish` and `faults_then` say.
pub record IsCalled {D : Type 0} (len calls faults : D → ℕ) (honest : D → Type 0) (finish : ℕ → ℕ → Type 0) (faults_then : ℕ → ℕ) (old new : D) : Type 0 where
  pub same_len : len new ≡ len old
  pub finished : finish (calls old) (calls new)
  pub fault : faults new ≡ faults_then (faults old)
  pub honest_before : honest new → honest old

-- An image that a crash within a write from sector `first` on may leave: starting from an image that was
-- possible before, each sector of the write has its old content or the new one.
abbrev pub Reached : ℕ → List ℕ → (List ℕ → Type 0) → List ℕ → Type 0
Reached first bytes possible image = (before : List ℕ) × possible before × Mixes before (written first bytes before) image

-- A write adds its contents to the possible ones: all of them if it succeeds, some or none if it fails.
pub record AddsContents {T E : Type 0} (result : Result T E) (first : ℕ) (bytes : List ℕ) (before after : List ℕ → Type 0) : Type 0 where
  pub nothing_else : (image : List ℕ) → after image → Reached first bytes before image
  pub keeps : (image : List ℕ) → before image → after image
  pub all : IsOk result → (image : List ℕ) → Reached first bytes before image → after image

-- `seen` is the only possible image
abbrev pub Only : List ℕ → (List ℕ → Type 0) → Type 0
Only seen possible = (image : List ℕ) → possible image → image ≡ seen

-- The possible images before and after are the same.
pub record SameImages (before after : List ℕ → Type 0) : Type 0 where
  pub nothing_else : (image : List ℕ) → after image → before image
  pub keeps : (image : List ℕ) → before image → after image

-- The images that a crash since an earlier moment might have left, after one more call. With m calls finished
-- they are: those that it might have left before the call; those that a crash within the call may leave, with
-- the old count; and those that are possible now, with the new count.
pub record Elapses (before now : ℕ) (past since : ℕ → ℕ → List ℕ → Type 0) (old_calls new_calls : ℕ) (within possible : List ℕ → Type 0) : Type 0 where
  pub later : before ≤ now
  pub nothing_else : (t m : ℕ) (image : List ℕ) → t ≤ before → since t m image
      → past t m image ⊎ ((m ≡ old_calls) × within image) ⊎ ((m ≡ new_calls) × possible image)
  pub keeps : (t m : ℕ) (image : List ℕ) → t ≤ before → past t m image → since t m image

-- From `old` to `new` the moments of one call are added. A crash within the call leaves one of the images
-- `within`.
abbrev pub Passes : {D : Type 0} → (D → ℕ) → (D → ℕ → ℕ → List ℕ → Type 0) → (D → ℕ) → (D → List ℕ → Type 0) → (List ℕ → Type 0) → D → D → Type 0
Passes clock since calls possible within old new = Elapses (clock old) (clock new) (since old) (since new) (calls old) (calls new) within (possible new)

-- At each moment since `old`, during a call or between two, with m calls finished, each possible image has P m.
pub record Throughout {D : Type 0} (clock : D → ℕ) (since : D → ℕ → ℕ → List ℕ → Type 0) (old new : D) (P : ℕ → List ℕ → Type 0) : Type 0 where
  pub later : clock old ≤ clock new
  pub each : (m : ℕ) (image : List ℕ) → since new (clock old) m image → P m image
  -- An image that a crash since an earlier moment might have left was possible before `old`, or has P.
  pub before : (t m : ℕ) (image : List ℕ) → t ≤ clock old → since new t m image → since old t m image ⊎ P m image
