-- The effects of readers and writers on the bytes that are known, and the events at sources and sinks.
use Rattle.std.specs.Prelude.{◌≡◌, ◌⊎◌, ◌<◌, ◌≤◌, ◌++◌, ◌∷◌, [], ℕ, Bool, true, false, List, flat_map, length, map, take, drop, Option, Some, None, Result, Ok, Err}
use Rattle.std.specs.List.{concat}
use Rattle.std.specs.Io.KnownBytes.{Appends, Consumes, IsAtEnd, Keeps}

-- An event at a sink, with the number of device calls that had finished: a text was written, which its writer
-- may pass on immediately, or all that had been written was flushed.
pub data Event : Type 0 where
  Put : ℕ → List ℕ → Event
  Flushed : ℕ → Event

-- The text that the event wrote.
abbrev pub put_in : Event → List ℕ
put_in (Put calls text) = text
put_in (Flushed calls) = []

-- The text that these events wrote, in order.
abbrev pub put_by : List Event → List ℕ
put_by events = flat_map put_in events

-- The events at a sink, in order, and for each read into a block that is not empty the bytes that it returned,
-- the newest first.
pub record History : Type 0 where
  pub events : List Event
  pub reads : List (List ℕ)

-- The bytes that these reads returned, from the oldest read to the newest.
abbrev pub text_given : List (List ℕ) → List ℕ
text_given [] = []
text_given (piece ∷ earlier) = text_given earlier ++ piece

-- Whether one of these reads returned nothing, which happens only at the end.
abbrev pub ended_by : List (List ℕ) → Bool
ended_by [] = false
ended_by ([] ∷ earlier) = true
ended_by ((b ∷ bs) ∷ earlier) = ended_by earlier

-- The text begins with the bytes that these reads returned, and has no others if one of them returned nothing.
-- Such a text exists for any reads: the bytes that they returned.
pub record GaveText (reads : List (List ℕ)) (text : List ℕ) : Type 0 where
  pub rest : List ℕ
  pub whole : text ≡ text_given reads ++ rest
  pub end : ended_by reads ≡ true → rest ≡ []

-- The part of a text after the bytes that these reads returned.
abbrev pub rest_after : List (List ℕ) → List ℕ → List ℕ
rest_after reads text = drop (length (text_given reads)) text

-- The knowledge about an input between two moments: its bytes, if they were known beforehand, and the results of
-- the reads up to the first moment and up to the second, the newest first.
pub record InputRecord : Type 0 where
  pub known : Option (List ℕ)
  pub before : List (List ℕ)
  pub after : List (List ℕ)

-- The bytes are the input: they were known beforehand; or, of a text that begins with the bytes that the reads
-- returned, they are the part that was not read before.
abbrev pub IsInput : InputRecord → List ℕ → Type 0
IsInput given input = (given.known ≡ Some input) ⊎ ((text : List ℕ) × GaveText given.after text × (input ≡ rest_after given.before text))

-- A sink: the bytes that it holds, if they are known, and its events in order.
pub record Stream : Type 0 where
  pub contents : Option (List ℕ)
  pub events : List Event

-- The properties of a sink that no call changes: the stream when the sink began to follow what is written, if
-- it does, and the reference through which it writes, if its writer is borrowed.
pub record Origin : Type 0 where
  pub before : Option Stream
  pub borrowed : Option ℕ

-- The origin of a sink that owns its writer. The stream is that of the moment when the sink began.
abbrev pub began_with : Option Stream → Origin
began_with before = record { before = before; borrowed = None }

-- These events were added, and they wrote this text.
pub record Extends (old new : Stream) (events : List Event) (text : List ℕ) : Type 0 where
  pub written : Appends old.contents new.contents text
  pub noted : new.events ≡ old.events ++ events

-- A prefix of the text was written when this number of device calls had finished.
pub record IsPart (old new : Stream) (calls : ℕ) (text : List ℕ) : Type 0 where
  pub len : ℕ
  pub put : Extends old new (Put calls (take len text) ∷ []) (take len text)

-- The text was written when this number of device calls had finished, or a prefix of it if a call failed.
abbrev pub Puts : {T E : Type 0} → Stream → Stream → Result T E → ℕ → List ℕ → Type 0
Puts old new (Ok done) calls text = Extends old new (Put calls text ∷ []) text
Puts old new (Err fault) calls text = IsPart old new calls text

-- Nothing more was written, and these events were added.
pub record Stays (old new : Stream) (events : List Event) : Type 0 where
  pub kept : Keeps old.contents new.contents
  pub noted : new.events ≡ old.events ++ events

-- Everything written was flushed. If the flush reports a failure, nothing is recorded, whether or not anything
-- was flushed, so nothing can follow as if the flush had succeeded.
abbrev pub Flushes : {T E : Type 0} → Stream → Stream → Result T E → ℕ → Type 0
Flushes old new (Ok done) calls = Stays old new (Flushed calls ∷ [])
Flushes old new (Err fault) calls = Stays old new []

-- The text was written in parts, and then everything was flushed.
pub record IsWrittenAndFlushed (old new : Stream) (calls : ℕ) (text : List ℕ) : Type 0 where
  pub texts : List (List ℕ)
  pub whole : concat texts ≡ text
  pub extends : Extends old new (map (Put calls) texts ++ Flushed calls ∷ []) text

-- A prefix of the text was written, and no flush of it reported success.
pub record IsPartlyPut (old new : Stream) (calls : ℕ) (text : List ℕ) : Type 0 where
  pub len : ℕ
  pub texts : List (List ℕ)
  pub part : concat texts ≡ take len text
  pub extends : Extends old new (map (Put calls) texts) (take len text)

-- The text was written and flushed; or, if a call failed, a prefix of it was written, and no flush reported
-- success.
abbrev pub WritesAndFlushes : {T E : Type 0} → Stream → Stream → Result T E → ℕ → List ℕ → Type 0
WritesAndFlushes old new (Ok done) calls text = IsWrittenAndFlushed old new calls text
WritesAndFlushes old new (Err fault) calls text = IsPartlyPut old new calls text

-- n bytes were read into the block; n is 0 only at the end or if the block is empty. Without n, nothing was
-- read.
abbrev pub ReadsSome : Option (List ℕ) → Option (List ℕ) → Option ℕ → List ℕ → Type 0
ReadsSome old new (Some n) block = (n ≤ length block) × Consumes old new (take n block) × (n ≡ 0 → 0 < length block → IsAtEnd new)
ReadsSome old new None block = Keeps old new

-- At least one byte of the text was written, n in all. Without n, nothing was written.
abbrev pub WritesSome : Option (List ℕ) → Option (List ℕ) → Option ℕ → List ℕ → Type 0
WritesSome old new (Some n) text = (0 < n) × (n ≤ length text) × Appends old new (take n text)
WritesSome old new None text = Keeps old new

-- The text was written; or the call failed, and the first n bytes were written.
abbrev pub WritesUpTo : {T : Type 0} → Option (List ℕ) → Option (List ℕ) → Result T ℕ → List ℕ → Type 0
WritesUpTo old new (Ok done) text = Appends old new text
WritesUpTo old new (Err n) text = (n ≤ length text) × Appends old new (take n text)
