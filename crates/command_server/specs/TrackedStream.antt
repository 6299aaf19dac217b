-- A `FailureTracking` reader as a source, and a `FailureTracking` writer as a sink.
use Rattle.std.specs.Prelude.{ℕ, Bool, true, false, List, [], Option, Some}
use Rattle.command_server.specs.Streams.{InputRecord, Stream}
use Rattle.command_server.specs.declared.streams.FailureTracking.{FailureTracking}

-- The writer's contents, and its events as a sink.
abbrev pub held : {W : Type 0} → (W → Option (List ℕ)) → FailureTracking W → Stream
held contents w = record { contents = contents w.inner; events = w.log.events }

-- The results of the reads, the newest first.
abbrev pub reads_of : {I : Type 0} → FailureTracking I → List (List ℕ)
reads_of r = r.log.reads

-- `known`, or no bytes if the input is at its end.
abbrev pub unless_ended : Bool → Option (List ℕ) → Option (List ℕ)
unless_ended true known = Some []
unless_ended false known = known

-- The bytes that the reader will still return, if they are known; none after its end.
abbrev pub still_known : {I : Type 0} → (I → Option (List ℕ)) → FailureTracking I → Option (List ℕ)
still_known remaining r = unless_ended r.has_ended (remaining r.inner)

-- The input between two states of its reader, as far as it is known.
abbrev pub given_by : {I : Type 0} → (I → Option (List ℕ)) → FailureTracking I → FailureTracking I → InputRecord
given_by remaining old new = record { known = still_known remaining old; before = reads_of old; after = reads_of new }
