-- The value of a `StrictWriter` in contracts.
use Rattle.std.specs.Prelude.{◌≡◌, ℕ, false, List, [], Option}
use Rattle.command_server.specs.declared.streams.FailureTracking.{FailureTracking}
use Rattle.command_server.specs.declared.strict.LastLines.{LastLines}
use Rattle.command_server.specs.declared.strict.FailedAnswer.{FailedAnswer}
use Rattle.command_server.specs.TrackedStream.{held}
use Rattle.command_server.specs.Streams.{Event, Extends, Stream, put_by}
use Rattle.command_server.specs.Strict.{Follows, FlushesAllow}

-- The value of a `StrictWriter` over a writer of type `W`.
pub record StrictWriterValue (W : Type 0) : Type 0 where
  pub writer : FailureTracking W
  -- The contents and events of the writer when it was wrapped.
  pub before : Stream
  -- The failure that the last complete line since then reports, if any.
  pub reported : Option FailedAnswer

-- Since the writer was wrapped, a text was written whose last lines are kept in `l`. Nothing was flushed after a
-- line that reports a failure.
pub record FollowsSince (before now : Stream) (l : LastLines) : Type 0 where
  pub events : List Event
  pub put : Extends before now events (put_by events)
  pub follows : Follows (put_by events) l
  pub allows : FlushesAllow [] events

-- Unless the writer has failed, `l` keeps the last lines of the text that was written since it was wrapped.
abbrev pub IsStrict : {W : Type 0} → (W → Option (List ℕ)) → FailureTracking W → Stream → LastLines → Type 0
IsStrict contents writer before l = writer.has_failed ≡ false → FollowsSince before (held contents writer) l
