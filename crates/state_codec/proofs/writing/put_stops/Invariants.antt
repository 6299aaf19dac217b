-- The stops so far are written
use Rattle.std.proofs.Common.{◌≡◌, ◌++◌, take}
use Rattle.state_codec.specs.declared.version.Version.TheVariants.{Two}
use Rattle.state_codec.specs.Bytes.{stops_bytes}
use Rattle.state_codec.proofs.writing.put_stops.Given as goal

abbrev pub invariant-loop-stop : goal.invariant-loop-stop
invariant-loop-stop l = l.out.items ≡ l.fn.out.items ++ stops_bytes Two (take l.stop-index l.stops)
