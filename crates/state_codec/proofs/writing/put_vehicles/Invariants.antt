-- The vehicles so far are written
use Rattle.std.proofs.Common.{◌≡◌, ◌++◌, take}
use Rattle.state_codec.specs.declared.version.Version.TheVariants.{Two}
use Rattle.state_codec.specs.Bytes.{vehicles_bytes}
use Rattle.state_codec.proofs.writing.put_vehicles.Given as goal

abbrev pub invariant-loop-index : goal.invariant-loop-index
invariant-loop-index l = l.out.items ≡ l.fn.out.items ++ vehicles_bytes Two (take l.index l.pins) (take l.index l.routes)
