-- The requests written so far and the remaining ones make up the result
use Rattle.std.proofs.Common.{◌≡◌, ◌++◌}
use Rattle.state_codec.specs.declared.version.Version.TheVariants.{Two}
use Rattle.state_codec.specs.Bytes.{requests_bytes}
use Rattle.state_codec.proofs.writing.put_requests.Given as goal

abbrev pub invariant-loop-name : goal.invariant-loop-name
invariant-loop-name l = l.out.items ++ requests_bytes Two l._name-iterator ≡ l.fn.out.items ++ requests_bytes Two l.requests.entries
