-- The routes so far are written
use Rattle.std.proofs.Common.{◌≡◌, ◌++◌, take}
use Rattle.state_codec.specs.declared.version.Version.TheVariants.{Two}
use Rattle.state_codec.specs.Bytes.{routes_bytes}
use Rattle.state_codec.proofs.writing.put_routes.Given as goal

abbrev pub invariant-loop-route : goal.invariant-loop-route
invariant-loop-route l = l.out.items ≡ l.fn.out.items ++ routes_bytes Two (take l.route-index l.routes)
