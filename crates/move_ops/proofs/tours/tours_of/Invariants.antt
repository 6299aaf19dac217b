-- The tours so far are the tables of the routes so far, so at the end they are those of the whole plan.
use Rattle.std.proofs.Common.{◌≡◌, take}
use Rattle.move_ops.specs.Tables.{plan_of, tables_of}
use Rattle.move_ops.proofs.tours.tours_of.Given as goal

abbrev pub invariant-loop-route : goal.invariant-loop-route
invariant-loop-route l = record {
  tours : l.tours.items ≡ tables_of l.problem (take l.route-index l.routes);
  plan : plan_of l.tours.items ≡ take l.route-index l.routes;
}
