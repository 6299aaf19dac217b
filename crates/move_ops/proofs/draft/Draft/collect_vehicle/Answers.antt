-- A stop in no route adds no vehicle, nor does one whose vehicle is in the list already; any other adds its
-- vehicle.
use Rattle.std.proofs.Common.{◌≡◌, ◌≤◌, true, sym, arith}
use Rattle.plan_audit.specs.Passes.{has}
use Rattle.move_ops.specs.Drafts.{draft_of}
use Rattle.move_ops.proofs.DraftLemmas.{has_in_vehicle}
use Rattle.move_ops.proofs.VehicleListLemmas.{noted_none, noted_old, noted_new}
use Rattle.move_ops.proofs.draft.Draft.collect_vehicle.Goals as goal

pub returns-then-vehicle-eq0 : goal.returns-then-vehicle-eq0
returns-then-vehicle-eq0 c =
    let none = c.vehicle_of-vehicle.ensures.1 c.if-vehicle-eq0.true in
    record {
      planned = sym none;
      noted = noted_none (draft_of c.args.self.now) c.args.stop c.args.vehicles.now.items none;
    }

pub returns-then-is_among : goal.returns-then-is_among
returns-then-is_among c =
    let among : has c.args.vehicles.now.items c.vehicle_of-vehicle.result ≡ true = cc in
    let there = c.vehicle_of-vehicle.ensures.0 (omega arith) in
    record {
      planned = sym (has_in_vehicle (draft_of c.args.self.now) c.vehicle_of-vehicle.result c.args.stop there);
      noted = noted_old (draft_of c.args.self.now) c.args.stop c.args.vehicles.now.items c.requires c.vehicle_of-vehicle.result there among;
    }

pub returns : goal.returns
returns c =
    let from : 1 ≤ c.vehicle_of-vehicle.result = omega arith in
    let there = c.vehicle_of-vehicle.ensures.0 from in
    record {
      planned = sym (has_in_vehicle (draft_of c.args.self.now) c.vehicle_of-vehicle.result c.args.stop there);
      noted =
          noted_new (draft_of c.args.self.now) c.args.stop c.args.vehicles.now.items c.requires c.vehicle_of-vehicle.result
          there from c.push.new.self.items c.in_ok-push.ensures.items;
    }
