-- If the lower bounds of both stops together, and that of the pair as consecutive stops, reach the bound, a
-- pair adds no less wherever it is inserted.
use Rattle.std.proofs.Common.{◌≡◌, ◌≤ℤ◌, ◌+ℤ◌, ℤ, w64, to_z, of_z, rules, subst}
use mir.Val.{SFits}
use Rattle.std.proofs.lemmas.Int.{to_z-of_z}
use Rattle.slack_tables.proofs.ScanLemmas.{bits-below}
use Rattle.slack_tables.proofs.SpliceLemmas.{int_le-true}
use Rattle.slack_tables.proofs.span.Span.is_far_pair.Goals as goal

pub returns-then-floor-below : goal.returns-then-floor-below
returns-then-floor-below c = λ near depot floors.
    (let below : SFits w64 c.args.below = record { sfits = c.ranges.below.sfits } in
    let same : to_z w64 (of_z w64 (to_z w64 (of_z w64 c.floor.result) +ℤ to_z w64 (of_z w64 c.floor-2.result)))
    ≡ c.floor.result +ℤ c.floor-2.result =
    rw (to_z-of_z w64 c.floor.result (search rules), to_z-of_z w64 c.floor-2.result (search rules))
    (to_z-of_z w64 (c.floor.result +ℤ c.floor-2.result) (search rules)) in
    let beside : SFits w64 c.floor_of_pair.result = search rules in
    record {
      to_p = record { inside = c.lower_bound_inside-pickup_inside.result; to_depot = c.args.ways.now.to_depot };
      nearest_p =
          record {
            inside = c.lower_bound_inside-pickup_inside.ensures.below;
            to_depot = floors.to_depot;
            inside_small = c.lower_bound_inside-pickup_inside.ensures.bound;
            home_small = c.requires.ways.to_depot;
          };
      floor_p = c.floor.result;
      lowest_p = c.floor.ensures.floor;
      to_q = record { inside = c.lower_bound_inside-delivery_inside.result; to_depot = c.args.ways.now.delivery_to_depot };
      nearest_q =
          record {
            inside = c.lower_bound_inside-delivery_inside.ensures.below;
            to_depot = floors.delivery_to_depot;
            inside_small = c.lower_bound_inside-delivery_inside.ensures.bound;
            home_small = c.requires.ways.delivery_to_depot;
          };
      floor_q = c.floor-2.result;
      lowest_q = c.floor-2.ensures.floor;
      apart = bits-below c.args.below _ below (subst (λ (x : ℤ). to_z w64 (of_z w64 c.args.below) ≤ℤ x) same (int_le-true _ _ c.if-floor-below.true));
      between_stops = c.args.ways.now.between_stops;
      between = floors.between_stops;
      beside = c.floor_of_pair.result;
      lowest = c.floor_of_pair.ensures;
      near =
          bits-below c.args.below _ below
          (subst (λ (x : ℤ). to_z w64 (of_z w64 c.args.below) ≤ℤ x) (to_z-of_z w64 c.floor_of_pair.result beside) (int_le-true _ _ near));
    })
