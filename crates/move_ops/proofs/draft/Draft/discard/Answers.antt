-- If the log is empty the draft is its base, so with the base's cost it is a draft of the same problem and pins.
use Rattle.std.proofs.Common.{rules, ◌≡◌}
use Rattle.move_ops.proofs.DraftLemmas.{dropped}
use Rattle.move_ops.proofs.draft.Draft.discard.Goals as goal

pub returns-clause-is : goal.returns-clause-is
returns-clause-is c =
    let new = c.self-2.inside in
    let base_cost : new.base_cost ≡ c.args.self.now.base_cost = search rules in
    λ p pins is. dropped c.args.self.now
    (record {
      tours = new.tours.items;
      log = new.log.items;
      pinned = new.pinned.items;
      cost = new.base_cost;
      base_cost = new.base_cost;
    })
    (search rules) (search rules) (search rules) p pins base_cost base_cost is
