-- The result is that of `format`.
use Rattle.planner_cli.proofs.stores.format_device.Goals as goal

pub returns-clause-formatted : goal.returns-clause-formatted
returns-clause-formatted g c =
    let given = c.format.ensures in
    record {
      holds = λ honest. (given.formats honest).after;
      place = given.place;
      moments = λ honest. (given.formats honest).moments;
      kept = given.kept;
      honest = given.called.honest_before;
      finished = given.called.finished;
      faults = given.called.fault;
      same_len = given.called.same_len;
    }
