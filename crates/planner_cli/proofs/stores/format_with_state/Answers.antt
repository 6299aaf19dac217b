-- The result is that of `format_with`.
use Rattle.planner_cli.proofs.stores.format_with_state.Goals as goal

pub returns-clause-made : goal.returns-clause-made
returns-clause-made g c =
    let given = c.format_with.ensures in
    record {
      holds = λ honest. (given.formats honest).after;
      place = given.place;
      moments = λ honest. (given.formats honest).moments;
      kept = given.kept;
      honest = given.called.honest_before;
      finished = given.called.finished;
      faults = given.called.fault;
      same_len = given.called.same_len;
    }
