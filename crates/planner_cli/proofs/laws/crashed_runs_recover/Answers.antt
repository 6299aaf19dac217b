-- The laws about recovery and about crashed servings apply to runs, for crashes after the opening and for those
-- within it: no acknowledged command is lost, and none whose answer was written.
use Rattle.planner_cli.proofs.CrashLemmas.{input_read, run_headline, run_keeps_answers, served_run_headline, served_run_keeps_answers}
use Rattle.planner_cli.proofs.laws.crashed_runs_recover.Goals as goal

pub returns-clause-following : goal.returns-clause-following
returns-clause-following g c =
    let some = c.texts_have_a_reading.ensures.some in
    (some.0, some.1, served_run_headline g.D.Sectors g.E.Sectors some.0 some.1 c.crashed_servings_recover.ensures.crashed)

pub returns-clause-whole : goal.returns-clause-whole
returns-clause-whole g c =
    let some = c.texts_have_a_reading.ensures.some in
    (some.0, some.1, run_headline g.D.Sectors g.E.Sectors some.0 some.1 c.recovery_keeps_every_acknowledged_command.ensures c.crashed_servings_recover.ensures.runs)

pub returns-clause-reported : goal.returns-clause-reported
returns-clause-reported g c =
    let some = c.texts_have_a_reading.ensures.some in (
      some.0,
      some.1,
      run_keeps_answers g.D.Sectors g.E.Sectors some.0 some.1 c.crashed_servings_recover.ensures.reported
          (run_headline g.D.Sectors g.E.Sectors some.0 some.1 c.recovery_keeps_every_acknowledged_command.ensures c.crashed_servings_recover.ensures.runs),
    )

pub returns-clause-printed_after_opening : goal.returns-clause-printed_after_opening
returns-clause-printed_after_opening g c =
    let some = c.texts_have_a_reading.ensures.some in (
      some.0,
      some.1,
      served_run_keeps_answers g.D.Sectors g.E.Sectors some.0 some.1 c.crashed_servings_recover.ensures.reported
          (served_run_headline g.D.Sectors g.E.Sectors some.0 some.1 c.crashed_servings_recover.ensures.crashed),
    )

pub returns-clause-inputs : goal.returns-clause-inputs
returns-clause-inputs g c = input_read
