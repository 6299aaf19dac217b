-- The law about strict servings applies to the serving of the run.
use Rattle.planner_cli.proofs.laws.strict_runs_end_at_an_answer.Goals as goal

pub returns : goal.returns
returns g c = λ old new is_strict given opened answered served why reader_failed writer_failed input reading ended strict whole known is.
    c.nothing_is_done_after_a_refusal.ensures reading old new input opened answered served why ((ended.serves input known).serves reading is) (ended.last strict whole)
