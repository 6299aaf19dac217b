-- Strict serving ends at the answer whose last line reports a failure.
use Rattle.command_server.proofs.EndLemmas.{answers_end_servings}
use Rattle.command_server.proofs.laws.nothing_is_done_after_a_refusal.Goals as goal

pub returns : goal.returns
returns g c = answers_end_servings g.D.Sectors
