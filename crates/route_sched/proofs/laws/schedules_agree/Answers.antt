-- A route has the same starts, loads and length in two problems with the same depot and the same stops for its
-- numbers.
use Rattle.route_sched.proofs.AgreementLemmas.{schedules_agree}
use Rattle.route_sched.proofs.laws.schedules_agree.Goals as goal

pub returns : goal.returns
returns c = schedules_agree
