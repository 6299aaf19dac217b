-- Picked routes pass in a fleet of just their vehicles. A plan put back at the numbers of these vehicles passes with
-- the pins, and uses at most as many vehicles as are marked.
use Rattle.fleet_reduction.proofs.PickedLemmas.{picked_pass, put_back_pass, put_back_use_fewer}
use Rattle.fleet_reduction.proofs.laws.picked_pass.Goals as goal

pub returns-clause-picked : goal.returns-clause-picked
returns-clause-picked c = picked_pass c.feasibility_is_local.ensures

pub returns-clause-back : goal.returns-clause-back
returns-clause-back c = put_back_pass c.feasibility_is_local.ensures

pub returns-clause-used : goal.returns-clause-used
returns-clause-used c = put_back_use_fewer
