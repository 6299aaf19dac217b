-- The drawn stop is a stop of the problem, whether it is the only stop of its request, its pickup or its
-- delivery.
use Rattle.move_ops.proofs.StopNumberLemmas.{stop_known}
use Rattle.anneal_search.proofs.strings.drawn_stop.Goals as goal

pub returns-then-rest-clause-known : goal.returns-then-rest-clause-known
returns-then-rest-clause-known c = stop_known c.args.problem.now c.args.name c.stop.result c.stop.ensures.found c.stop.ensures.stop

pub returns-in-Some-clause-known : goal.returns-in-Some-clause-known
returns-in-Some-clause-known c = stop_known c.args.problem.now c.in-Some.delivery c.stop-in-Some.result c.stop-in-Some.ensures.found c.stop-in-Some.ensures.stop

pub returns-in-None-clause-known : goal.returns-in-None-clause-known
returns-in-None-clause-known c = stop_known c.args.problem.now c.args.name c.stop-in-None.result c.stop-in-None.ensures.found c.stop-in-None.ensures.stop
