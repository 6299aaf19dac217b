-- If all tours are tables of a problem, so is each of them.
use Rattle.std.proofs.Common.{◌-◌, arith}
use Rattle.move_ops.proofs.QueryLemmas.{course_at}
use Rattle.move_ops.proofs.tour.tour_of.Goals as goal

pub returns : goal.returns
returns c = λ p tables. course_at c.args.tours.now (c.args.vehicle - 1) c.index-tours-vehicle.result c.index-tours-vehicle.is (omega arith) p tables
