-- Each call leaves one zero less for the tick step, so the recursion ends.
use Rattle.plan_picture.proofs.days.+tick_step.Given as goal

abbrev pub decreases-tick_step : goal.decreases-tick_step
decreases-tick_step l = l.zeros
