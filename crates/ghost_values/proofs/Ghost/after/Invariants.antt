-- The value that the caller's proof chooses.
use Rattle.ghost_values.proofs.Ghost.after.Given as goal

abbrev pub ghost-of : goal.ghost-of
ghost-of g a = g.value
