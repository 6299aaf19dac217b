-- A detour through a third stop is shorter than the direct leg by at most 1.
use Rattle.nint_dist.proofs.Triangle.{saves-one}
use Rattle.nint_dist.proofs.detours_save_at_most_one.Goals as goal

pub returns : goal.returns
returns c = λ a b c. saves-one a b c
