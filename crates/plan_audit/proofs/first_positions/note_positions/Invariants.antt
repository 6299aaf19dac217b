-- The positions so far and the positions of the remaining stops are together the old positions and those of all
-- stops.
use Rattle.std.proofs.Common.{◌≡◌, ℕ, ◌<◌, None, length, drop, get_or}
use Rattle.std.specs.Option.{option_or, option_map}
use Rattle.plan_audit.specs.FirstFault.{place_of, position_in}
use Rattle.plan_audit.proofs.first_positions.note_positions.Given as goal

abbrev pub invariant-loop-place : goal.invariant-loop-place
invariant-loop-place l = (n : ℕ) → n < length l.first_positions
    → option_or (get_or l.first_positions n None) (option_map (λ i. record { route = l.route; place = i }) (place_of n l.place (drop l.place l.stops)))
    ≡ option_or (get_or l.fn.first_positions n None) (position_in n l.route l.stops)
