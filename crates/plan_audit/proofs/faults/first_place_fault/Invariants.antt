-- The first answer for the places from this one on is the first answer for all places.
use Rattle.std.proofs.Common.{◌≡◌, ℕ, Option, drop, Contains}
use Rattle.plan_audit.specs.FirstFault.{first_place_fault}
use Rattle.plan_audit.proofs.faults.first_place_fault.Given as goal

abbrev pub invariant-loop-place : goal.invariant-loop-place
invariant-loop-place g l = (tells : ℕ → ℕ → Option ℕ)
    → ((i n : ℕ) (o : Option ℕ) → Contains l.route n → goal.F-post g l.test i n o → o ≡ tells i n)
    → first_place_fault tells l.place (drop l.place l.route) ≡ first_place_fault tells 0 l.route
