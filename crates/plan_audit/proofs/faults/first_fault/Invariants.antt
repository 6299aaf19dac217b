-- The first answer for the routes from this one on is the first answer for all routes.
use Rattle.std.proofs.Common.{◌≡◌, ℕ, List, Option, drop, Contains, Bor}
use Rattle.plan_audit.specs.FirstFault.{first_fault}
use Rattle.plan_audit.specs.declared.faults.PlaceFault.{PlaceFault}
use Rattle.plan_audit.proofs.faults.first_fault.Given as goal

abbrev pub invariant-loop-number : goal.invariant-loop-number
invariant-loop-number g l = (tells : ℕ → List ℕ → Option PlaceFault)
    → ((k : ℕ) (route : Bor (List ℕ)) (o : Option PlaceFault) → Contains l.routes route.now → goal.F-post g l.test k route o → o ≡ tells k route.now)
    → first_fault tells l.number (drop l.number l.routes) ≡ first_fault tells 0 l.routes
