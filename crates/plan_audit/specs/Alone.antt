-- The rules that a list of stops breaks as the only route.
use Rattle.std.specs.Prelude.{◌≡◌, ℕ, List, [], ◌∷◌}
use Rattle.plan_types.specs.Instance.{Instance}
use Rattle.plan_audit.specs.declared.rules.Rule.{Rule}
use Rattle.plan_audit.specs.Verdict.{Subject, planned, rule_number, KeepsRules, IsFirstBroken}

-- the list as the only route of a plan without pins
abbrev pub alone : List ℕ → Subject
alone route = planned (route ∷ []) []

-- as the only route the list breaks none of the rules 3 to 8
abbrev pub IsFeasibleAlone : Instance → List ℕ → Type 0
IsFeasibleAlone p route = KeepsRules 3 8 p (alone route)

-- the rule is the first of the rules 3 to 8 that the list breaks as the only route
abbrev pub IsFirstBrokenAlone : Instance → List ℕ → Rule → Type 0
IsFirstBrokenAlone p route k = (r : ℕ) × (i : ℕ) × (n : ℕ) × IsFirstBroken 3 8 p (alone route) k r i n

-- the number of the first of the rules 3 to 8 that the list breaks as the only route
abbrev pub IsFaultAlone : Instance → List ℕ → ℕ → Type 0
IsFaultAlone p route number = (k : Rule) × (number ≡ rule_number k) × IsFirstBrokenAlone p route k
