-- The lines that answer an audit, byte by byte. Numbers are in decimal.
use Rattle.std.specs.Prelude.{ℕ, ◌==◌, List, ◌++◌, codes, decimal, if◌then◌else◌}
use Rattle.plan_types.specs.declared.plans.Cost.{Cost}

-- The line for a solution that breaks no rule: `pass UNPLANNED VEHICLES DISTANCE`.
abbrev pub pass_text : Cost → List ℕ
pass_text cost = codes "pass " ++ decimal cost.unplanned ++ codes " " ++ decimal cost.vehicles ++ codes " " ++ decimal cost.distance

-- The line for a plan that leaves requests out: `partial UNPLANNED VEHICLES DISTANCE`.
abbrev pub partial_text : Cost → List ℕ
partial_text cost = codes "partial " ++ decimal cost.unplanned ++ codes " " ++ decimal cost.vehicles ++ codes " " ++ decimal cost.distance

-- The line for a plan that breaks no rule: it passes, or is partial if requests are left out.
abbrev pub planned_text : Cost → List ℕ
planned_text cost = if cost.unplanned == 0 then pass_text cost else partial_text cost

-- The line for the first violation: `broken RULE route R place P stop S`. Routes and places count from 1.
abbrev pub broken_text : ℕ → ℕ → ℕ → ℕ → List ℕ
broken_text rule route place stop = codes "broken " ++ decimal rule ++ codes " route " ++ decimal route ++ codes " place " ++ decimal place ++ codes " stop " ++ decimal stop

-- The line for a text that is refused: `TEXT NAME LINE`, with the name of its fault. Lines count from 1.
abbrev pub fault_text : List ℕ → List ℕ → ℕ → List ℕ
fault_text text name line = text ++ codes " " ++ name ++ codes " " ++ decimal line
