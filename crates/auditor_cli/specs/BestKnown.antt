-- The syntax of a best-known cost of an instance, and the comparison of a plan's cost with it.
use Rattle.std.specs.Prelude.{ℕ, ◌==◌, ◌^◌, Bool, if◌then◌else◌, List, [], ◌∷◌, Option, Some, None}
use Rattle.std.specs.List.{list_any}
use Rattle.plan_types.specs.declared.plans.Cost.{Cost}
use Rattle.plan_types.specs.declared.requests.Kind.{Kind}
use Rattle.plan_types.specs.declared.requests.Kind.TheVariants.{LiLim, Vrp}
use Rattle.instance_read.specs.Distances.{published_distance}
use Rattle.instance_read.specs.Formats.{kind_of}
use Rattle.instance_read.specs.declared.formats.Format.{Format}
use Rattle.instance_read.specs.declared.scales.Scale.{Scale}
use Rattle.text_lines.specs.Numbers.{below, digits_of}
use Rattle.text_lines.specs.Words.{words_of}
use Rattle.auditor_cli.specs.Gaps.{gap_text, vehicles_text}

-- a best-known cost: the number of vehicles, if it is known, and the distance times the scale, at least 1
pub record BestCost : Type 0 where
  pub vehicles : Option ℕ
  pub distance : ℕ

-- the number of vehicles that a word of digits spells, at most 4,294,967,295
abbrev pub vehicles_in : List ℕ → Option ℕ
vehicles_in word = below (2 ^ 32) (digits_of word)

-- a best-known cost with this distance; none if the distance is missing, or 0, since no gap is a percentage of 0
abbrev pub best_of : Option ℕ → Option ℕ → Option BestCost
best_of vehicles None = None
best_of vehicles (Some distance) = if distance == 0 then None else Some (record { vehicles = vehicles; distance = distance })

-- a best-known cost with this number of vehicles; none if the number or the distance is missing
abbrev pub best_with : Option ℕ → Option ℕ → Option BestCost
best_with None distance = None
best_with (Some vehicles) distance = best_of (Some vehicles) distance

-- the best-known cost of one word, `DISTANCE`, or of two, `VEHICLES DISTANCE`; two only for a problem of kind
-- `LiLim`
abbrev pub best_among : Kind → Scale → List ℕ → Option (List ℕ) → Option BestCost
best_among kind scale distance None = best_of None (published_distance scale distance)
best_among LiLim scale vehicles (Some distance) = best_with (vehicles_in vehicles) (published_distance scale distance)
best_among Vrp scale vehicles (Some distance) = None

-- the best-known cost that one or two words spell, for a text in this format
abbrev pub best_in_words : Format → List (List ℕ) → Option BestCost
best_in_words format (first ∷ []) = best_among (kind_of format) format.scale first None
best_in_words format (first ∷ second ∷ []) = best_among (kind_of format) format.scale first (Some second)
best_in_words format _ = None

-- the text has a tab, and so more than one column
abbrev pub has_tab : List ℕ → Bool
has_tab text = list_any (λ b. b == 9) text

-- the best-known cost in a column of a list, with spaces between its words and around them; only a problem of
-- kind `LiLim` may have vehicles
abbrev pub best_in : Format → List ℕ → Option BestCost
best_in format text = if has_tab text then None else best_in_words format (words_of text)

-- the comparison of distances if the numbers of vehicles are equal or one is not known, otherwise that of
-- vehicles
abbrev pub comparison_with : Option ℕ → ℕ → Cost → List ℕ
comparison_with None distance cost = gap_text cost.distance distance
comparison_with (Some vehicles) distance cost = if vehicles == cost.vehicles then gap_text cost.distance distance else vehicles_text cost.vehicles vehicles

-- the comparison of a plan's cost with a best-known one, as it is printed after a pass
abbrev pub comparison_text : BestCost → Cost → List ℕ
comparison_text best cost = comparison_with best.vehicles best.distance cost
