-- The difference between a plan's cost and the best-known one, byte by byte. Numbers are in decimal.
use Rattle.std.specs.Prelude.{ℕ, ◌+◌, ◌-◌, ◌*◌, ◌/◌, ◌%◌, ◌==◌, ◌&&◌, nat_le, nat_lt, Bool, if◌then◌else◌, List, [], ◌∷◌, ◌++◌, codes, decimal}
use Rattle.std.specs.List.{list_any}

-- The difference in hundredths of a percent of the best-known distance, rounded to the nearest whole number. A
-- half rounds up, since `best` is added before the division by `2 * best`.
abbrev pub hundredths : ℕ → ℕ → ℕ
hundredths difference best = (20000 * difference + best) / (2 * best)

-- the two decimals of a percentage, after a point, for a number of hundredths below 100
abbrev pub places_text : ℕ → List ℕ
places_text n = codes "." ++ decimal (n / 10) ++ decimal (n % 10)

-- a number of hundredths as a percentage with two decimals
abbrev pub percent_text : ℕ → List ℕ
percent_text n = decimal (n / 100) ++ places_text (n % 100)

-- the powers of ten to which a published distance may be rounded, for example 828,937 to 828,940
abbrev pub places : List ℕ
places = 10 ∷ 100 ∷ 1000 ∷ 10000 ∷ 100000 ∷ 1000000 ∷ 10000000 ∷ 100000000 ∷ 1000000000 ∷ []

-- the best-known distance is a multiple of `place`, and the distance that is shorter by `difference` rounds to
-- it, halves upward
abbrev pub is_rounded_to : ℕ → ℕ → ℕ → Bool
is_rounded_to difference best place = (best % place == 0) && nat_le (2 * difference) place

-- the difference rounds to 0 hundredths of a percent, and the shorter distance, rounded like a published one
-- (`is_rounded_to`), is the best-known distance
abbrev pub is_shown_as_zero : ℕ → ℕ → Bool
is_shown_as_zero difference best = (hundredths difference best == 0) && list_any (is_rounded_to difference best) places

-- the gap of a distance that is shorter by `difference`: negative, even as -0.00, unless it is shown as 0.00
-- (`is_shown_as_zero`)
abbrev pub shorter_text : ℕ → ℕ → List ℕ
shorter_text difference best = if is_shown_as_zero difference best then codes " gap 0.00" else codes " gap -" ++ percent_text (hundredths difference best)

-- the gap between a distance and the best-known one in percent, with two decimals
abbrev pub gap_text : ℕ → ℕ → List ℕ
gap_text distance best =
    if nat_lt distance best then shorter_text (best - distance) best else codes " gap " ++ percent_text (hundredths (distance - best) best)

-- the difference between the numbers of vehicles, with its sign
abbrev pub vehicles_text : ℕ → ℕ → List ℕ
vehicles_text vehicles best = if nat_lt vehicles best then codes " vehicles -" ++ decimal (best - vehicles) else codes " vehicles +" ++ decimal (vehicles - best)
