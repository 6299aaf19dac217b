-- A distance as it is published, in the unit of an instance's text and with or without decimals.
use Rattle.std.specs.Prelude.{ℕ, ◌+◌, ◌*◌, ◌^◌, ◌==◌, Bool, List, length, take, drop, Option, Some, None, if◌then◌else◌, nat_lt, option_and_then, slice_index}
use Rattle.std.specs.List.{position_or_len}
use Rattle.text_lines.specs.Numbers.{below, digits_of, magnitude, number_of}
use Rattle.instance_read.specs.declared.scales.Scale.{Scale}
use Rattle.instance_read.specs.declared.scales.Scale.TheVariants.{One, Ten, Hundred, Thousand}
use Rattle.instance_read.specs.Scales.{times}

-- the value of the last of this many decimals, in the unit of the scaled distance; there are at most as many
-- decimals as the scale has zeros
abbrev pub decimal_unit : Scale → ℕ → Option ℕ
decimal_unit One decimals = None
decimal_unit Ten decimals = if decimals == 1 then Some 1 else None
decimal_unit Hundred decimals = if decimals == 1 then Some 10 else if decimals == 2 then Some 1 else None
decimal_unit Thousand decimals = if decimals == 1 then Some 100 else if decimals == 2 then Some 10 else if decimals == 3 then Some 1 else None

-- the number that a word spells as the cost of a solution does, at most 2^64 - 1
abbrev pub whole_distance : List ℕ → Option ℕ
whole_distance word = below (2 ^ 64) (option_and_then magnitude (number_of word))

abbrev pub scaled_sum : Scale → ℕ → ℕ → Option ℕ
scaled_sum scale whole more = below (2 ^ 64) (Some (times scale whole + more))

-- the value of these decimals, in the unit of the scaled distance
abbrev pub fraction_in : Scale → List ℕ → Option ℕ
fraction_in scale decimals =
    option_and_then (λ unit. option_and_then (λ digits. below (2 ^ 32) (Some (digits * unit))) (below (2 ^ 32) (digits_of decimals))) (decimal_unit scale (length decimals))

abbrev pub is_point : ℕ → Bool
is_point b = b == 46

-- the word has a minus sign
abbrev pub has_minus : List ℕ → Bool
has_minus word = slice_index word 0 == 45

-- a distance with decimals, times the scale
abbrev pub decimal_distance : Scale → List ℕ → Option ℕ
decimal_distance scale word =
    let point = position_or_len is_point word in
    if has_minus word then None
    else if nat_lt point (length word)
    then option_and_then (λ whole. option_and_then (scaled_sum scale whole) (fraction_in scale (drop (point + 1) word))) (whole_distance (take point word))
    else None

abbrev pub distance_or_decimals : Scale → List ℕ → Option ℕ → Option ℕ
distance_or_decimals scale word None = decimal_distance scale word
distance_or_decimals scale word (Some whole) = scaled_sum scale whole 0

-- the distance that a word spells, times the scale
abbrev pub published_distance : Scale → List ℕ → Option ℕ
published_distance scale word = distance_or_decimals scale word (whole_distance word)
