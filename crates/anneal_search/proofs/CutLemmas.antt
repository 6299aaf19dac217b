-- Positions of strings
use Rattle.std.proofs.Common.{◌≡◌, ℕ, ◌+◌, ◌-◌, ◌<◌, ◌≤◌, ◌^◌, ◌==◌, ◌&&◌, Bool, true, false, cond, refl, nat_lt, nat_le, arith}
use Rattle.std.specs.Prelude.{min}
use Rattle.std.proofs.lemmas.Bool.{and_parts, leb-true, ltb-true}
use Rattle.std.proofs.lemmas.Nat.{mul-le}
use Rattle.anneal_search.specs.Draws.{pick, rest}
use Rattle.anneal_search.specs.Strings.{placed_cut}
use Rattle.anneal_search.specs.StringLaws.{LiesAround, StringsLieAround}

pick_below : (w m : ℕ) → w < 2 ^ 32 → 0 < m → pick w m < m
pick_below w m low some = omega (arith, mul-le (w + 1) m (2 ^ 32) m (omega arith) (omega arith))

rest_below : (w m : ℕ) → rest w m < 2 ^ 32
rest_below w m = omega arith

module _ (w n q taken : ℕ) (low : w < 2 ^ 32) (within : q < n) (some : 1 ≤ taken) where
  whole_lies : taken ≤ n → LiesAround taken n q (placed_cut w n q taken false)
  whole_lies fits =
      let places = min q (n - taken) - (q + 1 - taken) + 1 in
      let first = pick_below w (min q (n - taken) - (q + 1 - taken) + 1) low (omega arith) in
      record { from = omega arith; to = omega arith; within = omega arith; few = omega arith; kept = tt }

  split_lies : 2 ≤ taken → taken < n → LiesAround taken n q (placed_cut w n q taken true)
  split_lies two less =
      let first = pick_below w (min q (n - (taken + 1)) - (q + 1 - (taken + 1)) + 1) low (omega arith) in
      let inner = pick_below (rest w (min q (n - (taken + 1)) - (q + 1 - (taken + 1)) + 1)) (taken - 1) (rest_below w (min q (n - (taken + 1)) - (q + 1 - (taken + 1)) + 1)) (omega arith) in
      record { from = omega arith; to = omega arith; within = omega arith; few = omega arith; kept = (omega arith, omega arith) }

  either_lies : (keeps : Bool) → 2 ≤ taken → taken < n → LiesAround taken n q (placed_cut w n q taken keeps)
  either_lies true two less = split_lies two less
  either_lies false two less = whole_lies (omega arith)

fewer : (most taken n q : ℕ) → taken ≤ most → (cut : _) → LiesAround taken n q cut → LiesAround most n q cut
fewer most taken n q le cut lies = record { from = lies.from; to = lies.to; within = lies.within; few = omega (arith, lies.few); kept = lies.kept }

pub strings_lie_around : StringsLieAround
strings_lie_around most w n q low some within = by (nat_le 2 taken && nat_lt taken n) refl
  where
    taken : ℕ
    taken = 1 + pick w (min n most)

    by : (b : Bool) → (nat_le 2 (1 + pick w (min n most)) && nat_lt (1 + pick w (min n most)) n) ≡ b
        → LiesAround most n q (cond b (placed_cut (rest (rest w (min n most)) 2) n q (1 + pick w (min n most)) (pick (rest w (min n most)) 2 == 1))
        (placed_cut (rest w (min n most)) n q (1 + pick w (min n most)) false))
    by true is =
        let parts = and_parts (nat_le 2 (1 + pick w (min n most))) (nat_lt (1 + pick w (min n most)) n) is in
        let two = leb-true 2 (1 + pick w (min n most)) parts.0 in
        let less = ltb-true (1 + pick w (min n most)) n parts.1 in
        let few = pick_below w (min n most) low (omega arith) in
        fewer most (1 + pick w (min n most)) n q (omega arith) _
        (either_lies (rest (rest w (min n most)) 2) n q (1 + pick w (min n most)) (rest_below (rest w (min n most)) 2) within (omega arith) (pick (rest w (min n most)) 2 == 1) two less)
    by false is =
        let few = pick_below w (min n most) low (omega arith) in
        fewer most (1 + pick w (min n most)) n q (omega arith) _ (whole_lies (rest w (min n most)) n q (1 + pick w (min n most)) (rest_below w (min n most)) within (omega arith) (omega arith))
