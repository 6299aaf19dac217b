-- The words between the numbers.
use Rattle.std.specs.Prelude.{ℕ, List, ◌++◌, codes, decimal}
use Rattle.request_explanation.specs.declared.words.Word.{Word}
use Rattle.request_explanation.specs.declared.words.Word.TheVariants as the

unfoldable pub word : Word → List ℕ
word the.AloneStop = codes "alone: stop "
word the.AloneBack = codes "alone: would be back at "
word the.AloneFits = codes "alone: a vehicle can serve it\n"
word the.Needs = codes " needs "
word the.VehicleTakes = codes ", a vehicle takes "
word the.StartsAt = codes " starts at "
word the.WouldStartAt = codes " would start at "
word the.Latest = codes ", latest "
word the.Vehicle = codes "vehicle "
word the.Stop = codes ": stop "
word the.WouldStart = codes " would start "
word the.Back = codes ": would be back "
word the.Late = codes " late"
word the.AfterStop = codes ": behind stop "
word the.WouldCarry = codes " it would carry "
word the.TooMuch = codes " too much"
word the.FitsAtPlace = codes ": fits at place "
word the.FitsAtPlaces = codes ": fits at places "
word the.And = codes " and "
word the.AtPlace = codes " at place "
word the.Fleet = codes "fleet: "
word the.Of = codes " of "
word the.VehiclesUsed = codes " vehicles are used"
word the.Why = codes "why "
word the.Colon = codes ": "
word the.WhyTab = codes "why\t"
word the.Tab = codes "\t"

-- words, and a number after them
abbrev pub word_and_number : Word → ℕ → List ℕ
word_and_number w n = word w ++ decimal n
