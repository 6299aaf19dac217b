-- The names of refusals
use Rattle.std.specs.Prelude.{ℕ, List, codes}
use Rattle.command_types.specs.declared.refusals.Refusal.{Refusal}
use Rattle.command_types.specs.declared.refusals.Refusal.TheVariants.{
  NoInstance,
  Range,
  NoSuchRequest,
  Pinned,
  NoSuchPlace,
  NotARoute,
  NumbersSpent,
  StepsSpent,
  NotAPlan,
  Dearer,
  OutOfMemory,
}

abbrev pub refusal_name : Refusal → List ℕ
refusal_name NoInstance = codes "NoInstance"
refusal_name Range = codes "Range"
refusal_name NoSuchRequest = codes "NoSuchRequest"
refusal_name Pinned = codes "Pinned"
refusal_name NoSuchPlace = codes "NoSuchPlace"
refusal_name NotARoute = codes "NotARoute"
refusal_name NumbersSpent = codes "NumbersSpent"
refusal_name StepsSpent = codes "StepsSpent"
refusal_name NotAPlan = codes "NotAPlan"
refusal_name Dearer = codes "Dearer"
refusal_name OutOfMemory = codes "OutOfMemory"
