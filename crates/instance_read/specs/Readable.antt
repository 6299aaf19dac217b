-- Each text has exactly one reading: it spells one problem, or one fault is its first.
use Rattle.std.specs.Prelude.{◌≡◌, ◌⊎◌, ℕ, List}
use Rattle.plan_types.specs.Instance.{Instance}
use Rattle.instance_read.specs.declared.faults.ReadFault.{ReadFault}
use Rattle.instance_read.specs.declared.faults.ReadFaultKind.{ReadFaultKind}
use Rattle.instance_read.specs.Faults.{Class, IsFirstFault}
use Rattle.instance_read.specs.Readings.{InstanceFault, SpellsInstance}
use Rattle.instance_read.specs.declared.formats.Format.{Format}

-- the text spells a problem, or there is a first fault, in the sense of `Fault`
abbrev pub SpellsOrFails : (Instance → Type 0) → (Class → ℕ → ReadFaultKind → Type 0) → Type 0
SpellsOrFails Spells Fault = ((problem : Instance) × Spells problem) ⊎ ((fault : ReadFault) × IsFirstFault Fault fault)

-- at most one problem is spelled, and at most one fault is the first
pub record IsUniqueReading (Spells : Instance → Type 0) (Fault : Class → ℕ → ReadFaultKind → Type 0) : Type 0 where
  pub problems : (problem other : Instance) → Spells problem → Spells other → problem ≡ other
  pub faults : (fault other : ReadFault) → IsFirstFault Fault fault → IsFirstFault Fault other → fault ≡ other
  pub either : (problem : Instance) (fault : ReadFault) → Spells problem → IsFirstFault Fault fault → ⊥

-- law: every text spells a problem or has a first fault, in any format
abbrev pub TextsHaveAReading : Type 0
TextsHaveAReading = (format : Format) (text : List ℕ) → SpellsOrFails (SpellsInstance format text) (InstanceFault format text)

abbrev pub ReadingsAreUnique : Type 0
ReadingsAreUnique = (format : Format) (text : List ℕ) → IsUniqueReading (SpellsInstance format text) (InstanceFault format text)
