-- The problem that an instance text spells.
use Rattle.std.specs.Prelude.{◌≡◌, ◌⊎◌, ℕ, List, Result, Ok, Err}
use Rattle.plan_types.specs.Instance.{Instance}
use Rattle.instance_read.specs.Faults.{Class, IsFirstFault, out_of_memory}
use Rattle.instance_read.specs.Lilim.{LilimFault, SpellsLilim}
use Rattle.instance_read.specs.Solomon.{SolomonFault, SpellsSolomon}
use Rattle.instance_read.specs.Vrp.{SpellsVrp, VrpFault}
use Rattle.instance_read.specs.declared.faults.ReadFault.{ReadFault}
use Rattle.instance_read.specs.declared.faults.ReadFaultKind.{ReadFaultKind}
use Rattle.instance_read.specs.declared.formats.Format.{Format}
use Rattle.instance_read.specs.declared.formats.Layout.{Layout}
use Rattle.instance_read.specs.declared.formats.Layout.TheVariants.{LiLim, Solomon, Vrp}
use Rattle.instance_read.specs.declared.scales.Scale.{Scale}

-- a fault of a text with this layout and this scale
abbrev pub LayoutFault : Layout → Scale → List ℕ → Class → ℕ → ReadFaultKind → Type 0
LayoutFault LiLim scale text = LilimFault scale text
LayoutFault Solomon scale text = SolomonFault scale text
LayoutFault Vrp scale text = VrpFault scale text

-- a fault of a text in this format
abbrev pub InstanceFault : Format → List ℕ → Class → ℕ → ReadFaultKind → Type 0
InstanceFault format text = LayoutFault format.layout format.scale text

-- the problem that the text spells with this layout and this scale
abbrev pub SpellsLayout : Layout → Scale → List ℕ → Instance → Type 0
SpellsLayout LiLim scale text = SpellsLilim scale text
SpellsLayout Solomon scale text = SpellsSolomon scale text
SpellsLayout Vrp scale text = SpellsVrp scale text

-- the problem that the text spells in this format
abbrev pub SpellsInstance : Format → List ℕ → Instance → Type 0
SpellsInstance format text = SpellsLayout format.layout format.scale text

-- the problem that the text spells, or its first fault
abbrev pub IsReadResult : Format → List ℕ → Result Instance ReadFault → Type 0
IsReadResult format text (Ok p) = SpellsInstance format text p
IsReadResult format text (Err fault) = IsFirstFault (InstanceFault format text) fault

-- a function that returns the problem or the first fault of each text
abbrev pub Reading : Type 0
Reading = Format → List ℕ → Result Instance ReadFault

abbrev pub IsReading : Reading → Type 0
IsReading reading = (format : Format) (text : List ℕ) → IsReadResult format text (reading format text)

-- the result is this one, or memory ran out
abbrev pub IsUnlessOutOfMemory : Result Instance ReadFault → Result Instance ReadFault → Type 0
IsUnlessOutOfMemory result found = (result ≡ found) ⊎ (result ≡ Err out_of_memory)
