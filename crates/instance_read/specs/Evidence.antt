-- The details of a fault, in any format.
use Rattle.std.specs.Prelude.{ℕ, List}
use Rattle.instance_read.specs.LilimEvidence.{lilim_evidence}
use Rattle.instance_read.specs.SolomonEvidence.{solomon_evidence}
use Rattle.instance_read.specs.VrpEvidence.{vrp_evidence}
use Rattle.instance_read.specs.declared.evidence.Evidence.{Evidence}
use Rattle.instance_read.specs.declared.faults.ReadFault.{ReadFault}
use Rattle.instance_read.specs.declared.formats.Format.{Format}
use Rattle.instance_read.specs.declared.formats.Layout.{Layout}
use Rattle.instance_read.specs.declared.formats.Layout.TheVariants.{LiLim, Solomon, Vrp}
use Rattle.instance_read.specs.declared.scales.Scale.{Scale}

abbrev pub layout_evidence : Layout → Scale → List ℕ → ReadFault → Evidence
layout_evidence LiLim scale text fault = lilim_evidence scale text fault
layout_evidence Solomon scale text fault = solomon_evidence scale text fault
layout_evidence Vrp scale text fault = vrp_evidence scale text fault

abbrev pub evidence_of : Format → List ℕ → ReadFault → Evidence
evidence_of format text fault = layout_evidence format.layout format.scale text fault
