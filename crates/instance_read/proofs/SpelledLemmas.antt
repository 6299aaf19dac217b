-- A text of any format spells at most one problem, and none if it has a fault.
use Rattle.std.proofs.Common.{◌≡◌, ◌∙◌, ℕ, List, ◌∷◌, sym, ap}
use Rattle.plan_types.specs.Instance.{Instance}
use Rattle.instance_read.specs.Faults.{HasNoFault}
use Rattle.instance_read.specs.Lilim.{problem_of}
use Rattle.instance_read.specs.Readings.{InstanceFault, LayoutFault, SpellsInstance, SpellsLayout}
use Rattle.instance_read.specs.Rows.{rows_of}
use Rattle.instance_read.specs.declared.formats.Format.{Format}
use Rattle.instance_read.specs.declared.formats.Layout.{Layout}
use Rattle.instance_read.specs.declared.formats.Layout.TheVariants.{LiLim, Solomon, Vrp}
use Rattle.instance_read.specs.declared.scales.Scale.{Scale}
use Rattle.instance_read.proofs.ReadableLemmas.{same_singles}

layout_once : (layout : Layout) (scale : Scale) (text : List ℕ) (p q : Instance) → SpellsLayout layout scale text p → SpellsLayout layout scale text q → p ≡ q
layout_once Vrp scale text p q a b = a.1 ∙ sym b.1
layout_once Solomon scale text p q a b = same_singles scale (rows_of text) p q a.1 b.1
layout_once LiLim scale text p q a b =
    let rows : a.1 ∷ a.2 ∷ a.3 ≡ b.1 ∷ b.2 ∷ b.3 = sym a.4 ∙ b.4 in
    let header : a.1 ≡ b.1 = cc in
    let depot : a.2 ≡ b.2 = cc in
    let customers : a.3 ≡ b.3 = cc in
    a.5 ∙ (ap (λ h. problem_of scale h a.2 a.3) header ∙ (ap (λ d. problem_of scale b.1 d a.3) depot ∙ ap (λ c. problem_of scale b.1 b.2 c) customers)) ∙ sym b.5

pub problem_once : (format : Format) (text : List ℕ) (p q : Instance) → SpellsInstance format text p → SpellsInstance format text q → p ≡ q
problem_once format text p q a b = layout_once format.layout format.scale text p q a b

layout_clean : (layout : Layout) (scale : Scale) (text : List ℕ) (p : Instance) → SpellsLayout layout scale text p → HasNoFault (LayoutFault layout scale text)
layout_clean LiLim scale text p spelled = spelled.0
layout_clean Solomon scale text p spelled = spelled.0
layout_clean Vrp scale text p spelled = spelled.0

pub no_fault : (format : Format) (text : List ℕ) (p : Instance) → SpellsInstance format text p → HasNoFault (InstanceFault format text)
no_fault format text p spelled = layout_clean format.layout format.scale text p spelled
