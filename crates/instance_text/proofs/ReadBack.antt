-- The text of a problem, in the format for it, spells the problem.
use Rattle.std.proofs.Common.{◌≡◌, Bool, true, false, refl, sym, ap, subst, ◌∙◌}
use Rattle.std.specs.Prelude.{◌||◌, if◌then◌else◌}
use Rattle.plan_types.specs.declared.requests.Kind.{Kind}
use Rattle.plan_types.specs.declared.requests.Kind.TheVariants.{LiLim, Vrp}
use Rattle.instance_read.specs.Readings.{SpellsLayout}
use Rattle.instance_read.specs.declared.formats.Layout.{Layout}
use Rattle.instance_read.specs.declared.scales.Scale.TheVariants.{One}
use Rattle.instance_read.specs.declared.formats.Layout.TheVariants as layouts
use Rattle.instance_text.specs.Formats.{are_pairs, are_singles, is_expressible, layout_for}
use Rattle.instance_text.specs.ReadBack.{TextsAreReadBack, read_by}
use Rattle.instance_text.specs.Texts.{lines_by, lines_text}
use Rattle.instance_text.proofs.LilimLemmas.{lilim_read_back}
use Rattle.instance_text.proofs.SolomonLemmas.{solomon_read_back}
use Rattle.instance_text.proofs.VrpLemmas.{vrp_read_back}

pub texts_are_read_back : TextsAreReadBack
texts_are_read_back p valid said = by p.kind refl
  where
    Reads : Layout → Kind → Type 0
    Reads l k = SpellsLayout l One (lines_text (lines_by l p)) (read_by k p)

    Said : Kind → Type 0
    Said k = Reads (layout_for k p) k

    said_by : (k : Kind) → p.kind ≡ k → is_expressible k p ≡ true
    said_by k is = sym (ap (λ j. is_expressible j p) is) ∙ said

    with_windows : p.kind ≡ LiLim → (b : Bool) → are_singles p.requests ≡ b → Reads (if b then layouts.Solomon else layouts.LiLim) LiLim
    with_windows is true e = solomon_read_back p valid is e
    with_windows is false e = lilim_read_back p valid is (sym (ap (λ b. b || are_pairs p.requests) e) ∙ said_by LiLim is)

    by : (k : Kind) → p.kind ≡ k → Said p.kind
    by LiLim is = subst Said (sym is) (with_windows is (are_singles p.requests) refl)
    by Vrp is = subst Said (sym is) (vrp_read_back p valid is (said_by Vrp is))
