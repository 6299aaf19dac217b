-- The result for a `.vrp` text whose lines are read.
use Rattle.std.proofs.Common.{◌≡◌, ℕ, ◌+◌, true, false, List, length, None, inr, sym, ap, subst, ◌∙◌}
use Rattle.std.specs.Prelude.{is_some}
use Rattle.std.specs.Option.{option_map_or}
use Rattle.text_lines.specs.Lines.{lines_of}
use Rattle.plan_types.specs.Instance.{Instance}
use Rattle.instance_read.specs.declared.faults.ReadFault.{ReadFault}
use Rattle.instance_read.specs.declared.faults.ReadFaultKind.TheVariants.{MissingKey, Truncated}
use Rattle.instance_read.specs.declared.scales.Scale.{Scale}
use Rattle.instance_read.specs.declared.vrp_draft.VrpDraft.{VrpDraft}
use Rattle.instance_read.specs.declared.vrp_lines.Section.{Section}
use Rattle.instance_read.specs.declared.vrp_lines.Section.TheVariants.{Outside}
use Rattle.instance_read.specs.Drafts.{IsDraft}
use Rattle.instance_read.specs.Faults.{IsFirstFault, ReportsFirstFault}
use Rattle.instance_read.specs.Rows.{Row, rows_of}
use Rattle.instance_read.specs.Vrp.{SpellsVrp, VrpFault, is_inside}
use Rattle.instance_read.specs.VrpLines.{end_from, placed_of}
use Rattle.instance_read.specs.DraftLines.{HasNoLineFault, IsDraftOfLines, ReportsLine, draft_lacks_key, drafted_problem, placed_rows}
use Rattle.instance_read.proofs.VrpFaultLemmas.{has_no_fault, missing_first, tells_line, truncated_first}
use Rattle.instance_read.proofs.VrpProblemLemmas.{end_is, is_announced, lacks_is, problem_is}

module _ (scale : Scale) where
  -- the result of reading these lines to their end
  abbrev pub IsRead : List Row → VrpDraft → Section → Type 0
  IsRead rows draft place =
      IsDraftOfLines (placed_rows rows) draft × IsDraft draft × (draft.scale ≡ scale) × HasNoLineFault scale (placed_rows rows) × (place ≡ end_from None Outside rows)

  pub tells_first : (text : List ℕ) (rows : List Row) (f : ReadFault) → rows ≡ rows_of text → ReportsLine scale (placed_rows rows) f → ReportsFirstFault (VrpFault scale text) f
  tells_first text rows f is h = let P : List Row → Type 0 = λ r. ReportsLine scale (placed_rows r) f in tells_line scale text f (subst P is h)

  module _ (text : List ℕ) (rows : List Row) (draft : VrpDraft) (place : Section) (is : rows ≡ rows_of text) (read : IsRead rows draft place) where
    here : IsRead (rows_of text) draft place
    here = let P : List Row → Type 0 = λ r. IsRead r draft place in subst P is read

    ends : is_inside place ≡ is_inside (end_from None Outside (rows_of text))
    ends = ap is_inside here.4

    pub tells_truncated : (line : ℕ) → is_inside place ≡ true → line ≡ length (lines_of text) + 1 → ReportsFirstFault (VrpFault scale text) (record { line = line; kind = Truncated })
    tells_truncated line inside at =
        let P : ℕ → Type 0 = λ n. IsFirstFault (VrpFault scale text) (record { line = n; kind = Truncated }) in
        inr (subst P (sym at) (truncated_first scale text here.3 (sym ends ∙ inside)))

    pub tells_missing : (line : ℕ) → is_inside place ≡ false → draft_lacks_key draft ≡ true → line ≡ option_map_or (λ n. n) draft.end (length (lines_of text) + 1)
        → ReportsFirstFault (VrpFault scale text) (record { line = line; kind = MissingKey })
    tells_missing line outside lacks at =
        let P : ℕ → Type 0 = λ n. IsFirstFault (VrpFault scale text) (record { line = n; kind = MissingKey }) in
        inr (subst P (sym (at ∙ end_is (placed_of text) draft here.0 (length (lines_of text) + 1)))
        (missing_first scale text here.3 (sym ends ∙ outside) (sym (lacks_is (placed_of text) draft here.0) ∙ lacks)))

    pub announced : draft_lacks_key draft ≡ false → is_some draft.nodes ≡ true
    announced has = is_announced (placed_of text) draft here.0 has

    pub spells_problem : is_inside place ≡ false → draft_lacks_key draft ≡ false → (p : Instance) → p ≡ drafted_problem draft → SpellsVrp scale text p
    spells_problem outside has p same =
        (has_no_fault scale text here.3 (sym ends ∙ outside) (sym (lacks_is (placed_of text) draft here.0) ∙ has), same ∙ problem_is (placed_of text) draft here.0 scale here.2)
