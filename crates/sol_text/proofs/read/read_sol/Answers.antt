-- The result of the lines, one after the other, is the only solution that the text spells, or else the text's
-- first fault.
use Rattle.std.proofs.Common.{◌≡◌, ◌∙◌, ◌⊎◌, ℕ, List, Result, Ok, Err, false, sym, inl, inr, IfOk, IfErr, ap, subst}
use Rattle.text_lines.specs.Lines.{lines_of}
use Rattle.sol_text.specs.Reading.{Returns, reading, solution_of, with_cost}
use Rattle.sol_text.specs.Faults.{IsFirstFault, IsUnlessOutOfMemory, Spells, out_of_memory}
use Rattle.sol_text.specs.declared.faults.SolFault.{SolFault}
use Rattle.sol_text.specs.declared.read.PrintedRoutes.{PrintedRoutes}
use Rattle.plan_types.specs.declared.solutions.Solution.{Solution}
use Rattle.sol_text.proofs.TextLemmas.{spells_from_reported, first_from_reported}
use Rattle.sol_text.proofs.read.read_sol.Goals as goal

-- the result of reading, in terms of the definitions of faults
module _ (text : List ℕ) where
  abbrev IsRead : Result Solution SolFault → Type 0
  IsRead r = Returns r (solution_of (reading false 0 (lines_of text)))

  is_read : (r : Result PrintedRoutes SolFault) → Returns r (reading false 0 (lines_of text)) → IsRead (solution_of r)
  is_read (Ok p) gives = by (with_cost p.routes p.cost) (ap solution_of gives)
    where
      by : (s : Result Solution SolFault) → solution_of (reading false 0 (lines_of text)) ≡ s → IsRead s
      by (Ok s) is = is
      by (Err f) is = inr is
  is_read (Err f) (inl memory) = inl memory
  is_read (Err f) (inr is) = inr (ap solution_of is)

  found : (r : Result Solution SolFault) → IsRead r → IfOk r (Spells text)
  found (Ok s) gives = spells_from_reported text s gives
  found (Err f) gives = tt

  fault : (r : Result Solution SolFault) → IsRead r → IfErr r (λ f. (f ≡ out_of_memory) ⊎ IsFirstFault text f)
  fault (Ok s) gives = tt
  fault (Err f) (inl memory) = inl memory
  fault (Err f) (inr is) = inr (first_from_reported text f is)

  only : (r : Result Solution SolFault) → IsRead r → (s : Solution) → Spells text s → IsUnlessOutOfMemory r s
  only (Ok read) gives s spells = (spells_from_reported text read gives).1 ∙ sym spells.1
  only (Err f) (inl memory) s spells = memory
  only (Err f) (inr is) s spells = absurd (spells.0 f.line f.kind (first_from_reported text f is).0)

pub returns-clause-found : goal.returns-clause-found
returns-clause-found c =
    let text = c.args.text.now in
    subst (λ r. IfOk r (Spells text)) (sym c.solution_of.ensures) (found text _ (is_read text c.read_lines.result c.read_lines.ensures))

pub returns-clause-only : goal.returns-clause-only
returns-clause-only c =
    let text = c.args.text.now in
    subst (λ r. (s : Solution) → Spells text s → IsUnlessOutOfMemory r s) (sym c.solution_of.ensures)
    (only text _ (is_read text c.read_lines.result c.read_lines.ensures))

pub returns-clause-fault : goal.returns-clause-fault
returns-clause-fault c =
    let text = c.args.text.now in
    subst (λ r. IfErr r (λ f. (f ≡ out_of_memory) ⊎ IsFirstFault text f)) (sym c.solution_of.ensures)
    (fault text _ (is_read text c.read_lines.result c.read_lines.ensures))
