-- The routes of the lines, one after the other, are the only routes that the text spells, or else the result is
-- their first fault.
use Rattle.std.proofs.Common.{◌≡◌, ◌∙◌, ◌⊎◌, ℕ, List, Result, Ok, Err, true, sym, inl, inr, IfOk, IfErr, subst}
use Rattle.text_lines.specs.Lines.{lines_of}
use Rattle.sol_text.specs.Reading.{Returns, reading, routes_of}
use Rattle.sol_text.specs.Faults.{IsFirstRoutesFault, IsUnlessOutOfMemory, SpellsRoutes, out_of_memory}
use Rattle.sol_text.specs.declared.faults.SolFault.{SolFault}
use Rattle.sol_text.specs.declared.read.PrintedRoutes.{PrintedRoutes}
use Rattle.sol_text.proofs.TextLemmas.{first_routes_fault_from_reported, routes_from_reported}
use Rattle.sol_text.proofs.read.read_routes.Goals as goal

module _ (text : List ℕ) where
  abbrev IsRead : Result PrintedRoutes SolFault → Type 0
  IsRead r = Returns r (reading true 0 (lines_of text))

  found : (r : Result PrintedRoutes SolFault) → IsRead r → IfOk (routes_of r) (SpellsRoutes text)
  found (Ok p) gives = routes_from_reported text p gives
  found (Err f) gives = tt

  fault : (r : Result PrintedRoutes SolFault) → IsRead r → IfErr (routes_of r) (λ f. (f ≡ out_of_memory) ⊎ IsFirstRoutesFault text f)
  fault (Ok p) gives = tt
  fault (Err f) (inl memory) = inl memory
  fault (Err f) (inr is) = inr (first_routes_fault_from_reported text f is)

  only : (r : Result PrintedRoutes SolFault) → IsRead r → (routes : List (List ℕ)) → SpellsRoutes text routes → IsUnlessOutOfMemory (routes_of r) routes
  only (Ok p) gives routes spells = (routes_from_reported text p gives).1 ∙ sym spells.1
  only (Err f) (inl memory) routes spells = memory
  only (Err f) (inr is) routes spells = absurd (spells.0 f.line f.kind (first_routes_fault_from_reported text f is).0)

pub returns-clause-found : goal.returns-clause-found
returns-clause-found c =
    let text = c.args.text.now in
    subst (λ r. IfOk r (SpellsRoutes text)) (sym c.routes_of.ensures) (found text c.read_lines.result c.read_lines.ensures)

pub returns-clause-only : goal.returns-clause-only
returns-clause-only c =
    let text = c.args.text.now in
    subst (λ r. (routes : List (List ℕ)) → SpellsRoutes text routes → IsUnlessOutOfMemory r routes) (sym c.routes_of.ensures)
    (only text c.read_lines.result c.read_lines.ensures)

pub returns-clause-fault : goal.returns-clause-fault
returns-clause-fault c =
    let text = c.args.text.now in
    subst (λ r. IfErr r (λ f. (f ≡ out_of_memory) ⊎ IsFirstRoutesFault text f)) (sym c.routes_of.ensures)
    (fault text c.read_lines.result c.read_lines.ensures)
