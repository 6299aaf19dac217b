-- The text has the routes of its lines, one after the other, or else the result is their first fault.
use Rattle.std.proofs.Common.{◌≡◌, ◌⊎◌, ℕ, List, Result, Ok, Err, false, inl, inr, IfOk, IfErr}
use Rattle.text_lines.specs.Lines.{lines_of}
use Rattle.sol_text.specs.Reading.{Returns, reading}
use Rattle.sol_text.specs.Faults.{HasFaultyRoutes, HasPrintedCost, out_of_memory}
use Rattle.sol_text.specs.declared.faults.SolFault.{SolFault}
use Rattle.sol_text.specs.declared.read.PrintedRoutes.{PrintedRoutes}
use Rattle.sol_text.proofs.TextLemmas.{faulty_from_reported, printed_from_reported}
use Rattle.sol_text.proofs.read.read_printed_routes.Goals as goal

module _ (text : List ℕ) where
  abbrev IsRead : Result PrintedRoutes SolFault → Type 0
  IsRead r = Returns r (reading false 0 (lines_of text))

  found : (r : Result PrintedRoutes SolFault) → IsRead r → IfOk r (λ read. HasPrintedCost text read.routes read.cost)
  found (Ok p) gives = printed_from_reported text p gives
  found (Err f) gives = tt

  fault : (r : Result PrintedRoutes SolFault) → IsRead r → IfErr r (λ f. (f ≡ out_of_memory) ⊎ HasFaultyRoutes text f)
  fault (Ok p) gives = tt
  fault (Err f) (inl memory) = inl memory
  fault (Err f) (inr is) = inr (faulty_from_reported text f is)

pub returns-clause-found : goal.returns-clause-found
returns-clause-found c = found c.args.text.now c.read_lines.result c.read_lines.ensures

pub returns-clause-fault : goal.returns-clause-fault
returns-clause-fault c = fault c.args.text.now c.read_lines.result c.read_lines.ensures
