-- Reading line by line.
use Rattle.std.proofs.Common.{◌≡◌, ℕ, ◌+◌, ◌≤◌, Bool, false, List, [], ◌∷◌, ◌++◌, length, Result, Ok, Err, refl, sym, ap, ◌∙◌, arith}
use Rattle.std.proofs.lemmas.List.{append_assoc, append-nil}
use Rattle.sol_text.specs.Reading.{line_of, reading, with_routes, prepend_line}
use Rattle.sol_text.specs.declared.faults.SolFault.{SolFault}
use Rattle.sol_text.specs.declared.faults.SolFaultKind.TheVariants.{NoCost}
use Rattle.sol_text.specs.declared.lines.Line.{Line}
use Rattle.sol_text.specs.declared.lines.Line.TheVariants.{Skipped, Route, Cost}
use Rattle.sol_text.specs.declared.read.PrintedRoutes.{PrintedRoutes}

with_routes-twice : (rs : List (List ℕ)) (r : List ℕ) (x : Result PrintedRoutes SolFault) → with_routes rs (with_routes (r ∷ []) x) ≡ with_routes (rs ++ r ∷ []) x
with_routes-twice rs r (Ok p) = ap (λ all. Ok (record p { routes = all })) (sym (append_assoc rs (r ∷ []) p.routes))
with_routes-twice rs r (Err f) = refl

-- the next line and the lines after it have the result that all lines have
module _ (all : Result PrintedRoutes SolFault) (rs : List (List ℕ)) (in_head : Bool) (n : ℕ) (left : List (List ℕ)) (line : List ℕ) (rest : List (List ℕ))
    (next : left ≡ line ∷ rest) (said : all ≡ with_routes rs (reading in_head n left)) where
  abbrev after : Result Line SolFault → Result PrintedRoutes SolFault
  after l = with_routes rs (prepend_line l in_head (λ still. reading still (n + 1) rest))

  said_next : all ≡ after (line_of in_head (n + 1) line)
  unfolding reading
  said_next = said ∙ ap (λ ls. with_routes rs (reading in_head n ls)) next

  pub said-skipped : line_of in_head (n + 1) line ≡ Ok Skipped → all ≡ with_routes rs (reading in_head (n + 1) rest)
  said-skipped is = said_next ∙ ap after is

  pub said-route : (r : List ℕ) → line_of in_head (n + 1) line ≡ Ok (Route r) → all ≡ with_routes (rs ++ r ∷ []) (reading false (n + 1) rest)
  said-route r is = said_next ∙ (ap after is ∙ with_routes-twice rs r (reading false (n + 1) rest))

  pub said-cost : (c : Result ℕ SolFault) → line_of in_head (n + 1) line ≡ Ok (Cost c) → all ≡ Ok (record { routes = rs; cost = c })
  said-cost c is = said_next ∙ (ap after is ∙ ap (λ (all : List (List ℕ)). Ok (record { routes = all; cost = c })) (append-nil rs))

  pub said-err : (f : SolFault) → line_of in_head (n + 1) line ≡ Err f → all ≡ Err f
  said-err f is = said_next ∙ ap after is

  pub fewer : (most : ℕ) → n + length left ≤ most → n + 1 + length rest ≤ most
  fewer most few = omega (arith, ap length next)

-- the case in which no line is left
pub said-end : (all : Result PrintedRoutes SolFault) (rs : List (List ℕ)) (in_head : Bool) (n : ℕ) (left : List (List ℕ)) → left ≡ []
    → all ≡ with_routes rs (reading in_head n left) → all ≡ Ok (record { routes = rs; cost = Err (record { line = n + 1; kind = NoCost }) })
unfolding reading
said-end all rs in_head n left none said =
    said
    ∙ (ap (λ ls. with_routes rs (reading in_head n ls)) none
    ∙ ap (λ (all : List (List ℕ)). Ok (record { routes = all; cost = Err (record { line = n + 1; kind = NoCost }) })) (append-nil rs))
