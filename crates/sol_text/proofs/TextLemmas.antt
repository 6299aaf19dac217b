-- The result of all lines of a text.
use Rattle.std.proofs.Common.{
  ◌≡◌,
  ◌⊎◌,
  ℕ,
  zero,
  suc,
  ◌+◌,
  ◌≤◌,
  ◌<◌,
  Bool,
  true,
  false,
  not,
  ◌&&◌,
  List,
  [],
  ◌∷◌,
  length,
  take,
  Option,
  Some,
  None,
  Result,
  Ok,
  Err,
  inl,
  inr,
  is_some,
  refl,
  sym,
  ap,
  ◌∙◌,
  subst,
  arith,
  one-add,
}
use Rattle.std.specs.List.{AllByRecursion, before_first, cons_option}
use Rattle.std.specs.Option.{option_and_then}
use Rattle.std.proofs.lemmas.Bool.{both_ways, cases_lt, false≢true}
use Rattle.text_lines.specs.Lines.{lines_of}
use Rattle.text_lines.specs.Words.{is_blank_line}
use Rattle.sol_text.specs.LineShapes.{route_tail, cost_word, is_cost_line, is_route_line}
use Rattle.sol_text.specs.Values.{cost_of, route_in_line, routes_in_lines, first_cost, solution_in_lines}
use Rattle.sol_text.specs.Faults.{
  CostFaultInLines,
  Fault,
  FaultInLines,
  HasFaultyRoutes,
  HasPrintedCost,
  IsFirstFault,
  IsFirstRoutesFault,
  LineCounts,
  RoutesFaultInLines,
  Spells,
  SpellsRoutes,
  is_in_head,
  line_at,
}
use Rattle.sol_text.specs.Reading.{line_of, reading, prepend_line, routes_of, solution_of, with_cost, with_routes}
use Rattle.sol_text.specs.declared.faults.SolFault.{SolFault}
use Rattle.sol_text.specs.declared.faults.SolFaultKind.{SolFaultKind}
use Rattle.sol_text.specs.declared.faults.SolFaultKind.TheVariants.{BadLine, BadNumber, NoCost, OutOfMemory}
use Rattle.sol_text.specs.declared.lines.Line.{Line}
use Rattle.sol_text.specs.declared.lines.Line.TheVariants.{Skipped, Route, Cost}
use Rattle.sol_text.specs.declared.read.PrintedRoutes.{PrintedRoutes}
use Rattle.plan_types.specs.declared.solutions.Solution.{Solution}
use Rattle.sol_text.proofs.FaultLemmas.{
  CostSays,
  Ending,
  Harmless,
  IsOfKind,
  SaysOf,
  bad,
  bad_cost,
  bad_customer,
  is_cost_of_bad,
  line_of_says,
  no_route_from,
  no_word_of_route,
  not_both_numbers,
  number_from_cost,
  number_from_customer,
  number_split,
  route_from,
}

-- ---- the head after a line
-- whether the lines after this one are in the head, by whether this one is
abbrev Goes : Bool → List ℕ → Bool → Type 0
Goes in_head line still =
    (rest : List (List ℕ)) (k : ℕ)
    → ((in_head && is_in_head (line ∷ rest) (suc k)) ≡ false → (still && is_in_head rest k) ≡ false)
    × ((still && is_in_head rest k) ≡ false → (in_head && is_in_head (line ∷ rest) (suc k)) ≡ false)

and_false : (b : Bool) → (b && false) ≡ false
and_false true = refl
and_false false = refl

goes_on : (in_head : Bool) (line : List ℕ) → is_route_line line ≡ false → Goes in_head line in_head
goes_on in_head line other rest k = rw other ((λ is. is), (λ is. is))

goes_out : (in_head : Bool) (line : List ℕ) → is_route_line line ≡ true → Goes in_head line false
goes_out in_head line is rest k = ((λ _. refl), (λ _. rw is (and_false in_head)))

-- ---- the faults of a line and of those after it
module _ (line : List ℕ) (rest : List (List ℕ)) where
  lower : (in_head still : Bool) → Goes in_head line still → (k : ℕ) (kind : SolFaultKind) → RoutesFaultInLines in_head (line ∷ rest) (suc k) kind
      → RoutesFaultInLines still rest k kind
  lower in_head still goes k BadLine h = ((omega (arith, h.0.0), h.0.1.1), h.1, (goes rest k).0 h.2)
  lower in_head still goes k BadNumber h = ((omega (arith, h.0.0), h.0.1.1), h.1)
  lower in_head still goes k NoCost h = h
  lower in_head still goes k OutOfMemory h = h

  raise : (in_head still : Bool) → Goes in_head line still → is_cost_line line ≡ false → (k : ℕ) (kind : SolFaultKind) → RoutesFaultInLines still rest k kind
      → RoutesFaultInLines in_head (line ∷ rest) (suc k) kind
  raise in_head still goes no_cost k BadLine h = ((omega (arith, h.0.0), (no_cost, h.0.1)), h.1, (goes rest k).1 h.2)
  raise in_head still goes no_cost k BadNumber h = ((omega (arith, h.0.0), (no_cost, h.0.1)), h.1)
  raise in_head still goes no_cost k NoCost h = h
  raise in_head still goes no_cost k OutOfMemory h = h

  lower_cost : (k : ℕ) (kind : SolFaultKind) → CostFaultInLines (line ∷ rest) (suc k) kind → CostFaultInLines rest k kind
  lower_cost k BadLine h = h
  lower_cost k BadNumber h = ((omega (arith, h.0.0), h.0.1.1), h.1)
  lower_cost k NoCost h = (omega (arith, h.0), h.1.1)
  lower_cost k OutOfMemory h = h

  raise_cost : is_cost_line line ≡ false → (k : ℕ) (kind : SolFaultKind) → CostFaultInLines rest k kind → CostFaultInLines (line ∷ rest) (suc k) kind
  raise_cost no_cost k BadLine h = h
  raise_cost no_cost k BadNumber h = ((omega (arith, h.0.0), (no_cost, h.0.1)), h.1)
  raise_cost no_cost k NoCost h = (omega (arith, h.0), (no_cost, h.1))
  raise_cost no_cost k OutOfMemory h = h

  -- if the shape of a line is a fault of this kind, lines that begin with this line have the fault at place 0
  at_head : (in_head : Bool) (kind : SolFaultKind) → IsOfKind in_head (is_blank_line line) (route_tail line) (cost_word line) kind
      → RoutesFaultInLines in_head (line ∷ rest) 0 kind
  at_head in_head BadLine h = ((omega arith, tt), h.0, rw h.1 refl)
  at_head in_head BadNumber h = ((omega arith, tt), h)
  at_head in_head NoCost h = absurd h
  at_head in_head OutOfMemory h = h

  none_at_head : (in_head : Bool) → (bad (is_blank_line line) (route_tail line) (cost_word line) ≡ true → in_head ≡ true) → bad_customer (route_tail line) ≡ false
      → (kind : SolFaultKind) → RoutesFaultInLines in_head (line ∷ rest) 0 kind → ⊥
  none_at_head in_head shape numbers BadLine h = false≢true (sym (rw (shape h.1) at h.2))
  none_at_head in_head shape numbers BadNumber h = both_ways _ numbers h.1
  none_at_head in_head shape numbers NoCost h = h
  none_at_head in_head shape numbers OutOfMemory h = h

  no_cost_at_head : bad_cost (cost_word line) ≡ false → (kind : SolFaultKind) → CostFaultInLines (line ∷ rest) 0 kind → ⊥
  no_cost_at_head good BadLine h = h
  no_cost_at_head good BadNumber h = both_ways _ good h.1
  no_cost_at_head good NoCost h = absurd (omega (arith, h.0))
  no_cost_at_head good OutOfMemory h = h

  none_after_cost : is_cost_line line ≡ true → (in_head : Bool) (k : ℕ) (kind : SolFaultKind) → RoutesFaultInLines in_head (line ∷ rest) (suc k) kind → ⊥
  none_after_cost is in_head k BadLine h = both_ways _ h.0.1.0 is
  none_after_cost is in_head k BadNumber h = both_ways _ h.0.1.0 is
  none_after_cost is in_head k NoCost h = h
  none_after_cost is in_head k OutOfMemory h = h

  no_cost_after_cost : is_cost_line line ≡ true → (k : ℕ) (kind : SolFaultKind) → CostFaultInLines (line ∷ rest) (suc k) kind → ⊥
  no_cost_after_cost is k BadLine h = h
  no_cost_after_cost is k BadNumber h = both_ways _ h.0.1.0 is
  no_cost_after_cost is k NoCost h = both_ways _ h.1.0 is
  no_cost_after_cost is k OutOfMemory h = h

  -- ---- the routes and the cost of a line and those after it
  routes-cons : is_cost_line line ≡ false → routes_in_lines (line ∷ rest) ≡ cons_option (route_in_line line) (routes_in_lines rest)
  routes-cons no_cost = rw (no_cost, one-add) refl

  cost-cons : is_cost_line line ≡ false → first_cost (line ∷ rest) ≡ first_cost rest
  cost-cons no_cost = rw no_cost refl

  no_routes : is_cost_line line ≡ true → routes_in_lines (line ∷ rest) ≡ []
  no_routes is_cost = rw is_cost refl

  cost_here : (c : ℕ) → is_cost_line line ≡ true → option_and_then cost_of (cost_word line) ≡ Some c → first_cost (line ∷ rest) ≡ c
  cost_here c is_cost is = rw (is_cost, is) refl

-- ---- the result of reading
abbrev NoneAmong : (ℕ → SolFaultKind → Type 0) → Type 0
NoneAmong IsFault = (k : ℕ) (kind : SolFaultKind) → IsFault k kind → ⊥

record IsFirstAmong (IsFault : ℕ → SolFaultKind → Type 0) (n : ℕ) (f : SolFault) : Type 0 where
  place : ℕ
  line : f.line ≡ n + (place + 1)
  fault : IsFault place f.kind
  least : (k : ℕ) (kind : SolFaultKind) → IsFault k kind → place ≤ k

abbrev CostReported : ℕ → List (List ℕ) → Result ℕ SolFault → Type 0
CostReported n lines (Ok c) = NoneAmong (CostFaultInLines lines) × (c ≡ first_cost lines)
CostReported n lines (Err f) = IsFirstAmong (CostFaultInLines lines) n f

record AreReported (in_head : Bool) (n : ℕ) (lines : List (List ℕ)) (p : PrintedRoutes) : Type 0 where
  none : NoneAmong (RoutesFaultInLines in_head lines)
  routes : p.routes ≡ routes_in_lines lines
  cost : CostReported n lines p.cost

abbrev Reported : Bool → ℕ → List (List ℕ) → Result PrintedRoutes SolFault → Type 0
Reported in_head n lines (Ok p) = AreReported in_head n lines p
Reported in_head n lines (Err f) = IsFirstAmong (RoutesFaultInLines in_head lines) n f

cost_later : (n : ℕ) (line : List ℕ) (rest : List (List ℕ)) → is_cost_line line ≡ false → bad_cost (cost_word line) ≡ false → (c : Result ℕ SolFault)
    → CostReported (n + 1) rest c → CostReported n (line ∷ rest) c
cost_later n line rest no_cost good (Ok c) is = (none, is.1 ∙ sym (cost-cons line rest no_cost))
  where
    none : NoneAmong (CostFaultInLines (line ∷ rest))
    none zero kind h = no_cost_at_head line rest good kind h
    none (suc k) kind h = is.0 k kind (lower_cost line rest k kind h)
cost_later n line rest no_cost good (Err f) is = record {
  place = suc is.place;
  line = omega (arith, is.line);
  fault = raise_cost line rest no_cost is.place f.kind is.fault;
  least = least;
}
  where
    least : (k : ℕ) (kind : SolFaultKind) → CostFaultInLines (line ∷ rest) k kind → suc is.place ≤ k
    least zero kind h = absurd (no_cost_at_head line rest good kind h)
    least (suc k) kind h = omega (arith, is.least k kind (lower_cost line rest k kind h))

good_without : (word : Option (List ℕ)) → is_some word ≡ false → bad_cost word ≡ false
good_without None is = refl
good_without (Some word) is = absurd (false≢true (sym is))

-- a line without faults that is no cost line, and the lines after it
module _ (in_head still : Bool) (n : ℕ) (line : List ℕ) (rest : List (List ℕ)) (route : Option (List ℕ))
    (is : Harmless in_head (is_blank_line line) (route_tail line) (cost_word line) route) (goes : Goes in_head line still) where
  none_here : (kind : SolFaultKind) → RoutesFaultInLines in_head (line ∷ rest) 0 kind → ⊥
  none_here kind h = none_at_head line rest in_head is.shape is.numbers kind h

  first_later : (f : SolFault) → IsFirstAmong (RoutesFaultInLines still rest) (n + 1) f → IsFirstAmong (RoutesFaultInLines in_head (line ∷ rest)) n f
  first_later f first = record {
    place = suc first.place;
    line = omega (arith, first.line);
    fault = raise line rest in_head still goes is.no_cost first.place f.kind first.fault;
    least = least;
  }
    where
      least : (k : ℕ) (kind : SolFaultKind) → RoutesFaultInLines in_head (line ∷ rest) k kind → suc first.place ≤ k
      least zero kind h = absurd (none_here kind h)
      least (suc k) kind h = omega (arith, first.least k kind (lower line rest in_head still goes k kind h))

  all_later : (p : PrintedRoutes) → AreReported still (n + 1) rest p → AreReported in_head n (line ∷ rest) (record { routes = cons_option route p.routes; cost = p.cost })
  all_later p later = record {
    none = none;
    routes = ap (cons_option route) later.routes ∙ sym (routes-cons line rest is.no_cost ∙ ap (λ o. cons_option o (routes_in_lines rest)) is.route_is);
    cost = cost_later n line rest is.no_cost (good_without (cost_word line) is.no_cost) p.cost later.cost;
  }
    where
      none : NoneAmong (RoutesFaultInLines in_head (line ∷ rest))
      none zero kind h = none_here kind h
      none (suc k) kind h = later.none k kind (lower line rest in_head still goes k kind h)

cost_first : (n : ℕ) (line : List ℕ) (rest : List (List ℕ)) (c : Result ℕ SolFault) → is_cost_line line ≡ true → CostSays (n + 1) (cost_word line) c
    → CostReported n (line ∷ rest) c
cost_first n line rest (Ok c) is_cost says = (none, sym (cost_here line rest c is_cost says.1))
  where
    none : NoneAmong (CostFaultInLines (line ∷ rest))
    none zero kind h = no_cost_at_head line rest says.0 kind h
    none (suc k) kind h = no_cost_after_cost line rest is_cost k kind h
cost_first n line rest (Err f) is_cost says = record {
  place = 0;
  line = ap (λ (f : SolFault). f.line) says.1;
  fault = subst (λ (f : SolFault). CostFaultInLines (line ∷ rest) 0 f.kind) (sym says.1) ((omega arith, tt), says.0);
  least = λ k kind h. omega arith;
}

onto : (in_head : Bool) (n : ℕ) (line : List ℕ) (rest : List (List ℕ)) (l : Result Line SolFault) → SaysOf in_head (n + 1) line l
    → (read : Bool → Result PrintedRoutes SolFault) → ((still : Bool) → Reported still (n + 1) rest (read still))
    → Reported in_head n (line ∷ rest) (prepend_line l in_head read)
onto in_head n line rest (Err f) says read later = record {
  place = 0;
  line = says.0 ∙ omega arith;
  fault = at_head line rest in_head f.kind says.1;
  least = λ k kind h. omega arith;
}
onto in_head n line rest (Ok Skipped) says read later = by (read in_head) (later in_head)
  where
    goes : Goes in_head line in_head
    goes = goes_on in_head line (no_route_from (route_tail line) says.route_is)

    by : (r : Result PrintedRoutes SolFault) → Reported in_head (n + 1) rest r → Reported in_head n (line ∷ rest) r
    by (Ok p) is = all_later in_head in_head n line rest None says goes p is
    by (Err f) is = first_later in_head in_head n line rest None says goes f is
onto in_head n line rest (Ok (Route x)) says read later = by (read false) (later false)
  where
    goes : Goes in_head line false
    goes = goes_out in_head line (route_from (route_tail line) x says.route_is)

    by : (r : Result PrintedRoutes SolFault) → Reported false (n + 1) rest r → Reported in_head n (line ∷ rest) (with_routes (x ∷ []) r)
    by (Ok p) is = all_later in_head false n line rest (Some x) says goes p is
    by (Err f) is = first_later in_head false n line rest (Some x) says goes f is
onto in_head n line rest (Ok (Cost c)) says read later = record {
  none = none;
  routes = sym (no_routes line rest says.is_cost);
  cost = cost_first n line rest c says.is_cost says.cost_is;
}
  where
    none : NoneAmong (RoutesFaultInLines in_head (line ∷ rest))
    none zero kind h = none_at_head line rest in_head (λ is. absurd (both_ways _ says.shape is)) says.numbers kind h
    none (suc k) kind h = none_after_cost line rest says.is_cost in_head k kind h

reported : (in_head : Bool) (n : ℕ) (lines : List (List ℕ)) → Reported in_head n lines (reading in_head n lines)
unfolding reading
reported in_head n [] = record {
  none = none;
  routes = refl;
  cost = record { place = 0; line = omega arith; fault = (refl, tt); least = λ k kind h. omega arith };
}
  where
    none : NoneAmong (RoutesFaultInLines in_head [])
    none k BadLine h = absurd (omega (arith, h.0.0))
    none k BadNumber h = absurd (omega (arith, h.0.0))
    none k NoCost h = h
    none k OutOfMemory h = h
reported in_head n (line ∷ rest) =
    onto in_head n line rest (line_of in_head (n + 1) line) (line_of_says in_head (n + 1) line) (λ still. reading still (n + 1) rest)
    (λ still. reported still (n + 1) rest)

-- ---- a fault of a text is one of its routes or of its cost
module _ (lines : List (List ℕ)) where
  fault_split : (k : ℕ) (kind : SolFaultKind) → FaultInLines lines k kind → RoutesFaultInLines false lines k kind ⊎ CostFaultInLines lines k kind
  fault_split k BadLine h = inl (h.0, h.1, refl)
  fault_split k BadNumber h =
      elim (number_split (route_tail (line_at lines k)) (cost_word (line_at lines k)) h.1) [
        | inl customer ↦ inl (h.0, customer)
        | inr cost ↦ inr (h.0, cost)
      ]
  fault_split k NoCost h = inr h
  fault_split k OutOfMemory h = absurd h

  fault_of_routes : (k : ℕ) (kind : SolFaultKind) → RoutesFaultInLines false lines k kind → FaultInLines lines k kind
  fault_of_routes k BadLine h = (h.0, h.1)
  fault_of_routes k BadNumber h = (h.0, number_from_customer (route_tail (line_at lines k)) (cost_word (line_at lines k)) h.1)
  fault_of_routes k NoCost h = absurd h
  fault_of_routes k OutOfMemory h = h

  fault_of_cost : (k : ℕ) (kind : SolFaultKind) → CostFaultInLines lines k kind → FaultInLines lines k kind
  fault_of_cost k BadLine h = absurd h
  fault_of_cost k BadNumber h = (h.0, number_from_cost (route_tail (line_at lines k)) (cost_word (line_at lines k)) (no_word_of_route (line_at lines k)) h.1)
  fault_of_cost k NoCost h = h
  fault_of_cost k OutOfMemory h = h

  not_of_both : (k : ℕ) (kind : SolFaultKind) → RoutesFaultInLines false lines k kind → CostFaultInLines lines k kind → ⊥
  not_of_both k BadLine h g = g
  not_of_both k BadNumber h g = not_both_numbers (route_tail (line_at lines k)) (cost_word (line_at lines k)) (no_word_of_route (line_at lines k)) h.1 g.1
  not_of_both k NoCost h g = h
  not_of_both k OutOfMemory h g = h

no_cost_before : (lines : List (List ℕ)) (k j : ℕ) → j < k → j < length lines → AllByRecursion (λ line. is_cost_line line ≡ false) (take k lines)
    → is_cost_line (line_at lines j) ≡ false
no_cost_before [] k j less within none = absurd (omega (arith, within))
no_cost_before (line ∷ lines) zero j less within none = absurd (omega (arith, less))
no_cost_before (line ∷ lines) (suc k) zero less within none = none.0
no_cost_before (line ∷ lines) (suc k) (suc j) less within none = no_cost_before lines k j (omega (arith, less)) (omega (arith, within)) none.1

-- a line that counts is at most at the place of a fault of the cost
at_most_cost : (lines : List (List ℕ)) (k j : ℕ) (kind : SolFaultKind) → LineCounts lines k → CostFaultInLines lines j kind → k ≤ j
at_most_cost lines k j BadLine counts h = absurd h
at_most_cost lines k j NoCost counts h = omega (arith, counts.0, h.0)
at_most_cost lines k j OutOfMemory counts h = absurd h
at_most_cost lines k j BadNumber counts h =
    elim (cases_lt j k) [
      | inl less ↦ absurd (both_ways _ (no_cost_before lines k j less h.0.0 counts.1) (is_cost_of_bad (cost_word (line_at lines j)) h.1))
      | inr at_least ↦ at_least
    ]

counts_of : (lines : List (List ℕ)) (k : ℕ) (kind : SolFaultKind) → RoutesFaultInLines false lines k kind → LineCounts lines k
counts_of lines k BadLine h = h.0
counts_of lines k BadNumber h = h.0
counts_of lines k NoCost h = absurd h
counts_of lines k OutOfMemory h = absurd h

-- ---- the text
module _ (text : List ℕ) where
  abbrev lines : List (List ℕ)
  lines = lines_of text

  with_cost_from : (routes : List (List ℕ)) (cost : Result ℕ SolFault) → AreReported false 0 lines (record { routes = routes; cost = cost })
      → HasPrintedCost text routes cost
  with_cost_from routes (Ok c) are = (
    λ line kind fault. elim (fault_split lines fault.0 kind fault.2) [ inl h ↦ are.none fault.0 kind h | inr h ↦ are.cost.0 fault.0 kind h ],
    ap (λ (rs : List (List ℕ)). record { routes = rs; cost = c }) are.routes ∙ ap (λ (n : ℕ). record { routes = routes_in_lines lines; cost = n }) are.cost.1,
  )
  with_cost_from routes (Err f) are =
      let first = are.cost in
      record {
        first = (
          (first.place, first.line ∙ omega arith, fault_of_cost lines first.place f.kind first.fault),
          λ line kind fault.
              elim (fault_split lines fault.0 kind fault.2) [
                | inl h ↦ absurd (are.none fault.0 kind h)
                | inr h ↦ omega (arith, first.line, fault.1, first.least fault.0 kind h)
              ],
        );
        in_cost = (first.place, first.line ∙ omega arith, first.fault);
        routes_are = are.routes;
      }

  pub printed_from_reported : (p : PrintedRoutes) → reading false 0 lines ≡ Ok p → HasPrintedCost text p.routes p.cost
  printed_from_reported p is = with_cost_from p.routes p.cost (subst (λ r. Reported false 0 lines r) is (reported false 0 lines))

  pub faulty_from_reported : (f : SolFault) → reading false 0 lines ≡ Err f → HasFaultyRoutes text f
  faulty_from_reported f is = (
    (
      (first.place, first.line ∙ omega arith, fault_of_routes lines first.place f.kind first.fault),
      λ line kind fault.
          elim (fault_split lines fault.0 kind fault.2) [
            | inl h ↦ omega (arith, first.line, fault.1, first.least fault.0 kind h)
            | inr h ↦ omega (arith, first.line, fault.1, at_most_cost lines first.place fault.0 kind (counts_of lines first.place f.kind first.fault) h)
          ],
    ),
    λ cost.
        let same : cost.0 ≡ first.place = omega (arith, cost.1, first.line) in
        not_of_both lines first.place f.kind first.fault (subst (λ k. CostFaultInLines lines k f.kind) same cost.2),
  )
    where
      first : IsFirstAmong (RoutesFaultInLines false lines) 0 f
      first = subst (λ r. Reported false 0 lines r) is (reported false 0 lines)

  pub routes_from_reported : (p : PrintedRoutes) → reading true 0 lines ≡ Ok p → SpellsRoutes text p.routes
  routes_from_reported p is = (λ line kind fault. are.none fault.0 kind fault.2, are.routes)
    where
      are : AreReported true 0 lines p
      are = subst (λ r. Reported true 0 lines r) is (reported true 0 lines)

  pub first_routes_fault_from_reported : (f : SolFault) → reading true 0 lines ≡ Err f → IsFirstRoutesFault text f
  first_routes_fault_from_reported f is =
      ((first.place, first.line ∙ omega arith, first.fault), λ line kind fault. omega (arith, first.line, fault.1, first.least fault.0 kind fault.2))
    where
      first : IsFirstAmong (RoutesFaultInLines true lines) 0 f
      first = subst (λ r. Reported true 0 lines r) is (reported true 0 lines)

  -- the solution, or the first fault of the text
  some_err : {s : Solution} {f : SolFault} → ◌≡◌ {A = Result Solution SolFault} (Ok s) (Err f) → ⊥
  some_err is = cc

  ok_same : {x y : Solution} → ◌≡◌ {A = Result Solution SolFault} (Ok x) (Ok y) → x ≡ y
  ok_same is = cc

  err_same : {f g : SolFault} → ◌≡◌ {A = Result Solution SolFault} (Err f) (Err g) → f ≡ g
  err_same is = cc

  spells_by : (routes : List (List ℕ)) (cost : Result ℕ SolFault) → HasPrintedCost text routes cost → (s : Solution) → with_cost routes cost ≡ Ok s → Spells text s
  spells_by routes (Ok c) spells s is = let same : record { routes = routes; cost = c } ≡ s = ok_same is in subst (Spells text) same spells
  spells_by routes (Err f) lacks s is = absurd (some_err (sym is))

  pub spells_from_reported : (s : Solution) → solution_of (reading false 0 lines) ≡ Ok s → Spells text s
  spells_from_reported s is = by (reading false 0 lines) refl is
    where
      by : (r : Result PrintedRoutes SolFault) → reading false 0 lines ≡ r → solution_of r ≡ Ok s → Spells text s
      by (Ok p) is solves = spells_by p.routes p.cost (printed_from_reported p is) s solves
      by (Err f) is solves = absurd (some_err (sym solves))

  first_by : (routes : List (List ℕ)) (cost : Result ℕ SolFault) → HasPrintedCost text routes cost → (f : SolFault) → with_cost routes cost ≡ Err f → IsFirstFault text f
  first_by routes (Ok c) spells f is = absurd (some_err is)
  first_by routes (Err g) lacks f is = subst (IsFirstFault text) (err_same is) lacks.first

  pub first_from_reported : (f : SolFault) → solution_of (reading false 0 lines) ≡ Err f → IsFirstFault text f
  first_from_reported f is = by (reading false 0 lines) refl is
    where
      by : (r : Result PrintedRoutes SolFault) → reading false 0 lines ≡ r → solution_of r ≡ Err f → IsFirstFault text f
      by (Ok p) is refuses = first_by p.routes p.cost (printed_from_reported p is) f refuses
      by (Err g) is refuses = subst (IsFirstFault text) (err_same refuses) (faulty_from_reported g is).0
