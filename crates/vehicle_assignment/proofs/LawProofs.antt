-- Each text has exactly one assignment.
use Rattle.std.proofs.Common.{◌≡◌, ◌⊎◌, ℕ, Bool, true, false, List, Option, Some, None, Result, Ok, Err, refl, sym, ap, subst, ◌∙◌, inl, inr, arith}
use Rattle.plan_types.specs.Instance.{Instance, IsInstance}
use Rattle.plan_types.specs.declared.plans.Cost.{Cost}
use Rattle.plan_types.specs.declared.plans.Plan.{Plan}
use Rattle.text_lines.specs.Lines.{lines_of}
use Rattle.text_lines.specs.Words.{is_blank_line}
use Rattle.sol_text.specs.Faults.{FaultInLines, IsFirstFault, has_bad_number, is_bad_line, line_at}
use Rattle.sol_text.specs.LineShapes.{cost_word, route_tail}
use Rattle.sol_text.specs.Reading.{reading, solution_of}
use Rattle.sol_text.specs.declared.faults.SolFault.{SolFault}
use Rattle.sol_text.specs.declared.faults.SolFaultKind.{SolFaultKind}
use Rattle.sol_text.specs.declared.faults.SolFaultKind.TheVariants as sol
use Rattle.plan_types.specs.declared.solutions.Solution.{Solution}
use Rattle.sol_text.proofs.FaultLemmas.{bad, bad_number}
use Rattle.sol_text.proofs.TextLemmas.{first_from_reported, spells_from_reported}
use Rattle.plan_audit.specs.Locality.{SubjectsHaveVerdicts, VerdictsAreUnique}
use Rattle.plan_audit.specs.Verdict.{IsVerdict, printed}
use Rattle.plan_audit.specs.declared.rules.Verdict.{Verdict}
use Rattle.plan_audit.specs.declared.rules.Verdict.TheVariants as verdict
use Rattle.vehicle_assignment.specs.Laws.{AssignmentIsUnique, AssignmentFunctionExists}
use Rattle.vehicle_assignment.specs.AssignedPlan.{IsAudited, IsFound}
use Rattle.vehicle_assignment.specs.Assignments.{assigned_plan}
use Rattle.vehicle_assignment.specs.declared.faults.AssignmentFault.{AssignmentFault}
use Rattle.vehicle_assignment.specs.declared.faults.AssignmentFault.TheVariants.{Sol, Broken, PinWithoutRoute, OutOfMemory}
use Rattle.vehicle_assignment.proofs.FoundLemmas.{pinned_only}

-- ---- there is an answer

module _ (p : Instance) (pins : List (List ℕ)) where
  by_verdict : Solution → Verdict → Result Plan AssignmentFault
  by_verdict s (verdict.Pass cost) = assigned_plan p.fleet pins s.routes
  by_verdict s (verdict.Broken rule route place stop) = Err (Broken rule route place stop)

module _ (law : SubjectsHaveVerdicts) (p : Instance) (pins : List (List ℕ)) where
  by_reading : Result Solution SolFault → Result Plan AssignmentFault
  by_reading (Ok s) = by_verdict p pins s (law.0 p (printed s.routes s.cost))
  by_reading (Err f) = Err (Sol f)

  module _ (text : List ℕ) where
    seats_are : (s : Solution) (cost : Cost) → IsAudited p text s (verdict.Pass cost) → (r : Result Plan AssignmentFault) → assigned_plan p.fleet pins s.routes ≡ r → IsFound p pins text r
    seats_are s cost audited (Ok plan) is = (s, cost, audited, is)
    seats_are s cost audited (Err f) is =
        let only = pinned_only p.fleet pins s.routes f is in
        subst (λ f. IsFound p pins text (Err f)) (sym only.1) (s, cost, audited, is ∙ ap Err only.1)

    is_found_by : (s : Solution) (v : Verdict) → IsAudited p text s v → IsFound p pins text (by_verdict p pins s v)
    unfolding by_verdict
    is_found_by s (verdict.Pass cost) audited = seats_are s cost audited (assigned_plan p.fleet pins s.routes) refl
    is_found_by s (verdict.Broken rule route place stop) audited = (s, audited)

    is_found : IsInstance p → (r : Result Solution SolFault) → solution_of (reading false 0 (lines_of text)) ≡ r → IsFound p pins text (by_reading r)
    unfolding by_reading
    is_found valid (Ok s) is =
        is_found_by s (law.0 p (printed s.routes s.cost)) (spells_from_reported text s is, law.1 p (printed s.routes s.cost) valid)
    is_found valid (Err f) is = first_from_reported text f is

pub some_seating : SubjectsHaveVerdicts → AssignmentFunctionExists
some_seating law = (
  (λ p pins text. by_reading law p pins (solution_of (reading false 0 (lines_of text)))),
  (λ p pins text valid. is_found law p pins text valid (solution_of (reading false 0 (lines_of text))) refl),
)

-- ---- there is no other answer

no : false ≡ true → ⊥
no e = cc

by_shape : (blank : Bool) (tail word : Option (List ℕ)) → bad blank tail word ≡ true → bad_number tail word ≡ true → ⊥
by_shape true tail word x y = no x
by_shape false (Some tail) word x y = no x
by_shape false None (Some word) x y = no x
by_shape false None None x y = no y

not_both : (line : List ℕ) → is_bad_line line ≡ true → has_bad_number line ≡ true → ⊥
not_both line x y = by_shape (is_blank_line line) (route_tail line) (cost_word line) x y

-- a line has at most one fault
one_kind : (lines : List (List ℕ)) (k : ℕ) (a b : SolFaultKind) → FaultInLines lines k a → FaultInLines lines k b → a ≡ b
one_kind lines k sol.BadLine sol.BadLine x y = refl
one_kind lines k sol.BadNumber sol.BadNumber x y = refl
one_kind lines k sol.NoCost sol.NoCost x y = refl
one_kind lines k sol.BadLine sol.BadNumber x y = absurd (not_both (line_at lines k) x.1 y.1)
one_kind lines k sol.BadNumber sol.BadLine x y = absurd (not_both (line_at lines k) y.1 x.1)
one_kind lines k sol.BadLine sol.NoCost x y = (let less = x.0.0 in let end = y.0 in absurd (omega (arith, less, end)))
one_kind lines k sol.BadNumber sol.NoCost x y = (let less = x.0.0 in let end = y.0 in absurd (omega (arith, less, end)))
one_kind lines k sol.NoCost sol.BadLine x y = (let less = y.0.0 in let end = x.0 in absurd (omega (arith, less, end)))
one_kind lines k sol.NoCost sol.BadNumber x y = (let less = y.0.0 in let end = x.0 in absurd (omega (arith, less, end)))
one_kind lines k sol.OutOfMemory b x y = absurd x
one_kind lines k sol.BadLine sol.OutOfMemory x y = absurd y
one_kind lines k sol.BadNumber sol.OutOfMemory x y = absurd y
one_kind lines k sol.NoCost sol.OutOfMemory x y = absurd y

abbrev fault_at : ℕ → SolFaultKind → SolFault
fault_at line kind = record { line = line; kind = kind }

one_fault : (text : List ℕ) (f g : SolFault) → IsFirstFault text f → IsFirstFault text g → f ≡ g
one_fault text f g a b =
    let less = a.1 g.line g.kind b.0 in
    let more = b.1 f.line f.kind a.0 in
    let line : f.line ≡ g.line = omega (arith, less, more) in
    let here = a.0.1 in
    let there = b.0.1 in
    let place : a.0.0 ≡ b.0.0 = omega (arith, line, here, there) in
    let kind : f.kind ≡ g.kind = one_kind (lines_of text) b.0.0 f.kind g.kind (subst (λ k. FaultInLines (lines_of text) k f.kind) place a.0.2) b.0.2 in
    ap (λ n. fault_at n f.kind) line ∙ ap (fault_at g.line) kind

module _ (unique : VerdictsAreUnique) (p : Instance) (pins : List (List ℕ)) (text : List ℕ) where
  -- the source of an answer: a fault of the text, or its solution with the verdict
  abbrev Comes : Result Plan AssignmentFault → Type 0
  Comes r = ((f : SolFault) × IsFirstFault text f × (r ≡ Err (Sol f))) ⊎ ((s : Solution) × (v : Verdict) × IsAudited p text s v × (r ≡ by_verdict p pins s v))

  comes : (r : Result Plan AssignmentFault) → IsFound p pins text r → Comes r
  unfolding by_verdict
  comes (Ok plan) is = inr (is.0, verdict.Pass is.1, is.2, sym is.3)
  comes (Err (Sol f)) is = inl (f, is, refl)
  comes (Err (Broken rule route place stop)) is = inr (is.0, verdict.Broken rule route place stop, is.1, refl)
  comes (Err (PinWithoutRoute v)) is = inr (is.0, verdict.Pass is.1, is.2, sym is.3)
  comes (Err OutOfMemory) is = absurd is

  one_verdict : (s t : Solution) (v w : Verdict) → IsAudited p text s v → IsAudited p text t w → by_verdict p pins s v ≡ by_verdict p pins t w
  one_verdict s t v w a b =
      let same : s ≡ t = a.0.1 ∙ sym b.0.1 in
      let judged : IsVerdict p (printed t.routes t.cost) v = subst (λ (s : Solution). IsVerdict p (printed s.routes s.cost) v) same a.1 in
      ap (λ s. by_verdict p pins s v) same ∙ ap (by_verdict p pins t) (unique p (printed t.routes t.cost) v w judged b.1)

  one : (r q : Result Plan AssignmentFault) → Comes r → Comes q → r ≡ q
  one r q (inl a) (inl b) = a.2 ∙ ap (λ f. Err (Sol f)) (one_fault text a.0 b.0 a.1 b.1) ∙ sym b.2
  one r q (inl a) (inr b) = absurd (b.2.0.0 a.0.line a.0.kind a.1.0)
  one r q (inr a) (inl b) = absurd (a.2.0.0 b.0.line b.0.kind b.1.0)
  one r q (inr a) (inr b) = a.3 ∙ one_verdict a.0 b.0 a.1 b.1 a.2 b.2 ∙ sym b.3

pub seatings_agree : VerdictsAreUnique → AssignmentIsUnique
seatings_agree unique p pins text found other a b = one unique p pins text found other (comes unique p pins text found a) (comes unique p pins text other b)
