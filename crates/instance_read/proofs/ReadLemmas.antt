-- The problem that a Li-Lim text without a fault in a line spells, or the fault that it has.
use Rattle.std.proofs.Common.{◌≡◌, ℕ, ◌-◌, ◌<◌, ◌≤◌, inl, inr, ⊎_elim, List, [], ◌∷◌, length, get_or, map, take, drop, None, sym, ap, subst, ◌∙◌, arith}
use Rattle.std.specs.Int.RustNames.{unsigned_abs}
use Rattle.std.proofs.lemmas.List.{nil_from_length, length-map, take_all}
use Rattle.text_lines.specs.Words.{words_of}
use Rattle.plan_types.specs.Instance.{Instance}
use Rattle.instance_read.specs.declared.faults.ReadFault.{ReadFault}
use Rattle.instance_read.specs.declared.scales.Scale.{Scale}
use Rattle.instance_read.specs.declared.tasks.FleetLine.{FleetLine}
use Rattle.instance_read.specs.declared.tasks.Task.{Task}
use Rattle.instance_read.specs.declared.faults.ReadFaultKind.TheVariants.{PairMismatch}
use Rattle.instance_read.specs.Faults.{ReportsFirstFault, IsFirstFault}
use Rattle.instance_read.specs.Fields.{value_at}
use Rattle.instance_read.specs.Lilim.{LilimFault, SpellsLilim, header_fault, problem_from, problem_of, task_limits}
use Rattle.instance_read.specs.Pairs.{task_in, task_of}
use Rattle.instance_read.specs.Rows.{Row, rows_of}
use Rattle.instance_read.specs.Tables.{ArePaired, AreTasks, IsHeader, ReportsMismatch}
use Rattle.instance_read.specs.TaskFaults.{HasNoKind, HasNoTaskFault}
use Rattle.instance_read.proofs.LilimLemmas.{mismatch_first, has_none}
use Rattle.instance_read.proofs.LimitLemmas.{are_tasks, task_stop_limits}
use Rattle.instance_read.proofs.PairLemmas.{no_task}
use Rattle.instance_read.proofs.ScaleLemmas.{mismatch_unscaled, paired_unscaled}

-- the first task and the others, as a slice pattern returns them
abbrev pub first_task : List Task → Task
first_task items = get_or items 0 no_task

abbrev pub other_tasks : List Task → List Task
other_tasks items = take (length items - 1) (drop 1 items)

pub others_is : (t : Task) (ts : List Task) → other_tasks (t ∷ ts) ≡ ts
others_is t ts = take_all (length (t ∷ ts) - 1) ts (omega arith)

module _ (scale : Scale) where
  -- the problem is the same with the header as it was read
  same_problem : (words : List (List ℕ)) (read : FleetLine) (header depot : Row) (customers : List Row) → IsHeader (words_of header.text) read
      → problem_from read.fleet read.capacity (task_in scale depot) (map (task_in scale) customers) ≡ problem_of scale header depot customers
  same_problem words read header depot customers made =
      ap (λ fleet. problem_from fleet read.capacity (task_in scale depot) (map (task_in scale) customers)) made.0
      ∙ ap (λ capacity. problem_from (unsigned_abs (value_at (words_of header.text) 0)) capacity (task_in scale depot) (map (task_in scale) customers)) made.1

  module _ (text : List ℕ) (header : Row) (read : FleetLine) (items : List Task) (sound : HasNoKind (header_fault (words_of header.text)))
      (made : IsHeader (words_of header.text) read) (some : 1 ≤ length items) where
    pub known_tasks : (rest : List Row) → HasNoTaskFault scale None rest → items ≡ map (task_in scale) rest → AreTasks (first_task items) (other_tasks items)
    known_tasks [] clean same = absurd (omega (arith, ap length same))
    known_tasks (depot ∷ customers) clean same =
        let P : List Task → Type 0 = λ xs. AreTasks (first_task xs) (other_tasks xs) in
        let Q : List Task → Type 0 = λ ts. AreTasks (task_in scale depot) ts in
        subst P (sym same) (subst Q (sym (others_is (task_in scale depot) (map (task_in scale) customers))) (are_tasks scale (task_limits scale) (task_stop_limits scale) depot customers clean))

    pub spells : (rest : List Row) → rows_of text ≡ header ∷ rest → HasNoTaskFault scale None rest → items ≡ map (task_in scale) rest → (p : Instance)
        → ArePaired (other_tasks items) × (p ≡ problem_from read.fleet read.capacity (first_task items) (other_tasks items)) → SpellsLilim scale text p
    spells [] is clean same p h = absurd (omega (arith, ap length same))
    spells (depot ∷ customers) is clean same p h =
        let P : List Task → Type 0 = λ xs. ArePaired (other_tasks xs) × (p ≡ problem_from read.fleet read.capacity (first_task xs) (other_tasks xs)) in
        let Q : List Task → Type 0 = λ ts. ArePaired ts × (p ≡ problem_from read.fleet read.capacity (task_in scale depot) ts) in
        let plain = subst Q (others_is (task_in scale depot) (map (task_in scale) customers)) (subst P same h) in (
          has_none scale text header depot customers is sound clean (paired_unscaled scale customers plain.0),
          header,
          depot,
          customers,
          is,
          plain.1 ∙ same_problem (words_of header.text) read header depot customers made,
        )

    pub tells : (rest : List Row) → rows_of text ≡ header ∷ rest → HasNoTaskFault scale None rest → items ≡ map (task_in scale) rest → (f : ReadFault)
        → ReportsMismatch (other_tasks items) f → ReportsFirstFault (LilimFault scale text) f
    tells [] is clean same f h = absurd (omega (arith, ap length same))
    tells (depot ∷ customers) is clean same f h =
        let P : List Task → Type 0 = λ xs. ReportsMismatch (other_tasks xs) f in
        let Q : List Task → Type 0 = λ ts. ReportsMismatch ts f in
        let R : ReadFault → Type 0 = IsFirstFault (LilimFault scale text) in
        ⊎_elim
        (λ memory. inl memory)
        (λ first.
        let found = mismatch_unscaled scale customers first.0 first.1 in
        let is_fault : f ≡ record { line = found.0.line; kind = PairMismatch } = first.2 ∙ ap {B = ReadFault} (λ n. record { line = n; kind = PairMismatch }) found.2 in
        inr (subst R (sym is_fault) (mismatch_first scale text header depot customers is sound clean found.0 found.1)))
        (subst Q (others_is (task_in scale depot) (map (task_in scale) customers)) (subst P same h))

pub no_rest : (scale : Scale) (rest : List Row) (items : List Task) → length items < 1 → items ≡ map (task_in scale) rest → rest ≡ []
no_rest scale rest items short same = nil_from_length rest (omega (arith, ap length same, length-map rest (task_in scale)))
