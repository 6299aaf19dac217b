-- The lines before the depot of a text in Solomon's format, one after another, and the problem of the others.
use Rattle.std.proofs.Common.{◌≡◌, ℕ, ◌+◌, ◌≤◌, inl, inr, List, [], ◌∷◌, drop, length, map, None, sym, ap, subst, ◌∙◌, arith}
use Rattle.std.specs.Prelude.{codes}
use Rattle.std.specs.Int.RustNames.{unsigned_abs}
use Rattle.text_lines.specs.Lines.{lines_of}
use Rattle.text_lines.specs.Words.{words_of}
use Rattle.plan_types.specs.Instance.{Instance}
use Rattle.instance_read.specs.declared.faults.ReadFault.{ReadFault}
use Rattle.instance_read.specs.declared.scales.Scale.{Scale}
use Rattle.instance_read.specs.declared.tasks.FleetLine.{FleetLine}
use Rattle.instance_read.specs.declared.tasks.Task.{Task}
use Rattle.instance_read.specs.Faults.{HasNoFault, IsFirstFault}
use Rattle.instance_read.specs.Fields.{value_at}
use Rattle.instance_read.specs.HeadingLines.{ArePassed, HasFleet, IsFleetLine, IsPassed, IsStopped}
use Rattle.instance_read.specs.Pairs.{task_in, task_of}
use Rattle.instance_read.specs.Rows.{Row, rows_of}
use Rattle.instance_read.specs.Solomon.{IsProblemOf, LinesFault, LineTest, SpellsSolomon, customer_limits, fleet_fault, heading, name_fault, singles_problem, word_fault}
use Rattle.instance_read.specs.Tables.{AreLoads, AreTasks, HeaderKeepsLimits}
use Rattle.instance_read.specs.TaskFaults.{HasNoStopFault, LinesAbove}
use Rattle.instance_read.proofs.LimitLemmas.{are_loads, are_tasks, customer_stop_limits, none_tail, two_limits_of}
use Rattle.instance_read.proofs.ReadLemmas.{first_task, other_tasks, others_is}
use Rattle.instance_read.proofs.SolomonLemmas.{clean_lines, cut_first, due_clean, due_first, due_stops}
use Rattle.instance_read.proofs.TaskFaultLemmas.{above_weaker}

module _ (scale : Scale) where
  -- a line that is read: the first fault of the lines after it is that of all lines
  pub passed_first : (end : ℕ) (test : LineTest) (due : List LineTest) (rows rest : List Row) (f : ReadFault) → IsPassed test rows rest
      → IsFirstFault (LinesFault scale end due rest) f → IsFirstFault (LinesFault scale end (test ∷ due) rows) f
  passed_first end test due rows rest f (row, is, none) first =
      let P : List Row → Type 0 = λ rs. IsFirstFault (LinesFault scale end (test ∷ due) rs) f in
      subst P (sym is) (due_first scale end test due row rest none f first)

  pub passed_more : (test : LineTest) (due : List LineTest) (rows middle rest : List Row) → IsPassed test rows middle → ArePassed due middle rest → ArePassed (test ∷ due) rows rest
  passed_more test due rows middle rest (row, is, none) more =
      let P : List Row → Type 0 = λ rs. ArePassed (test ∷ due) rs rest in
      subst P (sym is) (none, more)

  pub above_passed : (test : LineTest) (rows rest : List Row) → IsPassed test rows rest → LinesAbove 0 rows → LinesAbove 0 rest
  above_passed test rows rest (row, is, none) above =
      let P : List Row → Type 0 = LinesAbove 0 in
      above_weaker 0 row.line rest (omega arith) (subst P is above).1

  -- a line that is not read: its first fault is that of all lines
  pub stopped_first : (text : List ℕ) (test : LineTest) (due : List LineTest) (rows : List Row) (f : ReadFault) → LinesAbove 0 rows → IsStopped text test rows f
      → IsFirstFault (LinesFault scale (length (lines_of text) + 1) (test ∷ due) rows) f
  stopped_first text test due rows f above (inl none) =
      let P : List Row → Type 0 = λ rs. IsFirstFault (LinesFault scale (length (lines_of text) + 1) (test ∷ due) rs) f in
      let Q : ReadFault → Type 0 = IsFirstFault (LinesFault scale (length (lines_of text) + 1) (test ∷ due) []) in
      subst P (sym none.0) (subst Q (sym none.1) (cut_first scale (length (lines_of text) + 1) (test ∷ due)))
  stopped_first text test due rows f above (inr (row, rest, is, line, first)) =
      let P : List Row → Type 0 = λ rs. IsFirstFault (LinesFault scale (length (lines_of text) + 1) (test ∷ due) rs) f in
      let Q : ReadFault → Type 0 = IsFirstFault (LinesFault scale (length (lines_of text) + 1) (test ∷ due) (row ∷ rest)) in
      let R : List Row → Type 0 = LinesAbove 0 in
      let same : f ≡ record { line = row.line; kind = f.kind } = ap {B = ReadFault} (λ n. record { line = n; kind = f.kind }) line in
      subst P (sym is) (subst Q (sym same) (due_stops scale (length (lines_of text) + 1) test due row rest (subst R is above) f.kind first))

  -- the first fault of a text whose heading is read up to a line
  module _ (text : List ℕ) (rows one : List Row) (above : LinesAbove 0 rows) (name : IsPassed name_fault rows one) where
    abbrev end : ℕ
    end = length (lines_of text) + 1

    abbrev IsFirst : ReadFault → Type 0
    IsFirst f = IsFirstFault (LinesFault scale end heading rows) f

    above_one : LinesAbove 0 one
    above_one = above_passed name_fault rows one name above

    pub vehicle_first : (f : ReadFault) → IsStopped text (word_fault (codes "VEHICLE")) one f → IsFirst f
    vehicle_first f stopped = passed_first end name_fault (drop 1 heading) rows one f name (stopped_first text (word_fault (codes "VEHICLE")) (drop 2 heading) one f above_one stopped)

    module _ (two : List Row) (vehicle : IsPassed (word_fault (codes "VEHICLE")) one two) where
      above_two : LinesAbove 0 two
      above_two = above_passed (word_fault (codes "VEHICLE")) one two vehicle above_one

      after_two : (f : ReadFault) → IsFirstFault (LinesFault scale end (drop 2 heading) two) f → IsFirst f
      after_two f first = passed_first end name_fault (drop 1 heading) rows one f name (passed_first end (word_fault (codes "VEHICLE")) (drop 2 heading) one two f vehicle first)

      pub number_first : (f : ReadFault) → IsStopped text (word_fault (codes "NUMBER")) two f → IsFirst f
      number_first f stopped = after_two f (stopped_first text (word_fault (codes "NUMBER")) (drop 3 heading) two f above_two stopped)

      module _ (three : List Row) (number : IsPassed (word_fault (codes "NUMBER")) two three) where
        above_three : LinesAbove 0 three
        above_three = above_passed (word_fault (codes "NUMBER")) two three number above_two

        after_three : (f : ReadFault) → IsFirstFault (LinesFault scale end (drop 3 heading) three) f → IsFirst f
        after_three f first = after_two f (passed_first end (word_fault (codes "NUMBER")) (drop 3 heading) two three f number first)

        pub fleet_first : (f : ReadFault) → IsStopped text fleet_fault three f → IsFirst f
        fleet_first f stopped = after_three f (stopped_first text fleet_fault (drop 4 heading) three f above_three stopped)

        module _ (four : List Row) (fleet : IsPassed fleet_fault three four) where
          above_four : LinesAbove 0 four
          above_four = above_passed fleet_fault three four fleet above_three

          after_four : (f : ReadFault) → IsFirstFault (LinesFault scale end (drop 4 heading) four) f → IsFirst f
          after_four f first = after_three f (passed_first end fleet_fault (drop 4 heading) three four f fleet first)

          pub customer_first : (f : ReadFault) → IsStopped text (word_fault (codes "CUSTOMER")) four f → IsFirst f
          customer_first f stopped = after_four f (stopped_first text (word_fault (codes "CUSTOMER")) (drop 5 heading) four f above_four stopped)

          module _ (five : List Row) (customer : IsPassed (word_fault (codes "CUSTOMER")) four five) where
            pub columns_first : (f : ReadFault) → IsStopped text (word_fault (codes "CUST")) five f → IsFirst f
            columns_first f stopped =
                after_four f (passed_first end (word_fault (codes "CUSTOMER")) (drop 5 heading) four five f customer
                (stopped_first text (word_fault (codes "CUST")) [] five f (above_passed (word_fault (codes "CUSTOMER")) four five customer above_four) stopped))

  -- the fleet is in the fourth line
  fourth : (name vehicle number : Row) (rows : List Row) (header : FleetLine) → IsFleetLine rows header → HasFleet (name ∷ vehicle ∷ number ∷ rows) header
  fourth name vehicle number [] header h = h
  fourth name vehicle number (row ∷ rows) header h = h

  pub fleet_is_fourth : (t u v : LineTest) (rows one two three : List Row) (header : FleetLine) → IsPassed t rows one → IsPassed u one two → IsPassed v two three
      → IsFleetLine three header → HasFleet rows header
  fleet_is_fourth t u v rows one two three header (a, is, _) (b, is', _) (c, is'', _) h =
      let whole : rows ≡ a ∷ b ∷ c ∷ three = is ∙ ap (λ xs. a ∷ xs) (is' ∙ ap (λ xs. b ∷ xs) is'') in
      let P : List Row → Type 0 = λ rs. HasFleet rs header in
      subst P (sym whole) (fourth a b c three header h)

  -- all lines before the depot are read
  pub above_rest : (due : List LineTest) (rows rest : List Row) → ArePassed due rows rest → LinesAbove 0 rows → LinesAbove 0 rest
  above_rest [] rows rest is above = let P : List Row → Type 0 = LinesAbove 0 in subst P (sym is) above
  above_rest (test ∷ due) [] rest passed above = absurd passed
  above_rest (test ∷ due) (row ∷ rows) rest passed above = above_rest due rows rest passed.1 (above_weaker 0 row.line rows (omega arith) above.1)

  module _ (end : ℕ) where
    pub rest_first : (due : List LineTest) (rows rest : List Row) (f : ReadFault) → ArePassed due rows rest → IsFirstFault (LinesFault scale end [] rest) f → IsFirstFault (LinesFault scale end due rows) f
    rest_first [] rows rest f is first = let P : List Row → Type 0 = λ rs. IsFirstFault (LinesFault scale end [] rs) f in subst P is first
    rest_first (test ∷ due) [] rest f passed first = absurd passed
    rest_first (test ∷ due) (row ∷ rows) rest f passed first = due_first scale end test due row rows passed.0 f (rest_first due rows rest f passed.1 first)

    pub rest_clean : (due : List LineTest) (rows rest : List Row) → ArePassed due rows rest → HasNoFault (LinesFault scale end [] rest) → HasNoFault (LinesFault scale end due rows)
    rest_clean [] rows rest is clean = let P : List Row → Type 0 = λ rs. HasNoFault (LinesFault scale end [] rs) in subst P is clean
    rest_clean (test ∷ due) [] rest passed clean = absurd passed
    rest_clean (test ∷ due) (row ∷ rows) rest passed clean = due_clean scale end test due row rows passed.0 (rest_clean due rows rest passed.1 clean)

  pub fleet_limits : (rows rest : List Row) (header : FleetLine) → ArePassed heading rows rest → HasFleet rows header → HeaderKeepsLimits header
  fleet_limits (a ∷ b ∷ c ∷ fleet ∷ rows) rest header passed is = two_limits_of (words_of fleet.text) header passed.1.1.1.0 is
  fleet_limits rows rest header passed is = absurd is

  problem_here : (rows : List Row) (depot : Row) (customers : List Row) (header : FleetLine) (p : Instance) → ArePassed heading rows (depot ∷ customers)
      → HasFleet rows header → p ≡ singles_problem header.fleet header.capacity (task_in scale depot) (map (task_in scale) customers) → IsProblemOf scale rows p
  problem_here (a ∷ b ∷ c ∷ fleet ∷ e ∷ f ∷ more) depot customers header p passed has is =
      let P : List Row → Type 0 = λ rs. IsProblemOf scale (a ∷ b ∷ c ∷ fleet ∷ e ∷ f ∷ rs) p in
      subst P passed.1.1.1.1.1.1 (is
      ∙ ap (λ n. singles_problem n header.capacity (task_in scale depot) (map (task_in scale) customers)) has.0
      ∙ ap (λ n. singles_problem (unsigned_abs (value_at (words_of fleet.text) 0)) n (task_in scale depot) (map (task_in scale) customers)) has.1)
  problem_here [] depot customers header p passed has is = absurd has
  problem_here (a ∷ []) depot customers header p passed has is = absurd has
  problem_here (a ∷ b ∷ []) depot customers header p passed has is = absurd has
  problem_here (a ∷ b ∷ c ∷ []) depot customers header p passed has is = absurd has
  problem_here (a ∷ b ∷ c ∷ fleet ∷ []) depot customers header p passed has is = absurd passed.1.1.1.1
  problem_here (a ∷ b ∷ c ∷ fleet ∷ e ∷ []) depot customers header p passed has is = absurd passed.1.1.1.1.1

  -- the customers, as they were read
  module _ (items : List Task) (some : 1 ≤ length items) where
    pub known_customers : (rest : List Row) → HasNoStopFault (customer_limits scale) None rest → items ≡ map (task_in scale) rest → AreTasks (first_task items) (other_tasks items) × AreLoads (other_tasks items)
    known_customers [] clean same = absurd (omega (arith, ap length same))
    known_customers (depot ∷ customers) clean same =
        let P : List Task → Type 0 = λ xs. AreTasks (first_task xs) (other_tasks xs) × AreLoads (other_tasks xs) in
        let Q : List Task → Type 0 = λ ts. AreTasks (task_in scale depot) ts × AreLoads ts in
        subst P (sym same) (subst Q (sym (others_is (task_in scale depot) (map (task_in scale) customers))) (
          are_tasks scale (customer_limits scale) (customer_stop_limits scale) depot customers clean,
          are_loads scale _ customers (none_tail scale (customer_limits scale) (customer_stop_limits scale) None depot customers clean),
        ))

    pub spells_singles : (text : List ℕ) (header : FleetLine) (rest : List Row) → ArePassed heading (rows_of text) rest → HasFleet (rows_of text) header
        → HasNoStopFault (customer_limits scale) None rest → items ≡ map (task_in scale) rest → (p : Instance)
        → p ≡ singles_problem header.fleet header.capacity (first_task items) (other_tasks items) → SpellsSolomon scale text p
    spells_singles text header [] passed has clean same p is = absurd (omega (arith, ap length same))
    spells_singles text header (depot ∷ customers) passed has clean same p is =
        let P : List Task → Type 0 = λ xs. p ≡ singles_problem header.fleet header.capacity (first_task xs) (other_tasks xs) in
        let Q : List Task → Type 0 = λ ts. p ≡ singles_problem header.fleet header.capacity (task_in scale depot) ts in
        let plain = subst Q (others_is (task_in scale depot) (map (task_in scale) customers)) (subst P same is) in
        let end = length (lines_of text) + 1 in (
          rest_clean end heading (rows_of text) (depot ∷ customers) passed (clean_lines scale end depot customers clean),
          problem_here (rows_of text) depot customers header p passed has plain,
        )
