-- The faults of lines with tasks or customers, in the order in which a reader meets them.
use Rattle.std.proofs.Common.{◌≡◌, ℕ, suc, ◌+◌, ◌-◌, ◌<◌, ◌≤◌, inl, inr, ⊎_elim, List, [], ◌∷◌, ◌++◌, length, map, Option, Some, None, refl, sym, ap, subst, ◌∙◌, arith, append_assoc, ℤ}
use Rattle.std.specs.Prelude.{slice_get}
use Rattle.std.specs.List.{last_or}
use Rattle.std.proofs.lemmas.Bool.{cases_Bool, false≢true}
use Rattle.text_lines.specs.Words.{is_blank_line, words_of}
use Rattle.instance_read.specs.declared.faults.ReadFault.{ReadFault}
use Rattle.instance_read.specs.declared.faults.ReadFaultKind.{ReadFaultKind}
use Rattle.instance_read.specs.declared.faults.ReadFaultKind.TheVariants.{BadNumber, Range, FieldCount, TaskOrder, EmptyWindow, TooManyStops}
use Rattle.instance_read.specs.declared.scales.Scale.{Scale}
use Rattle.instance_read.specs.declared.tasks.Task.{Task}
use Rattle.instance_read.specs.Faults.{IsNoLaterPlace}
use Rattle.instance_read.specs.Lilim.{stop_fault, task_fault, task_limits}
use Rattle.instance_read.specs.Pairs.{scaled_task, task_in, task_of}
use Rattle.instance_read.specs.Rows.{Row, rows_from}
use Rattle.instance_read.specs.TaskFaults.{HasNoKind, HasNoStopFault, HasNoTaskFault, IsFirstKind, IsFirstStopFault, LinesAbove, StopLineFault}
use Rattle.instance_read.proofs.RowLemmas.{rows_nil, rows_blank, rows_read}

pub above_weaker : (m n : ℕ) (rows : List Row) → m ≤ n → LinesAbove n rows → LinesAbove m rows
above_weaker m n [] l h = tt
above_weaker m n (row ∷ rows) l h = (omega arith, h.1)

-- the line numbers of a text are ascending
pub rows_above : (n : ℕ) (ls : List (List ℕ)) → LinesAbove n (rows_from (n + 1) ls)
rows_above n [] = let P : List Row → Type 0 = LinesAbove n in subst P (sym (rows_nil (n + 1))) tt
rows_above n (l ∷ ls) =
    let P : List Row → Type 0 = LinesAbove n in
    ⊎_elim
    (λ blank. subst P (sym (rows_blank (n + 1) l ls blank)) (above_weaker n (n + 1) (rows_from (n + 1 + 1) ls) (omega arith) (rows_above (n + 1) ls)))
    (λ read. subst P (sym (rows_read (n + 1) l ls read)) (omega arith, rows_above (n + 1) ls))
    (cases_Bool (is_blank_line l))

-- a fault of these lines is on a line after line n
pub fault_above : (limits : List (ℤ × ℤ)) (n : ℕ) (previous : Option Task) (rows : List Row) (line : ℕ) (kind : ReadFaultKind) → LinesAbove n rows
    → StopLineFault limits previous rows line kind → n < line
fault_above limits n previous [] line kind h f = absurd f
fault_above limits n previous (row ∷ rows) line kind h (inl here) = omega (arith, h.0, here.0)
fault_above limits n previous (row ∷ rows) line kind h (inr later) = omega (arith, h.0, fault_above limits row.line (Some (task_of row)) rows line kind h.1 later)

module _ (limits : List (ℤ × ℤ)) (previous : Option Task) (row : Row) (rows : List Row) where
  pub step_clean : HasNoKind (stop_fault limits previous (words_of row.text)) → HasNoStopFault limits (Some (task_of row)) rows → HasNoStopFault limits previous (row ∷ rows)
  step_clean none rest line kind (inl here) = false≢true (sym (none kind) ∙ here.1)
  step_clean none rest line kind (inr later) = rest line kind later

  first_cases : (f : ReadFault) → HasNoKind (stop_fault limits previous (words_of row.text)) → IsFirstStopFault limits (Some (task_of row)) rows f → (line : ℕ) (kind : ReadFaultKind)
      → StopLineFault limits previous (row ∷ rows) line kind → IsNoLaterPlace f.line f.kind line kind
  first_cases f none rest line kind (inl here) = absurd (false≢true (sym (none kind) ∙ here.1))
  first_cases f none rest line kind (inr later) = rest.first line kind later

  pub step_first : (f : ReadFault) → HasNoKind (stop_fault limits previous (words_of row.text)) → IsFirstStopFault limits (Some (task_of row)) rows f → IsFirstStopFault limits previous (row ∷ rows) f
  step_first f none rest = record { here = inr rest.here; first = first_cases f none rest }

  here_cases : (found : ReadFaultKind) → LinesAbove 0 (row ∷ rows) → IsFirstKind (stop_fault limits previous (words_of row.text)) found → (line : ℕ) (kind : ReadFaultKind)
      → StopLineFault limits previous (row ∷ rows) line kind → IsNoLaterPlace row.line found line kind
  here_cases found above h line kind (inl here) = inr (here.0, h.1 kind here.1)
  here_cases found above h line kind (inr later) = inl (fault_above limits row.line (Some (task_of row)) rows line kind above.1 later)

  pub here_first : (found : ReadFaultKind) → LinesAbove 0 (row ∷ rows) → IsFirstKind (stop_fault limits previous (words_of row.text)) found
      → IsFirstStopFault limits previous (row ∷ rows) (record { line = row.line; kind = found })
  here_first found above h = record { here = inl (refl, h.0); first = here_cases found above h }

pub step_none : (scale : Scale) (previous : Option Task) (row : Row) (rows : List Row) → HasNoKind (task_fault scale previous (words_of row.text))
    → HasNoTaskFault scale (Some (task_of row)) rows → HasNoTaskFault scale previous (row ∷ rows)
step_none scale previous row rows none rest = step_clean (task_limits scale) previous row rows none rest

pub last_or-push : (o : Option Task) (ts : List Task) (t : Task) → last_or o (ts ++ t ∷ []) ≡ Some t
last_or-push o [] t = refl
last_or-push o (u ∷ ts) t = last_or-push (Some u) ts t

last_from : (t : Task) (ts : List Task) → slice_get (t ∷ ts) (length ts) ≡ last_or (Some t) ts
last_from t [] = refl
last_from t (u ∷ ts) = last_from u ts

-- the value that `last` returns
pub last_or-is : (ts : List Task) → slice_get ts (length ts - 1) ≡ last_or None ts
last_or-is [] = refl
last_or-is (t ∷ ts) = let n : suc (length ts) - 1 ≡ length ts = omega arith in rw n (last_from t ts)

-- a line after a task has the same faults if the task is times the scale
module _ (scale : Scale) (limits : List (ℤ × ℤ)) (t : Task) where
  same_after : (words : List (List ℕ)) (kind : ReadFaultKind) → stop_fault limits (Some (scaled_task scale t)) words kind ≡ stop_fault limits (Some t) words kind
  same_after words FieldCount = refl
  same_after words BadNumber = refl
  same_after words TooManyStops = refl
  same_after words Range = refl
  same_after words TaskOrder = refl
  same_after words EmptyWindow = refl
  same_after words _ = refl

  fault_scaled : (rows : List Row) (line : ℕ) (kind : ReadFaultKind) → StopLineFault limits (Some t) rows line kind → StopLineFault limits (Some (scaled_task scale t)) rows line kind
  fault_scaled [] line kind f = f
  fault_scaled (row ∷ rows) line kind (inl here) = inl (here.0, same_after (words_of row.text) kind ∙ here.1)
  fault_scaled (row ∷ rows) line kind (inr later) = inr later

  fault_unscaled : (rows : List Row) (line : ℕ) (kind : ReadFaultKind) → StopLineFault limits (Some (scaled_task scale t)) rows line kind → StopLineFault limits (Some t) rows line kind
  fault_unscaled [] line kind f = f
  fault_unscaled (row ∷ rows) line kind (inl here) = inl (here.0, sym (same_after (words_of row.text) kind) ∙ here.1)
  fault_unscaled (row ∷ rows) line kind (inr later) = inr later

  clean_unscaled : (rows : List Row) → HasNoStopFault limits (Some (scaled_task scale t)) rows → HasNoStopFault limits (Some t) rows
  clean_unscaled rows h line kind f = h line kind (fault_scaled rows line kind f)

  first_unscaled : (rows : List Row) (f : ReadFault) → IsFirstStopFault limits (Some (scaled_task scale t)) rows f → IsFirstStopFault limits (Some t) rows f
  first_unscaled rows f h = record {
    here = fault_unscaled rows f.line f.kind h.here;
    first = λ line kind g. h.first line kind (fault_scaled rows line kind g);
  }

-- one more line without a fault: `tasks` are those of the lines before it, and `rest` are the lines from it on
module _ (scale : Scale) (limits : List (ℤ × ℤ)) (all rest more : List Row) (row : Row) (tasks : List Task) (previous : Option Task) (task : Task)
    (steps : rest ≡ row ∷ more) (last : previous ≡ last_or None tasks) (none : HasNoKind (stop_fault limits previous (words_of row.text)))
    (made : task ≡ task_in scale row) where
  pub tasks_more : tasks ++ map (task_in scale) rest ≡ map (task_in scale) all → (tasks ++ task ∷ []) ++ map (task_in scale) more ≡ map (task_in scale) all
  tasks_more h =
      append_assoc tasks (task ∷ []) (map (task_in scale) more) ∙ ap (λ t. tasks ++ t ∷ map (task_in scale) more) made
      ∙ sym (ap (λ rows. tasks ++ map (task_in scale) rows) steps) ∙ h

  pub above_more : LinesAbove 0 rest → LinesAbove 0 more
  above_more h =
      let P : List Row → Type 0 = LinesAbove 0 in
      above_weaker 0 row.line more (omega arith) (subst P steps h).1

  after : last_or None (tasks ++ task ∷ []) ≡ Some (task_in scale row)
  after = last_or-push None tasks task ∙ ap (λ t. Some t) made

  pub none_more : HasNoStopFault limits (last_or None (tasks ++ task ∷ [])) more → HasNoStopFault limits (last_or None tasks) rest
  none_more h =
      let P : Option Task → Type 0 = λ o. HasNoStopFault limits o more in
      let Q : List Row → Type 0 = HasNoStopFault limits previous in
      let R : Option Task → Type 0 = λ o. HasNoStopFault limits o rest in
      subst R last (subst Q (sym steps) (step_clean limits previous row more none (clean_unscaled scale limits (task_of row) more (subst P after h))))

  pub first_more : (f : ReadFault) → IsFirstStopFault limits (last_or None (tasks ++ task ∷ [])) more f → IsFirstStopFault limits (last_or None tasks) rest f
  first_more f h =
      let P : Option Task → Type 0 = λ o. IsFirstStopFault limits o more f in
      let Q : List Row → Type 0 = λ rows. IsFirstStopFault limits previous rows f in
      let R : Option Task → Type 0 = λ o. IsFirstStopFault limits o rest f in
      subst R last (subst Q (sym steps) (step_first limits previous row more f none (first_unscaled scale limits (task_of row) more f (subst P after h))))

-- the fault of the line at which reading ends is the first of all lines
pub stops_first : (limits : List (ℤ × ℤ)) (rest more : List Row) (row : Row) (tasks : List Task) (previous : Option Task) (found : ReadFaultKind) → rest ≡ row ∷ more
    → previous ≡ last_or None tasks → LinesAbove 0 rest → IsFirstKind (stop_fault limits previous (words_of row.text)) found
    → IsFirstStopFault limits (last_or None tasks) rest (record { line = row.line; kind = found })
stops_first limits rest more row tasks previous found steps last above h =
    let P : List Row → Type 0 = LinesAbove 0 in
    let Q : List Row → Type 0 = λ rows. IsFirstStopFault limits previous rows (record { line = row.line; kind = found }) in
    let R : Option Task → Type 0 = λ o. IsFirstStopFault limits o rest (record { line = row.line; kind = found }) in
    subst R last (subst Q (sym steps) (here_first limits previous row more found (subst P steps above) h))
