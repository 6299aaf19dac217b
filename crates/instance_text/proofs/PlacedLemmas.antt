-- Consecutive lines of a `.vrp` text: the sections that they are in, and that none has a fault.
use Rattle.std.proofs.Common.{◌≡◌, ℕ, suc, ◌-◌, cond, List, [], ◌∷◌, ◌++◌, length, Option, Some, None, refl, sym, ap, subst, ◌∙◌, arith, append_assoc, append-nil}
use Rattle.std.proofs.lemmas.Bool.{ne_eqb}
use Rattle.instance_read.specs.declared.scales.Scale.TheVariants.{One}
use Rattle.instance_read.specs.declared.vrp_lines.Key.{Key}
use Rattle.instance_read.specs.declared.vrp_lines.Section.{Section}
use Rattle.instance_read.specs.declared.vrp_lines.Section.TheVariants.{Outside}
use Rattle.instance_read.specs.Rows.{Row}
use Rattle.instance_read.specs.Vrp.{place_fault}
use Rattle.instance_read.specs.VrpLaws.{outside, section_lines}
use Rattle.instance_read.specs.VrpLines.{Placed, end_from, key_of, lines_left, nodes_after, nodes_in_key, place_after, place_after_key, placed_from}
use Rattle.instance_read.specs.DraftLines.{HasNoLineFault}
use Rattle.instance_read.specs.TaskFaults.{HasNoKind}
use Rattle.instance_read.proofs.ReadingLemmas.{clean_more, placed_step}

-- ---- faults
-- none of these lines has a fault, after the lines before
abbrev pub CleanFrom : List Placed → List Placed → Type 0
CleanFrom before [] = Unit {0}
CleanFrom before (p ∷ ps) = HasNoKind (place_fault One before p.row p.place) × CleanFrom (before ++ p ∷ []) ps

pub clean_all : (before ps : List Placed) → HasNoLineFault One before → CleanFrom before ps → HasNoLineFault One (before ++ ps)
clean_all before [] clean from = subst (HasNoLineFault One) (sym (append-nil before)) clean
clean_all before (p ∷ ps) clean from =
    subst (HasNoLineFault One) (append_assoc before (p ∷ []) ps) (clean_all (before ++ p ∷ []) ps (clean_more One before p clean from.0) from.1)

pub clean_join : (before xs ys : List Placed) → CleanFrom before xs → CleanFrom (before ++ xs) ys → CleanFrom before (xs ++ ys)
clean_join before [] ys a b = subst (λ l. CleanFrom l ys) (append-nil before) b
clean_join before (x ∷ xs) ys a b = (a.0, clean_join (before ++ x ∷ []) xs ys a.1 (subst (λ l. CleanFrom l ys) (sym (append_assoc before (x ∷ []) xs)) b))

-- ---- sections
-- the rows are the lines of `ps` with their sections; after them, `later` nodes are announced and the next line
-- is in the section `next`
pub record Leads (nodes : Option ℕ) (place : Section) (rows : List Row) (ps : List Placed) (later : Option ℕ) (next : Section) : Type 0 where
  pub placed : (more : List Row) → placed_from nodes place (rows ++ more) ≡ ps ++ placed_from later next more
  pub ends : (more : List Row) → end_from nodes place (rows ++ more) ≡ end_from later next more

pub leads_join : {a b c : Option ℕ} {x y z : Section} {rows more : List Row} {ps qs : List Placed} → Leads a x rows ps b y → Leads b y more qs c z → Leads a x (rows ++ more) (ps ++ qs) c z
leads_join {a} {b} {c} {x} {y} {z} {rows} {more} {ps} {qs} first second = record {
  placed = λ rest.
      ap (placed_from a x) (append_assoc rows more rest)
      ∙ first.placed (more ++ rest)
      ∙ ap (λ l. ps ++ l) (second.placed rest)
      ∙ sym (append_assoc ps qs (placed_from c z rest));
  ends = λ rest. ap (end_from a x) (append_assoc rows more rest) ∙ first.ends (more ++ rest) ∙ second.ends rest;
}

-- a single row leads from its section to the section of the next line
pub leads_one : (nodes : Option ℕ) (place : Section) (row : Row) → Leads nodes place (row ∷ []) (record { row = row; place = place } ∷ []) (nodes_after nodes row place) (place_after nodes row place)
leads_one nodes place row = record { placed = λ rest. placed_step nodes place row rest; ends = λ rest. refl }

-- the number of nodes announced after a line outside the sections, by the key of the line
abbrev pub nodes_with : Option ℕ → Row → Key → Option ℕ
nodes_with (Some n) row key = Some n
nodes_with None row key = nodes_in_key row key

nodes_same : (nodes : Option ℕ) (row : Row) (key : Key) → key_of row ≡ key → nodes_after nodes row Outside ≡ nodes_with nodes row key
nodes_same (Some n) row key is = refl
nodes_same None row key is = ap (nodes_in_key row) is

pub leads_key : (nodes : Option ℕ) (row : Row) (key : Key) → key_of row ≡ key → Leads nodes Outside (row ∷ []) (outside row ∷ []) (nodes_with nodes row key) (place_after_key nodes key)
leads_key nodes row key is =
    subst (λ k. Leads nodes Outside (row ∷ []) (outside row ∷ []) (nodes_with nodes row key) (place_after_key nodes k)) is
    (subst (λ o. Leads nodes Outside (row ∷ []) (outside row ∷ []) o (place_after nodes row Outside)) (nodes_same nodes row key is) (leads_one nodes Outside row))

-- facts about a section of nodes
module _ (line : ℕ → Section) (goes : (n : ℕ) (row : Row) (k : ℕ) → place_after (Some n) row (line k) ≡ lines_left line (k - 1))
    (stays : (n : ℕ) (row : Row) (k : ℕ) → nodes_after (Some n) row (line k) ≡ Some n) where
  left_is : (k : ℕ) → lines_left line (suc k) ≡ line (suc k)
  left_is k = ap (λ b. cond b Outside (line (suc k))) (ne_eqb (suc k) 0 (omega arith))

  one_left : (n k : ℕ) (row : Row) → Leads (Some n) (lines_left line (suc k)) (row ∷ []) (record { row = row; place = line (suc k) } ∷ []) (Some n) (lines_left line k)
  one_left n k row =
      let back : suc k - 1 ≡ k = omega arith in
      let ps : List Placed = record { row = row; place = line (suc k) } ∷ [] in
      subst (λ x. Leads (Some n) x (row ∷ []) ps (Some n) (lines_left line k)) (sym (left_is k))
      (subst (λ x. Leads (Some n) (line (suc k)) (row ∷ []) ps (Some n) x) (goes n row (suc k) ∙ ap (lines_left line) back)
      (subst (λ o. Leads (Some n) (line (suc k)) (row ∷ []) ps o (place_after (Some n) row (line (suc k)))) (stays n row (suc k)) (leads_one (Some n) (line (suc k)) row)))

  pub leads_section : (n : ℕ) (rows : List Row) → Leads (Some n) (lines_left line (length rows)) rows (section_lines line (length rows) rows) (Some n) Outside
  leads_section n [] = record { placed = λ rest. refl; ends = λ rest. refl }
  leads_section n (row ∷ rows) = leads_join (one_left n (length rows) row) (leads_section n rows)
