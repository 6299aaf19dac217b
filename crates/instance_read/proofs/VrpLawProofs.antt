-- The sections of the lines of a `.vrp` text.
use Rattle.std.proofs.Common.{◌≡◌, ◌≤◌, ℕ, zero, suc, ◌+◌, ◌-◌, Bool, true, false, ◌⊎◌, inl, inr, ⊎_elim, cond, eqb, List, [], ◌∷◌, ◌++◌, length, length-append}
use Rattle.std.proofs.Common.{map, drop, Option, Some, None, pos, refl, sym, ap, ◌∙◌, arith}
use Rattle.std.specs.Prelude.{◌||◌, codes, find}
use Rattle.std.specs.Int.RustNames.{unsigned_abs}
use Rattle.std.specs.Option.{option_map}
use Rattle.std.proofs.lemmas.Bool.{cond_both, false≢true, ne_eqb, le-ltb}
use Rattle.std.proofs.lemmas.Option.{none-some, same_Some}
use Rattle.text_lines.specs.Words.{words_of}
use Rattle.instance_read.specs.declared.vrp_lines.Key.{Key}
use Rattle.instance_read.specs.declared.vrp_lines.Key.TheVariants.{Dimension, Capacity, ProblemType, WeightType, Refused, Coordinates, Demands, Depots, End, StrayNumber, Ignored}
use Rattle.instance_read.specs.declared.vrp_lines.Section.{Section}
use Rattle.instance_read.specs.declared.vrp_lines.Section.TheVariants.{Outside, CoordinateLine, DemandLine, DepotLine, AfterEnd}
use Rattle.instance_read.specs.Fields.{field}
use Rattle.instance_read.specs.Rows.{Row, rows_of}
use Rattle.instance_read.specs.Vrp.{first_key, has_key, key_number}
use Rattle.instance_read.specs.VrpLaws.{DepotsAreTwoWords, OnlyDimensionAnnounces, EndIsTheEnd, LeavesOutside, OtherLinesStayOutside}
use Rattle.instance_read.specs.VrpLaws.{SectionsHaveALineForEachNode, after_end, coordinate_lines, demand_lines, depot_line, section_lines, is_keyed, outside}
use Rattle.instance_read.specs.VrpLaws.{rows_in}
use Rattle.instance_read.specs.VrpLines.{Placed, begins_as_number, coordinates_left, demands_left, depots_after, lines_left, ends_in, key_of, key_text}
use Rattle.instance_read.specs.VrpLines.{nodes_after, nodes_in_key, place_after, place_after_key, placed_from, trimmed, value_words}
use Rattle.instance_read.proofs.LilimLemmas.{cons_head, cons_tail}
use Rattle.instance_read.proofs.ReadingLemmas.{nodes_other, placed_none, placed_step}

-- a section of nodes: `line k` is the section with k lines left
module _ (line : ℕ → Section) (goes : (n : ℕ) (row : Row) (k : ℕ) → place_after (Some n) row (line k) ≡ lines_left line (k - 1)) where
  left_is : (k : ℕ) → lines_left line (suc k) ≡ line (suc k)
  left_is k = ap (λ b. cond b Outside (line (suc k))) (ne_eqb (suc k) 0 (omega arith))

  block : (n k : ℕ) (rows : List Row) → placed_from (Some n) (lines_left line k) rows ≡ section_lines line k rows ++ placed_from (Some n) Outside (drop k rows)
  block n zero rows = refl
  block n (suc k) [] = placed_none (Some n) (lines_left line (suc k)) ∙ sym (placed_none (Some n) Outside)
  block n (suc k) (row ∷ rows) =
      let back : suc k - 1 ≡ k = omega arith in
      ap (λ p. placed_from (Some n) p (row ∷ rows)) (left_is k) ∙ placed_step (Some n) (line (suc k)) row rows
      ∙ ap (λ p. record { row = row; place = line (suc k) } ∷ placed_from (Some n) p rows) (goes n row (suc k) ∙ ap (lines_left line) back)
      ∙ ap (λ ps. record { row = row; place = line (suc k) } ∷ ps) (block n k rows)

coordinate_block : (n k : ℕ) (rows : List Row) → placed_from (Some n) (coordinates_left k) rows ≡ coordinate_lines k rows ++ placed_from (Some n) Outside (drop k rows)
coordinate_block n k rows = block (λ j. CoordinateLine j) (λ n row j. refl) n k rows

demand_block : (n k : ℕ) (rows : List Row) → placed_from (Some n) (demands_left k) rows ≡ demand_lines k rows ++ placed_from (Some n) Outside (drop k rows)
demand_block n k rows = block (λ j. DemandLine j) (λ n row j. refl) n k rows

-- a line outside the sections, by its key
key_step : (nodes : Option ℕ) (row : Row) (rows : List Row) (key : Key) → key_of row ≡ key → nodes_in_key row key ≡ None
    → placed_from nodes Outside (row ∷ rows) ≡ outside row ∷ placed_from nodes (place_after_key nodes key) rows
key_step nodes row rows key is none =
    placed_step nodes Outside row rows
    ∙ ap (λ o. outside row ∷ placed_from o (place_after_key nodes (key_of row)) rows) (nodes_other row key nodes is none)
    ∙ ap (λ k. outside row ∷ placed_from nodes (place_after_key nodes k) rows) is

-- ---- the number of nodes announced before a line, and the lines after it
abbrev announced : Option ℕ → List Placed → Option ℕ
announced nodes [] = nodes
announced nodes (p ∷ before) = announced (nodes_after nodes p.row p.place) before

announced_stays : (n : ℕ) (before : List Placed) → announced (Some n) before ≡ Some n
announced_stays n [] = refl
announced_stays n (p ∷ before) = announced_stays n before

-- only a DIMENSION line announces nodes
key_cases : (key : Key) → (key ≡ Dimension) ⊎ ((eqb (key_number key) 0 ≡ false) × ((row : Row) → nodes_in_key row key ≡ None))
key_cases Dimension = inl refl
key_cases _ = inr (refl, λ row. refl)

none_in_key : (row : Row) (key : Key) → eqb (key_number key) 0 ≡ false → nodes_in_key row key ≡ None
none_in_key row key other =
    ⊎_elim (λ is. absurd (false≢true (sym other ∙ ap (λ k. eqb (key_number k) 0) is))) (λ no. no.1 row) (key_cases key)

still_none : (p : Placed) → has_key Dimension p ≡ false → nodes_after None p.row p.place ≡ None
still_none p other = by p.place other
  where
    by : (place : Section) → has_key Dimension (record { row = p.row; place = place }) ≡ false → nodes_after None p.row place ≡ None
    by Outside other = none_in_key p.row (key_of p.row) other
    by _ other = refl

dimension_key : (key : Key) → eqb (key_number key) 0 ≡ true → key ≡ Dimension
dimension_key key is = ⊎_elim (λ same. same) (λ no. absurd (false≢true (sym no.0 ∙ is))) (key_cases key)

now_some : (p : Placed) (n : ℕ) → has_key Dimension p ≡ true → field (value_words p.row) 0 ≡ Some (pos n) → nodes_after None p.row p.place ≡ Some n
now_some p n is value = by p.place is
  where
    by : (place : Section) → has_key Dimension (record { row = p.row; place = place }) ≡ true → nodes_after None p.row place ≡ Some n
    by Outside is = ap (nodes_in_key p.row) (dimension_key (key_of p.row) is) ∙ ap (option_map unsigned_abs) value
    by _ is = absurd (false≢true is)

-- the number in the first DIMENSION line is announced for all lines after it
announced_first : (before : List Placed) (dimension : Row) (n : ℕ) → first_key Dimension before ≡ Some dimension → field (value_words dimension) 0 ≡ Some (pos n) → announced None before ≡ Some n
announced_first [] dimension n first value = absurd (none-some dimension first)
announced_first (p ∷ before) dimension n first value = by (has_key Dimension p) refl (announced_first before dimension n)
  where
    by : (t : Bool) → has_key Dimension p ≡ t → (first_key Dimension before ≡ Some dimension → field (value_words dimension) 0 ≡ Some (pos n)
        → announced None before ≡ Some n) → announced None (p ∷ before) ≡ Some n
    by true is rest =
        let same : p.row ≡ dimension = same_Some p.row dimension (sym (ap (λ t. option_map (λ (q : Placed). q.row) (cond t (Some p) (find (has_key Dimension) before))) is) ∙ first) in
        ap (λ o. announced o before) (now_some p n is (ap (λ row. field (value_words row) 0) same ∙ value)) ∙ announced_stays n before
    by false is rest =
        ap (λ o. announced o before) (still_none p is)
        ∙ rest (sym (ap (λ t. option_map (λ (q : Placed). q.row) (cond t (Some p) (find (has_key Dimension) before))) is) ∙ first) value

rows_back : (nodes : Option ℕ) (place : Section) (rows : List Row) → rows_in (placed_from nodes place rows) ≡ rows
rows_back nodes place [] = ap rows_in (placed_none nodes place)
rows_back nodes place (row ∷ rows) =
    ap rows_in (placed_step nodes place row rows) ∙ ap (λ more. row ∷ more) (rows_back (nodes_after nodes row place) (place_after nodes row place) rows)

-- the sections of the lines after line p
lines_after : (nodes : Option ℕ) (place : Section) (rows : List Row) (before after : List Placed) (p : Placed) → placed_from nodes place rows ≡ before ++ p ∷ after
    → after ≡ placed_from (nodes_after (announced nodes before) p.row p.place) (place_after (announced nodes before) p.row p.place) (rows_in after)
lines_after nodes place [] before after p is = absurd (omega (arith, ap length (sym (placed_none nodes place) ∙ is), length-append before (p ∷ after)))
lines_after nodes place (row ∷ rows) [] after p is =
    let whole = sym (placed_step nodes place row rows) ∙ is in
    let more = placed_from (nodes_after nodes row place) (place_after nodes row place) rows in
    let here : record { row = row; place = place } ≡ p = cons_head (record { row = row; place = place }) p more after whole in
    let rest : more ≡ after = cons_tail (record { row = row; place = place }) p more after whole in
    sym rest
    ∙ ap (placed_from (nodes_after nodes row place) (place_after nodes row place)) (sym (rows_back (nodes_after nodes row place) (place_after nodes row place) rows) ∙ ap rows_in rest)
    ∙ ap (λ (q : Placed). placed_from (nodes_after nodes q.row q.place) (place_after nodes q.row q.place) (rows_in after)) here
lines_after nodes place (row ∷ rows) (q ∷ before) after p is =
    let whole = sym (placed_step nodes place row rows) ∙ is in
    let more = placed_from (nodes_after nodes row place) (place_after nodes row place) rows in
    let here : record { row = row; place = place } ≡ q = cons_head (record { row = row; place = place }) q more (before ++ p ∷ after) whole in
    let rest : more ≡ before ++ p ∷ after = cons_tail (record { row = row; place = place }) q more (before ++ p ∷ after) whole in
    lines_after (nodes_after nodes row place) (place_after nodes row place) rows before after p rest
    ∙ ap (λ (r : Placed). placed_from (nodes_after (announced (nodes_after nodes r.row r.place) before) p.row p.place)
    (place_after (announced (nodes_after nodes r.row r.place) before) p.row p.place) (rows_in after)) here

pub sections : SectionsHaveALineForEachNode
sections text before after row dimension n is first value =
    let follows = lines_after None Outside (rows_of text) before after (outside row) is in
    let known : after ≡ placed_from (Some n) (place_after_key (Some n) (key_of row)) (rows_in after) =
    follows ∙ ap (λ o. placed_from (nodes_after o row Outside) (place_after o row Outside) (rows_in after)) (announced_first before dimension n first value) in (
      λ key. known ∙ ap (λ k. placed_from (Some n) (place_after_key (Some n) k) (rows_in after)) key ∙ coordinate_block n n (rows_in after),
      λ key. known ∙ ap (λ k. placed_from (Some n) (place_after_key (Some n) k) (rows_in after)) key ∙ demand_block n n (rows_in after),
    )

-- ---- lines with other keys
-- what is true for each key that these tests choose is true for the line's key
key_holds : (P : Key → Type 0) (row : Row) → P Capacity → P ProblemType → P WeightType → P Refused → P StrayNumber → P Ignored
    → (is_keyed (codes "DIMENSION") row ≡ true → P Dimension) → (is_keyed (codes "NODE_COORD_SECTION") row ≡ true → P Coordinates)
    → (is_keyed (codes "DEMAND_SECTION") row ≡ true → P Demands) → (is_keyed (codes "DEPOT_SECTION") row ≡ true → P Depots)
    → (is_keyed (codes "EOF") row ≡ true → P End) → P (key_of row)
unfolding key_of
key_holds P row capacity kind weight refused stray ignored dimension coordinates demands depots end =
    cond_both (is_keyed (codes "DIMENSION") row) _ _ P dimension (λ _.
    cond_both (is_keyed (codes "CAPACITY") row) _ _ P (λ _. capacity) (λ _.
    cond_both (is_keyed (codes "TYPE") row) _ _ P (λ _. kind) (λ _.
    cond_both (is_keyed (codes "EDGE_WEIGHT_TYPE") row) _ _ P (λ _. weight) (λ _.
    cond_both (is_keyed (codes "DISTANCE") row || is_keyed (codes "SERVICE_TIME") row) _ _ P (λ _. refused) (λ _.
    cond_both (is_keyed (codes "NODE_COORD_SECTION") row) _ _ P coordinates (λ _.
    cond_both (is_keyed (codes "DEMAND_SECTION") row) _ _ P demands (λ _.
    cond_both (is_keyed (codes "DEPOT_SECTION") row) _ _ P depots (λ _.
    cond_both (is_keyed (codes "EOF") row) _ _ P end (λ _.
    cond_both (ends_in (codes "_SECTION") (key_text row.text)) _ _ P (λ _. refused) (λ _.
    cond_both (begins_as_number (trimmed row.text)) _ _ P (λ _. stray) (λ _. ignored)))))))))))

clash : {X : Type 0} {b : Bool} → b ≡ false → b ≡ true → X
clash not_so so = absurd (false≢true (sym not_so ∙ so))

stays : (nodes : Option ℕ) (row : Row) → LeavesOutside row → place_after_key nodes (key_of row) ≡ Outside
stays nodes row leaves = key_holds (λ key. place_after_key nodes key ≡ Outside) row refl refl refl refl refl refl (λ _. refl) (clash leaves.0) (clash leaves.1) (clash leaves.2) (clash leaves.3)

pub others : OtherLinesStayOutside
others nodes row rows leaves = placed_step nodes Outside row rows ∙ ap (λ place. outside row ∷ placed_from (nodes_after nodes row Outside) place rows) (stays nodes row leaves)

pub announces : OnlyDimensionAnnounces
announces (Some n) row other = refl
announces None row other = key_holds (λ key. nodes_in_key row key ≡ None) row refl refl refl refl refl refl (clash other) (λ _. refl) (λ _. refl) (λ _. refl) (λ _. refl)

-- a line in the list of depots or after the end does not change the number of nodes announced
same_nodes : (nodes : Option ℕ) (row : Row) (seen : ℕ) → nodes_after nodes row (DepotLine seen) ≡ nodes
same_nodes None row seen = refl
same_nodes (Some n) row seen = refl

same_nodes_after : (nodes : Option ℕ) (row : Row) → nodes_after nodes row AfterEnd ≡ nodes
same_nodes_after None row = refl
same_nodes_after (Some n) row = refl

depot_step : (nodes : Option ℕ) (seen : ℕ) (row : Row) (rows : List Row) (place : Section) → depots_after (seen + length (words_of row.text)) ≡ place
    → placed_from nodes (DepotLine seen) (row ∷ rows) ≡ depot_line seen row ∷ placed_from nodes place rows
depot_step nodes seen row rows place goes =
    placed_step nodes (DepotLine seen) row rows
    ∙ ap (λ o. depot_line seen row ∷ placed_from o (depots_after (seen + length (words_of row.text))) rows) (same_nodes nodes row seen)
    ∙ ap (λ p. depot_line seen row ∷ placed_from nodes p rows) goes

over : (n : ℕ) → 2 ≤ n → depots_after n ≡ Outside
over n l = ap (λ b. cond b (DepotLine n) Outside) (le-ltb n 2 l)

opened : (nodes : Option ℕ) (row : Row) (rows : List Row) → key_of row ≡ Depots → placed_from nodes Outside (row ∷ rows) ≡ outside row ∷ placed_from nodes (DepotLine 0) rows
opened nodes row rows is = key_step nodes row rows Depots is refl

pub depots : DepotsAreTwoWords
depots nodes row first second rows is = (
  λ two. opened nodes row (first ∷ rows) is ∙ ap (λ ps. outside row ∷ ps) (depot_step nodes 0 first rows Outside (over (0 + length (words_of first.text)) (omega (arith, two)))),
  λ one some.
      let here : depots_after (0 + length (words_of first.text)) ≡ DepotLine 1 = ap (λ n. depots_after (0 + n)) one in
      opened nodes row (first ∷ second ∷ rows) is
      ∙ ap (λ ps. outside row ∷ ps) (depot_step nodes 0 first (second ∷ rows) (DepotLine 1) here)
      ∙ ap (λ ps. outside row ∷ depot_line 0 first ∷ ps) (depot_step nodes 1 second rows Outside (over (1 + length (words_of second.text)) (omega (arith, some)))),
)

all_after : (nodes : Option ℕ) (rows : List Row) → placed_from nodes AfterEnd rows ≡ map after_end rows
all_after nodes [] = placed_none nodes AfterEnd
all_after nodes (row ∷ rows) =
    placed_step nodes AfterEnd row rows ∙ ap (λ o. after_end row ∷ placed_from o AfterEnd rows) (same_nodes_after nodes row) ∙ ap (λ ps. after_end row ∷ ps) (all_after nodes rows)

pub end : EndIsTheEnd
end nodes row rows is = key_step nodes row rows End is refl ∙ ap (λ ps. outside row ∷ ps) (all_after nodes rows)
