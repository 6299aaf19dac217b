-- The values of the definitions for worked texts.
use Rattle.std.proofs.Common.{◌≡◌, ℕ, true, false, List, [], ◌∷◌, ◌++◌, refl, pos, negsuc, map}
use Rattle.std.specs.Prelude.{codes}
use Rattle.text_lines.specs.Lines.{lines_of, pieces_of}
use Rattle.text_lines.specs.Words.{words_of}
use Rattle.text_lines.specs.Numbers.{number_of, whole_of, digits_of, is_digits}
use Rattle.plan_types.specs.declared.requests.Request.TheVariants.{Pair, Single}
use Rattle.plan_types.specs.declared.requests.Kind.TheVariants.{LiLim}
use Rattle.instance_read.specs.declared.faults.ReadFaultKind.TheVariants.{MissingKey, Range}
use Rattle.instance_read.specs.Faults.{OfLine}
use Rattle.instance_read.specs.Lilim.{customers_of}
use Rattle.instance_read.specs.Pairs.{is_mismatched, pairs_of, task_of}
use Rattle.instance_read.specs.Rows.{Row, rows_from, rows_of}
use Rattle.instance_read.specs.Solomon.{IsProblemOf, SolomonFault, heading, line_fault}
use Rattle.instance_read.specs.declared.scales.Scale.TheVariants.{One, Thousand}
use Rattle.instance_read.specs.declared.vrp_lines.Section.TheVariants.{AfterEnd}
use Rattle.instance_read.specs.VrpLines.{key_of, value_of, placed_from, placed_of, end_place}
use Rattle.instance_read.specs.Vrp.{lacks_key, vrp_problem, end_line}

abbrev line_end : List ℕ → List ℕ
line_end rest = 10 ∷ rest

abbrev V : List ℕ
V = codes "NAME : t3" ++ line_end (codes "TYPE : CVRP") ++ line_end (codes "DIMENSION : 4") ++ line_end (codes "EDGE_WEIGHT_TYPE : EUC_2D")
    ++ line_end (codes "CAPACITY : 10") ++ line_end (codes "NODE_COORD_SECTION") ++ line_end (codes "1 0 0") ++ line_end (codes "2 3 4") ++ line_end (codes "3 6 8")
    ++ line_end (codes "4 0 5") ++ line_end (codes "DEMAND_SECTION") ++ line_end (codes "1 0") ++ line_end (codes "2 6") ++ line_end (codes "3 4") ++ line_end (codes "4 5")
    ++ line_end (codes "DEPOT_SECTION") ++ line_end (codes "1") ++ line_end (codes "-1") ++ line_end (codes "EOF") ++ line_end []

ends : end_place V ≡ AfterEnd
unfolding lines_of pieces_of words_of number_of whole_of digits_of is_digits rows_from key_of value_of placed_from
ends = refl

complete : lacks_key (placed_of V) ≡ false
unfolding lines_of pieces_of words_of number_of whole_of digits_of is_digits rows_from key_of value_of placed_from
complete = refl

end_at : end_line V ≡ 19
unfolding lines_of pieces_of words_of number_of whole_of digits_of is_digits rows_from key_of value_of placed_from
end_at = refl

last_request : (vrp_problem One (placed_of V)).requests ≡ (
  1,
  Single
      (record { number = 1; x = pos 3; y = pos 4; demand = pos 6; earliest = 0; latest = 100000000; service = 0 }),
) ∷
    (2, Single (record { number = 2; x = pos 6; y = pos 8; demand = pos 4; earliest = 0; latest = 100000000; service = 0 })) ∷
    (3, Single (record { number = 3; x = pos 0; y = pos 5; demand = pos 5; earliest = 0; latest = 100000000; service = 0 })) ∷ []
unfolding lines_of pieces_of words_of number_of whole_of digits_of is_digits rows_from key_of value_of placed_from
last_request = refl

-- a text with a pickup and its delivery
abbrev L : List ℕ
L = codes "2 10 1" ++ line_end (codes "0 0 0 0 0 100 0 0 0") ++ line_end (codes "1 3 4 4 0 50 2 0 2") ++ line_end (codes "2 6 8 -4 0 60 2 1 0") ++ line_end []

pairs : pairs_of (customers_of L) ≡ (
  1,
  Pair (record { number = 1; x = pos 3; y = pos 4; demand = pos 4; earliest = 0; latest = 50; service = 2 })
      (record { number = 2; x = pos 6; y = pos 8; demand = negsuc 3; earliest = 0; latest = 60; service = 2 }),
) ∷ []
unfolding lines_of pieces_of words_of number_of whole_of digits_of is_digits rows_from customers_of task_of
pairs = refl

-- the text L, except that the delivery names task 3
M : List ℕ
M = codes "2 10 1" ++ line_end (codes "0 0 0 0 0 100 0 0 0") ++ line_end (codes "1 3 4 4 0 50 2 0 2") ++ line_end (codes "2 6 8 -4 0 60 2 3 0") ++ line_end []

mismatched : map (is_mismatched (customers_of M)) (customers_of M) ≡ true ∷ true ∷ []
unfolding M lines_of pieces_of words_of number_of whole_of digits_of is_digits rows_from customers_of task_of
mismatched = refl

-- a text in Solomon's format with one customer
abbrev S : List ℕ
S = codes "day" ++ line_end (line_end (codes "Vehicle")) ++ line_end (codes "NUMBER CAPACITY") ++ line_end (codes "2 10") ++ line_end (codes "CUSTOMER")
    ++ line_end (codes "CUST NO. XCOORD.") ++ line_end (codes "0 0 0 0 0 100 0") ++ line_end (codes "7 3 4 6 5 50 2") ++ line_end []

single : IsProblemOf One (rows_of S) (record {
  kind = LiLim;
  depot = record { number = 0; x = pos 0; y = pos 0; demand = pos 0; earliest = 0; latest = 100; service = 0 };
  capacity = 10;
  fleet = 2;
  requests = (7, Single (record { number = 7; x = pos 3; y = pos 4; demand = pos 6; earliest = 5; latest = 50; service = 2 })) ∷ [];
  next_number = 8;
})
unfolding lines_of pieces_of words_of number_of whole_of digits_of is_digits rows_from task_of
single = refl

-- a text without the word VEHICLE, and a line after six others with a negative demand
no_vehicle : SolomonFault One (codes "day" ++ line_end (line_end (codes "NUMBER"))) OfLine 3 MissingKey
unfolding lines_of pieces_of words_of rows_from
no_vehicle = (
  record { line = 1; text = codes "day" } ∷ [],
  record { line = 3; text = codes "NUMBER" },
  [],
  refl,
  refl,
  refl,
)

name : Row
name = record { line = 1; text = codes "day" }

negative : line_fault One heading (name ∷ name ∷ name ∷ name ∷ name ∷ name ∷ []) (record { line = 7; text = codes "0 0 0 -1 0 100 0" }) Range ≡ true
unfolding name words_of number_of whole_of digits_of is_digits
negative = refl

-- the same text with scale 1000: the demand stays
thousandfold : IsProblemOf Thousand (rows_of S) (record {
  kind = LiLim;
  depot = record { number = 0; x = pos 0; y = pos 0; demand = pos 0; earliest = 0; latest = 100000; service = 0 };
  capacity = 10;
  fleet = 2;
  requests = (7, Single (record { number = 7; x = pos 3000; y = pos 4000; demand = pos 6; earliest = 5000; latest = 50000; service = 2000 })) ∷ [];
  next_number = 8;
})
unfolding lines_of pieces_of words_of number_of whole_of digits_of is_digits rows_from task_of
thousandfold = refl
