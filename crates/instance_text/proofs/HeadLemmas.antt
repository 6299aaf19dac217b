-- The first lines of a `.vrp` text that is written, by their keys.
use Rattle.std.proofs.Common.{◌≡◌, ℕ, ◌<◌, ◌≤◌, ◌^◌, true, List, [], ◌∷◌, ◌++◌, Some, None, pos, refl, subst}
use Rattle.std.specs.Prelude.{codes, map, unsigned_abs}
use Rattle.std.specs.Fmt.{signed_decimal}
use Rattle.std.specs.Option.{option_map_or}
use Rattle.std.specs.Str.{str_eq_ignore_ascii_case}
use Rattle.instance_read.specs.declared.vrp_lines.Key.TheVariants.{Dimension, Capacity, ProblemType, WeightType, Coordinates, Demands, Depots, Ignored}
use Rattle.instance_read.specs.declared.vrp_lines.Section.TheVariants.{Outside}
use Rattle.instance_read.specs.Fields.{value_at}
use Rattle.instance_read.specs.Rows.{Row}
use Rattle.instance_read.specs.Vrp.{any_key, first_key, nodes_of}
use Rattle.instance_read.specs.VrpLaws.{outside}
use Rattle.instance_read.specs.VrpLines.{Placed, coordinates_left, key_of, value_of, value_words}
use Rattle.instance_text.proofs.KeyLemmas.{capacity_none, dimension_none, key_none, nodes_read, number_read, opening_none, spelling_none}
use Rattle.instance_text.proofs.PlacedLemmas.{CleanFrom, Leads, leads_join, leads_key}

-- six lines with these keys, with this number of nodes and this capacity
pub record Head (nodes most : ℕ) : Type 0 where
  pub name : Row
  pub type : Row
  pub dimension : Row
  pub weights : Row
  pub capacity : Row
  pub coordinates : Row
  pub is_name : key_of name ≡ Ignored
  pub is_type : key_of type ≡ ProblemType
  pub is_dimension : key_of dimension ≡ Dimension
  pub is_weights : key_of weights ≡ WeightType
  pub is_capacity : key_of capacity ≡ Capacity
  pub is_coordinates : key_of coordinates ≡ Coordinates
  pub typed : str_eq_ignore_ascii_case (value_of type) (codes "CVRP") ≡ true
  pub weighed : str_eq_ignore_ascii_case (value_of weights) (codes "EUC_2D") ≡ true
  pub nodes_small : nodes < 2 ^ 64
  pub most_small : most < 2 ^ 64
  pub counted : value_words dimension ≡ map signed_decimal (pos nodes ∷ [])
  pub limited : value_words capacity ≡ map signed_decimal (pos most ∷ [])

module _ (nodes most : ℕ) (h : Head nodes most) where
  abbrev pub head_rows : List Row
  head_rows = h.name ∷ h.type ∷ h.dimension ∷ h.weights ∷ h.capacity ∷ h.coordinates ∷ []

  abbrev pub head : List Placed
  head = outside h.name ∷ outside h.type ∷ outside h.dimension ∷ outside h.weights ∷ outside h.capacity ∷ outside h.coordinates ∷ []

  -- ---- the values of the keys in the head, whatever lines follow
  pub head_nodes : (rest : List Placed) → nodes_of (head ++ rest) ≡ nodes
  head_nodes rest = rw (h.is_name, h.is_type, h.is_dimension) (number_read h.dimension nodes h.nodes_small h.counted)

  pub head_capacity : (rest : List Placed) → option_map_or (λ row. unsigned_abs (value_at (value_words row) 0)) (first_key Capacity (head ++ rest)) 0 ≡ most
  head_capacity rest = rw (h.is_name, h.is_type, h.is_dimension, h.is_weights, h.is_capacity) (number_read h.capacity most h.most_small h.limited)

  pub has_dimension : (rest : List Placed) → any_key Dimension (head ++ rest) ≡ true
  has_dimension rest = rw (h.is_name, h.is_type, h.is_dimension) refl

  pub has_capacity : (rest : List Placed) → any_key Capacity (head ++ rest) ≡ true
  has_capacity rest = rw (h.is_name, h.is_type, h.is_dimension, h.is_weights, h.is_capacity) refl

  pub has_weights : (rest : List Placed) → any_key WeightType (head ++ rest) ≡ true
  has_weights rest = rw (h.is_name, h.is_type, h.is_dimension, h.is_weights) refl

  pub has_coordinates : (rest : List Placed) → any_key Coordinates (head ++ rest) ≡ true
  has_coordinates rest = rw (h.is_name, h.is_type, h.is_dimension, h.is_weights, h.is_capacity, h.is_coordinates) refl

  pub no_demands : (rest : List Placed) → any_key Demands (head ++ rest) ≡ any_key Demands rest
  no_demands rest = rw (h.is_name, h.is_type, h.is_dimension, h.is_weights, h.is_capacity, h.is_coordinates) refl

  pub no_depots : (rest : List Placed) → any_key Depots (head ++ rest) ≡ any_key Depots rest
  no_depots rest = rw (h.is_name, h.is_type, h.is_dimension, h.is_weights, h.is_capacity, h.is_coordinates) refl

  -- ---- the lines of the head have no fault
  module _ (low : 2 ≤ nodes) (high : nodes ≤ 40001) (within : most ≤ 1000000) where
    pub head_clean : CleanFrom [] head
    head_clean = (
      key_none [] h.name Ignored h.is_name (λ kind. refl),
      (
        key_none (outside h.name ∷ []) h.type ProblemType h.is_type (spelling_none (codes "CVRP") (value_of h.type) _ h.typed (rw h.is_name refl)),
        (
          key_none (outside h.name ∷ outside h.type ∷ []) h.dimension Dimension h.is_dimension
              (dimension_none _ (value_words h.dimension) nodes h.nodes_small h.counted (rw (h.is_name, h.is_type) refl) low high),
          (
            key_none (outside h.name ∷ outside h.type ∷ outside h.dimension ∷ []) h.weights WeightType h.is_weights
                (spelling_none (codes "EUC_2D") (value_of h.weights) _ h.weighed (rw (h.is_name, h.is_type, h.is_dimension) refl)),
            (
              key_none (outside h.name ∷ outside h.type ∷ outside h.dimension ∷ outside h.weights ∷ []) h.capacity Capacity h.is_capacity
                  (capacity_none _ (value_words h.capacity) most h.most_small h.limited (rw (h.is_name, h.is_type, h.is_dimension, h.is_weights) refl) within),
              (
                key_none (outside h.name ∷ outside h.type ∷ outside h.dimension ∷ outside h.weights ∷ outside h.capacity ∷ []) h.coordinates Coordinates h.is_coordinates
                    (opening_none _ _ (rw (h.is_name, h.is_type, h.is_dimension) refl) (rw (h.is_name, h.is_type, h.is_dimension, h.is_weights, h.is_capacity) refl)),
                tt,
              ),
            ),
          ),
        ),
      ),
    )

  -- ---- sections
  pub head_leads : Leads None Outside head_rows head (Some nodes) (coordinates_left nodes)
  head_leads =
      let announced : Leads None Outside (h.dimension ∷ []) (outside h.dimension ∷ []) (Some nodes) Outside =
      subst (λ o. Leads None Outside (h.dimension ∷ []) (outside h.dimension ∷ []) o Outside) (nodes_read h.dimension nodes h.nodes_small h.counted)
      (leads_key None h.dimension Dimension h.is_dimension)
      in
      leads_join (leads_key None h.name Ignored h.is_name)
      (leads_join (leads_key None h.type ProblemType h.is_type)
      (leads_join announced
      (leads_join (leads_key (Some nodes) h.weights WeightType h.is_weights)
      (leads_join (leads_key (Some nodes) h.capacity Capacity h.is_capacity) (leads_key (Some nodes) h.coordinates Coordinates h.is_coordinates)))))
