-- Tables of which some were rebuilt.
use Rattle.std.proofs.Common.{◌≡◌, ℕ, ◌+◌, ◌-◌, ◌<◌, ◌≤◌, ◌⊎◌, Bool, true, false, List, []}
use Rattle.std.proofs.Common.{◌∷◌, length, map, set, get_or, refl, sym, ap, subst, ◌∙◌, inl, inr, arith}
use Rattle.std.specs.List.{AllByRecursion}
use Rattle.std.proofs.Math.ListN.{get_or-map, length-map}
use Rattle.std.proofs.lemmas.Bool.Decides.{eqb_tells}
use Rattle.std.proofs.lemmas.List.{get_or_default, length-set, same_lists, get_or-set_other}
use Rattle.std.proofs.lemmas.Grind.{get_or-set_at}
use Rattle.std.proofs.lemmas.List.Elements.{recursion_from_All}
use Rattle.std.proofs.lemmas.Option.{get_or_from_slice_get}
use Rattle.plan_types.specs.Instance.{Instance, IsInstance}
use Rattle.route_sched.specs.Route.{AreDistinctStops}
use Rattle.plan_audit.specs.Locality.{PassingIsLocal, PlansAreDisjointRoutes}
use Rattle.plan_audit.specs.Passes.{has, passes}
use Rattle.slack_tables.specs.Course.{Course, course_of, course_route}
use Rattle.slack_tables.proofs.TableLemmas.{numbers-are}
use Rattle.move_ops.specs.Insertion.{route_of}
use Rattle.move_ops.specs.Tables.{plan_of, tables_of, AreTablesIn, AreVehicles, DifferOnlyAt}
use Rattle.move_ops.specs.FreshTables.{fresh_of, replaced, AreWithin}
use Rattle.move_ops.proofs.ReplacementLemmas.{at_vehicle, parts}

-- ---- the routes of tables
module _ (p : Instance) (valid : IsInstance p) where
  routes_kept : (routes : List (List ℕ)) → AllByRecursion (AreDistinctStops p) routes → plan_of (tables_of p routes) ≡ routes
  routes_kept [] once = refl
  routes_kept (r ∷ routes) once =
      ap (λ (l : List ℕ). l ∷ plan_of (tables_of p routes)) (numbers-are p r valid once.0) ∙ ap (λ (l : List (List ℕ)). r ∷ l) (routes_kept routes once.1)

  pub plan_kept : PassingIsLocal → PlansAreDisjointRoutes → (pins routes : List (List ℕ)) → passes p pins routes ≡ true → plan_of (tables_of p routes) ≡ routes
  plan_kept local plans pins routes good =
      routes_kept routes (recursion_from_All (AreDistinctStops p) routes ((plans p routes).0 ((parts local p pins routes good).plan)).0)

-- ---- tables that replace others
at_index : (routes : List (List ℕ)) (i : ℕ) → i < length routes → get_or routes i [] ≡ route_of routes (i + 1)
at_index routes i below =
    let at : i + 1 - 1 ≡ i = omega arith in
    ap (λ (k : ℕ). get_or routes k []) (sym at)
    ∙ get_or_from_slice_get routes (i + 1 - 1) (route_of routes (i + 1)) [] (at_vehicle routes (i + 1) (omega arith) (omega arith))

-- the route of vehicle v is at index v - 1
pub vehicle_at : (routes : List (List ℕ)) (v : ℕ) (route : List ℕ) → 1 ≤ v → v ≤ length routes → route ≡ route_of routes v
    → route ≡ get_or routes (v - 1) route
vehicle_at routes v route low high is = is ∙ sym (get_or_from_slice_get routes (v - 1) (route_of routes v) route (at_vehicle routes v low high))

pub fleet_of : PassingIsLocal → (p : Instance) (pins routes : List (List ℕ)) → passes p pins routes ≡ true → length routes ≡ p.fleet
fleet_of local p pins routes good = (parts local p pins routes good).fleet

pub vehicles_within : (p : Instance) (routes : List (List ℕ)) (n : ℕ) (vehicles : List ℕ) → n ≡ p.fleet
    → AllByRecursion (λ v. (1 ≤ v) × (v ≤ p.fleet)) vehicles → AreWithin n (map (fresh_of p routes) vehicles)
vehicles_within p routes n [] same each = tt
vehicles_within p routes n (v ∷ vs) same each = ((each.0.0, (let h = each.0.1 in omega arith)), vehicles_within p routes n vs same each.1)

replaced_long : (tables : List Course) (fresh : List (ℕ × Course)) → length (replaced tables fresh) ≡ length tables
replaced_long tables [] = refl
replaced_long tables (f ∷ rest) = replaced_long (set tables (f.0 - 1) f.1) rest ∙ length-set tables (f.0 - 1) f.1

module _ (p : Instance) (routes : List (List ℕ)) where
  -- each table is that of its route, or its vehicle is still to come
  abbrev IsDue : List ℕ → List Course → Type 0
  IsDue vehicles tables = (i : ℕ) (d : Course) → i < length routes → (has vehicles (i + 1) ≡ true) ⊎ (get_or tables i d ≡ course_of p (get_or routes i []))

  replaced_at : (vs : List ℕ) (tables : List Course) → length tables ≡ length routes → AllByRecursion (λ v. (1 ≤ v) × (v ≤ length routes)) vs → IsDue vs tables
      → (i : ℕ) (d : Course) → i < length routes → get_or (replaced tables (map (fresh_of p routes) vs)) i d ≡ course_of p (get_or routes i [])
  replaced_at [] tables long within due i d below = elim (due i d below) [
    | inl none ↦ absurd (let h : false ≡ true = none in cc)
    | inr done ↦ done
  ]
  replaced_at (v ∷ vs) tables long within due i d below =
      replaced_at vs (set tables (v - 1) (course_of p (route_of routes v)))
      (length-set tables (v - 1) (course_of p (route_of routes v)) ∙ long) within.1 still i d below
    where
      still : IsDue vs (set tables (v - 1) (course_of p (route_of routes v)))
      still i d below = elim (eqb_tells (i + 1) v) [
        | inl t ↦ (
            let low = within.0.0 in
            let high = within.0.1 in
            let at : i ≡ v - 1 = omega arith in
            let route : get_or routes i [] ≡ route_of routes v =
            ap (λ (k : ℕ). get_or routes k []) at
            ∙ get_or_from_slice_get routes (v - 1) (route_of routes v) [] (at_vehicle routes v low high) in
            inr (get_or-set_at tables (v - 1) i (course_of p (route_of routes v)) d at (omega arith) ∙ ap (course_of p) (sym route)))
        | inr t ↦ (
            elim (due i d below) [
              | inl had ↦ inl (let h : has vs (i + 1) ≡ true = rw t.0 at had in h)
              | inr done ↦ inr (get_or-set_other tables (v - 1) i (course_of p (route_of routes v)) d (omega arith) ∙ done)
            ])
      ]

  -- the new tables are those of the plan
  pub refreshed : (vehicles : List ℕ) (tables : List Course) → AreTablesIn p tables → length routes ≡ p.fleet → AreVehicles p vehicles
      → DifferOnlyAt vehicles (plan_of tables) routes
      → replaced tables (map (fresh_of p routes) vehicles) ≡ tables_of p routes
  refreshed vehicles tables are fleet within differ = same_lists (replaced tables (map (fresh_of p routes) vehicles)) (tables_of p routes)
      (let e = replaced_long tables (map (fresh_of p routes) vehicles) in let f = length-map routes (course_of p) in let g = long in omega arith)
      (λ i d below. (
      let e = replaced_long tables (map (fresh_of p routes) vehicles) in
      let g = long in
      replaced_at vehicles tables long in_range due i d (omega arith) ∙ there i d (omega arith)))
    where
      long : length tables ≡ length routes
      long = let e = differ.long in let f = length-map tables course_route in omega arith

      in_range : AllByRecursion (λ v. (1 ≤ v) × (v ≤ length routes)) vehicles
      in_range =
          subst (λ (n : ℕ). AllByRecursion (λ v. (1 ≤ v) × (v ≤ n)) vehicles) (sym fleet)
          (recursion_from_All (λ v. (1 ≤ v) × (v ≤ p.fleet)) vehicles within)

      there : (i : ℕ) (d : Course) → i < length routes → course_of p (get_or routes i []) ≡ get_or (tables_of p routes) i d
      there i d below =
          sym (get_or-map (course_of p) routes i [])
          ∙ get_or_default (tables_of p routes) i (course_of p []) d (let f = length-map routes (course_of p) in omega arith)

      due : IsDue vehicles tables
      due i d below = by (has vehicles (i + 1)) refl
        where
          same : has vehicles (i + 1) ≡ false → get_or tables i d ≡ course_of p (get_or routes i [])
          same none =
              let old : route_of (plan_of tables) (i + 1) ≡ route_of routes (i + 1) = differ.others (i + 1) none in
              let route : get_or routes i [] ≡ route_of routes (i + 1) = at_index routes i below in
              let other : get_or (plan_of tables) i [] ≡ route_of (plan_of tables) (i + 1) =
              at_index (plan_of tables) i (let e = differ.long in omega arith) in
              let listed : get_or (tables_of p (plan_of tables)) i (course_of p []) ≡ course_of p (get_or (plan_of tables) i []) =
              get_or-map (course_of p) (plan_of tables) i [] in
              get_or_default tables i d (course_of p []) (let g = long in omega arith)
              ∙ (ap (λ (l : List Course). get_or l i (course_of p [])) (sym are)
              ∙ (listed ∙ ap (course_of p) (other ∙ (old ∙ sym route))))

          by : (b : Bool) → has vehicles (i + 1) ≡ b → (has vehicles (i + 1) ≡ true) ⊎ (get_or tables i d ≡ course_of p (get_or routes i []))
          by true had = inl had
          by false none = inr (same none)
