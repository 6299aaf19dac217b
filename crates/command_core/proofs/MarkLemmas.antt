-- Marks show which requests are planned
use Rattle.std.proofs.Common.{◌≡◌, ℕ, ◌<◌, ◌||◌, not, Bool, false, List, [], ◌∷◌, Some, slice_get, refl, ap, ◌∙◌}
use Rattle.std.specs.List.{AllByRecursion, list_any}
use Rattle.std.specs.Prelude.{slice_index_or}
use Rattle.plan_types.specs.Instance.{Instance, IsInstance}
use Rattle.plan_types.specs.Laws.{RequestsAreBelowNext}
use Rattle.plan_types.specs.Request.{stops_of}
use Rattle.plan_types.specs.declared.requests.Stop.{Stop}
use Rattle.plan_types.specs.declared.requests.Request.{Request}
use Rattle.route_sched.specs.Cost.{has_stop, is_planned}
use Rattle.seeded_search.specs.Names.{names_where}
use Rattle.seeded_search.specs.Steps.{unplanned_names}
use Rattle.seeded_search.proofs.NameLemmas.{names_same}
use Rattle.command_core.specs.Marks.{is_marked}

any_same : (f g : Stop → Bool) (P : Stop → Type 0) (xs : List Stop) → ((x : Stop) → P x → f x ≡ g x) → AllByRecursion P xs → list_any f xs ≡ list_any g xs
any_same f g P [] same all = refl
any_same f g P (x ∷ xs) same all = ap (λ b. b || list_any f xs) (same x all.0) ∙ ap (λ b. g x || b) (any_same f g P xs same all.1)

-- The list has a mark at each number below `len` that is a stop of these routes
abbrev pub AreMarks : List (List ℕ) → ℕ → List Bool → Type 0
AreMarks routes len marks = (n : ℕ) → n < len → slice_index_or marks n false ≡ has_stop routes n

module _ (below : RequestsAreBelowNext) (p : Instance) (valid : IsInstance p) where
  marked_is_planned : (routes : List (List ℕ)) (marks : List Bool) → AreMarks routes p.next_number marks → (k name : ℕ) (r : Request)
      → slice_get p.requests k ≡ Some (name, r) → is_marked marks r ≡ is_planned routes r
  marked_is_planned routes marks are k name r at =
      any_same (λ s. slice_index_or marks s.number false) (λ s. has_stop routes s.number) (λ s. s.number < p.next_number) (stops_of r) (λ s lt. are s.number lt) (below p k name r valid at)

  pub unplanned_unmarked : (routes : List (List ℕ)) (planned : List Bool) → AreMarks routes p.next_number planned → names_where (λ r. not (is_marked planned r)) p.requests ≡ unplanned_names p routes
  unplanned_unmarked routes planned there =
      names_same (λ r. not (is_marked planned r)) (λ r. not (is_planned routes r)) p.requests (λ k name r at. ap not (marked_is_planned routes planned there k name r at))
