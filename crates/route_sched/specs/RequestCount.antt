-- The number of planned requests, counted by their stops.
use Rattle.std.specs.Prelude.{◌≡◌, ℕ, nat_eq, Bool, true, false, not, ◌||◌, List, Option, Some, None, count_by}
use Rattle.std.specs.List.{concat, list_any}
use Rattle.plan_types.specs.Instance.{Instance, name_at}

-- whether there is a name and q holds for it
abbrev pub holds_for_name : (ℕ → Bool) → Option ℕ → Bool
holds_for_name q None = false
holds_for_name q (Some name) = q name

-- whether a request is counted at its stop n: at the stop that gives the name, or at the other stop if the
-- named one is not among the numbers
abbrev pub is_counted : List ℕ → ℕ → ℕ → Bool
is_counted numbers n name = nat_eq name n || not (list_any (nat_eq name) numbers)

-- whether the stop with this number is the one at which its request is counted
abbrev pub counts : Instance → List ℕ → ℕ → Bool
counts p numbers n = holds_for_name (is_counted numbers n) (name_at p n)

-- the number of these stops at which a request is counted
abbrev pub count_among : Instance → List ℕ → List ℕ → ℕ
count_among p numbers some = count_by (counts p numbers) some

-- each stop of the route is a stop of the routes
abbrev pub IsPartOf : List ℕ → List (List ℕ) → Type 0
IsPartOf route routes = (n : ℕ) → list_any (nat_eq n) route ≡ true → list_any (nat_eq n) (concat routes) ≡ true
