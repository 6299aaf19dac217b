-- The names of the requests that pass a test.
use Rattle.std.specs.Prelude.{ℕ, Bool, List, map, filter, Option, Some, None, if◌then◌else◌}
use Rattle.plan_types.specs.declared.requests.Request.{Request}

-- the name of a request that passes a test
abbrev pub name_where : (Request → Bool) → ℕ × Request → Option ℕ
name_where test e = if test e.1 then Some e.0 else None

-- the names of the requests that pass a test, in their order
abbrev pub names_where : (Request → Bool) → List (ℕ × Request) → List ℕ
names_where test es = map (λ e. e.0) (filter (λ e. test e.1) es)
