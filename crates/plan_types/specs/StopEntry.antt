-- The fields of a `Problem`, and how its table of stops relates to its requests.
use Rattle.std.specs.Prelude.{◌≡◌, ℕ, List, Option, None, slice_index_or}
use Rattle.std.specs.Option.{option_map}
use Rattle.plan_types.specs.Request.{request_name, stop_in, partner_in}
use Rattle.plan_types.specs.Instance.{Instance, IsInstance, first_some}
use Rattle.plan_types.specs.declared.requests.Request.{Request}
use Rattle.plan_types.specs.declared.problems.StopEntry.{StopEntry}
use Rattle.plan_types.specs.declared.problems.Problem.TheInside.{Inside}

-- the value that contracts see
abbrev pub instance_of : Inside → Instance
instance_of a = record { kind = a.kind; depot = a.depot; capacity = a.capacity; fleet = a.fleet; requests = a.requests.entries; next_number = a.next_number }

-- the entry for this number that a request adds to the table
abbrev pub entry_in : ℕ → Request → Option StopEntry
entry_in n r = option_map (λ s. record { name = request_name r; partner = partner_in n r; stop = s }) (stop_in n r)

-- the table's entry for this number
abbrev pub table_entry : List (Option StopEntry) → ℕ → Option StopEntry
table_entry xs n = slice_index_or xs n None

pub record IsConsistent (a : Inside) : Type 0 where
  pub valid : IsInstance (instance_of a)
  pub by_number : (n : ℕ) → table_entry a.by_number.items n ≡ first_some (entry_in n) a.requests.entries
