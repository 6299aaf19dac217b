-- Worked examples, by computation
use Rattle.std.proofs.Common.{◌≡◌, ℕ, refl, List, [], ◌∷◌, pos}
use Rattle.std.specs.Prelude.{replicate}
use Rattle.plan_types.specs.declared.requests.Stop.{Stop}
use Rattle.plan_types.specs.declared.requests.Kind.TheVariants.{Vrp}
use Rattle.plan_types.specs.declared.requests.Request.TheVariants.{Single}
use Rattle.command_types.specs.Job.{JobValue}
use Rattle.command_types.specs.declared.states.State.TheVariants.{Loaded}
use Rattle.command_types.specs.declared.commands.Command.TheVariants.{Search}
use Rattle.state_codec.specs.declared.version.Version.TheVariants.{One, Two}
use Rattle.state_codec.specs.Bytes.{number_bytes, signed_bytes, state_bytes, record_bytes}

-- One customer, 1 at (3, 4) with demand 6, a capacity of 10, and one vehicle; nothing is planned yet
abbrev customer : Stop
customer = record { number = 1; x = pos 3; y = pos 4; demand = pos 6; earliest = 0; latest = 100000000; service = 0 }

abbrev depot : Stop
depot = record { number = 0; x = pos 0; y = pos 0; demand = pos 0; earliest = 0; latest = 100000000; service = 0 }

abbrev just_loaded : JobValue
just_loaded = record {
  problem = record { kind = Vrp; depot = depot; capacity = 10; fleet = 1; requests = (1, Single customer) ∷ []; next_number = 2 };
  pins = [] ∷ [];
  plan = [] ∷ [];
  work = [] ∷ [];
  deviation = 0;
  seed = 0;
  steps = 0;
}

-- The example in version 2: 95 bytes
abbrev written : List ℕ
written = 1 ∷ 2 ∷ 0 ∷ 0 ∷ 0 ∷ 0 ∷ 0 ∷ 0 ∷ 0 ∷ 0 ∷ 0 ∷ 0 ∷ 0 ∷ 0 ∷ 0 ∷ 0 ∷ 0 ∷ 0 ∷ 0 ∷ 0 ∷ 0 ∷ 10 ∷ 0 ∷ 0 ∷ 0 ∷ 1 ∷ 0 ∷ 0 ∷ 0 ∷ 2 ∷ 0 ∷ 0 ∷ 0 ∷ 0 ∷ 0 ∷ 0 ∷ 0 ∷ 0
    ∷ 0 ∷ 0 ∷ 0 ∷ 0 ∷ 5 ∷ 245 ∷ 225 ∷ 0 ∷ 0 ∷ 0 ∷ 0 ∷ 0 ∷ 0 ∷ 0 ∷ 0 ∷ 1 ∷ 1 ∷ 0 ∷ 0 ∷ 0 ∷ 1 ∷ 0 ∷ 0 ∷ 0 ∷ 3 ∷ 0 ∷ 0 ∷ 0 ∷ 4 ∷ 0 ∷ 0 ∷ 0 ∷ 6 ∷ 0 ∷ 0 ∷ 0 ∷ 0 ∷ 5
    ∷ 245 ∷ 225 ∷ 0 ∷ 0 ∷ 0 ∷ 0 ∷ 0 ∷ 0 ∷ 0 ∷ 0 ∷ 0 ∷ 0 ∷ 0 ∷ 0 ∷ 0 ∷ 0 ∷ 0 ∷ 0 ∷ 0 ∷ []

state_is_written : state_bytes Two (Loaded just_loaded) ≡ written
unfolding number_bytes signed_bytes
state_is_written = refl

-- The example in version 1: 75 bytes
abbrev written_before : List ℕ
written_before = 1 ∷ 2 ∷ 0 ∷ 0 ∷ 0 ∷ 0 ∷ 0 ∷ 0 ∷ 0 ∷ 0 ∷ 0 ∷ 0 ∷ 0 ∷ 0 ∷ 0 ∷ 0 ∷ 0 ∷ 0 ∷ 0 ∷ 0 ∷ 0 ∷ 10 ∷ 0 ∷ 1 ∷ 0 ∷ 2 ∷ 0 ∷ 0 ∷ 0 ∷ 0 ∷ 0 ∷ 0 ∷ 0 ∷ 0 ∷ 0 ∷ 0
    ∷ 0 ∷ 0 ∷ 5 ∷ 245 ∷ 225 ∷ 0 ∷ 0 ∷ 1 ∷ 1 ∷ 0 ∷ 1 ∷ 0 ∷ 0 ∷ 0 ∷ 3 ∷ 0 ∷ 0 ∷ 0 ∷ 4 ∷ 0 ∷ 0 ∷ 0 ∷ 6 ∷ 0 ∷ 0 ∷ 0 ∷ 0 ∷ 5 ∷ 245 ∷ 225 ∷ 0 ∷ 0 ∷ 0 ∷ 0 ∷ 0 ∷ 0 ∷ 0
    ∷ 0 ∷ 0 ∷ []

state_was_written : state_bytes One (Loaded just_loaded) ≡ written_before
unfolding number_bytes signed_bytes
state_was_written = refl

-- The record of 256 search steps, the first one of sequence 1
record_is_written : record_bytes Two 1 0 (Search 256) ≡ 0 ∷ 0 ∷ 0 ∷ 0 ∷ 0 ∷ 0 ∷ 0 ∷ 1 ∷ 0 ∷ 0 ∷ 0 ∷ 0 ∷ 7 ∷ 1 ∷ 0 ∷ replicate 497 0
unfolding number_bytes signed_bytes
record_is_written = refl
