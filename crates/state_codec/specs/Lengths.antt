-- The length of an encoding
use Rattle.std.specs.Prelude.{◌≡◌, ℕ, ◌+◌, ◌*◌, ◌≤◌, length}
use Rattle.std.specs.List.{concat}
use Rattle.plan_types.specs.Instance.{numbers_among}
use Rattle.command_types.specs.States.{IsState}
use Rattle.command_types.specs.declared.states.State.{State}
use Rattle.command_types.specs.declared.states.State.TheVariants.{Empty, Loaded}
use Rattle.state_codec.specs.declared.version.Version.TheVariants.{Two}
use Rattle.state_codec.specs.Bytes.{state_bytes}

-- The length of a state's encoding: 1 byte for the empty state. For a job 54 bytes, 1 for each request and 28
-- for each stop. A vehicle has 8 bytes and a working route 4, and each stop in them has 4 more.
abbrev pub state_len : State → ℕ
state_len Empty = 1
state_len (Loaded j) = 54 + length j.problem.requests + 28 * length (numbers_among j.problem.requests) + (8 * length j.plan + 4 * length (concat j.plan)) +
    (4 * length j.work + 4 * length (concat j.work))

-- Law: `state_len` is the length of a state's encoding, and it is never above 1,960,054
abbrev pub EncodingsFit : Type 0
EncodingsFit = (s : State) → IsState s → (length (state_bytes Two s) ≡ state_len s) × (state_len s ≤ 1960054)
