-- The laws about `ok`: the store or state that it reports is durable when its first byte is written. So anybody
-- who sees that byte can rely on it, even if the power fails.
use Rattle.std.specs.Prelude.{◌≡◌, ◌≢◌, ◌≤◌, ℕ, false, List, [], ◌++◌, Result, Ok, ⊤}
use Rattle.std.specs.List.{AllByRecursion}
use Rattle.std.specs.declared.io.Error.{Error}
use Rattle.checkpoint.specs.Holds.{Holds}
use Rattle.checkpoint.specs.Places.{first_place}
use Rattle.checkpoint.specs.declared.places.Place.{Place}
use Rattle.command_core.specs.Effects.{effect}
use Rattle.command_types.specs.declared.commands.Command.{Command}
use Rattle.command_types.specs.declared.states.State.{State}
use Rattle.command_server.specs.Streams.{Event, Stream, put_by}
use Rattle.command_server.specs.AnswerOrder.{calls_at}
use Rattle.planner_cli.specs.Format.{IsMadeWith}
use Rattle.planner_cli.specs.Messages.{PrintsOk}
use Rattle.recover.specs.Applying.{IsApplied}
use Rattle.recover.specs.Sessions.{SessionValue}
use Rattle.recover.specs.RecoversTo.{RecoversTo}
use Rattle.recover.specs.declared.replies.Reply.{Reply}
use Rattle.sector_disk.specs.declared.sectors.Sectors as sectors
use Rattle.state_codec.specs.declared.version.Version.TheVariants.{Two}

-- At least one byte was written while at most m calls had finished. Each byte that is flushed was written before,
-- so this also covers flushed bytes.
pub record IsWrittenBy (m : ℕ) (before after : Stream) : Type 0 where
  pub first : List Event
  pub others : List Event
  pub noted : after.events ≡ before.events ++ (first ++ others)
  pub early : AllByRecursion (λ event. calls_at event ≤ m) first
  pub some : put_by first ≢ []

module _ {D : Type 0} (on : sectors.Ghosts D) where
  -- Law: once a byte of the `ok` for a new store is written, every crash image holds that store.
  abbrev pub OkFollowsFormat : Type 0
  OkFollowsFormat = (state : State) (old new : D) (place : Place) (before after : Stream) (reported : Result ℕ Error)
      → IsMadeWith on state old new (Ok place) → PrintsOk (on.calls new) before after reported
      → on.honest new → (m : ℕ) (image : List ℕ) → on.possible_since new (on.clock old) m image → IsWrittenBy m before after
      → Holds Two image state [] first_place

  -- Law: once a byte of the `ok` for a command is written, every crash image recovers to the state after the
  -- command.
  abbrev pub OkFollowsCommand : Type 0
  OkFollowsCommand = (old new : SessionValue D) (command : Command) (reply : Reply) (done : ⊤) (before after : Stream) (reported : Result ℕ Error)
      → IsApplied on.len on.calls on.faults on.honest on.clock on.possible_since on.possible old command reply new
      → old.is_broken ≡ false → reply.answer ≡ Ok done → PrintsOk (on.calls new.device) before after reported
      → on.honest new.device → (m : ℕ) (image : List ℕ) → on.possible_since new.device (on.clock old.device) m image → IsWrittenBy m before after
      → RecoversTo Two image (effect old.state command)
