-- The result of opening a closed session's device, or a new store.
use Rattle.std.specs.Prelude.{◌≡◌, ℕ, List, [], Result}
use Rattle.command_types.specs.declared.states.State.{State}
use Rattle.checkpoint.specs.declared.faults.StoreFault.{StoreFault}
use Rattle.checkpoint.specs.declared.places.Place.{Place}
use Rattle.checkpoint.specs.Holds.{Holds}
use Rattle.state_codec.specs.declared.version.Version.TheVariants.{Two}
use Rattle.recover.specs.RecoversTo.{RecoversTo}
use Rattle.recover.specs.Opening.{ReturnsUnlessFailed, Opens}

-- Suppose that each image that a crash of a device may leave recovers to this state, as `close` guarantees for
-- the session's state. Then opening the device returns this state.
abbrev pub Reopens : {D : Type 0} → (D → Type 0) → (D → List ℕ) → (D → List ℕ → Type 0) → Type 0
Reopens {D} honest seen possible = (device : D) (state : State) (outcome : Result State StoreFault)
    → honest device
    → ((image : List ℕ) → possible device image → RecoversTo Two image state)
    → Opens Two (seen device) outcome
    → ReturnsUnlessFailed (λ given. given ≡ state) outcome

-- Suppose that each image that a crash of a device may leave holds this state and no command, as `format`
-- guarantees for the empty state. Then each image recovers to this state, and opening the device returns it.
abbrev pub OpensNew : {D : Type 0} → (D → Type 0) → (D → List ℕ) → (D → List ℕ → Type 0) → Type 0
OpensNew {D} honest seen possible = (device : D) (state : State) (place : Place) (outcome : Result State StoreFault)
    → honest device
    → ((image : List ℕ) → possible device image → Holds Two image state [] place)
    → ((image : List ℕ) → possible device image → RecoversTo Two image state)
    × (Opens Two (seen device) outcome → ReturnsUnlessFailed (λ given. given ≡ state) outcome)
