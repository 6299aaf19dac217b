-- The effect of a command on a session follows from that of its commit.
use Rattle.std.proofs.Common.{◌≡◌, ◌≢◌, ⊎_elim, ℕ, ◌+◌, ◌<◌, ◌≤◌, Bool, true, false, ◌&&◌, ◌||◌, not, List, [], ◌∷◌, refl, subst, arith}
use Rattle.std.specs.Prelude.{◌^◌, ◌==◌, Ok, Err, Option, Some, None, if◌then◌else◌}
use Rattle.std.specs.Option.{option_map, option_or}
use Rattle.std.proofs.lemmas.Bool.{le-leb, lt-leb, cases_lt}
use Rattle.std.proofs.lemmas.Bool.Decides.{eqb_tells}
use Rattle.sector_disk.specs.Sectors.{Throughout}
use Rattle.sector_disk.specs.Throughout as through
use Rattle.command_core.specs.Effects.{effect}
use Rattle.command_core.specs.Refusals.{refusal}
use Rattle.command_types.specs.Commands.{is_recorded}
use Rattle.command_core.specs.Runs.{AreAccepted}
use Rattle.command_types.specs.declared.refusals.Refusal.{Refusal}
use Rattle.command_types.specs.declared.states.State.{State}
use Rattle.command_types.specs.declared.commands.Command.{Command}
use Rattle.state_codec.specs.declared.version.Version.TheVariants.{Two}
use Rattle.checkpoint.specs.declared.places.Place.{Place}
use Rattle.recover.specs.declared.denials.Denial.{Denial}
use Rattle.recover.specs.declared.denials.Denial.TheVariants.{Broken, Core, Spent, DeviceFault}
use Rattle.recover.specs.declared.replies.Reply.{Reply}
use Rattle.recover.specs.RecoversTo.{RecoversTo}
use Rattle.recover.specs.Replies.{acknowledged_count}
use Rattle.recover.specs.Moments.{RecoversToPrefix, RunLeaves}
use Rattle.recover.specs.Sessions.{SessionValue, AllHold}
use Rattle.recover.specs.Applying.{is_snapshot_due, place_after, spent_denial, denial, IsBetween}
use Rattle.recover.specs.Committing.{IsInStep}
use Rattle.recover.proofs.RunLemmas.{unacknowledged, one_acknowledged}
use Rattle.recover.proofs.StepLemmas.{held}

-- images that hold a state and commands recover to the state after the commands
pub held_recover : (images : List ℕ → Type 0) (state : State) (place : Place) → AllHold images state place → (image : List ℕ) → images image → RecoversTo Two image state
held_recover images state place all image left = held images state place all image (all.each image left)

-- without a denial the session is not broken and has a sequence left
pub undenied : {D : Type 0} (s : SessionValue D) (command : Command) → denial s command ≡ None → (s.is_broken ≡ false) × (spent_denial s.place command ≡ None)
undenied s command none = from s.is_broken (refusal s.state command) none
  where
    from : (b : Bool) (r : Option Refusal) → (if b then Some Broken else option_or (option_map Core r) (spent_denial s.place command)) ≡ None → (b ≡ false) × (spent_denial s.place command ≡ None)
    from false None e = (refl, e)
    from false (Some x) e = cc e
    from true r e = cc e

less_unless : (a b : ℕ) → a ≤ b → (a == b) ≡ false → a < b
less_unless a b most off = ⊎_elim (λ (same : ((a == b) ≡ true) × (a ≡ b)). cc (same.0, off)) (λ (other : ((a == b) ≡ false) × (a ≢ b)). omega (arith, most, other.1)) (eqb_tells a b)

-- the place after a command is a valid place of a session
pub place_fits : (place : Place) (command : Command) → spent_denial place command ≡ None → 1 ≤ place.sequence → place.sequence ≤ 2 ^ 60 → place.used ≤ 256
    → (1 ≤ (place_after place command).sequence) × ((place_after place command).sequence ≤ 2 ^ 60) × ((place_after place command).used ≤ 256)
place_fits place command unspent first last used =
    from (is_recorded command) (place.used == 256) (place.sequence == 2 ^ 60) (less_unless place.used 256 used) (less_unless place.sequence (2 ^ 60) last) unspent
  where
    from : (recorded full end : Bool) → (full ≡ false → place.used < 256) → (end ≡ false → place.sequence < 2 ^ 60) → (if (not recorded || full) && end then Some Spent else None) ≡ None
        → (let next : Place = if not recorded || full then record { sequence = place.sequence + 1; used = 0 } else record { sequence = place.sequence; used = place.used + 1 } in
        (1 ≤ next.sequence) × (next.sequence ≤ 2 ^ 60) × (next.used ≤ 256))
    from true false end room more e = (first, last, omega (arith, room refl))
    from true true false room more e = (omega arith, omega (arith, more refl), omega arith)
    from false full false room more e = (omega arith, omega (arith, more refl), omega arith)
    from true true true room more e = cc e
    from false full true room more e = cc e

-- the moments of a command that was executed, or during which the device failed
module _ (state : State) (command : Command) (accepted : AreAccepted state (command ∷ [])) (next : State) (same : next ≡ effect state command)
    (calls steps n m : ℕ) (image : List ℕ) (step : IsInStep state next calls steps m image) where
  none : (all : ℕ) → all ≡ 0 → RecoversTo Two image state → RecoversToPrefix state (command ∷ []) all image
  none all e recovers = record { count = 0; all_acknowledged = omega (arith, e); one_more = omega arith; within = omega arith; accepted = tt; recovers = recovers }

  one : (all : ℕ) → all ≤ 1 → RecoversTo Two image next → RecoversToPrefix state (command ∷ []) all image
  one all le recovers = record {
    count = 1;
    all_acknowledged = omega (arith, le);
    one_more = omega arith;
    within = omega arith;
    accepted = accepted;
    recovers = subst (λ (s : State). RecoversTo Two image s) same recovers;
  }

  pub leaves_ok : (done : Unit {0}) → n ≡ calls + steps → RunLeaves state (command ∷ []) (record { answer = Ok done; calls = n } ∷ []) m image
  leaves_ok done counted =
      let reply : Reply = record { answer = Ok done; calls = n } in ⊎_elim
      (λ (before : m < n). let not_yet : acknowledged_count m (reply ∷ []) ≡ 0 = unacknowledged m reply [] (lt-leb n m before) in
      ⊎_elim (none (acknowledged_count m (reply ∷ [])) not_yet) (one (acknowledged_count m (reply ∷ [])) (omega (arith, not_yet))) step.either)
      (λ (last : n ≤ m). let is : acknowledged_count m (reply ∷ []) ≡ 1 + 0 = one_acknowledged m reply [] (le-leb n m last) in
      one (acknowledged_count m (reply ∷ [])) (omega (arith, is)) (step.done (omega (arith, step.to, counted, last))))
      (cases_lt m n)

  pub leaves_fault : RunLeaves state (command ∷ []) (record { answer = Err DeviceFault; calls = n } ∷ []) m image
  leaves_fault =
      let reply : Reply = record { answer = Err DeviceFault; calls = n } in
      let not_yet : acknowledged_count m (reply ∷ []) ≡ 0 = unacknowledged m reply [] refl in
      ⊎_elim (none (acknowledged_count m (reply ∷ [])) not_yet) (one (acknowledged_count m (reply ∷ [])) (omega (arith, not_yet))) step.either

-- a command that does not call the device leaves the images as they were
module _ {D : Type 0} (calls : D → ℕ) (honest : D → Type 0) (clock : D → ℕ) (since : D → ℕ → ℕ → List ℕ → Type 0) (possible : D → List ℕ → Type 0)
    (only_now : (d : D) (m : ℕ) (image : List ℕ) → honest d → since d (clock d) m image → (m ≡ calls d) × possible d image) (d : D) (h : honest d) where
  pub still : (state : State) → ((image : List ℕ) → possible d image → RecoversTo Two image state) → (command : Command) (why : Denial) (n : ℕ)
      → Throughout clock since d d (RunLeaves state (command ∷ []) (record { answer = Err why; calls = n } ∷ []))
  still state recovers command why n = through.started clock since d (RunLeaves state (command ∷ []) (record { answer = Err why; calls = n } ∷ [])) (λ m image left.
      let not_yet : acknowledged_count m (record { answer = Err why; calls = n } ∷ []) ≡ 0 = unacknowledged m (record { answer = Err why; calls = n }) [] refl in record {
        count = 0;
        all_acknowledged = omega (arith, not_yet);
        one_more = omega arith;
        within = omega arith;
        accepted = tt;
        recovers = recovers image (only_now d m image h left).1;
      })

  pub still_between : (k : ℕ) → Throughout clock since d d (IsBetween (calls d) (calls d + k))
  still_between k = through.started clock since d (IsBetween (calls d) (calls d + k)) (λ m image left.
      let now : m ≡ calls d = (only_now d m image h left).0 in (omega (arith, now), omega (arith, now)))

-- a property holds for a denial that comes before memory is allocated and the device is called, if it holds for
-- Broken, for each refusal of a state, and for Spent
pub denied : {D : Type 0} (s : SessionValue D) (command : Command) (d : Denial) → denial s command ≡ Some d → (P : Denial → Type 0) → P Broken → ((r : Refusal) → P (Core r)) → P Spent → P d
denied s command d is P broken core no_sequence = from s.is_broken (refusal s.state command) (is_snapshot_due s.place command && (s.place.sequence == 2 ^ 60)) is
  where
    from : (b : Bool) (r : Option Refusal) (e : Bool) → (if b then Some Broken else option_or (option_map Core r) (if e then Some Spent else None)) ≡ Some d → P d
    from true r e same = let it : Broken ≡ d = cc same in subst P it broken
    from false (Some r) e same = let it : Core r ≡ d = cc same in subst P it (core r)
    from false None true same = let it : Spent ≡ d = cc same in subst P it no_sequence
    from false None false same = cc same
