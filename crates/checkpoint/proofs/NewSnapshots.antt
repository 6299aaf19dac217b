-- A snapshot without records: the bytes that an image stores determine the content that it holds.
use Rattle.std.proofs.Common.{◌≡◌, ⊎_elim, inl, inr, ℕ, ◌+◌, ◌≤◌, List, [], Result, Ok, Err, OnOk, refl, subst, arith}
use Rattle.std.proofs.lemmas.Result.{on_ok_weaker}
use Rattle.sector_disk.specs.declared.sectors.Sectors as sectors
use Rattle.sector_disk.specs.Sectors.{Only}
use Rattle.sector_disk.specs.Throughout.{weakened}
use Rattle.sector_disk.specs.Calls.{Each, During, Commits}
use Rattle.sector_disk.specs.CommitLaws.{commits_by}
use Rattle.command_types.specs.States.{IsState}
use Rattle.command_types.specs.declared.states.State.{State}
use Rattle.command_types.specs.declared.states.State.TheVariants.{Empty, Loaded}
use Rattle.state_codec.specs.declared.version.Version.TheVariants.{Two}
use Rattle.state_codec.specs.Bytes.{state_bytes}
use Rattle.state_codec.specs.Limits.{IsStateOf}
use Rattle.checkpoint.specs.declared.faults.FormatFault.{FormatFault}
use Rattle.checkpoint.specs.declared.faults.FormatFault.TheVariants.{TooSmall, DeviceFault, OutOfMemory}
use Rattle.checkpoint.specs.declared.places.Place.{Place}
use Rattle.checkpoint.specs.Layouts.{version_2}
use Rattle.checkpoint.specs.Stores.{Stores, HasStored, IsUnformatted}
use Rattle.command_types.specs.declared.commands.Command.{Command}
use Rattle.checkpoint.specs.Holds.{Holds, HoldsAt, journal}
use Rattle.checkpoint.specs.Moments.{IsInFormat}
use Rattle.checkpoint.specs.Refusals.{OnCalls}
use Rattle.checkpoint.specs.Places.{place_after_snapshot}
use Rattle.checkpoint.specs.Formatting.{Formats, FormatsStore}
use Rattle.checkpoint.proofs.Journals.{holds_still}

reported : (state : State) → IsStateOf Two state
reported Empty = tt
reported (Loaded job) = tt

pub new_holds : (image : List ℕ) (state : State) (sequence : ℕ) (bytes : List ℕ) → bytes ≡ state_bytes Two state → IsState state
    → Stores version_2 image sequence bytes [] → Holds Two image state [] (record { sequence = sequence; used = 0 })
new_holds image state sequence bytes is facts stored = record {
  stored = subst (λ (b : List ℕ). Stores version_2 image sequence b []) is stored;
  used = refl;
  facts = facts;
  reported = reported state;
  recorded = λ k d below. absurd (omega (arith, below));
  numbers = tt;
}

-- in the guarantee for a moment of a format, Y may be replaced by a weaker property
formats_within : (Y Z : List ℕ → Type 0) → ((image : List ℕ) → Y image → Z image) → (calls m : ℕ) (image : List ℕ)
    → IsInFormat (IsUnformatted version_2) Y calls m image → IsInFormat (IsUnformatted version_2) Z calls m image
formats_within Y Z by calls m image within = record {
  from = within.from;
  to = within.to;
  cleared = within.cleared;
  either = λ from. ⊎_elim (λ none. inl none) (λ new. inr (by image new)) (within.either from);
  done = λ end. by image (within.done end);
}

on_calls : {T P Q : Type 0} (result : Result T FormatFault) → (P → Q) → OnCalls result P → OnCalls result Q
on_calls (Ok x) go here = go here
on_calls (Err DeviceFault) go here = go here
on_calls (Err TooSmall) go here = tt
on_calls (Err OutOfMemory) go here = tt

module _ {D : Type 0} (on : sectors.Ghosts D) where
  -- the guarantee after Ok, from that for each moment: an image that is possible after Ok belongs to the last
  -- moment
  at_end : {T : Type 0} (result : Result T FormatFault) (old new : D) (Y : List ℕ → Type 0)
      → ((t : ℕ) (image : List ℕ) → t ≤ on.clock new → on.possible new image → on.possible_since new t (on.calls new) image) → OnOk result (on.calls new ≡ on.calls old + 6)
      → OnCalls result (During on old new (IsInFormat (IsUnformatted version_2) Y)) → OnOk result (Each on new Y)
  at_end (Ok x) old new Y counts finished all = λ image left. (all.each (on.calls new) image (counts (on.clock old) image all.later left)).done finished
  at_end (Err fault) old new Y counts finished all = finished

  pub formats : {T : Type 0} (result : Result T FormatFault) (Y : List ℕ → Type 0) (written : List ℕ) (old new : D)
      → ((t : ℕ) (image : List ℕ) → t ≤ on.clock new → on.possible new image → on.possible_since new t (on.calls new) image) → OnOk result (on.calls new ≡ on.calls old + 6)
      → OnCalls result (During on old new (IsInFormat (IsUnformatted version_2) Y)) → OnOk result (Only written (on.possible new)) → Formats on result Y written old new
  formats result Y written old new counts finished all durable = record { moments = all; after = at_end result old new Y counts finished all; durable = durable }

  pub formats_by : {T : Type 0} (result : Result T FormatFault) (Y Z : List ℕ → Type 0) (written : List ℕ) (old new : D) → ((image : List ℕ) → Y image → Z image)
      → Formats on result Y written old new → Formats on result Z written old new
  formats_by result Y Z written old new by is = record {
    moments = on_calls result (weakened on.clock on.possible_since old new _ _ (formats_within Y Z by (on.calls old))) is.moments;
    after = on_ok_weaker result (λ each image left. by image (each image left)) is.after;
    durable = is.durable;
  }

  pub makes_by : (Y Z : List ℕ → Type 0) (written : List ℕ) (result : Result Place FormatFault) (old new : D) → ((image : List ℕ) → Y image → Z image)
      → FormatsStore on Y written result old new → FormatsStore on Z written result old new
  makes_by Y Z written result old new by is = record {
    place = is.place;
    too_small = is.too_small;
    kept = is.kept;
    called = is.called;
    formats = λ honest. formats_by result Y Z written old new by (is.formats honest);
  }

-- a commit of a snapshot: the bytes that each image stores determine the content that it holds
module _ (place : Place) (state : State) (bytes : List ℕ) (is : bytes ≡ state_bytes Two state) (facts : IsState state)
    (possible : List ℕ → Type 0) (seen : List ℕ) (here : possible seen) (old : State) (commands : List Command) (held : (image : List ℕ) → possible image → Holds Two image old commands place) where
  module _ {D : Type 0} (on : sectors.Ghosts D) where
    pub saved : {T E : Type 0} (result : Result T E) (start end : D)
        → Commits on result 4 2 (HasStored place.sequence (state_bytes Two old) (journal Two place.sequence 0 commands)) (HasStored (place.sequence + 1) bytes []) start end
        → Commits on result 4 2 (HoldsAt old commands place) (HoldsAt state [] (place_after_snapshot place)) start end
    saved result start end = commits_by _ _ _ _ (λ image. holds_still image old commands place seen (held seen here))
        (λ image. new_holds image state (place.sequence + 1) bytes is facts) on result 4 2 start end
