-- Lemmas about the records of commands.
use Rattle.std.proofs.Common.{◌≡◌, ℕ, suc, ◌+◌, ◌-◌, ◌^◌, ◌<◌, ◌≤◌, List, [], ◌∷◌, ◌++◌, length, replicate, refl, sym, ◌∙◌, ap, subst, arith, append_assoc, length-append}
use Rattle.std.proofs.Math.Nat.{mod-eq_of_lt}
use Rattle.std.proofs.lemmas.List.Elements.{All-push}
use Rattle.byteorder.specs.Endian.{big_bytes}
use Rattle.byteorder.specs.Numbers.{big_from-bytes}
use Rattle.command_types.specs.declared.states.State.{State}
use Rattle.command_types.specs.declared.commands.Command.{Command}
use Rattle.state_codec.specs.declared.version.Version.{Version}
use Rattle.state_codec.specs.declared.version.Version.TheVariants.{Two}
use Rattle.state_codec.specs.Bytes.{number_bytes, state_bytes, command_bytes, fields_bytes, record_bytes}
use Rattle.state_codec.specs.Limits.{IsRecorded}
use Rattle.checkpoint.specs.declared.places.Place.{Place}
use Rattle.checkpoint.specs.Stores.{Stores, HasStored, leading_number}
use Rattle.checkpoint.specs.Holds.{Holds, HoldsAt, layout_of, journal}
use Rattle.checkpoint.specs.Places.{place_after_record}

-- a record begins with its sequence
pub record_begins : (version : Version) (sequence index : ℕ) (command : Command) → sequence < 2 ^ 64 → leading_number (record_bytes version sequence index command) ≡ sequence
unfolding number_bytes
record_begins version sequence index command fits =
    ap leading_number (append_assoc (big_bytes 8 sequence) (number_bytes 4 index ++ command_bytes version command) (replicate (512 - length (fields_bytes version sequence index command)) 0))
    ∙ big_from-bytes 8 sequence ((number_bytes 4 index ++ command_bytes version command) ++ replicate (512 - length (fields_bytes version sequence index command)) 0) ∙ mod-eq_of_lt fits

pub length-journal : (version : Version) (sequence index : ℕ) (commands : List Command) → length (journal version sequence index commands) ≡ length commands
length-journal version sequence index [] = refl
length-journal version sequence index (command ∷ commands) = ap suc (length-journal version sequence (suc index) commands)

pub journal-more : (version : Version) (sequence index : ℕ) (commands : List Command) (command : Command)
    → journal version sequence index (commands ++ command ∷ []) ≡ journal version sequence index commands ++ record_bytes version sequence (index + length commands) command ∷ []
journal-more version sequence index [] command = ap (λ (i : ℕ). record_bytes version sequence i command ∷ []) (omega arith)
journal-more version sequence index (first ∷ commands) command =
    let at : suc index + length commands ≡ index + suc (length commands) = omega arith in
    ap (λ (l : List (List ℕ)). record_bytes version sequence index first ∷ l) (journal-more version sequence (suc index) commands command
    ∙ ap (λ (i : ℕ). journal version sequence (suc index) commands ++ record_bytes version sequence i command ∷ []) at)

-- an image that stores the records of the commands and of one more holds these commands and that one
pub holds_more : (image : List ℕ) (state : State) (commands : List Command) (command : Command) (place : Place) (known : List ℕ) → Holds Two known state commands place → IsRecorded Two command
    → Stores (layout_of Two) image place.sequence (state_bytes Two state) (journal Two place.sequence 0 commands ++ record_bytes Two place.sequence place.used command ∷ [])
    → Holds Two image state (commands ++ command ∷ []) (record { sequence = place.sequence; used = place.used + 1 })
holds_more image state commands command place known held recorded stored =
    let at : place.used ≡ 0 + length commands = omega (arith, held.used) in
    record {
      stored = subst (Stores (layout_of Two) image place.sequence (state_bytes Two state))
          (ap (λ (i : ℕ). journal Two place.sequence 0 commands ++ record_bytes Two place.sequence i command ∷ []) at ∙ sym (journal-more Two place.sequence 0 commands command)) stored;
      used = omega (arith, held.used, length-append commands (command ∷ []));
      facts = held.facts;
      reported = held.reported;
      recorded = All-push (IsRecorded Two) commands command held.recorded recorded;
      numbers = tt;
    }

pub holds_still : (image : List ℕ) (state : State) (commands : List Command) (place : Place) (known : List ℕ) → Holds Two known state commands place
    → Stores (layout_of Two) image place.sequence (state_bytes Two state) (journal Two place.sequence 0 commands) → Holds Two image state commands place
holds_still image state commands place known held stored = record { stored = stored; used = held.used; facts = held.facts; reported = held.reported; recorded = held.recorded; numbers = held.numbers }

-- a commit of a record: the bytes that each image stores determine the content that it holds
module _ (place : Place) (command : Command) (bytes : List ℕ) (is : bytes ≡ record_bytes Two place.sequence place.used command) (recorded : IsRecorded Two command) (last : place.sequence ≤ 2 ^ 60)
    (possible : List ℕ → Type 0) (seen : List ℕ) (here : possible seen) (state : State) (commands : List Command)
    (held : (image : List ℕ) → possible image → Holds Two image state commands place) where
  pub mark : leading_number bytes ≡ place.sequence
  mark = ap leading_number is ∙ record_begins Two place.sequence place.used command (omega (arith, last))

  pub counted : place.used ≡ length (journal Two place.sequence 0 commands)
  counted = (held seen here).used ∙ sym (length-journal Two place.sequence 0 commands)

  pub still : (image : List ℕ) → HasStored place.sequence (state_bytes Two state) (journal Two place.sequence 0 commands) image → HoldsAt state commands place image
  still image = holds_still image state commands place seen (held seen here)

  pub more : (image : List ℕ) → HasStored place.sequence (state_bytes Two state) (journal Two place.sequence 0 commands ++ bytes ∷ []) image
      → HoldsAt state (commands ++ command ∷ []) (place_after_record place) image
  more image stored = holds_more image state commands command place seen (held seen here) recorded
      (subst (λ (b : List ℕ). Stores (layout_of Two) image place.sequence (state_bytes Two state) (journal Two place.sequence 0 commands ++ b ∷ [])) is stored)
