-- Reading the records of a prefix one after another.
use Rattle.std.proofs.Common.{◌≡◌, ◌≢◌, ℕ, suc, ◌+◌, ◌<◌, List, [], ◌∷◌, ◌++◌, length, refl, sym, ◌∙◌, ap, subst, arith, length-append}
use Rattle.std.proofs.lemmas.List.Elements.{All-push}
use Rattle.sector_disk.specs.Image.{sector}
use Rattle.command_types.specs.declared.commands.Command.{Command}
use Rattle.state_codec.specs.declared.version.Version.{Version}
use Rattle.state_codec.specs.Bytes.{record_bytes}
use Rattle.state_codec.specs.Limits.{IsRecorded}
use Rattle.checkpoint.specs.Stores.{record_sectors}
use Rattle.checkpoint.specs.Holds.{journal}
use Rattle.checkpoint.specs.Reads.{HasLeadingRecords, HasRecords}
use Rattle.checkpoint.proofs.Runs.{record_sectors-more}
use Rattle.checkpoint.proofs.Journals.{journal-more}

module _ (version : Version) (image : List ℕ) (sequence : ℕ) where
  pub none_led : HasLeadingRecords version image sequence []
  none_led = record { records = refl; recorded = λ k d below. absurd (omega (arith, below)) }

  pub more_led : (commands : List Command) (command : Command) (index : ℕ) → length commands ≡ index → HasLeadingRecords version image sequence commands → IsRecorded version command
      → sector (2 + index) image ≡ record_bytes version sequence index command → HasLeadingRecords version image sequence (commands ++ command ∷ [])
  more_led commands command index count led recorded is =
      let long : length (commands ++ command ∷ []) ≡ suc (length commands) = omega (arith, length-append commands (command ∷ [])) in
      let same : sector (2 + (0 + length commands)) image ≡ record_bytes version sequence (0 + length commands) command =
      ap (λ (i : ℕ). sector (2 + i) image) (let e : 0 + length commands ≡ index = omega (arith, count) in e) ∙ is
      ∙ ap (λ (i : ℕ). record_bytes version sequence i command) (let e : index ≡ 0 + length commands = omega (arith, count) in e) in
      record {
        records = ap (λ (n : ℕ). record_sectors 0 n image) long ∙ record_sectors-more 0 (length commands) image
            ∙ ap (λ (l : List (List ℕ)). l ++ sector (2 + (0 + length commands)) image ∷ []) led.records ∙ ap (λ (s : List ℕ). journal version sequence 0 commands ++ s ∷ []) same
            ∙ sym (journal-more version sequence 0 commands command);
        recorded = All-push (IsRecorded version) commands command led.recorded recorded;
      }

  pub led_to : (commands : List Command) (index : ℕ) → length commands ≡ index → index < 256 → HasLeadingRecords version image sequence commands
      → ((command : Command) → IsRecorded version command → sector (2 + index) image ≢ record_bytes version sequence index command) → HasRecords version image sequence commands
  led_to commands index count below led none = record {
    led = led;
    count = omega (arith, count, below);
    ends = λ inside. subst (λ (i : ℕ). (command : Command) → IsRecorded version command → sector (2 + i) image ≢ record_bytes version sequence i command) (sym count) none;
  }

  pub led_full : (commands : List Command) (index : ℕ) → length commands ≡ index → index ≡ 256 → HasLeadingRecords version image sequence commands → HasRecords version image sequence commands
  led_full commands index count full led = record { led = led; count = omega (arith, count, full); ends = λ inside. absurd (omega (arith, inside, count, full)) }
