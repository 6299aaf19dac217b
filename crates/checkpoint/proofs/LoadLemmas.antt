-- The parts that are read determine the content of an image.
use Rattle.std.proofs.Common.{
  ◌≡◌,
  inl,
  inr,
  ⊎_elim,
  ℕ,
  zero,
  suc,
  ◌+◌,
  ◌*◌,
  ◌<◌,
  ◌≤◌,
  ◌^◌,
  List,
  [],
  ◌∷◌,
  length,
  drop,
  All,
  Result,
  Ok,
  Err,
  IfErr,
  MatchResult,
  refl,
  sym,
  ◌∙◌,
  ap,
  subst,
  arith,
  length-take,
  length-drop,
}
use Rattle.std.proofs.lemmas.List.Elements.{All-head, All-tail}
use Rattle.sector_disk.specs.Image.{sector}
use Rattle.command_types.specs.States.{IsState}
use Rattle.command_types.specs.declared.states.State.{State}
use Rattle.command_types.specs.declared.commands.Command.{Command}
use Rattle.state_codec.specs.declared.version.Version.{Version}
use Rattle.state_codec.specs.Bytes.{state_bytes, record_bytes}
use Rattle.state_codec.specs.Limits.{IsStateOf, IsRecorded}
use Rattle.checkpoint.specs.declared.headers.Header.{Header}
use Rattle.checkpoint.specs.Numbers.{HaveValidNumbers}
use Rattle.checkpoint.specs.Layouts.{half_at}
use Rattle.checkpoint.specs.Stores.{IsCurrentHeader, snapshot_in, record_sectors, leading_number}
use Rattle.checkpoint.specs.Holds.{Holds, layout_of, journal}
use Rattle.checkpoint.specs.Reads.{IsImagePrefix, HasRecords, IsClearFrom, HasStrayFrom}
use Rattle.checkpoint.specs.InvalidImages.{HasBadJournal, HasMismatchedJournal, HoldsNothing, UnlessReadFailed, IsHeaderFault, IsJournalFault, IsContentFault, store_fault_of}
use Rattle.checkpoint.specs.Refusals.{faults_of_store}
use Rattle.checkpoint.specs.declared.faults.StoreFault.{StoreFault}
use Rattle.checkpoint.specs.declared.faults.StoreFault.TheVariants as store
use Rattle.state_codec.specs.declared.fault.CodecFault.{CodecFault}
use Rattle.state_codec.specs.declared.fault.CodecFault.TheVariants as codec
use Rattle.state_codec.specs.DecodeResults.{Decodes}
use Rattle.checkpoint.proofs.Runs.{same_records}
use Rattle.checkpoint.proofs.Preservation.{half_inside}
use Rattle.checkpoint.proofs.Journals.{record_begins, length-journal}
use Rattle.checkpoint.proofs.HeaderLemmas.{sector_in_prefix}

-- a record sector is the record of its command
pub record_there : (version : Version) (image : List ℕ) (sequence index : ℕ) (commands : List Command) → All (IsRecorded version) commands
    → record_sectors index (length commands) image ≡ journal version sequence index commands → (i : ℕ) → i < length commands
    → (command : Command) × IsRecorded version command × (sector (2 + (index + i)) image ≡ record_bytes version sequence (index + i) command)
record_there version image sequence index [] recorded same i below = absurd (omega (arith, below))
record_there version image sequence index (command ∷ commands) recorded same zero below =
    let first : sector (2 + index) image ≡ record_bytes version sequence index command = cc in (
      command,
      All-head (IsRecorded version) command commands recorded,
      subst (λ (k : ℕ). sector (2 + k) image ≡ record_bytes version sequence k command)
          (let e : index ≡ index + 0 = omega arith in e) first,
    )
record_there version image sequence index (command ∷ commands) recorded same (suc i) below =
    let rest : record_sectors (suc index) (length commands) image ≡ journal version sequence (suc index) commands = cc in
    let found = record_there version image sequence (suc index) commands (All-tail (IsRecorded version) command commands recorded) rest i (omega (arith, below)) in
    (found.0, found.1, subst (λ (k : ℕ). sector (2 + k) image ≡ record_bytes version sequence k found.0) (let e : suc index + i ≡ index + suc i = omega arith in e) found.2)

-- the parts of an image determine its content
module _ (version : Version) (image : List ℕ) (header : Header) (counts : IsCurrentHeader (layout_of version) image header) where
  pub holds_here : (state : State) (commands : List Command) (used : ℕ)
      → snapshot_in (layout_of version) image header.sequence header.length ≡ state_bytes version state → IsStateOf version state → IsState state
      → HasRecords version image header.sequence commands → IsClearFrom (length commands) image header.sequence → HaveValidNumbers version state commands → used ≡ length commands
      → Holds version image state commands (record { sequence = header.sequence; used = used })
  holds_here state commands used snapshot reported facts has clear numbers is_used =
      let valid = counts.valid in
      let room : header.length ≤ length (drop (512 * half_at (layout_of version) header.sequence) image) = simp length-drop
      (omega (arith, valid.fits, valid.room, half_inside (layout_of version) header.sequence)) in
      let counted : length (snapshot_in (layout_of version) image header.sequence header.length) ≡ header.length = simp length-take (omega (arith, room)) in
      let size : header.length ≡ length (state_bytes version state) = sym counted ∙ ap length snapshot in
      let fits : header.sequence < 2 ^ 64 = omega (arith, valid.last) in
      let long : length (journal version header.sequence 0 commands) ≡ length commands = length-journal version header.sequence 0 commands in
      record {
        stored = record {
          header = subst (λ (n : ℕ). IsCurrentHeader (layout_of version) image (record { sequence = header.sequence; length = n })) size counts;
          snapshot = ap (λ (n : ℕ). snapshot_in (layout_of version) image header.sequence n) (sym size) ∙ snapshot;
          count = omega (arith, long, has.count);
          records = ap (λ (n : ℕ). record_sectors 0 n image) long ∙ has.led.records;
          marked = λ i below.
              let found = record_there version image header.sequence 0 commands has.led.recorded has.led.records i (omega (arith, below, long)) in
              ap (λ (k : ℕ). leading_number (sector (2 + k) image)) (let e : i ≡ 0 + i = omega arith in e) ∙ ap leading_number found.2 ∙ record_begins version header.sequence (0 + i) found.0 fits;
          rest = λ i from to. clear i (omega (arith, from, long)) to;
        };
        used = is_used;
        facts = facts;
        reported = reported;
        recorded = has.led.recorded;
        numbers = numbers;
      }

module _ (version : Version) (sectors : ℕ) (prefix image : List ℕ) (whole : IsImagePrefix sectors prefix image) (header : Header) (counts : IsCurrentHeader (layout_of version) image header) where
  same : (i : ℕ) → i < 256 → sector (2 + i) image ≡ sector (2 + i) prefix
  same i below = sym (sector_in_prefix sectors prefix image whole (2 + i) (omega (arith, below)))

  records_there : (commands : List Command) → HasRecords version prefix header.sequence commands → HasRecords version image header.sequence commands
  records_there commands has = record {
    led = record { records = same_records 0 (length commands) prefix image (λ j from to. same j (omega (arith, to, has.count))) ∙ has.led.records; recorded = has.led.recorded };
    count = has.count;
    ends = λ inside command recorded is. has.ends inside command recorded (sym (same (length commands) inside) ∙ is);
  }

  stray_there : (state : State) (commands : List Command) → HasRecords version prefix header.sequence commands
      → HasStrayFrom (length commands) prefix header.sequence → HasBadJournal version image header.sequence state
  stray_there state commands has stray = record {
    commands = commands;
    records = records_there commands has;
    why = inl (stray.0, stray.1, stray.2, subst (λ (s : List ℕ). header.sequence ≤ leading_number s) (sym (same stray.0 stray.2)) stray.3);
  }

  past_there : (state : State) (commands : List Command) → HasRecords version prefix header.sequence commands → ¬ HaveValidNumbers version state commands
      → HasBadJournal version image header.sequence state
  past_there state commands has past = record { commands = commands; records = records_there commands has; why = inr past }

  bad_here : (state : State) → HasBadJournal version prefix header.sequence state → HasBadJournal version image header.sequence state
  bad_here state bad = ⊎_elim (stray_there state bad.commands bad.records) (past_there state bad.commands bad.records) bad.why

  -- a fault of the journal that is found in the prefix is a fault of the image
  pub bad_there : (state : State) (fault : StoreFault) → UnlessReadFailed (λ fault. HasBadJournal version prefix header.sequence state) fault
      → UnlessReadFailed (λ fault. HasBadJournal version image header.sequence state) fault
  bad_there state store.DeviceFault bad = tt
  bad_there state store.OutOfMemory bad = tt
  bad_there state store.NotFormatted bad = bad_here state bad
  bad_there state store.BadVersion bad = bad_here state bad
  bad_there state (store.Codec fault) bad = bad_here state bad
  bad_there state store.Spent bad = bad_here state bad

  pub holds_there : (state : State) (commands : List Command) (used : ℕ)
      → snapshot_in (layout_of version) image header.sequence header.length ≡ state_bytes version state → IsStateOf version state → IsState state
      → HasRecords version prefix header.sequence commands → IsClearFrom (length commands) prefix header.sequence → HaveValidNumbers version state commands → used ≡ length commands
      → Holds version image state commands (record { sequence = header.sequence; used = used })
  holds_there state commands used snapshot reported facts has clear numbers is_used =
      holds_here version image header counts state commands used snapshot reported facts (records_there commands has)
      (λ i from to. subst (λ (s : List ℕ). leading_number s < header.sequence) (sym (same i to)) (clear i from to)) numbers is_used

-- a fault of the journal is the fault of an image with a current header
pub journal_refused : {T : Type 0} (P : T → Type 0) (version : Version) (image : List ℕ) (header : Header) (state : State)
    → IsCurrentHeader (layout_of version) image header → (HasBadJournal version image header.sequence state → HasMismatchedJournal version image header)
    → (result : Result T StoreFault) → IfErr result IsJournalFault
    → MatchResult result P (UnlessReadFailed (λ fault. HasBadJournal version image header.sequence state))
    → MatchResult result P (UnlessReadFailed (HoldsNothing version image))
journal_refused P version image header state counts astray (Ok x) kind reported = reported
journal_refused P version image header state counts astray (Err store.OutOfMemory) kind reported = tt
journal_refused P version image header state counts astray (Err (store.Codec codec.BadField)) kind reported = (header, counts, inr (refl, astray reported))
journal_refused P version image header state counts astray (Err (store.Codec codec.Truncated)) kind reported = absurd kind
journal_refused P version image header state counts astray (Err (store.Codec (codec.PlanRefused rule))) kind reported = absurd kind
journal_refused P version image header state counts astray (Err (store.Codec codec.OutOfMemory)) kind reported = absurd kind
journal_refused P version image header state counts astray (Err store.NotFormatted) kind reported = absurd kind
journal_refused P version image header state counts astray (Err store.BadVersion) kind reported = absurd kind
journal_refused P version image header state counts astray (Err store.Spent) kind reported = absurd kind
journal_refused P version image header state counts astray (Err store.DeviceFault) kind reported = absurd kind

-- a fault of decoding is the fault of the image
pub codec_refused : (version : Version) (image : List ℕ) (header : Header) (bytes : List ℕ) → IsCurrentHeader (layout_of version) image header
    → bytes ≡ snapshot_in (layout_of version) image header.sequence header.length
    → (fault : CodecFault) → Decodes version bytes (Err fault) → UnlessReadFailed (HoldsNothing version image) (store_fault_of fault)
codec_refused version image header bytes counts is codec.Truncated reported = (header, counts, inl (subst (λ (b : List ℕ). Decodes version b (Err codec.Truncated)) is reported))
codec_refused version image header bytes counts is codec.BadField reported = (header, counts, inl (subst (λ (b : List ℕ). Decodes version b (Err codec.BadField)) is reported))
codec_refused version image header bytes counts is (codec.PlanRefused rule) reported = (header, counts, inl (subst (λ (b : List ℕ). Decodes version b (Err (codec.PlanRefused rule))) is reported))
codec_refused version image header bytes counts is codec.OutOfMemory reported = tt

pub of_bytes : (fault : CodecFault) → IsContentFault (store_fault_of fault)
of_bytes codec.Truncated = tt
of_bytes codec.BadField = tt
of_bytes (codec.PlanRefused rule) = tt
of_bytes codec.OutOfMemory = tt

-- a fault of the headers does not count as a failed call
pub no_fault_more : (fault : StoreFault) → IsHeaderFault fault → (faults : ℕ) → faults_of_store fault faults ≡ faults
no_fault_more store.NotFormatted kind faults = refl
no_fault_more store.BadVersion kind faults = refl
no_fault_more store.DeviceFault kind faults = absurd kind
no_fault_more store.OutOfMemory kind faults = absurd kind
no_fault_more (store.Codec fault) kind faults = absurd kind
no_fault_more store.Spent kind faults = absurd kind
