-- An image holds at most one state, has no fault if it holds one, and has at most one fault.
use Rattle.std.proofs.Common.{◌^◌, ◌≡◌, ◌≢◌, ◌⊎◌, ⊎_elim, inl, inr, ℕ, suc, ◌+◌, ◌%◌, ◌<◌, ◌≤◌, List, [], ◌∷◌, length, All, Err, refl, sym, ◌∙◌, ap, subst, arith}
use Rattle.std.proofs.lemmas.Bool.{cases_lt}
use Rattle.std.proofs.lemmas.List.Elements.{All-head, All-tail}
use Rattle.sector_disk.specs.Image.{sector}
use Rattle.command_types.specs.States.{IsState}
use Rattle.command_types.specs.declared.states.State.{State}
use Rattle.command_types.specs.declared.commands.Command.{Command}
use Rattle.state_codec.specs.declared.version.Version.{Version}
use Rattle.state_codec.specs.declared.fault.CodecFault.{CodecFault}
use Rattle.state_codec.specs.declared.fault.CodecFault.TheVariants as codec
use Rattle.state_codec.specs.Bytes.{state_bytes, record_bytes}
use Rattle.state_codec.specs.Limits.{IsStateOf, IsRecorded}
use Rattle.state_codec.specs.Laws.{StateEncodingIsInjective, RecordEncodingIsInjective, StatesHaveNoFault, FaultsAreOne}
use Rattle.state_codec.specs.DecodeResults.{Decodes}
use Rattle.checkpoint.specs.declared.headers.Header.{Header}
use Rattle.checkpoint.specs.declared.places.Place.{Place}
use Rattle.checkpoint.specs.declared.faults.StoreFault.{StoreFault}
use Rattle.checkpoint.specs.declared.faults.StoreFault.TheVariants as store
use Rattle.checkpoint.specs.Numbers.{HaveValidNumbers}
use Rattle.checkpoint.specs.Stores.{IsCurrentHeader, snapshot_in, record_sectors, leading_number}
use Rattle.checkpoint.specs.Holds.{Holds, layout_of, journal}
use Rattle.checkpoint.specs.Reads.{HasRecords, HasStrayFrom}
use Rattle.checkpoint.specs.InvalidImages.{HasBadJournal, HasMismatchedJournal, IsRefusedFor, IsBroken, HoldsNothing}
use Rattle.checkpoint.proofs.LoadLemmas.{record_there}
use Rattle.checkpoint.proofs.HeaderBytes.{small_half, read_of, read_back}
use Rattle.checkpoint.proofs.Journals.{record_begins, length-journal}

-- ---- headers

-- An image has at most one current header.
same_counting : (version : Version) (image : List ℕ) (a b : Header) → IsCurrentHeader (layout_of version) image a → IsCurrentHeader (layout_of version) image b → a ≡ b
same_counting version image a b counts_a counts_b =
    let sequence : a.sequence ≡ b.sequence = omega (arith, counts_a.greatest b counts_b.valid, counts_b.greatest a counts_a.valid) in
    let bytes = sym counts_a.valid.bytes ∙ ap (λ (s : ℕ). sector (s % 2) image) sequence ∙ counts_b.valid.bytes in
    sym (read_back (layout_of version).version a (omega (arith, counts_a.valid.last)) (omega (arith, counts_a.valid.fits, small_half version)))
    ∙ ap read_of bytes ∙ read_back (layout_of version).version b (omega (arith, counts_b.valid.last)) (omega (arith, counts_b.valid.fits, small_half version))

-- ---- records

abbrev place_of : ℕ → ℕ → Place
place_of sequence used = record { sequence = sequence; used = used }

-- The commands that an image holds are those of its journal's leading records.
holds_records : (version : Version) (image : List ℕ) (state : State) (commands : List Command) (place : Place) → Holds version image state commands place
    → HasRecords version image place.sequence commands
holds_records version image state commands place held =
    let long = length-journal version place.sequence 0 commands in
    record {
      led = record { records = ap (λ (n : ℕ). record_sectors 0 n image) (sym long) ∙ held.stored.records; recorded = held.recorded };
      count = omega (arith, held.stored.count, long);
      ends = λ inside command recorded is.
          let begins = ap leading_number is ∙ record_begins version place.sequence (length commands) command (omega (arith, held.stored.header.valid.last)) in
          absurd (omega (arith, begins, held.stored.rest (length commands) (omega (arith, long)) inside));
    }

-- If an image has the records of two lists of commands, the first list is not longer than the second.
reaches : (version : Version) (image : List ℕ) (sequence : ℕ) (commands others : List Command) → HasRecords version image sequence commands
    → HasRecords version image sequence others → length commands ≤ length others
reaches version image sequence commands others has other = ⊎_elim
    (λ (less : length others < length commands).
    let found = record_there version image sequence 0 commands has.led.recorded has.led.records (length others) less in
    let at : 0 + length others ≡ length others = omega arith in
    absurd (other.ends (omega (arith, less, has.count)) found.0 found.1 (subst (λ (k : ℕ). sector (2 + k) image ≡ record_bytes version sequence k found.0) at found.2)))
    (λ (more : length commands ≤ length others). more) (cases_lt (length others) (length commands))

-- Different states and commands have different bytes.
module _ (states : StateEncodingIsInjective) (records : RecordEncodingIsInjective) where
  same_commands : (version : Version) (sequence index : ℕ) (a b : List Command) → sequence < 2 ^ 64 → index + length a ≤ 256 → All (IsRecorded version) a → All (IsRecorded version) b
      → journal version sequence index a ≡ journal version sequence index b → a ≡ b
  same_commands version sequence index [] [] fits inside ra rb same = refl
  same_commands version sequence index [] (b ∷ ys) fits inside ra rb same = absurd cc
  same_commands version sequence index (a ∷ xs) [] fits inside ra rb same = absurd cc
  same_commands version sequence index (a ∷ xs) (b ∷ ys) fits inside ra rb same =
      let first : record_bytes version sequence index a ≡ record_bytes version sequence index b = cc in
      let rest : journal version sequence (suc index) xs ≡ journal version sequence (suc index) ys = cc in
      let low : index < 2 ^ 32 = omega (arith, inside) in
      let head = records version sequence sequence index index a b fits fits low low (All-head (IsRecorded version) a xs ra) (All-head (IsRecorded version) b ys rb) first in
      let command : a ≡ b = head.2 in
      let tail = same_commands version sequence (suc index) xs ys fits (omega (arith, inside)) (All-tail (IsRecorded version) a xs ra) (All-tail (IsRecorded version) b ys rb) rest in
      cc

  same_records : (version : Version) (image : List ℕ) (sequence : ℕ) (commands others : List Command) → sequence < 2 ^ 64
      → HasRecords version image sequence commands → HasRecords version image sequence others → commands ≡ others
  same_records version image sequence commands others fits has other =
      let long : length commands ≡ length others = omega (arith, reaches version image sequence commands others has other, reaches version image sequence others commands other has) in
      same_commands version sequence 0 commands others fits (omega (arith, has.count)) has.led.recorded other.led.recorded
      (sym has.led.records ∙ ap (λ (n : ℕ). record_sectors 0 n image) long ∙ other.led.records)

  pub one : (version : Version) (image : List ℕ) (state other : State) (commands others : List Command) (place elsewhere : Place)
      → Holds version image state commands place → Holds version image other others elsewhere → (state ≡ other) × (commands ≡ others) × (place ≡ elsewhere)
  one version image state other commands others place elsewhere a b =
      let header = same_counting version image (record { sequence = place.sequence; length = length (state_bytes version state) })
      (record { sequence = elsewhere.sequence; length = length (state_bytes version other) }) a.stored.header b.stored.header in
      let sequence : place.sequence ≡ elsewhere.sequence = ap (λ (h : Header). h.sequence) header in
      let bytes : state_bytes version state ≡ state_bytes version other = sym a.stored.snapshot
      ∙ ap (λ (h : Header). snapshot_in (layout_of version) image h.sequence h.length) header ∙ b.stored.snapshot in
      let same = same_records version image place.sequence commands others (omega (arith, a.stored.header.valid.last)) (holds_records version image state commands place a)
      (subst (λ (n : ℕ). HasRecords version image n others) (sym sequence) (holds_records version image other others elsewhere b)) in
      let used : place.used ≡ elsewhere.used = a.used ∙ ap length same ∙ sym b.used in
      (states version state other a.facts b.facts a.reported b.reported bytes, same, ap (λ (n : ℕ). place_of n place.used) sequence ∙ ap (place_of elsewhere.sequence) used)

reported : (version : Version) (bytes : List ℕ) (fault : CodecFault) → IsRefusedFor version bytes fault → Decodes version bytes (Err fault) × (fault ≢ codec.OutOfMemory)
reported version bytes codec.Truncated h = (h, λ e. absurd cc)
reported version bytes codec.BadField h = (h, λ e. absurd cc)
reported version bytes (codec.PlanRefused rule) h = (h, λ e. absurd cc)
reported version bytes codec.OutOfMemory h = absurd h

-- The bytes of a state are not refused.
module _ (refused : StatesHaveNoFault) where
  not_refused : (version : Version) (bytes : List ℕ) (state : State) (fault : CodecFault) → IsState state → IsStateOf version state
      → bytes ≡ state_bytes version state → IsRefusedFor version bytes fault → ⊥
  not_refused version bytes state fault facts of is h =
      let why = reported version bytes fault h in why.1 (refused version state fault facts of (subst (λ (b : List ℕ). Decodes version b (Err fault)) is why.0))

  module _ (states : StateEncodingIsInjective) (records : RecordEncodingIsInjective) where
    not_bad : (version : Version) (image : List ℕ) (state : State) (commands others : List Command) (place : Place) → Holds version image state commands place → commands ≡ others
        → HasStrayFrom (length others) image place.sequence ⊎ (¬ HaveValidNumbers version state others) → ⊥
    not_bad version image state commands others place held same (inl stray) =
        let long : length (journal version place.sequence 0 commands) ≡ length commands = length-journal version place.sequence 0 commands in
        let count : length commands ≡ length others = ap length same in
        let less = held.stored.rest stray.0 (omega (arith, stray.1, count, long)) stray.2 in
        absurd (omega (arith, less, stray.3))
    not_bad version image state commands others place held same (inr past) = past (subst (HaveValidNumbers version state) same held.numbers)

    not_broken : (version : Version) (image : List ℕ) (state : State) (commands : List Command) (place : Place) (header : Header) (fault : CodecFault) → Holds version image state commands place
        → header ≡ record { sequence = place.sequence; length = length (state_bytes version state) } → IsBroken version image header fault → ⊥
    not_broken version image state commands place header fault held counts broken = ⊎_elim
        (λ (bad : IsRefusedFor version (snapshot_in (layout_of version) image header.sequence header.length) fault). not_refused version
        (snapshot_in (layout_of version) image header.sequence header.length) state fault held.facts held.reported is bad)
        (λ (astray : (fault ≡ codec.BadField) × HasMismatchedJournal version image header).
        let at = astray.1 in
        let same : at.state ≡ state = states version at.state state at.facts held.facts at.reported held.reported (sym at.snapshot ∙ is) in
        let bad : HasBadJournal version image place.sequence state =
        subst (λ (s : State). HasBadJournal version image place.sequence s) same (subst (λ (h : Header). HasBadJournal version image h.sequence at.state) counts at.journal) in
        not_bad version image state commands bad.commands place held
        (same_records states records version image place.sequence commands bad.commands (omega (arith, held.stored.header.valid.last))
        (holds_records version image state commands place held) bad.records) bad.why)
        broken
      where
        is : snapshot_in (layout_of version) image header.sequence header.length ≡ state_bytes version state
        is = ap (λ (h : Header). snapshot_in (layout_of version) image h.sequence h.length) counts ∙ held.stored.snapshot

    pub beside_nothing : (version : Version) (image : List ℕ) (state : State) (commands : List Command) (place : Place) (fault : StoreFault)
        → Holds version image state commands place → HoldsNothing version image fault → ⊥
    beside_nothing version image state commands place store.NotFormatted held none = none.none
        (record { sequence = place.sequence; length = length (state_bytes version state) }) held.stored.header.valid
    beside_nothing version image state commands place store.BadVersion held none = none.none
        (record { sequence = place.sequence; length = length (state_bytes version state) }) held.stored.header.valid
    beside_nothing version image state commands place (store.Codec fault) held none =
        let same = same_counting version image none.0 (record { sequence = place.sequence; length = length (state_bytes version state) }) none.1 held.stored.header in
        not_broken version image state commands place none.0 fault held same none.2
    beside_nothing version image state commands place store.Spent held none = none
    beside_nothing version image state commands place store.OutOfMemory held none = none
    beside_nothing version image state commands place store.DeviceFault held none = none

  -- Refused bytes have exactly one fault.
  module _ (alike : FaultsAreOne) where
    same_violation : (version : Version) (image : List ℕ) (header : Header) (e f : CodecFault) → IsBroken version image header e → IsBroken version image header f → e ≡ f
    same_violation version image header e f (inl a) (inl b) =
        let bytes = snapshot_in (layout_of version) image header.sequence header.length in
        let first = reported version bytes e a in
        let second = reported version bytes f b in
        alike version bytes e f first.1 second.1 first.0 second.0
    same_violation version image header e f (inl a) (inr b) = absurd
        (not_refused version (snapshot_in (layout_of version) image header.sequence header.length) b.1.state e b.1.facts b.1.reported b.1.snapshot a)
    same_violation version image header e f (inr a) (inl b) = absurd
        (not_refused version (snapshot_in (layout_of version) image header.sequence header.length) a.1.state f a.1.facts a.1.reported a.1.snapshot b)
    same_violation version image header e f (inr a) (inr b) = a.0 ∙ sym b.0

    pub one_fault : (version : Version) (image : List ℕ) (fault other : StoreFault) → HoldsNothing version image fault → HoldsNothing version image other → fault ≡ other
    one_fault version image store.NotFormatted store.NotFormatted a b = refl
    one_fault version image store.NotFormatted store.BadVersion a b = absurd (a.no_other b.other)
    one_fault version image store.NotFormatted (store.Codec f) a b = absurd (a.none b.0 b.1.valid)
    one_fault version image store.NotFormatted store.Spent a b = absurd b
    one_fault version image store.NotFormatted store.OutOfMemory a b = absurd b
    one_fault version image store.NotFormatted store.DeviceFault a b = absurd b
    one_fault version image store.BadVersion store.NotFormatted a b = absurd (b.no_other a.other)
    one_fault version image store.BadVersion store.BadVersion a b = refl
    one_fault version image store.BadVersion (store.Codec f) a b = absurd (a.none b.0 b.1.valid)
    one_fault version image store.BadVersion store.Spent a b = absurd b
    one_fault version image store.BadVersion store.OutOfMemory a b = absurd b
    one_fault version image store.BadVersion store.DeviceFault a b = absurd b
    one_fault version image (store.Codec e) store.NotFormatted a b = absurd (b.none a.0 a.1.valid)
    one_fault version image (store.Codec e) store.BadVersion a b = absurd (b.none a.0 a.1.valid)
    one_fault version image (store.Codec e) (store.Codec f) a b =
        let same = same_counting version image b.0 a.0 b.1 a.1 in
        ap (λ (k : CodecFault). store.Codec k) (same_violation version image a.0 e f a.2 (subst (λ (h : Header). IsBroken version image h f) same b.2))
    one_fault version image (store.Codec e) store.Spent a b = absurd b
    one_fault version image (store.Codec e) store.OutOfMemory a b = absurd b
    one_fault version image (store.Codec e) store.DeviceFault a b = absurd b
    one_fault version image store.Spent other a b = absurd a
    one_fault version image store.OutOfMemory other a b = absurd a
    one_fault version image store.DeviceFault other a b = absurd a
