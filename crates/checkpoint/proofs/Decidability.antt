-- Every image holds something or has a fault, since each property in the definitions can be decided.
use Rattle.std.proofs.Common.{
  ◌-◌,
  ◌≡◌,
  ◌≢◌,
  ◌⊎◌,
  ⊎_elim,
  inl,
  inr,
  ℕ,
  zero,
  suc,
  ◌+◌,
  ◌*◌,
  ◌%◌,
  ◌^◌,
  ◌<◌,
  ◌≤◌,
  List,
  [],
  ◌∷◌,
  ◌++◌,
  length,
  take,
  drop,
  All,
  Option,
  Some,
  None,
  Err,
  refl,
  sym,
  ◌∙◌,
  ap,
  subst,
  arith,
  length-append,
}
use Rattle.std.proofs.lemmas.Bool.{cases_lt}
use Rattle.std.proofs.lemmas.List.Elements.{All-take, All-drop}
use Rattle.byteorder.specs.Endian.{big_bytes}
use Rattle.sector_disk.specs.Image.{sector}
use Rattle.command_types.specs.States.{IsState}
use Rattle.command_types.specs.declared.states.State.{State}
use Rattle.command_types.specs.declared.commands.Command.{Command}
use Rattle.state_codec.specs.declared.version.Version.{Version}
use Rattle.state_codec.specs.declared.version.Version.TheVariants.{One, Two}
use Rattle.state_codec.specs.declared.fault.CodecFault.{CodecFault}
use Rattle.state_codec.specs.declared.fault.CodecFault.TheVariants as codec
use Rattle.state_codec.specs.Bytes.{state_bytes}
use Rattle.state_codec.specs.Limits.{IsStateOf}
use Rattle.state_codec.specs.Laws.{BytesAreDecided, RecordsAreDecided}
use Rattle.state_codec.specs.DecodeResults.{Decodes}
use Rattle.checkpoint.specs.declared.layouts.Layout.{Layout}
use Rattle.checkpoint.specs.declared.headers.Header.{Header}
use Rattle.checkpoint.specs.declared.places.Place.{Place}
use Rattle.checkpoint.specs.declared.faults.StoreFault.{StoreFault}
use Rattle.checkpoint.specs.declared.faults.StoreFault.TheVariants as store
use Rattle.checkpoint.specs.Layouts.{sectors_in, half_at}
use Rattle.checkpoint.specs.Headers.{magic, header_bytes, HasOtherVersion}
use Rattle.checkpoint.specs.Numbers.{HaveValidNumbers, next_number_of, added_stops}
use Rattle.checkpoint.specs.Stores.{IsValid, IsOfOtherVersion, IsCurrentHeader, snapshot_in, leading_number}
use Rattle.checkpoint.specs.Holds.{Holds, layout_of}
use Rattle.checkpoint.specs.Reads.{IsOfParity, HasLeadingRecords, HasRecords, IsClearFrom, HasStrayFrom}
use Rattle.checkpoint.specs.InvalidImages.{HoldsNothing}
use Rattle.checkpoint.proofs.HeaderBytes.{small_half, read_of, read_back}
use Rattle.checkpoint.proofs.HeaderLemmas.{counts_first, counts_second, counts_zeroth, counts_next, none_valid}
use Rattle.checkpoint.proofs.LeadingRecords.{none_led, more_led, led_to, led_full}
use Rattle.checkpoint.proofs.LoadLemmas.{holds_here}

-- ---- properties, numbers and bytes

abbrev IsAnswered : Type 0 → Type 0
IsAnswered A = A ⊎ (¬ A)

by : {A B : Type 0} → IsAnswered A → (A → B) → (B → A) → IsAnswered B
by (inl a) to from = inl (to a)
by (inr never) to from = inr (λ b. never (from b))

both : {A B : Type 0} → IsAnswered A → IsAnswered B → IsAnswered (A × B)
both (inl a) (inl b) = inl (a, b)
both (inl a) (inr never) = inr (λ is. never is.1)
both (inr never) b = inr (λ is. never is.0)

either : {A B : Type 0} → IsAnswered A → IsAnswered B → IsAnswered (A ⊎ B)
either (inl a) b = inl (inl a)
either (inr never) (inl b) = inl (inr b)
either (inr never) (inr none) = inr (λ is. ⊎_elim never none is)

unless : {A : Type 0} → IsAnswered A → IsAnswered (¬ A)
unless (inl a) = inr (λ never. never a)
unless (inr never) = inl never

at_most : (a b : ℕ) → IsAnswered (a ≤ b)
at_most a b = ⊎_elim (λ (less : b < a). inr (λ (h : a ≤ b). absurd (omega (arith, less, h)))) (λ (is : a ≤ b). inl is) (cases_lt b a)

same_number : (a b : ℕ) → IsAnswered (a ≡ b)
same_number a b = by (both (at_most a b) (at_most b a)) (λ is. omega (arith, is.0, is.1)) (λ (e : a ≡ b). (omega (arith, e), omega (arith, e)))

same_bytes : (xs ys : List ℕ) → IsAnswered (xs ≡ ys)
same_bytes [] [] = inl refl
same_bytes [] (y ∷ ys) = inr (λ e. absurd cc)
same_bytes (x ∷ xs) [] = inr (λ e. absurd cc)
same_bytes (x ∷ xs) (y ∷ ys) = by (both (same_number x y) (same_bytes xs ys)) (λ is. ap (λ (n : ℕ). n ∷ xs) is.0 ∙ ap (λ (l : List ℕ). y ∷ l) is.1) (λ (e : x ∷ xs ≡ y ∷ ys). (cc, cc))

-- ---- headers

module _ (layout : Layout) (image : List ℕ) (half : layout.half < 2 ^ 32) where
  -- a valid header is the result of decoding its sector
  is_read : (index : ℕ) (header : Header) → header.sequence % 2 ≡ index → IsValid layout image header → header ≡ read_of (sector index image)
  is_read index header parity valid = sym (ap read_of (ap (λ (i : ℕ). sector i image) (sym parity) ∙ valid.bytes)
      ∙ read_back layout.version header (omega (arith, valid.last)) (omega (arith, valid.fits, half)))

  abbrev IsIn : ℕ → Header → Type 0
  IsIn index header = (header.sequence % 2 ≡ index) × IsValid layout image header

  -- a header is in this sector and valid, or it is not
  is_in : (index : ℕ) (header : Header) → IsAnswered (IsIn index header)
  is_in index header = by
      (both (same_number (header.sequence % 2) index)
      (both (at_most (512 * sectors_in layout) (length image)) (both (same_bytes (sector (header.sequence % 2) image) (header_bytes layout.version header))
      (both (at_most 1 header.sequence) (both (at_most header.sequence (2 ^ 60)) (both (at_most 1 header.length) (at_most header.length (512 * layout.half))))))))
      (λ is. (is.0, record { room = is.1.0; bytes = is.1.1.0; first = is.1.1.1.0; last = is.1.1.1.1.0; some = is.1.1.1.1.1.0; fits = is.1.1.1.1.1.1 }))
      (λ is. (is.0, (is.1.room, (is.1.bytes, (is.1.first, (is.1.last, (is.1.some, is.1.fits)))))))

  in_sector : (index : ℕ) → (o : Option Header) × IsOfParity layout image index o
  in_sector index = ⊎_elim
      (λ (yes : IsIn index (read_of (sector index image))). (Some (read_of (sector index image)), yes))
      (λ (no : ¬ IsIn index (read_of (sector index image))). (None, λ header parity valid. no (subst (IsIn index) (is_read index header parity valid) (parity, valid))))
      (is_in index (read_of (sector index image)))

  abbrev IsCounted : Type 0
  IsCounted = ((header : Header) × IsCurrentHeader layout image header) ⊎ ((header : Header) → ¬ IsValid layout image header)

  of_both : (first second : Option Header) → IsOfParity layout image 0 first → IsOfParity layout image 1 second → IsCounted
  of_both None None zeroth next = inr (none_valid layout image zeroth next)
  of_both (Some first) None zeroth next = inl (first, counts_zeroth layout image first zeroth next)
  of_both None (Some second) zeroth next = inl (second, counts_next layout image second zeroth next)
  of_both (Some first) (Some second) zeroth next = ⊎_elim
      (λ (less : first.sequence < second.sequence). inl (second, counts_second layout image first second zeroth next less))
      (λ (more : second.sequence ≤ first.sequence). inl (first, counts_first layout image first second zeroth next more))
      (cases_lt first.sequence second.sequence)

  counted : IsCounted
  counted = let first = in_sector 0 in let second = in_sector 1 in of_both first.0 second.0 first.1 second.1

-- a sector has another version, or it does not
of_other : (version : ℕ) (bytes : List ℕ) → IsAnswered (HasOtherVersion version bytes)
of_other version bytes = both (same_bytes (take 8 bytes) magic) (unless (same_bytes (take 4 (drop 8 bytes)) (big_bytes 4 version)))

is_other : (layout : Layout) (image : List ℕ) → IsAnswered (IsOfOtherVersion layout image)
is_other layout image = by (both (at_most (512 * 802) (length image)) (either (of_other layout.version (sector 0 image)) (of_other layout.version (sector 1 image))))
    (λ is. record { room = is.0; other = is.1 }) (λ is. (is.room, is.other))

-- ---- the journal

-- from an index on, some sector is stray, or none is
strays : (image : List ℕ) (sequence left index : ℕ) → index + left ≡ 256 → IsClearFrom index image sequence ⊎ HasStrayFrom index image sequence
strays image sequence zero index whole = inl (λ k low high. absurd (omega (arith, low, high, whole)))
strays image sequence (suc left) index whole = ⊎_elim
    (λ (less : leading_number (sector (2 + index) image) < sequence). ⊎_elim
    (λ (clear : IsClearFrom (suc index) image sequence). inl (λ k low high. ⊎_elim
    (λ (after : index < k). clear k (omega (arith, after)) high)
    (λ (at : k ≤ index). let here : index ≡ k = omega (arith, at, low) in subst (λ (i : ℕ). leading_number (sector (2 + i) image) < sequence) here less) (cases_lt index k)))
    (λ (stray : HasStrayFrom (suc index) image sequence). inr (stray.0, omega (arith, stray.1), stray.2, stray.3))
    (strays image sequence left (suc index) (omega (arith, whole))))
    (λ (more : sequence ≤ leading_number (sector (2 + index) image)). inr (index, omega arith, omega (arith, whole), more))
    (cases_lt (leading_number (sector (2 + index) image)) sequence)

numbered : (version : Version) (state : State) (commands : List Command) → IsAnswered (HaveValidNumbers version state commands)
numbered One state commands = at_most (next_number_of state + added_stops commands) 4001
numbered Two state commands = inl tt

module _ (bytes : BytesAreDecided) (records : RecordsAreDecided) where
  -- the leading sectors that are records
  leading : (version : Version) (image : List ℕ) (sequence left index : ℕ) (commands : List Command) → length commands ≡ index → index + left ≡ 256 → HasLeadingRecords version image sequence commands
      → (all : List Command) × HasRecords version image sequence all
  leading version image sequence zero index commands count whole led = (commands, led_full version image sequence commands index count (omega (arith, whole)) led)
  leading version image sequence (suc left) index commands count whole led = ⊎_elim
      (λ found. leading version image sequence left (suc index) (commands ++ found.0 ∷ []) (omega (arith, count, length-append commands (found.0 ∷ []))) (omega (arith, whole))
      (more_led version image sequence commands found.0 index count led found.1 found.2))
      (λ none. (commands, led_to version image sequence commands index count (omega (arith, whole)) led none))
      (records version (sector (2 + index) image) sequence index)

  abbrev IsDecided : Version → List ℕ → Type 0
  IsDecided version image = ((state : State) × (commands : List Command) × (place : Place) × Holds version image state commands place) ⊎ ((fault : StoreFault) × HoldsNothing version image fault)

  module _ (version : Version) (image : List ℕ) (header : Header) (counts : IsCurrentHeader (layout_of version) image header) where
    bad : (state : State) → snapshot_in (layout_of version) image header.sequence header.length ≡ state_bytes version state → IsStateOf version state → IsState state → (commands : List Command)
        → HasRecords version image header.sequence commands → HasStrayFrom (length commands) image header.sequence ⊎ (¬ HaveValidNumbers version state commands) → IsDecided version image
    bad state is reported facts commands has why = inr (
      store.Codec codec.BadField,
      (
        header,
        counts,
        inr (
          refl,
          record {
            state = state;
            snapshot = is;
            facts = facts;
            reported = reported;
            journal = record { commands = commands; records = has; why = why };
          },
        ),
      ),
    )

    of_state : (state : State) → IsState state → IsStateOf version state → snapshot_in (layout_of version) image header.sequence header.length ≡ state_bytes version state → IsDecided version image
    of_state state facts reported is =
        let led = leading version image header.sequence 256 0 [] refl (omega arith) (none_led version image header.sequence) in
        let commands = led.0 in
        let has = led.1 in
        ⊎_elim
        (λ (clear : IsClearFrom (length commands) image header.sequence). ⊎_elim
        (λ (numbers : HaveValidNumbers version state commands). inl (
          state,
          commands,
          record { sequence = header.sequence; used = length commands },
          holds_here version image header counts state commands
              (length commands) is reported facts has clear numbers refl,
        ))
        (λ (past : ¬ HaveValidNumbers version state commands). bad state is reported facts commands has (inr past)) (numbered version state commands))
        (λ (stray : HasStrayFrom (length commands) image header.sequence). bad state is reported facts commands has (inl stray))
        (strays image header.sequence (256 - length commands) (length commands) (omega (arith, has.count)))

    of_fault : (fault : CodecFault) → fault ≢ codec.OutOfMemory → Decodes version (snapshot_in (layout_of version) image header.sequence header.length) (Err fault) → IsDecided version image
    of_fault codec.Truncated not h = inr (store.Codec codec.Truncated, (header, counts, inl h))
    of_fault codec.BadField not h = inr (store.Codec codec.BadField, (header, counts, inl h))
    of_fault (codec.PlanRefused rule) not h = inr (store.Codec (codec.PlanRefused rule), (header, counts, inl h))
    of_fault codec.OutOfMemory not h = absurd (not refl)

    of_header : All (λ b. b < 256) image → IsDecided version image
    of_header are = ⊎_elim
        (λ known. of_state known.0 known.1 known.2 known.3)
        (λ fault. of_fault fault.0 fault.1 fault.2)
        (bytes version (snapshot_in (layout_of version) image header.sequence header.length)
        (All-take (λ b. b < 256) header.length (drop (512 * half_at (layout_of version) header.sequence) image)
        (All-drop (λ b. b < 256) (512 * half_at (layout_of version) header.sequence) image are)))

  pub decided : (version : Version) (image : List ℕ) → All (λ b. b < 256) image → IsDecided version image
  decided version image are = ⊎_elim
      (λ found. of_header version image found.0 found.1 are)
      (λ none. ⊎_elim
      (λ (other : IsOfOtherVersion (layout_of version) image). inr (store.BadVersion, record { none = none; other = other }))
      (λ (no : ¬ IsOfOtherVersion (layout_of version) image). inr (store.NotFormatted, record { none = none; no_other = no })) (is_other (layout_of version) image))
      (counted (layout_of version) image (omega (arith, small_half version)))
