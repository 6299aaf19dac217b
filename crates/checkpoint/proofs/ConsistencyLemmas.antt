-- A consistent image stays consistent when a record, a snapshot or its header is written. It has no integrity
-- warning.
use Rattle.std.proofs.Common.{◌≡◌, ◌≢◌, ◌⊎◌, inl, inr, ⊎_elim, ℕ, zero, suc, ◌+◌, ◌*◌, ◌%◌, ◌<◌, ◌≤◌, Bool, true, false, List, length, replicate, refl, sym, ◌∙◌, ap, subst, arith, IsTrue}
use Rattle.std.proofs.lemmas.Bool.{cases_lt}
use Rattle.std.proofs.lemmas.List.{length-replicate}
use Rattle.sector_disk.specs.Image.{sector, written}
use Rattle.sector_disk.specs.ImageLaws.{length-written}
use Rattle.command_types.specs.declared.commands.Command.{Command}
use Rattle.state_codec.specs.declared.version.Version.TheVariants.{Two}
use Rattle.state_codec.specs.Bytes.{record_bytes}
use Rattle.state_codec.specs.Limits.{IsRecorded}
use Rattle.checkpoint.specs.declared.headers.Header.{Header}
use Rattle.checkpoint.specs.declared.integrity.IntegrityWarnings.{IntegrityWarnings}
use Rattle.checkpoint.specs.Headers.{header_bytes}
use Rattle.checkpoint.specs.Layouts.{version_2}
use Rattle.checkpoint.specs.Stores.{IsValid, Stores, leading_number}
use Rattle.checkpoint.specs.Integrity.{is_blank, IsRecordAt, IsConsistentUnder, IsHeaderLost, AreHeadersApart, HasDamagedRecord, AreRecordsMixed, AreWarnings, has_none}
use Rattle.checkpoint.proofs.Runs.{sector_written, written_outside}
use Rattle.checkpoint.proofs.Preservation.{parity, same_valid}
use Rattle.checkpoint.proofs.HeaderLemmas.{same_sector}
use Rattle.checkpoint.proofs.BlankPrefixes.{IsCleared, clears, length_cleared, size_is}
use Rattle.checkpoint.proofs.Commits.{prefix_stays, whole_mix}
use Rattle.checkpoint.proofs.Journals.{length-journal, record_begins}
use Rattle.checkpoint.specs.Holds.{journal}
use Rattle.checkpoint.specs.Laws.{ConsistentHasNoWarning, RecordsKeepConsistency, SnapshotsKeepConsistency, HeadersKeepConsistency, FormatsAreConsistent}
use Rattle.checkpoint.specs.DurableWrites.{IsSaved, IsZeros}
use Rattle.checkpoint.specs.WrittenImages.{with_zeros, first_header, prefix_size, with_both, with_snapshot}
use Rattle.state_codec.specs.Bytes.{state_bytes}

-- consistency depends only on the headers and the records
pub agrees_still : (sequence : ℕ) (a b : List ℕ) → length b ≡ length a → ((i : ℕ) → i < 258 → sector i b ≡ sector i a) → IsConsistentUnder sequence a → IsConsistentUnder sequence b
agrees_still sequence a b size same agrees = record {
  headers = ⊎_elim
      (λ before. inl (before.0, same_valid version_2 a b size before.0 (same (before.0.sequence % 2) (omega arith)) before.1, before.2))
      (λ first. inr (first.0, ap is_blank (same 0 (omega arith)) ∙ first.1))
      agrees.headers;
  records = λ i inside. subst (λ (s : List ℕ). (is_blank s ≡ true) ⊎ IsRecordAt i s) (sym (same (2 + i) (omega arith))) (agrees.records i inside);
  order = λ i inside.
      let one = ap leading_number (same (2 + i) (omega arith)) in
      let two = ap leading_number (same (3 + i) (omega arith)) in
      omega (arith, one, two, agrees.order i inside);
}

-- an image with one more record is consistent
module _ (image : List ℕ) (sequence : ℕ) (state : List ℕ) (journal : List (List ℕ)) (bytes : List ℕ) (command : Command)
    (stored : Stores version_2 image sequence state journal) (one : length bytes ≡ 512) (mark : leading_number bytes ≡ sequence) (free : length journal < 256)
    (is : bytes ≡ record_bytes Two sequence (length journal) command) (recorded : IsRecorded Two command) (agrees : IsConsistentUnder sequence image) where
  abbrev with_record : List ℕ
  with_record = written (2 + length journal) bytes image

  inside : 512 * (2 + length journal) + 512 * 1 ≤ length image
  inside = omega (arith, stored.header.valid.room, free)

  whole : length bytes ≡ 512 * 1
  whole = omega (arith, one)

  size : length with_record ≡ length image
  size = length-written (2 + length journal) 1 bytes image whole inside

  outside : (i : ℕ) → (i < 2 + length journal) ⊎ (2 + length journal + 1 ≤ i) → sector i with_record ≡ sector i image
  outside i out = written_outside (2 + length journal) 1 bytes image whole inside i out

  here : sector (2 + length journal) with_record ≡ bytes
  here = sector_written (2 + length journal) bytes image one (omega (arith, inside))

  placed : IsRecordAt (length journal) bytes
  placed = (command, recorded, is ∙ ap (λ (q : ℕ). record_bytes Two q (length journal) command) (sym mark))

  -- the sequence in each record sector before the new record
  before_it : (i : ℕ) → i < length journal → leading_number (sector (2 + i) with_record) ≡ sequence
  before_it i below = ap leading_number (outside (2 + i) (inl (omega (arith, below)))) ∙ stored.marked i below

  at_it : (i : ℕ) → i ≡ length journal → leading_number (sector (2 + i) with_record) ≡ sequence
  at_it i at = ap (λ (k : ℕ). leading_number (sector (2 + k) with_record)) at ∙ ap leading_number here ∙ mark

  after_it : (i : ℕ) → length journal + 1 ≤ i → leading_number (sector (2 + i) with_record) ≡ leading_number (sector (2 + i) image)
  after_it i above = ap leading_number (outside (2 + i) (inr (omega (arith, above))))

  record_there : (i : ℕ) → i < 256 → (is_blank (sector (2 + i) with_record) ≡ true) ⊎ IsRecordAt i (sector (2 + i) with_record)
  record_there i within = ⊎_elim
      (λ (below : i < length journal). old (inl (omega (arith, below))))
      (λ (from : length journal ≤ i). ⊎_elim
      (λ (low : i < length journal + 1). let at : i ≡ length journal = omega (arith, from, low) in
      inr (subst (λ (k : ℕ). IsRecordAt k (sector (2 + k) with_record)) (sym at) (subst (IsRecordAt (length journal)) (sym here) placed)))
      (λ (above : length journal + 1 ≤ i). old (inr (omega (arith, above))))
      (cases_lt i (length journal + 1)))
      (cases_lt i (length journal))
    where
      old : (2 + i < 2 + length journal) ⊎ (2 + length journal + 1 ≤ 2 + i) → (is_blank (sector (2 + i) with_record) ≡ true) ⊎ IsRecordAt i (sector (2 + i) with_record)
      old out = subst (λ (s : List ℕ). (is_blank s ≡ true) ⊎ IsRecordAt i s) (sym (outside (2 + i) out)) (agrees.records i within)

  -- the sector after a record's sector is that of the next record
  shifted : (i : ℕ) (b : List ℕ) → leading_number (sector (3 + i) b) ≡ leading_number (sector (2 + suc i) b)
  shifted i b = ap (λ (k : ℕ). leading_number (sector k b)) (let e : 3 + i ≡ 2 + suc i = omega arith in e)

  ordered : (i : ℕ) → 1 + i < 256 → leading_number (sector (3 + i) with_record) ≤ leading_number (sector (2 + i) with_record)
  ordered i within = ⊎_elim
      (λ (below : i < length journal). ⊎_elim
      (λ (next : i + 1 < length journal). omega (arith, shifted i with_record, before_it i below, before_it (suc i) (omega (arith, next))))
      (λ (last : length journal ≤ i + 1). omega (arith, shifted i with_record, before_it i below, at_it (suc i) (omega (arith, last, below))))
      (cases_lt (i + 1) (length journal)))
      (λ (from : length journal ≤ i). ⊎_elim
      (λ (low : i < length journal + 1).
      let at : i ≡ length journal = omega (arith, from, low) in
      omega (arith, shifted i with_record, at_it i at, after_it (suc i) (omega (arith, at)), stored.rest (suc i) (omega (arith, at)) (omega (arith, within))))
      (λ (above : length journal + 1 ≤ i). omega (arith, shifted i with_record, shifted i image, after_it i above, after_it (suc i) (omega (arith, above)), agrees.order i within))
      (cases_lt i (length journal + 1)))
      (cases_lt i (length journal))

  pub agrees_more : IsConsistentUnder sequence with_record
  agrees_more = record {
    headers = ⊎_elim
        (λ before. inl (before.0, same_valid version_2 image with_record size before.0 (outside (before.0.sequence % 2) (inl (omega arith))) before.1, before.2))
        (λ first. inr (first.0, ap is_blank (outside 0 (inl (omega arith))) ∙ first.1))
        agrees.headers;
    records = record_there;
    order = ordered;
  }

-- an image with the header of the next sequence is consistent
module _ (image : List ℕ) (before header : Header) (valid : IsValid version_2 image before) (next : header.sequence ≡ before.sequence + 1) (agrees : IsConsistentUnder before.sequence image) where
  abbrev with_header : List ℕ
  with_header = written (header.sequence % 2) (header_bytes 2 header) image

  size_of : length with_header ≡ length image
  size_of = length-written (header.sequence % 2) 1 (header_bytes 2 header) image refl (omega (arith, valid.room))

  kept : (i : ℕ) → (i < header.sequence % 2) ⊎ (header.sequence % 2 + 1 ≤ i) → sector i with_header ≡ sector i image
  kept i out = written_outside (header.sequence % 2) 1 (header_bytes 2 header) image refl (omega (arith, valid.room)) i out

  beside : sector (before.sequence % 2) with_header ≡ sector (before.sequence % 2) image
  beside = kept (before.sequence % 2) (⊎_elim
      (λ (less : before.sequence % 2 < header.sequence % 2). inl less)
      (λ (not_less : header.sequence % 2 ≤ before.sequence % 2). inr (omega (arith, next, not_less)))
      (cases_lt (before.sequence % 2) (header.sequence % 2)))

  pub agrees_next : IsConsistentUnder header.sequence with_header
  agrees_next = record {
    headers = inl (before, same_valid version_2 image with_header size_of before beside valid, sym next);
    records = λ i inside. subst (λ (s : List ℕ). (is_blank s ≡ true) ⊎ IsRecordAt i s) (sym (kept (2 + i) (inr (omega arith)))) (agrees.records i inside);
    order = λ i inside.
        let one = ap leading_number (kept (2 + i) (inr (omega arith))) in
        let two = ap leading_number (kept (3 + i) (inr (omega arith))) in
        omega (arith, one, two, agrees.order i inside);
  }

-- ---- a consistent image has no warning

not_true : (b : Bool) → (IsTrue b → ⊥) → b ≡ false
not_true true none = absurd (none refl)
not_true false none = refl

-- two numbers that both differ in parity from the same number have the same parity
beside_both : (a b h : ℕ) → a % 2 ≢ h % 2 → b + 1 ≡ h → a % 2 ≡ b % 2
beside_both a b h other next = ⊎_elim
    (λ (even : a % 2 ≡ 0). ⊎_elim
    (λ (same : b % 2 ≡ 0). even ∙ sym same)
    (λ (odd : b % 2 ≡ 1). let at : h % 2 ≡ 0 = omega (arith, next, odd) in absurd (other (even ∙ sym at)))
    (parity b))
    (λ (odd : a % 2 ≡ 1). ⊎_elim
    (λ (even : b % 2 ≡ 0). let at : h % 2 ≡ 1 = omega (arith, next, even) in absurd (other (odd ∙ sym at)))
    (λ (same : b % 2 ≡ 1). odd ∙ sym same)
    (parity b))
    (parity a)

no_blank_header : (header : Header) → is_blank (header_bytes 2 header) ≡ false
no_blank_header header = refl

module _ (image : List ℕ) (header : Header) (agrees : IsConsistentUnder header.sequence image) where
  not_lost : IsHeaderLost image header → ⊥
  not_lost lost = ⊎_elim
      (λ before. let same = lost.alone before.0 before.1 in omega (arith, same, before.2))
      (λ first. let padded = lost.old first.0 in cc (padded, first.1))
      agrees.headers

  not_apart : AreHeadersApart image header → ⊥
  not_apart found = ⊎_elim
      (λ before. let at = beside_both found.other.sequence before.0.sequence header.sequence found.beside before.2 in
      let is = same_sector version_2 image found.other before.0 at found.valid before.1 in
      found.apart (ap (λ (n : ℕ). n + 1) is ∙ before.2))
      (λ first. let even : found.other.sequence % 2 ≡ 0 = ⊎_elim
      (λ (is : found.other.sequence % 2 ≡ 0). is)
      (λ (odd : found.other.sequence % 2 ≡ 1). let same : found.other.sequence % 2 ≡ header.sequence % 2 = omega (arith, odd, first.0) in absurd (found.beside same))
      (parity found.other.sequence) in
      let padded : is_blank (sector 0 image) ≡ false = ap (λ (i : ℕ). is_blank (sector i image)) (sym even) ∙ ap is_blank found.valid.bytes ∙ no_blank_header found.other in
      cc (padded, first.1))
      agrees.headers

  not_damaged : HasDamagedRecord image → ⊥
  not_damaged found = ⊎_elim (λ blank. cc (blank, found.padded)) (λ record_here. found.other record_here) (agrees.records found.index found.inside)

  not_mixed : AreRecordsMixed image → ⊥
  not_mixed found = omega (arith, found.newer, agrees.order found.index found.inside)

  pub without_warning : (warnings : IntegrityWarnings) → AreWarnings image header warnings → has_none warnings ≡ true
  without_warning warnings are = rw (
    not_true warnings.header_lost (λ yes. not_lost (are.lost.0 yes)),
    not_true warnings.headers_apart (λ yes. not_apart (are.apart.0 yes)),
    not_true warnings.record_damaged (λ yes. not_damaged (are.damaged.0 yes)),
    not_true warnings.records_mixed (λ yes. not_mixed (are.mixed.0 yes)),
  ) refl

-- ---- the laws

pub agreeing : ConsistentHasNoWarning
agreeing image header warnings agrees are = without_warning image header agrees warnings are

pub records_keep : RecordsKeepConsistency
records_keep image state commands place command bytes held agrees recorded free one is =
    let counted : place.used ≡ length (journal Two place.sequence 0 commands) = held.used ∙ sym (length-journal Two place.sequence 0 commands) in
    subst (λ (n : ℕ). IsConsistentUnder place.sequence (written (2 + n) bytes image)) (sym counted)
    (agrees_more image place.sequence (state_bytes Two state) (journal Two place.sequence 0 commands) bytes command held.stored one
    (ap leading_number is ∙ record_begins Two place.sequence place.used command (omega (arith, held.stored.header.valid.last))) (omega (arith, free, counted))
    (is ∙ ap (λ (n : ℕ). record_bytes Two place.sequence n command) counted) recorded agrees)

pub snapshots_keep : SnapshotsKeepConsistency
snapshots_keep image mixture state commands place header bytes held agrees next saved mix =
    agrees_still place.sequence image mixture mix.size (prefix_stays header bytes place.sequence next saved.whole saved.fits image mixture held.stored.header.valid.room mix) agrees

pub headers_keep : HeadersKeepConsistency
headers_keep image state commands place header bytes held agrees next saved =
    let room = held.stored.header.valid.room in
    let mix = whole_mix header bytes place.sequence next saved.whole saved.fits image room in
    let same = prefix_stays header bytes place.sequence next saved.whole saved.fits image (with_snapshot header bytes image) room mix in
    let before : Header = record { sequence = place.sequence; length = length (state_bytes Two state) } in
    agrees_next (with_snapshot header bytes image) before header
    (same_valid version_2 image (with_snapshot header bytes image) mix.size before (same (place.sequence % 2) (omega arith)) held.stored.header.valid) next
    (snapshots_keep image (with_snapshot header bytes image) state commands place header bytes held agrees next saved mix)

blank_zeros : (n : ℕ) → is_blank (replicate n 0) ≡ true
blank_zeros zero = refl
blank_zeros (suc n) = blank_zeros n

-- an image with a first header and zeros elsewhere in the prefix is consistent
module _ (image : List ℕ) (zeros : IsCleared image) (header : Header) (first : header.sequence ≡ 1) (room : 512 * 8450 ≤ length image) where
  left : (i : ℕ) → (i < header.sequence % 2) ⊎ (header.sequence % 2 + 1 ≤ i) → sector i (written (header.sequence % 2) (header_bytes 2 header) image) ≡ sector i image
  left i out = written_outside (header.sequence % 2) 1 (header_bytes 2 header) image refl (omega (arith, room)) i out

  is_zeros : (i : ℕ) → 2 ≤ i → i < 258 → sector i (written (header.sequence % 2) (header_bytes 2 header) image) ≡ replicate 512 0
  is_zeros i from below = left i (inr (omega (arith, from))) ∙ zeros.zeros i below

  agrees_new : IsConsistentUnder 1 (written (header.sequence % 2) (header_bytes 2 header) image)
  agrees_new = record {
    headers = inr (refl, ap is_blank (left 0 (inl (omega (arith, first))) ∙ zeros.zeros 0 (omega arith)) ∙ blank_zeros 512);
    records = λ i inside. inl (ap is_blank (is_zeros (2 + i) (omega arith) (omega (arith, inside))) ∙ blank_zeros 512);
    order = λ i inside.
        let one = ap leading_number (is_zeros (2 + i) (omega arith) (omega (arith, inside))) in
        let two = ap leading_number (is_zeros (3 + i) (omega arith) (omega (arith, inside))) in
        omega (arith, one, two);
  }

zeros_are : IsZeros 132096 (replicate prefix_size 0)
zeros_are = subst (λ (n : ℕ). IsZeros 132096 (replicate n 0)) size_is (record { are = refl; long = length-replicate {A = ℕ} 132096 0 })

new_store : (base : List ℕ) → IsCleared base → 512 * 8450 ≤ length base → (long : ℕ) (bytes : List ℕ) → IsSaved long bytes → IsConsistentUnder 1 (with_both (first_header long) bytes base)
new_store base zeros room long bytes saved =
    let header = first_header long in
    let mix = whole_mix header bytes 0 refl saved.whole saved.fits base room in
    let same = prefix_stays header bytes 0 refl saved.whole saved.fits base (with_snapshot header bytes base) room mix in
    let is_room : 512 * 8450 ≤ length (with_snapshot header bytes base) = subst (λ (n : ℕ). 512 * 8450 ≤ n) (sym mix.size) room in
    agrees_new (with_snapshot header bytes base) (record { zeros = λ i below. same i below ∙ zeros.zeros i below }) header refl is_room

prefix_inside : (n : ℕ) → 512 * 8450 ≤ n → 512 * 258 ≤ n
prefix_inside n room = omega (arith, room)

pub formats_agree : FormatsAreConsistent
formats_agree image long bytes room saved =
    let inside : 512 * 258 ≤ length image = prefix_inside (length image) room in
    let size_stays = length_cleared 132096 (replicate prefix_size 0) image zeros_are refl inside in
    new_store (with_zeros image) (clears 132096 (replicate prefix_size 0) image zeros_are refl inside) (subst (λ (n : ℕ). 512 * 8450 ≤ n) (sym size_stays) room) long bytes saved
