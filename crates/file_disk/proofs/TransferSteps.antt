-- Lemmas about a system call that continues a read or a write.
use Rattle.std.proofs.Common.{◌≡◌, inl, inr, ◌⊎◌, ℕ, ◌+◌, ◌-◌, ◌<◌, ◌≤◌, true, false, List, [], ◌∷◌, ◌++◌, length, take, drop, refl, sym, ◌∙◌, ap, arith, Some, None, nat_le}
use Rattle.std.proofs.lemmas.Bool.{cond-true, cond-false, and_from, le-leb, lt-leb, eq-eqb}
use Rattle.std.proofs.lemmas.Bool.Decides.{leb_tells}
use Rattle.std.proofs.lemmas.List.{append-nil, length-append, length-drop, length-take-le}
use Rattle.std.proofs.Math.Seq.{take-append-add, drop-append-add}
use Rattle.std.proofs.Math.ListN.{drop_of_length-le}
use borrow.Rule.Slice.PartMut.{put_mid}
use Rattle.system_calls.specs.declared.system_call.SystemCall.{SystemCall}
use Rattle.system_calls.specs.declared.system_call.SystemCall.TheVariants.{ReadAt, WriteAt}
use Rattle.system_calls.specs.SystemCalls.{RecordedCall, answered}
use Rattle.file_disk.specs.FileRecord.{Entry}
use Rattle.file_disk.specs.Transfers.{Direction, Reads, Writes, Transfer, TransferLog, finished, is_same, continues_transfer, advanced, with_ongoing, after, transfers_in, transfers_by}

-- a read or a write that has moved this many bytes so far
abbrev pub so_far : List Entry → Direction → ℕ → List ℕ → ℕ → TransferLog
so_far entries direction start bytes at = advanced entries direction start [] bytes at

-- a finished read or write
abbrev pub done : List Entry → Entry → TransferLog
done entries entry = record { entries = entry ∷ entries; ongoing = None }

same_direction : (direction : Direction) → is_same direction direction ≡ true
same_direction Reads = refl
same_direction Writes = refl

-- a read or a write that has moved all its bytes
pub whole : (entries : List Entry) (direction : Direction) (start : ℕ) (bytes : List ℕ) (at : ℕ) → length bytes ≤ at
    → so_far entries direction start bytes at ≡ done entries (finished direction start bytes)
whole entries direction start bytes at all = cond-true (nat_le (length bytes) at) _ _ (le-leb (length bytes) at all)

module _ (entries : List Entry) (direction : Direction) (start : ℕ) (bytes piece : List ℕ) (at n : ℕ) (more : at < length bytes)
    (rest : length piece ≡ length (drop at bytes)) where
  abbrev ongoing : Transfer
  ongoing = record { direction = direction; start = start; moved = take at bytes; left = drop at bytes }

  abbrev open_still : TransferLog
  open_still = record { entries = entries; ongoing = Some ongoing }

  is_open : so_far entries direction start bytes at ≡ open_still
  is_open = cond-false (nat_le (length bytes) at) _ _ (lt-leb (length bytes) at more)

  moved : length (take at bytes) ≡ at
  moved = length-take-le at bytes (omega (arith, more))

  continues : continues_transfer ongoing direction (start + at) (length piece) ≡ true
  continues =
      and_from _ _ (and_from _ _ (same_direction direction) (eq-eqb (start + at) (start + length (take at bytes)) (ap (λ (k : ℕ). start + k) (sym moved))))
      (eq-eqb (length piece) (length (drop at bytes)) rest)

  size : length (take at bytes ++ piece) ≡ at + length piece
  size = length-append (take at bytes) piece ∙ ap (λ (k : ℕ). k + length piece) moved

  joined : advanced entries direction start (take at bytes) piece n ≡ so_far entries direction start (take at bytes ++ piece) (at + n)
  joined = by_test (leb_tells (length piece) n)
    where
      by_test : ((nat_le (length piece) n ≡ true) × (length piece ≤ n)) ⊎ ((nat_le (length piece) n ≡ false) × (n < length piece))
          → advanced entries direction start (take at bytes) piece n ≡ so_far entries direction start (take at bytes ++ piece) (at + n)
      by_test (inl (is, le)) =
          cond-true (nat_le (length piece) n) _ _ is
          ∙ sym (whole entries direction start (take at bytes ++ piece) (at + n) (omega (arith, le, size)))
      by_test (inr (is, lt)) =
          let front = ap (λ (k : ℕ). take (k + n) (take at bytes ++ piece)) (sym moved) ∙ take-append-add (take at bytes) piece n in
          let back = ap (λ (k : ℕ). drop (k + n) (take at bytes ++ piece)) (sym moved) ∙ drop-append-add (take at bytes) piece n in
          cond-false (nat_le (length piece) n) _ _ is
          ∙ ap (λ (xs : List ℕ). record { entries = entries; ongoing = Some (record { direction = direction; start = start; moved = xs; left = drop n piece }) }) (sym front)
          ∙ ap
          (λ (xs : List ℕ).
          record { entries = entries; ongoing = Some (record { direction = direction; start = start; moved = take (at + n) (take at bytes ++ piece); left = xs }) })
          (sym back)
          ∙ sym (cond-false (nat_le (length (take at bytes ++ piece)) (at + n)) _ _
          (lt-leb (length (take at bytes ++ piece)) (at + n) (omega (arith, lt, size))))

  abbrev step : (List Entry → Direction → ℕ → List ℕ → List ℕ → ℕ → TransferLog) → TransferLog → ℕ → TransferLog
  step does reported m = with_ongoing does reported.entries reported.ongoing direction (start + at) piece m

  -- a call for the remaining bytes that moved n of them
  pub goes : step advanced (so_far entries direction start bytes at) n ≡ so_far entries direction start (take at bytes ++ piece) (at + n)
  goes = ap (λ (reported : TransferLog). step advanced reported n) is_open ∙ cond-true (continues_transfer ongoing direction (start + at) (length piece)) _ _ continues ∙ joined

abbrev pub moved_call : Direction → ℕ → ℕ → SystemCall
moved_call Reads offset n = ReadAt offset n
moved_call Writes offset n = WriteAt offset n

after_moved : (direction : Direction) (reported : TransferLog) (offset n : ℕ) (bytes : List ℕ)
    → after reported (moved_call direction offset n) bytes ≡ with_ongoing advanced reported.entries reported.ongoing direction offset bytes n
after_moved Reads reported offset n bytes = refl
after_moved Writes reported offset n bytes = refl

module _ (direction : Direction) (old new : List RecordedCall) (start : ℕ) where
  -- one more call, for the bytes that are left
  module _ (entries : List Entry) (bytes piece : List ℕ) (at : ℕ) (is : transfers_by old ≡ so_far entries direction start bytes at) (more : at < length bytes)
      (rest : length piece ≡ length (drop at bytes)) where
    pub continues_with_rest : (n : ℕ) → answered new ≡ (moved_call direction (start + at) n, piece) ∷ answered old
        → transfers_by new ≡ so_far entries direction start (take at bytes ++ piece) (at + n)
    continues_with_rest n next =
        ap transfers_in next ∙ after_moved direction (transfers_by old) (start + at) n piece
        ∙ ap (λ (reported : TransferLog). with_ongoing advanced reported.entries reported.ongoing direction (start + at) piece n) is ∙ goes entries direction start bytes piece at n more rest

-- the buffer after a read has filled the part from `at` on
pub put_rest : (at : ℕ) (xs ys : List ℕ) → put_mid at (length xs - at) xs ys ≡ take at xs ++ ys
put_rest at xs ys =
    ap (λ (l : List ℕ). take at xs ++ (ys ++ l)) (drop_of_length-le (drop at xs) (omega (arith, length-drop at xs)))
    ∙ ap (λ (l : List ℕ). take at xs ++ l) (append-nil ys)
