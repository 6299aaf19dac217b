-- The calls that write a record, and their effect on images that store something.
use Rattle.std.proofs.Common.{◌≡◌, inl, inr, ⊎_elim, ℕ, ◌+◌, ◌*◌, ◌<◌, List, [], ◌∷◌, ◌++◌, length, sym, subst, arith}
use Rattle.sector_disk.specs.Image.{written}
use Rattle.sector_disk.specs.ImageLaws.{mixes_one}
use Rattle.sector_disk.specs.Calls.{IsInCommit}
use Rattle.checkpoint.specs.Layouts.{version_2}
use Rattle.checkpoint.specs.Stores.{Stores, HasStored, leading_number}
use Rattle.checkpoint.specs.DurableWrites.{IsInDurableWrite}
use Rattle.checkpoint.proofs.RecordWrites.{added}

module _ (bytes : List ℕ) (sequence : ℕ) (state : List ℕ) (journal : List (List ℕ)) (used : ℕ) (possible : List ℕ → Type 0) (seen : List ℕ) (here : possible seen)
    (stored : (image : List ℕ) → possible image → Stores version_2 image sequence state journal) (one : length bytes ≡ 512)
    (mark : leading_number bytes ≡ sequence) (is_used : used ≡ length journal) (free : used < 256) where
  more : (image : List ℕ) → possible image → Stores version_2 (written (2 + used) bytes image) sequence state (journal ++ bytes ∷ [])
  more image left = subst (λ (u : ℕ). Stores version_2 (written (2 + u) bytes image) sequence state (journal ++ bytes ∷ [])) (sym is_used)
      (added version_2 image sequence state journal bytes (stored image left) one mark (omega (arith, free, is_used)))

  pub in_record : (calls n : ℕ) → ((image : List ℕ) → possible image → length image ≡ 512 * n) → (m : ℕ) (image : List ℕ) → IsInDurableWrite (2 + used) bytes possible seen calls m image
      → IsInCommit (HasStored sequence state journal) (HasStored sequence state (journal ++ bytes ∷ [])) 2 0 calls m image
  in_record calls n sizes m image write_and_sync = record {
    from = write_and_sync.from;
    to = write_and_sync.to;
    early = λ before. absurd (omega (arith, before, write_and_sync.from));
    either =
        let before = write_and_sync.reached in
        ⊎_elim
        (λ (old : image ≡ before.0). inl (subst (λ (i : List ℕ). Stores version_2 i sequence state journal) (sym old) (stored before.0 before.1)))
        (λ (new : image ≡ written (2 + used) bytes before.0). inr (subst (λ (i : List ℕ). Stores version_2 i sequence state (journal ++ bytes ∷ [])) (sym new) (more before.0 before.1)))
        (mixes_one n (2 + used) bytes before.0 image (sizes before.0 before.1) one (omega (arith, free, sizes before.0 before.1, (stored before.0 before.1).header.valid.room)) before.2);
    done = λ end. subst (λ (i : List ℕ). Stores version_2 i sequence state (journal ++ bytes ∷ [])) (sym (write_and_sync.done end)) (more seen here);
  }
