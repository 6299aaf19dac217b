-- Appending bytes to the written part of a sector
use Rattle.std.proofs.Common.{◌≡◌, ℕ, ◌+◌, ◌-◌, ◌≤◌, List, ◌++◌, length, take, drop, refl, sym, ap, ◌∙◌, arith, length-append}
use Rattle.std.specs.Prelude.{replicate}
use Rattle.std.proofs.lemmas.List.{drop_at, take-append-drop, length-take, drop-replicate, drop-drop}
use Rattle.std.proofs.lemmas.Slice.{take-put_mid, drop-put_mid}
use borrow.Rule.Slice.PartMut.{put_mid}
use Rattle.state_codec.specs.Bytes.{padded}

-- Zeros follow the written part
zeros_left : (bytes : List ℕ) (used k : ℕ) → used + k ≤ 512 → length bytes ≡ 512 → bytes ≡ padded (take used bytes) → drop (used + k) bytes ≡ replicate (512 - (used + k)) 0
zeros_left bytes used k short len is =
    let prefix : length (take used bytes) ≡ used = omega (arith, length-take used bytes) in
    let following : drop used bytes ≡ replicate (512 - used) 0 = ap (drop used) is ∙ ap (λ n. drop used (take used bytes ++ replicate (512 - n) 0)) prefix
    ∙ drop_at (take used bytes) (replicate (512 - used) 0) used prefix in
    sym (drop-drop k used bytes) ∙ ap (drop k) following ∙ drop-replicate k (512 - used) 0 ∙ ap (λ n. replicate n 0) (omega arith)

-- The new text follows the written part, and the rest is unchanged
module _ (bytes text : List ℕ) (used k : ℕ) (whole : k ≡ length text) (short : used + length text ≤ 512) (len : length bytes ≡ 512) (is : bytes ≡ padded (take used bytes)) where
  pub written_is : take (used + length text) (put_mid used k bytes text) ≡ take used bytes ++ text
  written_is = take-put_mid used k bytes text (used + length text) refl (omega arith)

  rest_is : drop (used + length text) (put_mid used k bytes text) ≡ replicate (512 - (used + length text)) 0
  rest_is = drop-put_mid used k bytes text (used + length text) (omega arith) (omega arith) (sym whole) ∙ zeros_left bytes used (length text) short len is

  pub is_padded : put_mid used k bytes text ≡ padded (take (used + length text) (put_mid used k bytes text))
  is_padded =
      let n = used + length text in
      let out = put_mid used k bytes text in
      let prefix : length (take used bytes ++ text) ≡ n = omega (arith, length-append (take used bytes) text, length-take used bytes) in
      let long : length (take n out) ≡ n = ap length written_is ∙ prefix in
      sym (take-append-drop n out) ∙ ap (λ r. take n out ++ r) (rest_is ∙ ap (λ m. replicate (512 - m) 0) (sym long))
