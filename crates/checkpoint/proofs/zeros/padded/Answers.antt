-- A prefix of a list of zeros is a list of zeros.
use Rattle.std.proofs.Common.{rules, ◌≡◌, ℕ, ◌-◌, ◌%◌, List, ◌++◌, length, replicate, vec_len, ◌∙◌, sym, ap, arith}
use Rattle.std.proofs.lemmas.List.{take-replicate}
use Rattle.checkpoint.proofs.zeros.padded.Goals as goal

pub returns : goal.returns
returns c =
    let len : length c.args.bytes.items ≡ vec_len c.args.bytes = search rules in
    c.in_ok-extend_from_slice.ensures.items
    ∙ ap (λ (zeros : List ℕ). c.args.bytes.items ++ zeros) (take-replicate ((512 - c.len.result % 512) % 512) 512 0 (omega arith))
    ∙ ap (λ (n : ℕ). c.args.bytes.items ++ replicate ((512 - n % 512) % 512) 0) (c.len.ensures ∙ sym len)
