-- A part that is read is appended to the parts before it, so together they are one read.
use Rattle.std.proofs.Common.{◌≡◌, ◌+◌, ◌*◌, ◌≤◌, length, take, drop, sym, ◌∙◌, subst, rules, arith, List, ℕ}
use Rattle.std.proofs.lemmas.List.{length-append, length-take-le, length-drop}
use Rattle.file_disk.specs.Transfers.{Reads, transfers_by}
use Rattle.file_disk.proofs.TransferSteps.{so_far, continues_with_rest, put_rest}
use Rattle.file_disk.proofs.transfers.read_whole.Goals as goal

pub loop-at-preserved : goal.loop-at-preserved
loop-at-preserved c =
    let old = c.loop-at.into in
    let piece = c.read_some-in-loop-at.new.into in
    let entries = (transfers_by c.args.noted.now).entries in
    let at = c.loop-at.at in
    let n = c.in_ok-at-2.field-0 in
    let inside : at ≤ length old = c.loop-at.invariant.0 in
    let rest : length piece ≡ length (drop at old) = (search rules) ∙ sym (length-drop at old) in
    let gone =
    continues_with_rest Reads c.loop-at.noted c.read_some-in-loop-at.new.noted
    (c.args.first * 512) entries old piece at c.loop-at.invariant.1 c.loop-at-test.true rest n c.in_ok-at-2.ensures.noted in (
      subst (λ (xs : List ℕ). at + n ≤ length xs) (sym (put_rest at old piece))
          (omega (arith, length-append (take at old) piece, length-take-le at old inside, c.in_ok-at-2.ensures.moved.inside)),
      subst (λ (xs : List ℕ). transfers_by c.read_some-in-loop-at.new.noted ≡ so_far entries Reads (c.args.first * 512) xs (at + n))
          (sym (put_rest at old piece)) gone,
    )
