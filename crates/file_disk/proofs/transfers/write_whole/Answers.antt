-- A part that is written is appended to the parts before it, so together they are one write.
use Rattle.std.proofs.Common.{◌≡◌, ◌∙◌, ◌+◌, ◌*◌, ◌∷◌, drop, length, refl, ap, subst, arith, List, ℕ}
use Rattle.std.proofs.lemmas.List.{take-append-drop, length-drop}
use Rattle.std.proofs.lemmas.Slice.{between_to_end}
use Rattle.system_calls.specs.SystemCalls.{answered}
use Rattle.file_disk.specs.Transfers.{Writes, transfers_by}
use Rattle.file_disk.proofs.TransferSteps.{so_far, continues_with_rest, moved_call}
use Rattle.file_disk.proofs.transfers.write_whole.Goals as goal

pub loop-at-preserved : goal.loop-at-preserved
loop-at-preserved c =
    let bytes = c.args.bytes.now in
    let entries = (transfers_by c.args.noted.now).entries in
    let at = c.loop-at.at in
    let n = c.in_ok-at-2.field-0 in
    let gone =
    continues_with_rest Writes c.loop-at.noted c.write_some-in-loop-at.new.noted (c.args.first * 512) entries bytes
    (drop at bytes) at c.loop-at.invariant.1 c.loop-at-test.true refl n
    (c.in_ok-at-2.ensures.noted
    ∙ ap (λ (xs : List ℕ). (moved_call Writes (c.args.first * 512 + at) n, xs) ∷ answered c.loop-at.noted)
    (between_to_end bytes at (length bytes) (omega arith))) in (
      omega (
        arith,
        c.in_ok-at-2.ensures.moved.inside,
        ap length (between_to_end bytes at (length bytes) (omega arith)),
        length-drop at bytes,
        c.loop-at-test.true,
      ),
      subst (λ (xs : List ℕ). transfers_by c.write_some-in-loop-at.new.noted ≡ so_far entries Writes (c.args.first * 512) xs (at + n))
          (take-append-drop at bytes) gone,
    )
