-- A round consists of an opening, a run, and a crash or a close, after which these images are possible.
use Rattle.std.proofs.Common.{◌≡◌, ◌∙◌, List, ℕ, subst}
use Rattle.sector_disk.specs.MemDevice.{memory}
use Rattle.sector_disk.specs.Memory.{MayLeave}
use Rattle.sector_disk.specs.declared.mem_device.MemDevice.{MemDevice}
use Rattle.recover.specs.Rounds.{IsLeft}
use Rattle.recover.proofs.RoundLemmas.{is_round}
use Rattle.recover.proofs.rounds.run_round.Goals as goal

pub returns-clause-round : goal.returns-clause-round
returns-clause-round c =
    let round = c.args.round in
    let left = c.apply_halt.new.device in
    let opened = c.in_ok-session.ensures.opened in
    let halted = c.set_halt.ensures in
    let run = c.run_into-run.ensures in
    let ended = c.apply_halt.ensures in
    is_round c.args.device round c.run_into-run.result.replies.items c.in_ok-session.session c.set_halt.new.self c.run_into-run.new.self left
    opened halted.device halted.state halted.place halted.broken halted.set run.replies (run.moments (halted.broken ∙ opened.whole) tt)
    (subst (λ (d : MemDevice). IsLeft round.stop d left × ((image : List ℕ) → MayLeave (memory left) image → MayLeave (memory d) image) × ((memory left).faults ≡ (memory d).faults))
    c.close-left.ensures.device (ended.left, ended.images, ended.faults))
