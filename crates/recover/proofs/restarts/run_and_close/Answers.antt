-- Executing the commands and closing the session carries them out on the device.
use Rattle.recover.proofs.RoundLemmas.{carries_out}
use Rattle.recover.proofs.restarts.run_and_close.Goals as goal

pub returns : goal.returns
returns c device opened =
    let ran = c.run_into-run.ensures in
    carries_out device c.args.commands.items c.run_into-run.result.replies.items c.args.session c.run_into-run.new.self c.close.result opened ran.replies
    (ran.moments opened.whole tt) c.close.ensures.device
