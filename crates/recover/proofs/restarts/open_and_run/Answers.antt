-- Opening a session, executing the commands and closing it carries them out.
use Rattle.recover.proofs.restarts.open_and_run.Goals as goal

pub returns-in-Ok : goal.returns-in-Ok
returns-in-Ok c = c.run_and_close-run.ensures c.args.device c.in-Ok.ensures.opened
