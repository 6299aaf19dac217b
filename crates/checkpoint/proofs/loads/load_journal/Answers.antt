-- The image holds the commands of the journal, or the journal's fault is the image's.
use Rattle.std.proofs.Common.{◌≡◌, length, arith}
use Rattle.checkpoint.proofs.LoadLemmas.{holds_there, bad_there}
use Rattle.checkpoint.proofs.loads.load_journal.Goals as goal

pub returns-in-Ok-clause-found : goal.returns-in-Ok-clause-found
returns-in-Ok-clause-found c sectors image whole counts snapshot reported =
    let read = c.in-Ok.ensures.found in
    let used : c.len.result ≡ length c.in-Ok.commands.items = omega (arith, c.len.ensures, c.in-Ok.commands.ok.0) in
    holds_there c.args.version sectors c.args.prefix.now image whole c.args.header counts c.args.state c.in-Ok.commands.items c.len.result
    snapshot reported c.keeps_invariants.ensures read.records read.clear read.numbers used

pub returns-in-Err-clause-found : goal.returns-in-Err-clause-found
returns-in-Err-clause-found c sectors image whole counts snapshot reported =
    bad_there c.args.version sectors c.args.prefix.now image whole c.args.header counts c.args.state c.in-Err.fault c.in-Err.ensures.found
