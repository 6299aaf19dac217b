-- The bytes that each image stores determine the content that it holds.
use Rattle.std.proofs.Common.{List, [], ◌∷◌, ◌++◌, rules}
use Rattle.sector_disk.specs.Calls.{CommitsFrom}
use Rattle.sector_disk.specs.CommitLaws.{commits_by}
use Rattle.command_types.specs.declared.states.State.{State}
use Rattle.command_types.specs.declared.commands.Command.{Command}
use Rattle.state_codec.specs.Bytes.{state_bytes}
use Rattle.state_codec.specs.declared.version.Version.TheVariants.{Two}
use Rattle.checkpoint.specs.Holds.{HoldsAt, journal}
use Rattle.checkpoint.specs.Places.{place_after_record}
use Rattle.checkpoint.proofs.Journals.{mark, counted, still, more}
use Rattle.checkpoint.proofs.changes.commit_record.Goals.{After-extend}
use Rattle.checkpoint.proofs.changes.commit_record.Goals as goal
use Rattle.checkpoint.proofs.changes.commit_record.Given as given

committed : (g : given.Over) (c : After-extend g) (state : State) (commands : List Command)
    → CommitsFrom g.D.Sectors c.extend.result 2 0 (HoldsAt state commands c.args.place)
    (HoldsAt state (commands ++ c.args.command.now ∷ []) (place_after_record c.args.place)) c.args.device.now c.extend.new.device
committed g c state commands honest held =
    let d = g.D.Sectors in
    let start = c.args.device.now in
    let possible = d.possible start in
    let seen = d.seen start in
    let here = g.met.D.Sectors.reads_possible start (c.extend.ensures.called.honest_before honest) in
    let command = c.args.command.now in
    let bytes = c.encode_record-bytes.result in
    let is = c.encode_record-bytes.ensures in
    commits_by _ _ _ _ (still c.args.place command bytes is c.requires.recorded c.requires.last possible seen here state commands held)
    (more c.args.place command bytes is c.requires.recorded c.requires.last possible seen here state commands held) d c.extend.result 2 0 start c.extend.new.device
    (c.extend.ensures.commits c.args.place.sequence (state_bytes Two state) (journal Two c.args.place.sequence 0 commands)
    (mark c.args.place command bytes is c.requires.recorded c.requires.last possible seen here state commands held)
    (counted c.args.place command bytes is c.requires.recorded c.requires.last possible seen here state commands held)
    honest (λ image left. (held image left).stored))

pub returns-in-Ok-clause-changes : goal.returns-in-Ok-clause-changes
returns-in-Ok-clause-changes g c = record {
  commits = λ state commands honest held.
      let all = committed g (goal.at.returns-in-Ok-clause-changes g c).After-extend state commands honest held in record { moments = all.moments; after = rw c.in-Ok.is at all.after };
  durable = search rules;
}

pub returns-in-Err-clause-changes : goal.returns-in-Err-clause-changes
returns-in-Err-clause-changes g c = record {
  commits = λ state commands honest held.
      let all = committed g (goal.at.returns-in-Err-clause-changes g c).After-extend state commands honest held in record { moments = all.moments; after = tt };
  durable = search rules;
}
