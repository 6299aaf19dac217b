-- Either the session was empty and answered the command, or it already holds an instance.
use Rattle.std.proofs.Common.{◌≡◌, List, ℕ, false, inr, rules}
use Rattle.command_types.specs.declared.states.State.TheVariants.{Empty}
use Rattle.planner_cli.specs.Load.{holds_instance}
use Rattle.planner_cli.proofs.MessageLemmas.{begun, is_empty}
use Rattle.recover.specs.RecoversTo.{RecoversTo}
use Rattle.state_codec.specs.declared.version.Version.TheVariants.{Two}
use Rattle.planner_cli.proofs.load.load_session.Goals as goal

pub returns-clause-begins : goal.returns-clause-begins
returns-clause-begins g c =
    let old = c.args.opened.session in
    let new = c.apply-reply.new.self in
    let left = c.close-2.result in
    let given = c.apply-reply.ensures in
    let holds_none : holds_instance old.state ≡ false = search rules in
    let empty : old.state ≡ Empty = is_empty old.state holds_none in
    inr (record {
      empty = empty;
      reply = c.apply-reply.result;
      new = new;
      applied = given;
      device = c.close-2.ensures.device;
      recovers = begun c.apply-reply.result.answer old new c.args.command
          (λ s. g.D.Sectors.honest left → (image : List ℕ) → g.D.Sectors.possible left image → RecoversTo Two image s) empty given.makes c.close-2.ensures.recovers;
      tells = c.print_answer-reported.ensures;
    })
