-- The image recovers to the loaded state with the journal's commands replayed on it.
use Rattle.std.proofs.Common.{rules, ℕ, sym, subst}
use Rattle.checkpoint.specs.declared.places.Place.{Place}
use Rattle.recover.specs.Replaying.{IsReplayedImage}
use Rattle.recover.proofs.Replays.{replay_records}
use Rattle.recover.proofs.opening.recover.Goals as goal

pub returns-clause-recovered : goal.returns-clause-recovered
returns-clause-recovered g c = record {
  small = search rules;
  fails = search rules;
  well_formed = search rules;
  found = λ honest.
      let image = g.D.Sectors.seen c.args.device.now in
      let loaded = c.in_ok-loaded.loaded in
      let found = c.in_ok-found.found in
      let is = c.in_ok-found.ensures.ok in
      subst (λ (place : Place). IsReplayedImage c.args.version image found.state place found.replayed) (sym is.place)
      (subst (λ (n : ℕ). IsReplayedImage c.args.version image found.state loaded.place n) (sym is.replayed)
      (replay_records c.args.version image loaded.state loaded.commands.items loaded.place
      (c.in_ok-loaded.ensures.loaded.found honest) c.in_ok-loaded.ensures.loaded.well_formed.used is.accepted found.state is.leads));
}
