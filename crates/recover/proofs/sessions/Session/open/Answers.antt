-- An image recovers to at most one state, so opening returns this state or a fault.
use Rattle.std.proofs.Common.{◌≡◌, Result, refl, rules, sym, subst, arith}
use Rattle.std.specs.Prelude.{Ok, Err}
use Rattle.checkpoint.specs.declared.faults.StoreFault.{StoreFault}
use Rattle.checkpoint.specs.declared.faults.StoreFault.TheVariants.{NotFormatted}
use Rattle.state_codec.specs.declared.version.Version.TheVariants.{Two}
use Rattle.recover.specs.Sessions.{SessionValue}
use Rattle.recover.specs.RecoversTo.{RecoversTo}
use Rattle.recover.specs.declared.opening.RecoveredState.{RecoveredState}
use Rattle.recover.proofs.Openings.{opens, recovers}
use Rattle.recover.proofs.sessions.Session.open.Goals as goal

same_fault : (answer : Result RecoveredState StoreFault) (fault cause : StoreFault) → answer ≡ Err fault → answer ≡ Err cause → fault ≡ cause
same_fault answer fault cause is reported = cc

pub returns-in-Ok : goal.returns-in-Ok
returns-in-Ok g c =
    let image = g.D.Sectors.seen c.args.device in
    let found = c.in-Ok.found in
    let said = c.in-Ok.ensures in
    record {
      room = omega (arith, said.recovered.well_formed.room);
      given = search rules;
      opens = λ honest.
          (let read = subst (λ (s : SessionValue _). g.D.Sectors.honest s.device) c.over.ensures honest in
          opens Two c.images_hold_at_most_one_state.ensures.one c.images_hold_at_most_one_state.ensures.never_both image (Ok c.over.result.state)
          (subst (λ (s : SessionValue _). RecoversTo Two image s.state) (sym c.over.ensures) (recovers Two image found.state found.place found.replayed (said.recovered.found read))));
      replays = search rules;
      recovers = search rules;
      reads = search rules;
      moments = search rules;
      honest = search rules;
      facts = search rules;
      whole = search rules;
      finished = search rules;
      faults = search rules;
      same_len = search rules;
    }

pub returns-in-Err : goal.returns-in-Err
returns-in-Err g c =
    let said = c.in-Err.ensures in
    record {
      refused = search rules;
      opens = λ honest. opens Two c.images_hold_at_most_one_state.ensures.one c.images_hold_at_most_one_state.ensures.never_both
          (g.D.Sectors.seen c.args.device) (Err c.in-Err.fault) (said.recovered.found honest);
      fails = search rules;
      small = λ short. (same_fault (Err c.in-Err.fault) c.in-Err.fault NotFormatted refl (said.recovered.small short).1, (said.recovered.small short).0);
      reads = search rules;
      moments = search rules;
      honest = search rules;
      faults = search rules;
      same_len = search rules;
    }
