-- A command that is denied changes nothing and adds no moment.
use Rattle.std.proofs.Common.{◌≡◌, refl, sym}
use Rattle.std.specs.Prelude.{Err}
use Rattle.recover.specs.Applying.{Makes, calls_of, faults_after_answer}
use Rattle.recover.proofs.SessionLemmas.{denied, still, still_between}
use Rattle.recover.proofs.sessions.Session.answer.Goals as goal

pub returns-in-Some-clause-makes : goal.returns-in-Some-clause-makes
returns-in-Some-clause-makes g c =
    let s = c.args.self.now in denied s c.args.command.now c.in-Some.denial (sym c.in-Some.ensures) (λ why. Makes {T = Unit {0}} (Err why) s c.args.command.now s) refl (λ r. refl) refl

pub returns-in-Some-clause-called : goal.returns-in-Some-clause-called
returns-in-Some-clause-called g c =
    let faults = g.D.Sectors.faults c.args.self.now.device in record {
      same_len = refl;
      finished = tt;
      fault = denied c.args.self.now c.args.command.now c.in-Some.denial (sym c.in-Some.ensures) (λ why. faults ≡ faults_after_answer {T = Unit {0}} (Err why) faults) refl (λ r. refl) refl;
      honest_before = λ honest. honest;
    }

pub returns-in-Some-clause-moments : goal.returns-in-Some-clause-moments
returns-in-Some-clause-moments g c whole honest =
    let d = g.D.Sectors in
    let s = c.args.self.now in
    still d.calls d.honest d.clock d.possible_since d.possible g.met.D.Sectors.only_now s.device honest s.state
    (c.images_recover_to_the_state.ensures whole honest) c.args.command.now c.in-Some.denial (d.calls s.device)

pub returns-in-Some-clause-counts : goal.returns-in-Some-clause-counts
returns-in-Some-clause-counts g c honest =
    let d = g.D.Sectors in
    let s = c.args.self.now in
    still_between d.calls d.honest d.clock d.possible_since d.possible g.met.D.Sectors.only_now s.device honest (calls_of s.place c.args.command.now)
