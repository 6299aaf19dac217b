-- A command that is not denied is committed, unless memory runs out, or the device fails and the session is
-- broken.
use Rattle.std.proofs.Common.{◌≡◌, ◌∙◌, ℕ, ◌+◌, ◌≤◌, List, [], ◌∷◌, false, ap, sym, subst}
use Rattle.std.specs.Prelude.{None, Result, Ok, Err}
use Rattle.sector_disk.specs.Sectors.{Throughout}
use Rattle.sector_disk.specs.Throughout.{weakened}
use Rattle.command_types.specs.declared.states.State.{State}
use Rattle.checkpoint.specs.Layouts.{version_2, sectors_in}
use Rattle.checkpoint.specs.declared.places.Place.{Place}
use Rattle.recover.specs.declared.denials.Denial.{Denial}
use Rattle.recover.specs.declared.denials.Denial.TheVariants.{OutOfMemory, DeviceFault}
use Rattle.recover.specs.Moments.{RunLeaves}
use Rattle.recover.specs.Sessions.{SessionValue, AllHold, IsSession}
use Rattle.recover.specs.Applying.{calls_of, place_after, spent_denial, IsDone, IsBetween}
use Rattle.recover.specs.Committing.{IsInStep, CommitsState, LeavesDevice}
use Rattle.recover.proofs.SessionLemmas.{undenied, place_fits, held_recover, leaves_ok, leaves_fault, still}
use Rattle.recover.proofs.sessions.Session.execute.Goals.{After-change_accepted, After-commit}
use Rattle.recover.proofs.sessions.Session.execute.Goals as goal
use Rattle.recover.proofs.sessions.Session.execute.Given as given

-- the session is not broken, since the command is not denied
whole : (g : given.Over) (c : After-change_accepted g) → c.self.inside.is_broken ≡ false
whole g c = ap (λ (s : SessionValue _). s.is_broken) c.self.view_is ∙ (undenied c.args.self.now c.args.command.now c.requires).0

-- running out of memory leaves everything unchanged
stays : (g : given.Over) (c : After-change_accepted g) → (let d = g.D.Sectors in let i = c.self.inside in d.honest i.device
    → Throughout d.clock d.possible_since c.args.self.now.device i.device
    (RunLeaves c.args.self.now.state (c.args.command.now ∷ []) (record { answer = Err OutOfMemory; calls = d.calls i.device } ∷ [])))
stays g c =
    let d = g.D.Sectors in
    let i = c.self.inside in
    let command = c.args.command.now in
    subst (λ (s : SessionValue _). d.honest i.device → Throughout d.clock d.possible_since s.device i.device
    (RunLeaves s.state (command ∷ []) (record { answer = Err OutOfMemory; calls = d.calls i.device } ∷ []))) c.self.view_is
    (λ honest. still d.calls d.honest d.clock d.possible_since d.possible g.met.D.Sectors.only_now i.device honest i.planner
    (held_recover (d.possible i.device) i.planner i.place (c.self.invariant.durable (whole g c) honest)) command OutOfMemory (d.calls i.device))

-- the commit leads from the old state to the next one
steps : (g : given.Over) (c : After-commit g) → g.D.Sectors.honest c.commit.new.device
    → CommitsState g.D.Sectors c.commit.result (calls_of c.self.inside.place c.args.command.now) c.self.inside.planner c.state.result.now
    (place_after c.self.inside.place c.args.command.now) c.self.inside.device c.commit.new.device
steps g c honest = c.commit.ensures.leads c.self.inside.planner c.in-Ok.ensures.ok.accepted (c.state.ensures ∙ c.in-Ok.ensures.ok.effect) honest
    (c.self.invariant.durable (whole g (goal.at.After-commit g c).After-change_accepted) (c.commit.ensures.called.honest_before honest))

leaves : (g : given.Over) (c : After-commit g) (answer : Result (Unit {0}) Denial)
    → (let d = g.D.Sectors in let i = c.self.inside in let end = c.commit.new.device in let command = c.args.command.now in
    ((m : ℕ) (image : List ℕ) → IsInStep i.planner c.state.result.now (d.calls i.device) (calls_of i.place command) m image
    → RunLeaves i.planner (command ∷ []) (record { answer = answer; calls = d.calls end } ∷ []) m image) → d.honest end
    → Throughout d.clock d.possible_since c.args.self.now.device end (RunLeaves c.args.self.now.state (command ∷ []) (record { answer = answer; calls = d.calls end } ∷ [])))
leaves g c answer each =
    let d = g.D.Sectors in
    let i = c.self.inside in
    let end = c.commit.new.device in
    let command = c.args.command.now in
    subst (λ (s : SessionValue _). d.honest end → Throughout d.clock d.possible_since s.device end
    (RunLeaves s.state (command ∷ []) (record { answer = answer; calls = d.calls end } ∷ []))) c.self.view_is
    (λ honest. weakened d.clock d.possible_since i.device end _ _ each (steps g c honest).moments)

between : (g : given.Over) (c : After-commit g) → (let d = g.D.Sectors in let s = c.args.self.now in d.honest c.commit.new.device
    → Throughout d.clock d.possible_since s.device c.commit.new.device (IsBetween (d.calls s.device) (d.calls s.device + calls_of s.place c.args.command.now)))
between g c =
    let d = g.D.Sectors in
    let end = c.commit.new.device in
    let command = c.args.command.now in
    subst (λ (s : SessionValue _). d.honest end → Throughout d.clock d.possible_since s.device end (IsBetween (d.calls s.device) (d.calls s.device + calls_of s.place command))) c.self.view_is
    (λ honest. weakened d.clock d.possible_since c.self.inside.device end _ _ (λ m image step. (step.from, step.to)) (steps g c honest).moments)

pub returns-in_default-clause-moments : goal.returns-in_default-clause-moments
returns-in_default-clause-moments g c = stays g (goal.at.returns-in_default-clause-moments g c).After-change_accepted

pub commit-requires : goal.commit-requires
commit-requires g c =
    let command = c.args.command.now in
    let kept = c.self.invariant in record {
      fits = λ recorded. c.accepted_commands_fit_records.ensures c.self.inside.planner command c.in-Ok.ensures.ok.accepted.1 recorded;
      unspent = subst (λ (s : SessionValue _). spent_denial s.place command ≡ None) (sym c.self.view_is) (undenied c.args.self.now command c.requires).1;
      room = kept.room;
      first = kept.first;
      last = kept.last;
      used = kept.used;
    }

pub invariant_of-self-in-Ok-commit : goal.invariant_of-self-in-Ok-commit
invariant_of-self-in-Ok-commit g c =
    let d = g.D.Sectors in
    let i = c.self.inside in
    let command = c.args.command.now in
    let unspent : spent_denial i.place command ≡ None = subst (λ (s : SessionValue _). spent_denial s.place command ≡ None) (sym c.self.view_is) (undenied c.args.self.now command c.requires).1 in
    let fits = place_fits i.place command unspent c.self.invariant.first c.self.invariant.last c.self.invariant.used in
    subst (λ (p : Place). IsSession d.len d.honest d.possible
    (record { device = c.commit.new.device; state = c.change_accepted.new.self; place = p; is_broken = i.is_broken })) (sym c.in-Ok-commit.ensures.place)
    (record {
      state = c.in-Ok.ensures.ok.facts;
      room = subst (λ (n : ℕ). sectors_in version_2 ≤ n) (sym c.commit.ensures.called.same_len) c.self.invariant.room;
      first = fits.0;
      last = fits.1;
      used = fits.2;
      durable = λ whole honest. subst (λ (s : State). AllHold (d.possible c.commit.new.device) s (place_after i.place command)) c.state.ensures
          (rw c.in-Ok-commit.is at (steps g (goal.at.invariant_of-self-in-Ok-commit g c).After-commit honest).after);
    })

pub returns-in-Ok-commit-clause-makes : goal.returns-in-Ok-commit-clause-makes
returns-in-Ok-commit-clause-makes g c =
    subst (λ (old : SessionValue _). IsDone old c.args.command.now
    (record { device = c.commit.new.device; state = c.change_accepted.new.self; place = c.in-Ok-commit.place; is_broken = c.self.inside.is_broken }))
    c.self.view_is (record {
      accepted = c.in-Ok.ensures.ok.accepted;
      state = c.in-Ok.ensures.ok.effect;
      place = c.in-Ok-commit.ensures.place;
      is_broken = whole g (goal.at.returns-in-Ok-commit-clause-makes g c).After-change_accepted;
    })

pub returns-in-Ok-commit-clause-moments : goal.returns-in-Ok-commit-clause-moments
returns-in-Ok-commit-clause-moments g c =
    let d = g.D.Sectors in
    let i = c.self.inside in
    leaves g (goal.at.returns-in-Ok-commit-clause-moments g c).After-commit (Ok tt)
    (λ m image step. leaves_ok i.planner c.args.command.now c.in-Ok.ensures.ok.accepted c.state.result.now (c.state.ensures ∙ c.in-Ok.ensures.ok.effect) (d.calls i.device)
    (calls_of i.place c.args.command.now) (d.calls c.commit.new.device) m image step tt c.in-Ok-commit.ensures.called.finished)

pub returns-in-Ok-commit-clause-counts : goal.returns-in-Ok-commit-clause-counts
returns-in-Ok-commit-clause-counts g c = between g (goal.at.returns-in-Ok-commit-clause-counts g c).After-commit

-- the case that memory runs out for a snapshot
pub returns-in-Err-OutOfMemory-clause-moments : goal.returns-in-Err-OutOfMemory-clause-moments
returns-in-Err-OutOfMemory-clause-moments g c =
    let d = g.D.Sectors in
    let same : c.commit.new.device ≡ c.self.inside.device = subst
    (λ fault. LeavesDevice fault c.self.inside.device c.commit.new.device) c.in-Err-OutOfMemory.field-0-is c.in-Err-OutOfMemory.ensures.left in
    subst (λ device. d.honest device → Throughout d.clock d.possible_since c.args.self.now.device device
    (RunLeaves c.args.self.now.state (c.args.command.now ∷ []) (record { answer = Err OutOfMemory; calls = d.calls device } ∷ []))) (sym same)
    (stays g (goal.at.returns-in-Err-OutOfMemory-clause-moments g c).After-change_accepted)

pub returns-in-Err-OutOfMemory-clause-counts : goal.returns-in-Err-OutOfMemory-clause-counts
returns-in-Err-OutOfMemory-clause-counts g c = between g (goal.at.returns-in-Err-OutOfMemory-clause-counts g c).After-commit

-- the case that the device fails
pub returns-in-Err-DeviceFault-clause-moments : goal.returns-in-Err-DeviceFault-clause-moments
returns-in-Err-DeviceFault-clause-moments g c =
    let d = g.D.Sectors in
    let i = c.self.inside in
    leaves g (goal.at.returns-in-Err-DeviceFault-clause-moments g c).After-commit (Err DeviceFault)
    (λ m image step. leaves_fault i.planner c.args.command.now c.in-Ok.ensures.ok.accepted c.state.result.now (c.state.ensures ∙ c.in-Ok.ensures.ok.effect)
    (d.calls i.device) (calls_of i.place c.args.command.now) (d.calls c.commit.new.device) m image step)

pub returns-in-Err-DeviceFault-clause-counts : goal.returns-in-Err-DeviceFault-clause-counts
returns-in-Err-DeviceFault-clause-counts g c = between g (goal.at.returns-in-Err-DeviceFault-clause-counts g c).After-commit
