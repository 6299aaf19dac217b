-- For a session that is broken or has no instance, this is the answer.
use Rattle.std.proofs.Common.{◌≡◌, ◌∙◌, false, true, sym, refl, inr, None}
use Rattle.command_types.specs.declared.refusals.Refusal.TheVariants as core
use Rattle.command_types.specs.declared.states.State.TheVariants.{Empty, Loaded}
use Rattle.command_text.specs.Answering.{refusal_reply, unless_broken}
use Rattle.command_text.specs.declared.answers.Answer.TheVariants as answer
use Rattle.command_server.specs.ServeContract.{as_server_state}
use Rattle.command_server.proofs.ReplyLemmas.{reports_fate, no_job, when_broken, with_job}
use Rattle.command_server.proofs.answering.refused.Goals as goal

pub returns-then-is_broken : goal.returns-then-is_broken
returns-then-is_broken g c =
    let session = c.args.session.now in
    let broken : session.is_broken ≡ true = sym c.is_broken.ensures.broken ∙ c.if-is_broken.true in
    reports_fate session (λ s. unless_broken s (refusal_reply s s.state c.args.refusal)) None answer.Broken
    (λ later. when_broken (as_server_state session later) (refusal_reply (as_server_state session later) session.state c.args.refusal) broken)

pub returns-in-Empty : goal.returns-in-Empty
returns-in-Empty g c =
    let session = c.args.session.now in
    let whole : session.is_broken ≡ false = sym c.is_broken.ensures.broken ∙ c.if-is_broken.false in
    let empty : session.state ≡ Empty = sym c.state.ensures.state ∙ c.in-Empty.is in
    reports_fate session (λ s. unless_broken s (refusal_reply s s.state c.args.refusal)) None (answer.Refused core.NoInstance)
    (λ later. no_job (λ s state. refusal_reply s state c.args.refusal) (as_server_state session later) (answer.Refused core.NoInstance) (λ t. refl) (inr (whole, empty, refl)))

pub returns-in-Loaded : goal.returns-in-Loaded
returns-in-Loaded g c =
    let session = c.args.session.now in
    let whole : session.is_broken ≡ false = sym c.is_broken.ensures.broken ∙ c.if-is_broken.false in
    let loaded : session.state ≡ Loaded c.in-Loaded.field-0 = sym c.state.ensures.state ∙ c.in-Loaded.is in
    reports_fate session (λ s. unless_broken s (refusal_reply s s.state c.args.refusal)) None (answer.Refused c.args.refusal)
    (λ later. with_job (λ s state. refusal_reply s state c.args.refusal) (as_server_state session later) c.in-Loaded.field-0 whole loaded)
