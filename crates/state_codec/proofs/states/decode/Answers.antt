-- A state that was read completely is checked. The result is the fault that the check finds, or the job of the
-- parts
use Rattle.std.proofs.Common.{◌∙◌, Ok, ap, arith}
use Rattle.std.specs.Option.{option_map}
use Rattle.std.proofs.lemmas.Result.{err_from_is_err_and}
use Rattle.state_codec.specs.Parts.{job_in}
use Rattle.state_codec.proofs.DecodeLemmas.{within, by_fault, by_job, by_rule}
use Rattle.state_codec.proofs.states.decode.Goals as goal

pub audited_job-requires : goal.audited_job-requires
audited_job-requires c = within c.args.version c.args.bytes.now (job_in c.in-Some.parts) (c.in_ok-whole_state_at.ensures ∙ ap (λ o. Ok (option_map job_in o)) c.in-Some.is)
    (λ i. omega (arith, c.type_inv.bytes i))

pub returns-in_err-whole_state_at : goal.returns-in_err-whole_state_at
returns-in_err-whole_state_at c =
    let p = err_from_is_err_and c.from_residual.result c.from_residual.ensures.1 in
    rw (p.1, p.2) (by_fault c.args.version c.args.bytes.now c.in_err-whole_state_at.field-0.0 c.in_err-whole_state_at.ensures)

pub returns-in_err-job-in-Some : goal.returns-in_err-job-in-Some
returns-in_err-job-in-Some c =
    let p = err_from_is_err_and c.from_residual-in_err-job-in-Some.result c.from_residual-in_err-job-in-Some.ensures.1 in
    rw (p.1, p.2) (by_rule c.args.version c.args.bytes.now (job_in c.in-Some.parts)
    (c.in_ok-whole_state_at.ensures ∙ ap (λ o. Ok (option_map job_in o)) c.in-Some.is) c.in_err-job-in-Some.field-0.0 c.in_err-job-in-Some.ensures.err)

pub returns-in-None : goal.returns-in-None
returns-in-None c = c.in_ok-whole_state_at.ensures ∙ ap (λ o. Ok (option_map job_in o)) c.in-None.is

pub returns-in_ok-job-in-Some : goal.returns-in_ok-job-in-Some
returns-in_ok-job-in-Some c = by_job c.args.version c.args.bytes.now (job_in c.in-Some.parts)
    (c.in_ok-whole_state_at.ensures ∙ ap (λ o. Ok (option_map job_in o)) c.in-Some.is) c.in_ok-job-in-Some.job c.in_ok-job-in-Some.ensures.ok
