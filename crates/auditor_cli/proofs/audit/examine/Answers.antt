-- A fault that is not out of memory is the first one of the solution's routes.
use Rattle.std.proofs.Common.{◌≡◌, ◌≢◌, ◌⊎◌, List, ℕ, inl, inr, ap, subst, sym}
use Rattle.std.proofs.lemmas.Result.{IfOk-weaker}
use Rattle.sol_text.specs.Faults.{HasFaultyRoutes, out_of_memory}
use Rattle.sol_text.specs.declared.faults.SolFault.{SolFault}
use Rattle.sol_text.specs.declared.faults.SolFaultKind.TheVariants.{OutOfMemory}
use Rattle.auditor_cli.specs.Examination.{IsExamined}
use Rattle.auditor_cli.proofs.audit.examine.Goals as goal

faulty_routes : (text : List ℕ) (fault : SolFault) → fault.kind ≢ OutOfMemory → (fault ≡ out_of_memory) ⊎ HasFaultyRoutes text fault → HasFaultyRoutes text fault
faulty_routes text fault other (inl e) = absurd (other (ap (λ f. f.kind) e))
faulty_routes text fault other (inr faulty) = faulty

pub returns-in-Err-read_printed_routes : goal.returns-in-Err-read_printed_routes
returns-in-Err-read_printed_routes c =
    IfOk-weaker c.bad_solution.result _ _
    (λ examined is. subst (IsExamined c.args.format c.args.instance.now c.args.solution.now) (sym is.1) (record {
      problem = c.in-Ok.problem;
      spelled = c.in-Ok.ensures.value;
      faulty = faulty_routes c.args.solution.now c.in-Err-read_printed_routes.fault is.0 c.in-Err-read_printed_routes.ensures.fault;
    })) c.bad_solution.ensures
