-- In each case of the match, `Does` is what the function of the subcommand promises.
use Rattle.auditor_cli.proofs.program.dispatch.Goals as goal

pub returns-in-Audit-clause-does : goal.returns-in-Audit-clause-does
returns-in-Audit-clause-does g c = rw c.in-Audit.is c.audit_files.ensures.reported

pub returns-in-Audits-clause-does : goal.returns-in-Audits-clause-does
returns-in-Audits-clause-does g c = rw c.in-Audits.is c.audit_list.ensures.reported
