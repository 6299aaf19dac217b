-- The store is reported as full only at the last sequence number, and a failed device exactly if a call has
-- failed.
use Rattle.command_server.proofs.CauseLemmas.{faults_are_reported, spent_at_the_last}
use Rattle.command_server.proofs.laws.fates_have_causes.Goals as goal

pub returns-clause-spent : goal.returns-clause-spent
returns-clause-spent g c = spent_at_the_last g.D.Sectors

pub returns-clause-faults : goal.returns-clause-faults
returns-clause-faults g c = faults_are_reported g.D.Sectors
