-- A new store is consistent, and so are the images that a crash within a commit leaves of a consistent store.
use Rattle.checkpoint.proofs.ConsistencyLemmas.{agreeing, formats_agree, headers_keep, records_keep, snapshots_keep}
use Rattle.checkpoint.proofs.laws.commits_leave_no_integrity_warning.Goals as goal

pub returns-clause-without_warning : goal.returns-clause-without_warning
returns-clause-without_warning c = agreeing

pub returns-clause-records : goal.returns-clause-records
returns-clause-records c = records_keep

pub returns-clause-snapshots : goal.returns-clause-snapshots
returns-clause-snapshots c = snapshots_keep

pub returns-clause-headers : goal.returns-clause-headers
returns-clause-headers c = headers_keep

pub returns-clause-formats : goal.returns-clause-formats
returns-clause-formats c = formats_agree
