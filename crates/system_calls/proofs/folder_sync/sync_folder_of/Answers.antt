-- If the folder was not opened, it was not synced.
use Rattle.std.proofs.Common.{rules, Some, None}
use Rattle.std.specs.IoError.{error_kind}
use Rattle.system_calls.proofs.folder_sync.sync_folder_of.Goals as goal

pub returns-in_err-folder : goal.returns-in_err-folder
returns-in_err-folder g c = record { opened = Some (error_kind c.in_err-folder.field-0.0); synced = None; only = search rules; reported = search rules }
