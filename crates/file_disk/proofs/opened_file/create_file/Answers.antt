-- An opening that fails changes no file, and the sync of the folder keeps what the steps before have kept.
use Rattle.std.proofs.Common.{rules}
use Rattle.system_calls.specs.SystemCalls.{answered}
use Rattle.file_disk.proofs.CreationSteps.{safe_unchanged}
use Rattle.file_disk.proofs.opened_file.create_file.Goals as goal

pub returns-in_err-file-clause-refused : goal.returns-in_err-file-clause-refused
returns-in_err-file-clause-refused g c =
    let safe = safe_unchanged c.args.len (answered c.open_locked.new.noted) (search rules) in search rules

pub returns-in_err-old-clause-refused : goal.returns-in_err-old-clause-refused
returns-in_err-old-clause-refused g c =
    let safe = safe_unchanged c.args.len (answered c.measure.new.noted) (search rules) in search rules

pub returns-clause-made : goal.returns-clause-made
returns-clause-made g c = record {
  no_fault = search rules;
  opened = search rules;
  old = c.in_ok-old.old;
  kept = c.sync_folder.ensures.only.kept _ _ c.resize.ensures.resized.kept;
  length = search rules;
  synced = search rules;
}
