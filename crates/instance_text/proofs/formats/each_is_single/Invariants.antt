-- All requests have one stop if the remaining ones do.
use Rattle.std.proofs.Common.{◌≡◌, drop}
use Rattle.std.specs.List.{list_all}
use Rattle.instance_text.specs.Formats.{is_single}
use Rattle.instance_text.proofs.formats.each_is_single.Given as goal

abbrev pub invariant-loop-index : goal.invariant-loop-index
invariant-loop-index l = list_all (λ e. is_single e.1) (drop l.index l.problem.requests) ≡ list_all (λ e. is_single e.1) l.problem.requests
